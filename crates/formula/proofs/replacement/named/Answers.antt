use Rattle.std.proofs.Common.{◌∙◌, sym}
use Rattle.formula.proofs.TableTerms.{named-nowhere, named-place}
use Rattle.formula.proofs.replacement.named.Goals as goal

pub returns-in-Some : goal.returns-in-Some
returns-in-Some c = c.at_place.ensures ∙ sym (named-place c.args.table.now.names.now c.args.table.now.terms.now c.args.name c.in-Some.place c.in-Some.ensures.place)

pub returns-in-None : goal.returns-in-None
returns-in-None c = sym (named-nowhere c.args.table.now.names.now c.args.table.now.terms.now c.args.name (sym c.in-None.ensures.found))
