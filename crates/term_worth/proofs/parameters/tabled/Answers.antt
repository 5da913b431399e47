use Rattle.std.proofs.Common.{◌≡◌, ◌∙◌, sym, rules, get_or}
use Rattle.std.proofs.lemmas.Option.{unwrap_or-slice_get}
use Rattle.term_worth.specs.declared.machine.Held.TheVariants.{Undefined}
use Rattle.term_worth.proofs.SymbolValues.{found_at, found_nowhere}
use Rattle.term_worth.proofs.parameters.tabled.Goals as goal

pub returns-in-Some : goal.returns-in-Some
returns-in-Some c =
    let given : c.unwrap_or.result ≡ get_or c.args.args.now c.in-Some.place Undefined = search (rules, unwrap_or-slice_get c.args.args.now c.in-Some.place Undefined) in
    given ∙ found_at c.args.params.now c.args.args.now c.args.name c.in-Some.place (sym c.in-Some.is ∙ c.place_of.ensures.place)

pub returns-in-None : goal.returns-in-None
returns-in-None c = found_nowhere c.args.params.now c.args.args.now c.args.name (sym c.in-None.is ∙ c.place_of.ensures.place)
