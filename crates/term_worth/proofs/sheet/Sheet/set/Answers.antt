use Rattle.std.proofs.Common.{◌∙◌, ap, sym}
use Rattle.term_worth.specs.Sheets.{is_set}
use Rattle.term_worth.proofs.Assigned.{pushed}
use Rattle.term_worth.proofs.sheet.Sheet.set.Goals as goal

pub invariant_of-self-in-Ok-insert : goal.invariant_of-self-in-Ok-insert
invariant_of-self-in-Ok-insert c =
    pushed c.self.inside.entries.items c.push.new.self.items c.self.inside.symbols.keys c.insert.new.self.keys c.args.symbol c.args.value
    c.self.invariant.0 c.self.invariant.1 (ap (λ es. is_set es c.args.symbol) c.self.view_is ∙ sym c.has.ensures ∙ c.if-has.false)
    c.in-Ok.ensures.items c.in-Ok-insert.ensures.keys
