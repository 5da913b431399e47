use Rattle.std.proofs.Common.{ap, sym, ◌∙◌}
use Rattle.std.specs.Prelude.{unwrap_or}
use Rattle.run_coding.proofs.Slots.{slot_found}
use Rattle.run_units.proofs.commons.place_of.Goals as goal

pub returns-in-Some : goal.returns-in-Some
returns-in-Some c =
    ap (λ o. unwrap_or o 0) (sym c.in-Some.is ∙ c.find.ensures) ∙ slot_found c.args.names.now c.args.table.now c.args.name.now c.requires

pub returns-in-None : goal.returns-in-None
returns-in-None c =
    ap (λ o. unwrap_or o 0) (sym c.in-None.is ∙ c.find.ensures) ∙ slot_found c.args.names.now c.args.table.now c.args.name.now c.requires
