use Rattle.std.proofs.Common.{◌∙◌}
use Rattle.formula.specs.Atoms.{is_among}
use Rattle.start_lists.proofs.Kept.{kept_all}
use Rattle.start_lists.proofs.smashed.smashed_in_order.Goals as goal

pub returns : goal.returns
returns c =
    kept_all (λ x. is_among x c.args.smashed.now) c.args.unit.now c.new-all.result.items c.add_smashed.new.all.items c.add_smashed-2.new.all.items c.add_of_kind.new.all.items
    c.add_of_kind-2.new.all.items c.as_slice.result.now c.deref.result.now c.as_slice-names.result.now c.new-all.ensures.items c.in-Ok-add_smashed.ensures c.in-Ok-add_smashed-2.ensures
    c.in-Ok-add_of_kind.ensures c.in-Ok-add_of_kind-2.ensures c.as_slice.ensures (c.deref.ensures.value ∙ c.in-Ok.ensures) c.as_slice-names.ensures
