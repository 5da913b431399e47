use Rattle.std.proofs.Common.{◌≡◌, OnOk, subst, ap, sym, ◌∙◌}
use Rattle.fort_model.specs.Smashes.{set_by}
use Rattle.name_tables.specs.Sets.{with_names}
use Rattle.smash_sets.proofs.Carried.{set_by_carried}
use Rattle.smash_sets.proofs.setting.+add_set.Goals as goal

pub returns-in-LogicalIf : goal.returns-in-LogicalIf
returns-in-LogicalIf t c =
    let whole : set_by c.args.stmt.now ≡ set_by c.get.result.now =
    ap set_by c.in-LogicalIf.is ∙ set_by_carried c.in-LogicalIf.field-0 c.in-LogicalIf.carried ∙ sym (ap set_by c.get.ensures) in
    subst (λ xs. OnOk c.add_set.result (c.add_set.new.set ≡ with_names c.args.set.now xs)) (sym whole) c.add_set.ensures
