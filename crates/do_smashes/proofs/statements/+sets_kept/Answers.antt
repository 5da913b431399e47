use Rattle.std.proofs.Common.{◌≡◌, sym, ap, ◌∙◌}
use Rattle.std.specs.List.{list_any}
use Rattle.fort_model.specs.Smashes.{set_by}
use Rattle.smash_sets.proofs.Carried.{set_by_carried}
use Rattle.do_smashes.specs.Guards.{is_kept}
use Rattle.do_smashes.proofs.statements.+sets_kept.Goals as goal

pub returns-in-LogicalIf : goal.returns-in-LogicalIf
returns-in-LogicalIf t c =
    let whole : set_by c.args.stmt.now ≡ set_by c.get.result.now =
    ap set_by c.in-LogicalIf.is ∙ set_by_carried c.in-LogicalIf.field-0 c.in-LogicalIf.carried ∙ sym (ap set_by c.get.ensures) in
    c.sets_kept.ensures ∙ sym (ap (λ xs. list_any (is_kept c.args.kept.now.guards.now c.args.kept.now.at) xs) whole)
