use Rattle.std.proofs.Common.{◌≡◌, ◌∙◌, ap, sym}
use Rattle.fort_model.specs.Program.{names_if_any}
use Rattle.path_plans.proofs.Planned.{none_smashed}
use Rattle.start_lists.specs.Smashed.{smashed_names}
use Rattle.path_plans.proofs.plan.order_of.Goals as goal

pub returns-in_default : goal.returns-in_default
returns-in_default c =
    let u = c.args.setting.now.book.now.unit.now in
    c.new.ensures.items ∙ (none_smashed u ∙ (λ i. smashed_names (names_if_any (c.in_default.ensures i)) u))
