-- What a plan tells of a program.
use Rattle.std.specs.Prelude.{◌≡◌, ℕ, List, length, Some, slice_get}
use Rattle.formula.specs.declared.node.Node.{Node}
use Rattle.fort_model.specs.Program.{Program, names_if_any, notes_of, smashed_names as smashed_by}
use Rattle.fort_model.specs.Walk.{dim_dummies, smashed_in_order}
use Rattle.fort_notes.specs.Assertions.{notes_tree}
use Rattle.fort_syntax.specs.Names.{commons}
use Rattle.path_scene.specs.Scenes.{AreNotesIn}
use Rattle.path_plans.specs.declared.plan.Plan.{Plan}
use Rattle.start_lists.specs.Smashed.{smashed_names}
use Rattle.walk_setting.specs.Settings.{seen_from}

-- a plan is that of a setting
pub record IsPlan (plan : Plan) : Type 0 where
  pub spec : slice_get plan.setting.now.scene.now.notes.now plan.setting.now.number ≡ Some plan.spec.now
  pub smashed : plan.smashed.now ≡ names_if_any (slice_get plan.setting.now.scene.now.smashes.now plan.setting.now.number)
  pub dims : plan.dims.items ≡ dim_dummies plan.setting.now.book.now.unit.now
  pub commons : plan.commons.items ≡ commons plan.setting.now.book.now.unit.now
  pub order : plan.order.items ≡ smashed_names plan.smashed.now plan.setting.now.book.now.unit.now

-- a plan is that of its unit in a program
pub record IsPlanIn (pool : List Node) (plan : Plan) (p : Program) : Type 0 where
  pub notes : notes_tree pool plan.spec.now ≡ notes_of p plan.setting.now.number
  pub inside : AreNotesIn (length pool) plan.spec.now
  pub smashed : plan.smashed.now ≡ smashed_by p plan.setting.now.number
  pub dims : plan.dims.items ≡ dim_dummies plan.setting.now.book.now.unit.now
  pub commons : plan.commons.items ≡ commons plan.setting.now.book.now.unit.now
  pub order : plan.order.items ≡ smashed_in_order (seen_from plan.setting.now p)
