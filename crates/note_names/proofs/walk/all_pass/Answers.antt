use Rattle.std.proofs.Common.{◌≡◌, ◌∙◌, sym}
use Rattle.note_names.specs.NameTests.{now_passes, entry_passes}
use Rattle.note_names.proofs.Sizes.{row_of_list}
use Rattle.note_names.proofs.walk.all_pass.Goals as goal

pub returns : goal.returns
returns c = c.row_passes.ensures ∙ sym (row_of_list (now_passes c.args.test c.args.roles.now) (entry_passes c.args.test c.args.roles.now) c.args.pool.now c.args.ids.now)
