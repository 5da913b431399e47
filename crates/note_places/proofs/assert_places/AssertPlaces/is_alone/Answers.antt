use Rattle.std.proofs.Common.{◌≡◌, ◌∙◌, not, ap}
use Rattle.std.specs.Prelude.{None}
use Rattle.note_places.proofs.Marks.{any_other}
use Rattle.note_places.proofs.assert_places.AssertPlaces.is_alone.Goals as goal

pub returns : goal.returns
returns c = c.is_alone_at.ensures ∙ ap not (any_other c.args.note.now None c.args.notes.now)
