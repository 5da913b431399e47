use Rattle.std.proofs.Common.{rules, ◌≡◌, ◌<◌, length}
use Rattle.note_places.proofs.Marks.{marks_step}
use Rattle.note_places.proofs.assert_places.AssertPlaces.of_notes.Goals as goal

pub loop-note-preserved : goal.loop-note-preserved
loop-note-preserved c =
    let lt : c.loop-note.note-index < length c.args.notes.now = search rules in
    λ u l low. marks_step c.args.notes.now c.loop-note.note-index c.note-item.result c.loop-note.places c.add.new.self u l _ lt c.note-item.is (c.in_ok-add.ensures u l low) (c.loop-note.invariant u l low)
