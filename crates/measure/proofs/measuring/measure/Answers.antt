use Rattle.std.proofs.Common.{length}
use Rattle.weight_calls.proofs.NoteTerms.{all_inside}
use Rattle.measure.proofs.measuring.measure.Goals as goal

pub invariant_of-whole : goal.invariant_of-whole
invariant_of-whole c = record {
  numbers_are = c.in-Ok.ensures;
  notes_in = all_inside (length c.args.pool.now) c.args.scene.now.notes.now c.requires.ready.1.is_scene.inside;
}
