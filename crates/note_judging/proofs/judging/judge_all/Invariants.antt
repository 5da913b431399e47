use Rattle.std.proofs.Common.{◌≡◌, [], drop}
use Rattle.formula.specs.Pool.{Grows}
use Rattle.fort_notes.specs.Judging.{judged_from}
use Rattle.note_judging.specs.Items.{Holds, IsSeated, judged_trees}
use Rattle.note_judging.proofs.judging.judge_all.Given as goal

-- the notes from the index on decide, behind those that were judged
abbrev pub invariant-loop-note : goal.invariant-loop-note
invariant-loop-note l = record {
  seated : IsSeated l.fn.seat.sites.deck.now l.seat;
  holds : Holds l.pool l.definitions l.gathered.taken l.gathered.items.items;
  told : judged_from l.fn.seat.sites.deck.now (judged_trees l.pool l.gathered.items.items) (drop l.note-index l.notes) ≡ judged_from l.fn.seat.sites.deck.now [] l.notes;
  grows : Grows l.fn.pool l.pool;
}
