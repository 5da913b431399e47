use Rattle.std.proofs.Common.{◌≡◌, map, take}
use Rattle.fort_model.specs.Events.{takes}
use Rattle.fort_model.specs.Seen.{meet}
use Rattle.note_terms.specs.Stated.{stated, trees_in}
use Rattle.walk_state.specs.Moments.{Follows, met, moment}
use Rattle.call_facts.proofs.notes.take_output.Given as goal

abbrev pub invariant-loop-id : goal.invariant-loop-id
invariant-loop-id l = record {
  on : Follows l.fn.walk l.walk;
  is : moment l.walk ≡ met (moment l.fn.walk) (meet (takes (map (stated l.fn.walk.pool l.frame l.entry) (trees_in l.fn.walk.pool (take l.id-index l.ids)))));
}
