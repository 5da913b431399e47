use Rattle.std.proofs.Common.{◌≡◌, take}
use Rattle.fort_model.specs.Events.{takes}
use Rattle.fort_model.specs.Seen.{meet}
use Rattle.note_terms.specs.Stated.{trees_in}
use Rattle.walk_state.specs.Moments.{Follows, met, moment}
use Rattle.walk_lists.proofs.Listed.{told}
use Rattle.walk_lists.proofs.lists.take_all.Given as goal

abbrev pub invariant-loop-fact : goal.invariant-loop-fact
invariant-loop-fact l = record {
  on : Follows l.fn.walk l.walk;
  is : moment l.walk ≡ met (moment l.fn.walk) (meet (takes (told (trees_in l.fn.walk.pool (take l.fact-index l.facts)))));
}
