use Rattle.std.proofs.Common.{◌≡◌, take}
use Rattle.fort_model.specs.Events.{checks}
use Rattle.fort_model.specs.Seen.{meet}
use Rattle.note_terms.specs.Stated.{trees_in}
use Rattle.walk_state.specs.Moments.{Follows, met, moment}
use Rattle.walk_lists.proofs.Listed.{told}
use Rattle.walk_lists.proofs.lists.check_all.Given as goal

abbrev pub invariant-loop-goal : goal.invariant-loop-goal
invariant-loop-goal l = record {
  on : Follows l.fn.walk l.walk;
  is : moment l.walk ≡ met (moment l.fn.walk) (meet (checks l.kind l.card (told (trees_in l.fn.walk.pool (take l.goal-index l.goals)))));
}
