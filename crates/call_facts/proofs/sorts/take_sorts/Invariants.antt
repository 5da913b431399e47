use Rattle.std.proofs.Common.{◌≡◌, take}
use Rattle.fort_model.specs.Events.{takes}
use Rattle.fort_model.specs.Seen.{meet}
use Rattle.fort_model.specs.Senses.{of_terms}
use Rattle.fort_model.specs.WalkPlaces.{sorts}
use Rattle.walk_state.specs.Moments.{Follows, met, moment}
use Rattle.call_facts.proofs.sorts.take_sorts.Given as goal

abbrev pub invariant-loop-name : goal.invariant-loop-name
invariant-loop-name l = record {
  on : Follows l.fn.walk l.walk;
  is : moment l.walk ≡ met (moment l.fn.walk) (meet (takes (sorts of_terms l.caller.unit.now (moment l.fn.walk).now (take l.name-index l.names))));
}
