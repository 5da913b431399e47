use Rattle.std.proofs.Common.{◌≡◌, take}
use Rattle.formula.specs.Tree.{Tree}
use Rattle.fort_model.specs.WalkCalls.{Sight, changed}
use Rattle.walk_state.specs.Moments.{Follows, moment, with_names}
use Rattle.call_facts.specs.Calls.{called}
use Rattle.call_facts.proofs.answers.smash.Given as goal

abbrev pub invariant-loop-name : goal.invariant-loop-name
invariant-loop-name l = record {
  on : Follows l.fn.walk l.walk;
  is : (w : Sight Tree) → moment l.walk ≡ with_names (moment l.fn.walk) (changed w (take l.name-index l.names) (called l.number) (moment l.fn.walk).now);
}
