use Rattle.std.proofs.Common.{length, map}
use Rattle.std.specs.List.{All}
use Rattle.formula.specs.Pool.{Grows}
use Rattle.event_text.specs.Conditions.{condition_tree, IsConditionIn}
use Rattle.event_reading.specs.Fronts.{AreConditions}
use Rattle.event_reading.proofs.reading.conditions_at.Given as goal

-- these lines were read
abbrev pub invariant-loop-one : goal.invariant-loop-one
invariant-loop-one l = record {
  lines : AreConditions l.headings l.text (map (condition_tree l.pool) l.conditions.items) l.letters.items l.rest;
  inside : All (IsConditionIn l.pool) l.conditions.items;
  grows : Grows l.fn.pool l.pool;
}

abbrev pub decreases-loop-one : goal.decreases-loop-one
decreases-loop-one l = length l.rest
