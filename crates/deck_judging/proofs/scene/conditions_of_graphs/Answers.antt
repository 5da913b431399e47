use Rattle.deck_judging.proofs.Counted.{paths_counted}
use Rattle.deck_judging.proofs.scene.conditions_of_graphs.Goals as goal

pub returns-in-Ok-conditions-clause-conditions : goal.returns-in-Ok-conditions-clause-conditions
returns-in-Ok-conditions-clause-conditions c p ready = record {
  within = c.in-Ok.ensures.within p ready;
  trees = c.in-Ok-conditions.ensures.trees p ready;
  counted = λ paths all. paths_counted p c.in-Ok.counts paths all (c.in-Ok.ensures.counted p ready paths all);
}
