use Rattle.std.proofs.Common.{subst}
use Rattle.unit_points.specs.Labels.{AreLabelsOf}
use Rattle.flow_forks.proofs.Starting.{known_by}
use Rattle.flow_forks.proofs.whole.flow_of.Goals as goal

pub starts_of-requires-clause-known : goal.starts_of-requires-clause-known
starts_of-requires-clause-known c =
    known_by (record {
      dialect = c.args.dialect;
      unit = c.args.unit;
      labels = c.in_ok-labels.labels;
      turns = c.in_ok-turns.turns;
      behind = c.in_ok-chains.chains.behind;
      over = c.in_ok-chains.chains.over;
    }) c.in_ok-chains.chains.forks.items c.requires
    (subst (λ ls. AreLabelsOf ls c.in_ok-labels.labels) c.as_slice.ensures c.in_ok-labels.ensures) c.in_ok-turns.ensures c.in_ok-chains.ensures
