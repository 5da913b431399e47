use Rattle.std.proofs.Common.{length, sym, ◌∙◌, subst}
use Rattle.flow_tests.specs.Growing.{AreWithin}
use Rattle.flow_targets.proofs.Knowing.{points_within}
use Rattle.flow_targets.proofs.targets.to_labels.Goals as goal

pub to_any-requires-clause-within : goal.to_any-requires-clause-within
to_any-requires-clause-within c =
    subst (AreWithin (length c.args.known.now.unit.now.lines) (length c.args.forks.now.items)) (sym (c.from_vec.ensures ∙ c.in_ok-targets.ensures))
    (points_within c.args.known.now.unit.now (length c.args.forks.now.items) c.args.labels.now)
