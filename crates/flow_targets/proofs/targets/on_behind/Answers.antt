use Rattle.std.proofs.Common.{length, slice_get, sym, ap, ◌∙◌}
use Rattle.flow_tests.proofs.Extending.{grown_self}
use Rattle.flow_targets.proofs.targets.on_behind.Goals as goal

pub returns-clause-one : goal.returns-clause-one
returns-clause-one c =
    grown_self (length c.args.known.now.unit.now.lines) c.args.forks.now.items c.target_at.result 1 c.requires.known.falling
    (c.requires.known.tests c.args.at c.target_at.result (ap (λ xs. slice_get xs c.args.at) (sym c.as_slice.ensures.value) ∙ c.target_at.ensures)).1

pub returns-clause-both : goal.returns-clause-both
returns-clause-both c =
    grown_self (length c.args.known.now.unit.now.lines) c.args.forks.now.items c.target_at.result 2 c.requires.known.falling
    (c.requires.known.tests c.args.at c.target_at.result (ap (λ xs. slice_get xs c.args.at) (sym c.as_slice.ensures.value) ∙ c.target_at.ensures)).1
