use Rattle.std.proofs.Common.{slice_get, sym, ap, ◌∙◌}
use Rattle.flow_tests.specs.Tests.{do_label}
use Rattle.flow_targets.proofs.Knowing.{entered}
use Rattle.flow_targets.proofs.starts.do_target.Goals as goal

pub to_either-requires-clause-second : goal.to_either-requires-clause-second
to_either-requires-clause-second c =
    (c.requires.known.overs c.args.at c.target_at-over.result c.args.line.now (ap (λ xs. slice_get xs c.args.at) (sym c.as_slice.ensures.value) ∙ c.target_at-over.ensures) c.requires.line).1

pub returns-in-Ok-clause-target : goal.returns-in-Ok-clause-target
returns-in-Ok-clause-target c =
    let tests = (c.requires.known.overs c.args.at c.target_at-over.result c.args.line.now (ap (λ xs. slice_get xs c.args.at) (sym c.as_slice.ensures.value) ∙ c.target_at-over.ensures) c.requires.line).0 in
    entered c.args.known.now.dialect c.in-SeventySeven.is c.args.known.now.unit.now c.args.forks.now.items c.to_either.new.forks.items c.in-Ok.ensures.grown.extends c.args.at
    (do_label c.args.line.now.stmt) c.in-Ok.target c.to_point-inside.result c.target_at-over.result c.to_point-inside.ensures.value c.in-Ok.ensures.fork tests
