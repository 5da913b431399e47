use Rattle.std.proofs.Common.{List, ap, slice_get, subst, sym, ◌∙◌}
use Rattle.std.specs.Prelude.{option_copied}
use Rattle.fort_model.specs.Flow.{Loop}
use Rattle.fort_model.specs.Graphs.{AreTests}
use Rattle.fort_model.specs.declared.graph.Target.{Target}
use Rattle.walk_flow.proofs.Stands.{no_test_at_fork, no_test_at_point, no_test_of_fork, no_test_of_line, no_test_of_targets, test_is}
use Rattle.walk_flow.proofs.loops.next_test.Goals as goal

pub returns-in_default-test_at : goal.returns-in_default-test_at
returns-in_default-test_at c q ds tests stand =
    let flow = c.args.flow.now in
    let forks = flow.graph.now.forks in
    no_test_of_line flow.setting.now.book.now.unit.now forks c.in-Fork.number q c.in-Some-tested.at c.in-Some.fork.now ds (sym c.fork_at.ensures ∙ ap option_copied c.in-Some.is) c.in-Some-tested.is
    (λ d is there. sym c.in_default-test_at.is ∙ c.test_at.ensures d is there) (subst (λ (t : Target). AreTests forks q ds t) c.in-Fork.is tests) stand

pub returns-in-Some-target_at : goal.returns-in-Some-target_at
returns-in-Some-target_at c q ds tests stand =
    let flow = c.args.flow.now in
    let forks = flow.graph.now.forks in
    test_is flow.setting.now.book.now.unit.now forks c.in-Fork.number q c.in-Some-tested.at c.in-Some.fork.now (record { test = c.in-Some-test_at.test; next = c.in-Some-target_at.next }) ds
    (sym c.fork_at.ensures ∙ ap option_copied c.in-Some.is) c.in-Some-tested.is (λ d is there. sym c.in-Some-test_at.is ∙ c.test_at.ensures d is there)
    (sym (ap (λ (ts : List Target). slice_get ts 1) c.as_slice.ensures) ∙ sym c.target_at.ensures ∙ c.in-Some-target_at.is) (subst (λ (t : Target). AreTests forks q ds t) c.in-Fork.is tests) stand

pub returns-in-None : goal.returns-in-None
returns-in-None c q ds tests stand =
    let flow = c.args.flow.now in
    let forks = flow.graph.now.forks in
    no_test_of_targets flow.setting.now.book.now.unit.now forks c.in-Fork.number q c.in-Some.fork.now ds (sym c.fork_at.ensures ∙ ap option_copied c.in-Some.is)
    (sym (ap (λ (ts : List Target). slice_get ts 1) c.as_slice.ensures) ∙ sym c.target_at.ensures ∙ c.in-None.is) (subst (λ (t : Target). AreTests forks q ds t) c.in-Fork.is tests)
