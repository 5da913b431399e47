use Rattle.std.proofs.Common.{◌∙◌}
use Rattle.fort_notes.specs.Assertions.{assertion_tree}
use Rattle.weight_caps.specs.Loads.{with_tests}
use Rattle.weight_calls.specs.Subjects.{sight_of}
use Rattle.weight_terms.specs.Held.{held}
use Rattle.weight_tallies.specs.Tallied.{all}
use Rattle.weight_path.specs.Noted.{own_weights}
use Rattle.weight_path.proofs.Parts.{at_assert}
use Rattle.weight_path.proofs.arrivals.arrive_at_assert.Goals as goal

pub returns : goal.returns
returns c =
    let s = c.args.subject.now in
    let now = held c.args.names.now in
    let a = c.args.assert.now in
    at_assert (sight_of s) c.args.clock now (assertion_tree s.pool.now a) (own_weights s now a.terms) (own_weights s now a.clock) c.in-Ok-sum_own.sum
    c.args.load.now c.test_own.new.load c.test_own-2.new.load c.test_fall.new.load
    (λ i. own_weights s now a.terms) (λ i. own_weights s now a.clock)
    (c.in-Ok.ensures ∙ (λ i. with_tests c.args.load.now (own_weights s now (c.as_slice.ensures i))))
    (c.in-Ok-test_own.ensures ∙ (λ i. with_tests c.test_own.new.load (own_weights s now (c.as_slice-2.ensures i))))
    (c.in-Ok-sum_own.ensures ∙ (λ i. all (own_weights s now (c.as_slice-3.ensures i)))) c.test_fall.ensures
