use Rattle.std.proofs.Common.{◌∙◌}
use Rattle.path_sizes.specs.Weights.{all_one}
use Rattle.weight_calls.specs.Subjects.{sight_of}
use Rattle.weight_terms.specs.Held.{held}
use Rattle.weight_tallies.specs.Tallied.{all}
use Rattle.weight_tallies.specs.Tallies.{entry_weight}
use Rattle.weight_path.specs.Noted.{own_weights}
use Rattle.weight_path.proofs.Parts.{assert_begun}
use Rattle.weight_path.proofs.starts.begin_at_assert.Goals as goal

pub returns-clause-load : goal.returns-clause-load
returns-clause-load c =
    let s = c.args.subject.now in
    let a = c.args.assert.now in
    assert_begun c.args.load.now c.add.new.self c.in-Ok.entry c.in-Ok-sum_own.terms c.in-Ok-sum_own-2.clock c.plus-known.result c.plus.result (entry_weight (sight_of s)) (all (own_weights s all_one a.terms)) (all (own_weights s all_one a.clock))
    c.in-Ok.ensures
    (c.in-Ok-sum_own.ensures ∙ (λ i. all (own_weights s (held (c.new-ones.ensures i)) (c.as_slice.ensures i))))
    (c.in-Ok-sum_own-2.ensures ∙ (λ i. all (own_weights s (held (c.new-ones.ensures i)) (c.as_slice-2.ensures i))))
    c.plus-known.ensures c.plus.ensures c.add.ensures

pub returns-clause-value : goal.returns-clause-value
returns-clause-value c = c.in-Ok-sum_own-2.ensures ∙ (λ i. all (own_weights c.args.subject.now (held (c.new-ones.ensures i)) (c.as_slice-2.ensures i)))
