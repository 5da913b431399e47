use Rattle.std.proofs.Common.{◌≡◌, ◌<◌, ◌++◌, [], ◌∷◌, Some, slice_get, refl, ap, ◌∙◌, subst, length, arith}
use Rattle.fort_model.specs.declared.graph.Target.{Target}
use Rattle.fort_model.specs.Flow.{next_point}
use Rattle.flow_tests.proofs.Extending.{long_push}
use Rattle.flow_tests.proofs.Testing.{pushed_point}
use Rattle.flow_tests.proofs.chains.Chains.new.Goals as goal

pub loop-at-preserved : goal.loop-at-preserved
loop-at-preserved c =
    let old = c.loop-at.behind.items in
    let items = c.in-Ok.ensures.items in
    let long = ap length items ∙ long_push old c.behind_point.result in
    let all = ap length c.as_slice-count.ensures in
    let inside : c.loop-at.at < length c.args.unit.now.lines = omega (arith, all, c.loop-at-test.true) in
    record {
      long = omega (arith, long, c.loop-at.invariant.long);
      each = λ q t e. pushed_point c.args.unit.now c.loop-at.at old (next_point c.args.unit.now c.loop-at.at) inside c.loop-at.invariant.long refl c.loop-at.invariant.each q t
          (subst (λ xs. slice_get xs q ≡ Some t) (items ∙ ap (λ (x : Target). old ++ x ∷ []) c.behind_point.ensures) e);
    }
