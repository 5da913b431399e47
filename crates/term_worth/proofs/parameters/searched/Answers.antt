use Rattle.std.proofs.Common.{◌≡◌, ◌+◌, suc, ap, ◌∙◌, sym, arith, drop}
use Rattle.formula.specs.Atoms.{same_bytes}
use Rattle.term_worth.specs.Machine.{argument_of}
use Rattle.term_worth.proofs.SymbolValues.{argument_step, argument_end}
use Rattle.term_worth.proofs.parameters.searched.Goals as goal

pub loop-place-preserved : goal.loop-place-preserved
loop-place-preserved c =
    let next : suc c.loop-place.place ≡ c.loop-place.place + 1 = omega arith in
    record {
      params = omega (arith, c.loop-place-test.true);
      args = omega (arith, c.if-place-args.true);
      same =
          c.loop-place.invariant.same
          ∙ argument_step c.args.params.now c.args.args.now c.args.name c.index-params-place.result c.loop-place.place c.loop-place-test.true c.if-place-args.true
          (ap (λ w. same_bytes w c.args.name) (sym c.index-params-place.is) ∙ sym c.eq.ensures ∙ c.if-eq.false)
          ∙ ap (λ k. argument_of (drop k c.args.params.now) (drop k c.args.args.now) c.args.name) next;
    }

pub returns-else-place-args : goal.returns-else-place-args
returns-else-place-args c = sym (c.loop-place.invariant.same ∙ argument_end c.args.params.now c.args.args.now c.args.name c.loop-place.place c.if-place-args.false)
