use Rattle.std.proofs.Common.{rules, ◌≡◌, ◌≤◌, ◌<◌, sym, true≢false, length, subst}
use Rattle.formula.specs.declared.function.BuiltIn.TheVariants.{Equal}
use Rattle.formula.specs.declared.function.Func.TheVariants.{BuiltIn}
use Rattle.formula.specs.declared.node.Node.TheVariants.{Apply}
use Rattle.prover_box.proofs.Standing.{untwice_few, untwice_many}
use Rattle.prover_box.proofs.subsumption.is_equal_twice.Goals as goal

pub returns-in_default-as_slice : goal.returns-in_default-as_slice
returns-in_default-as_slice c =
    let args = c.in-Apply-BuiltIn-Equal-default.args in
    let few : length args < 2 = subst (λ l. length l < 2) c.as_slice.ensures c.in_default-as_slice.len_below in
    let shape : c.node.result.now ≡ Apply (BuiltIn Equal) args = search rules in
    ((λ h. absurd (true≢false (sym h))), (λ h. absurd (untwice_few c.args.pool.now c.node.result.now args _ c.node.ensures.tree shape few h)))

pub returns-in_default-as_slice-2 : goal.returns-in_default-as_slice-2
returns-in_default-as_slice-2 c =
    let args = c.in-Apply-BuiltIn-Equal-default.args in
    let many : 3 ≤ length args = subst (λ l. 3 ≤ length l) c.as_slice.ensures c.in_default-as_slice.len_at_least in
    let shape : c.node.result.now ≡ Apply (BuiltIn Equal) args = search rules in
    ((λ h. absurd (true≢false (sym h))), (λ h. absurd (untwice_many c.args.pool.now c.node.result.now args _ c.node.ensures.tree shape many h)))
