use Rattle.std.proofs.Common.{◌≡◌, ◌↔◌, ◌⊎◌, true, false, map, Contains, subst}
use Rattle.formula.specs.Pool.{tree_of}
use Rattle.formula.specs.Tree.{truth}
use Rattle.prover_box.proofs.Standing.{last_decides}
use Rattle.prover_box.proofs.subsumption.passes.Goals as goal

pub returns : goal.returns
returns c =
    let trees = map (tree_of c.args.pool.now) in
    let aim = tree_of c.args.pool.now c.args.c.now.goal in
    last_decides (trees c.args.c.now.hyps) aim _ _ _
    (subst (λ hs. (c.stands_among.result ≡ true) ↔ (Contains (trees hs) aim ⊎ Contains (trees hs) (truth false))) c.as_slice.ensures c.stands_among.ensures)
    c.is_truth.ensures c.is_equal_twice.ensures c.if-stands_among.false c.if-is_truth.false
