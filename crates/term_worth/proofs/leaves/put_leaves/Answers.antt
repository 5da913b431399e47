use Rattle.std.proofs.Common.{◌≡◌, ℕ, ◌+◌, ◌∙◌, ap, sym, subst, suc, arith, length, rules}
use Rattle.std.proofs.lemmas.Int.{to_z-of_z}
use Rattle.std.proofs.Math.Seq.{drop-cons}
use mir.Syntax.{w128}
use Rattle.formula.specs.declared.value.Value.TheVariants.{Int}
use Rattle.formula.proofs.Growth.{argument_at}
use Rattle.term_worth.specs.Leaves.{Prepares, leaf_value}
use Rattle.term_worth.specs.Machine.{value_of, symbols_of, IsHeld, IsScope}
use Rattle.term_worth.proofs.Ready.{prepared-none, prepared-more, prepared-beyond}
use Rattle.term_worth.proofs.leaves.put_leaves.Goals as goal
use Rattle.term_worth.proofs.leaves.put_leaves.Goals.{in-Num, in_default}

pub node-node-requires : goal.node-node-requires
node-node-requires c = argument_at (length c.args.pool.now) c.args.args.now c.loop-ready.ready (record { place = 0 }) c.requires.args (omega (arith, c.loop-ready-test.true))

pub loop-ready-init : goal.loop-ready-init
loop-ready-init c =
    let p = c.args.pool.now in
    let ds = c.args.definitions.now in
    let m = c.args.machine.now in
    record {
      within = omega arith;
      same =
          subst (λ vs. Prepares p ds c.args.sheet.now c.args.args.now 0 m (record m { values = vs })) (sym c.in_ok-make_room.ensures)
          (prepared-none p ds c.args.sheet.now c.args.args.now m c.requires.whole);
    }

pub loop-ready-preserved : goal.loop-ready-preserved
loop-ready-preserved c =
    let p = c.args.pool.now in
    let ds = c.args.definitions.now in
    let sheet = c.args.sheet.now in
    let args = c.args.args.now in
    let m = c.loop-ready.machine in
    let node = c.node-node.result.now in
    let more : suc c.loop-ready.ready ≡ c.loop-ready.ready + 1 = omega arith in
    let value : value_of sheet m.made c.match-node.held ≡ leaf_value (symbols_of ds sheet m.made m.scope) node =
    elim c.match-node.branch [
      | in-Num w ↦
          ap (value_of sheet m.made) w.held-is ∙ ap Int (to_z-of_z w128 w.in-Num.n (search rules)) ∙ ap (leaf_value (symbols_of ds sheet m.made m.scope)) (sym w.in-Num.is)
      | in_default w ↦ ap (value_of sheet m.made) w.held-is ∙ w.leaf_value-held.ensures.value m.made
    ] in
    let held : (n : ℕ) → IsScope n m.scope → IsHeld n c.match-node.held =
    elim c.match-node.branch [
      | in-Num w ↦ λ n k. subst (IsHeld n) (sym w.held-is) tt
      | in_default w ↦ λ n k. subst (IsHeld n) (sym w.held-is) (w.leaf_value-held.ensures.held n k)
    ] in
    record {
      within = omega (arith, c.loop-ready-test.true);
      same =
          subst (λ k. Prepares p ds sheet args k c.args.machine.now c.put_ranged.new.machine) more
          (prepared-more p ds sheet args c.loop-ready.ready c.args.machine.now m c.put_ranged.new.machine c.loop-ready.invariant.same c.requires.whole _
          (drop-cons args c.loop-ready.ready (record { place = 0 }) c.loop-ready-test.true) node c.match-node.held c.node-node.ensures.tree
          (sym c.is_leaf.ensures ∙ c.if-not-is_leaf.false) value c.in_ok-put_ranged.ensures.ok.0 held c.in_ok-put_ranged.ensures.ok.1);
    }

pub returns-in_err-put_ranged-clause-beyond : goal.returns-in_err-put_ranged-clause-beyond
returns-in_err-put_ranged-clause-beyond c = λ e.
    let p = c.args.pool.now in
    let ds = c.args.definitions.now in
    let sheet = c.args.sheet.now in
    let args = c.args.args.now in
    let m = c.loop-ready.machine in
    let node = c.node-node.result.now in
    let value : value_of sheet m.made c.match-node.held ≡ leaf_value (symbols_of ds sheet m.made m.scope) node =
    elim c.match-node.branch [
      | in-Num w ↦
          ap (value_of sheet m.made) w.held-is ∙ ap Int (to_z-of_z w128 w.in-Num.n (search rules)) ∙ ap (leaf_value (symbols_of ds sheet m.made m.scope)) (sym w.in-Num.is)
      | in_default w ↦ ap (value_of sheet m.made) w.held-is ∙ w.leaf_value-held.ensures.value m.made
    ] in
    prepared-beyond p ds sheet args c.loop-ready.ready c.args.machine.now m c.put_ranged.new.machine c.loop-ready.invariant.same c.requires.whole _
    (drop-cons args c.loop-ready.ready (record { place = 0 }) c.loop-ready-test.true) node c.match-node.held c.node-node.ensures.tree
    (sym c.is_leaf.ensures ∙ c.if-not-is_leaf.false) value (c.in_err-put_ranged.ensures.beyond (search rules))
