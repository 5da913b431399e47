use Rattle.std.proofs.Common.{◌≤◌, sym, ap, ◌∙◌, subst, arith, length, rules}
use Rattle.std.proofs.lemmas.Result.{on_ok_weaker}
use Rattle.formula.specs.Pool.{AllBelow, HasArgumentsBelow, tree_in, trees}
use Rattle.formula.proofs.Growth.{AllBelow-more}
use Rattle.term_worth.specs.Leaves.{Prepares, IsBeyondFrom}
use Rattle.term_worth.specs.Machine.{taken_apart, is_branch}
use Rattle.term_worth.proofs.Ready.{apart_ready, apart_branch, apart_beyond, leaf_put, leaf_large, no_function}
use Rattle.term_worth.proofs.evaluation.evaluate.Goals as goal

pub returns-then-is_branch-clause-ok : goal.returns-then-is_branch-clause-ok
returns-then-is_branch-clause-ok c =
    let p = c.args.pool.now in
    let m = c.args.machine.now in
    let within : c.args.id.place ≤ length p = omega (arith, c.requires.id) in
    apart_branch p c.args.definitions.now c.args.sheet.now m c.take_apart.new.machine c.args.id c.in-Apply.f c.in-Apply.args 0
    (c.node.ensures.tree ∙ ap (tree_in (trees p)) c.in-Apply.is)
    (AllBelow-more c.args.id.place (length p) c.in-Apply.args within (subst (HasArgumentsBelow c.args.id.place) c.in-Apply.is c.node.ensures.below))
    c.requires.whole (ap (is_branch c.in-Apply.f) (sym c.as_slice-args.ensures) ∙ sym c.is_branch.ensures ∙ c.if-is_branch.true)
    (c.in_ok-take_apart-in-Apply.ensures ∙ (λ i. record m { tasks = taken_apart c.in-Apply.f (c.as_slice-args.ensures i) 0 m.tasks }))

pub put_leaves-requires-clause-args : goal.put_leaves-requires-clause-args
put_leaves-requires-clause-args c =
    let p = c.args.pool.now in
    let within : c.args.id.place ≤ length p = omega (arith, c.requires.id) in
    subst (AllBelow (length p)) (sym c.as_slice-args.ensures)
    (AllBelow-more c.args.id.place (length p) c.in-Apply.args within (subst (HasArgumentsBelow c.args.id.place) c.in-Apply.is c.node.ensures.below))

pub returns-in_err-ready-in-Apply-clause-beyond : goal.returns-in_err-ready-in-Apply-clause-beyond
returns-in_err-ready-in-Apply-clause-beyond c = λ e.
    let p = c.args.pool.now in
    let m = c.args.machine.now in
    let within : c.args.id.place ≤ length p = omega (arith, c.requires.id) in
    apart_beyond p c.args.definitions.now c.args.sheet.now m c.args.id c.in-Apply.f c.in-Apply.args
    (c.node.ensures.tree ∙ ap (tree_in (trees p)) c.in-Apply.is)
    (AllBelow-more c.args.id.place (length p) c.in-Apply.args within (subst (HasArgumentsBelow c.args.id.place) c.in-Apply.is c.node.ensures.below))
    c.requires.whole (ap (is_branch c.in-Apply.f) (sym c.as_slice-args.ensures) ∙ sym c.is_branch.ensures ∙ c.if-is_branch.false)
    (subst (λ l. IsBeyondFrom p c.args.definitions.now c.args.sheet.now l m) c.as_slice-args.ensures (c.in_err-ready-in-Apply.ensures.beyond (search rules)))

pub returns-in_ok-take_apart-in-Apply-2-clause-ok : goal.returns-in_ok-take_apart-in-Apply-2-clause-ok
returns-in_ok-take_apart-in-Apply-2-clause-ok c =
    let p = c.args.pool.now in
    let ds = c.args.definitions.now in
    let sheet = c.args.sheet.now in
    let m = c.args.machine.now in
    let mid = c.put_leaves.new.machine in
    let within : c.args.id.place ≤ length p = omega (arith, c.requires.id) in
    apart_ready p ds sheet m mid c.take_apart-in-Apply.new.machine c.args.id c.in-Apply.f c.in-Apply.args c.in_ok-ready-in-Apply.ready
    (c.node.ensures.tree ∙ ap (tree_in (trees p)) c.in-Apply.is)
    (AllBelow-more c.args.id.place (length p) c.in-Apply.args within (subst (HasArgumentsBelow c.args.id.place) c.in-Apply.is c.node.ensures.below))
    c.requires.whole (ap (is_branch c.in-Apply.f) (sym c.as_slice-args.ensures) ∙ sym c.is_branch.ensures ∙ c.if-is_branch.false)
    (subst (λ l. Prepares p ds sheet l c.in_ok-ready-in-Apply.ready m mid) c.as_slice-args.ensures c.in_ok-ready-in-Apply.ensures.ok)
    (c.in_ok-take_apart-in-Apply-2.ensures ∙ (λ i. record mid { tasks = taken_apart c.in-Apply.f (c.as_slice-args.ensures i) c.in_ok-ready-in-Apply.ready mid.tasks }))

pub returns-in_default-clause-ok : goal.returns-in_default-clause-ok
returns-in_default-clause-ok c =
    let m = c.args.machine.now in
    on_ok_weaker _
    (λ h. leaf_put c.args.pool.now c.args.definitions.now c.args.sheet.now m c.args.id c.node.result.now c.leaf_value-held.result c.node.ensures.tree (no_function c.node.result.now c.in_default.not-Apply)
    (c.leaf_value-held.ensures.value m.made) c.put_ranged.new.machine h.0 (c.leaf_value-held.ensures.held (length m.made) c.requires.whole.scope) c.requires.whole h.1) c.put_ranged.ensures.ok

pub returns-in_default-clause-beyond : goal.returns-in_default-clause-beyond
returns-in_default-clause-beyond c = λ e.
    let m = c.args.machine.now in
    leaf_large c.args.pool.now c.args.definitions.now c.args.sheet.now m c.args.id c.node.result.now c.leaf_value-held.result c.node.ensures.tree (no_function c.node.result.now c.in_default.not-Apply)
    (c.leaf_value-held.ensures.value m.made) (c.put_ranged.ensures.beyond e)
