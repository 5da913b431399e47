use Rattle.std.proofs.Common.{◌≡◌, ◌+◌, ◌++◌, OnOk, true, false, length, refl, ap, sym, subst, ◌∙◌, rules}
use Rattle.fort_model.specs.Calls.{sites_in}
use Rattle.run_coding.specs.Pushed.{pushed}
use Rattle.run_coding.specs.Scopes.{unit_of}
use Rattle.run_coding.proofs.Composed.{calls_long, one_code, two_calls}
use Rattle.run_lines.proofs.Joined.{on_ok}
use Rattle.run_lines.proofs.forms.code_sides.Goals as goal

pub returns-clause-calls : goal.returns-clause-calls
returns-clause-calls c =
    let s = c.args.scope.now in
    let u = unit_of s in
    on_ok c.push_all.result
    (two_calls s (sites_in u c.args.left.now) (sites_in u c.args.right.now) _ c.args.draft.now.calls.items c.code_of.new.calls.items c.code_of-2.new.calls.items
    c.in_ok-code_of.ensures.calls c.in_ok-code_of-2.ensures.calls refl)

pub returns-clause-code : goal.returns-clause-code
returns-clause-code c =
    let s = c.args.scope.now in
    let u = unit_of s in
    let names = s.names.now in
    let k = length c.args.draft.now.calls.items in
    let n = k + length (sites_in u c.args.left.now) in
    let p = pushed u names true n c.args.right.now in
    let side : c.as_slice.result.now ≡ pushed u names false k c.args.left.now = search rules in
    let right : c.code_of-2.new.out.items ≡ c.args.draft.now.instrs.items ++ p =
    c.in_ok-code_of-2.ensures.code
    ∙ ap (λ n. c.args.draft.now.instrs.items ++ pushed u names true n c.args.right.now)
    (ap length c.in_ok-code_of.ensures.calls ∙ calls_long s (sites_in u c.args.left.now) c.args.draft.now.calls.items) in
    subst (λ xs. OnOk c.push_all.result (c.push_all.new.out.items ≡ xs))
    (one_code c.args.draft.now.instrs.items c.code_of-2.new.out.items p (p ++ pushed u names false k c.args.left.now) c.as_slice.result.now right (ap (λ xs. p ++ xs) (sym side)))
    c.push_all.ensures
