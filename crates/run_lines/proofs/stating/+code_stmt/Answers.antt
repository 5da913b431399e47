use Rattle.std.proofs.Common.{◌≡◌, ◌+◌, ◌++◌, ◌∷◌, [], OnOk, true, false, length, refl, ap, sym, subst, ◌∙◌}
use Rattle.std.specs.Prelude.{flat_map}
use Rattle.fort_model.specs.Calls.{sites_in, sites_of}
use Rattle.call_sites.proofs.Rows as sites
use Rattle.run_shapes.specs.declared.instr.Instr.TheVariants as instr
use Rattle.run_coding.specs.Pushed.{pushed}
use Rattle.run_coding.specs.Scopes.{unit_of, with_calls}
use Rattle.run_coding.proofs.Composed.{calls_long, calls_then, one_code}
use Rattle.run_lines.specs.Stated.{aims, param_pushed, step_pushed, stmt_pushed}
use Rattle.run_lines.proofs.Joined.{aims_carried, and_one, on_ok, pushed_carried, turned}
use Rattle.run_lines.proofs.stating.+code_stmt.Goals as goal

pub returns-in_ok-push-in-LogicalIf-2-clause-targets : goal.returns-in_ok-push-in-LogicalIf-2-clause-targets
returns-in_ok-push-in-LogicalIf-2-clause-targets t c =
    let u = unit_of c.args.lines.now.scope.now in
    subst (λ xs. OnOk c.code_stmt.result (c.code_stmt.new.draft.targets.items ≡ c.args.draft.now.targets.items ++ xs))
    (ap (aims u) c.get.ensures ∙ sym (ap (aims u) c.in-LogicalIf.is ∙ aims_carried u c.in-LogicalIf.e c.in-LogicalIf.carried))
    c.code_stmt.ensures.targets

pub returns-in_ok-push-in-LogicalIf-2-clause-calls : goal.returns-in_ok-push-in-LogicalIf-2-clause-calls
returns-in_ok-push-in-LogicalIf-2-clause-calls t c =
    let s = c.args.lines.now.scope.now in
    let u = unit_of s in
    let c0 = c.args.draft.now.calls.items in
    subst (λ xs. OnOk c.code_stmt.result (c.code_stmt.new.draft.calls.items ≡ xs))
    (ap (with_calls s (sites_of u c.get.result.now)) c.in_ok-code_of-in-LogicalIf.ensures.calls
    ∙ sym (calls_then s (sites_in u c.in-LogicalIf.e) (sites_of u c.get.result.now) c0)
    ∙ ap (λ xs. with_calls s xs c0)
    (sym (ap (sites_of u) c.in-LogicalIf.is ∙ sites.in_carried u c.in-LogicalIf.e c.in-LogicalIf.carried
    ∙ ap (λ x. sites_in u c.in-LogicalIf.e ++ sites_of u x) (sym c.get.ensures))))
    c.code_stmt.ensures.calls

pub returns-in_ok-push-in-LogicalIf-2-clause-code : goal.returns-in_ok-push-in-LogicalIf-2-clause-code
returns-in_ok-push-in-LogicalIf-2-clause-code t c =
    let s = c.args.lines.now.scope.now in
    let u = unit_of s in
    let names = s.names.now in
    let c0 = c.args.draft.now.calls.items in
    let k = length c0 in
    let spot = c.args.spot.now in
    let place = length c.args.draft.now.targets.items in
    let e = c.in-LogicalIf.e in
    let p = pushed u names true k e in
    let before = c.push-in-LogicalIf-2.new.out.items in
    let n = k + length (sites_in u e) in
    let rest = stmt_pushed u names spot.behind spot.over spot.point place n c.get.result.now in
    let whole : stmt_pushed u names spot.behind spot.over spot.point place k c.args.stmt.now ≡ p ++ (instr.Turn ∷ spot.behind ∷ rest) =
    ap (stmt_pushed u names spot.behind spot.over spot.point place k) c.in-LogicalIf.is
    ∙ pushed_carried u names spot.behind spot.over spot.point place k e c.in-LogicalIf.carried
    ∙ ap (λ x. p ++ (instr.Turn ∷ spot.behind ∷ stmt_pushed u names spot.behind spot.over spot.point place n x)) (sym c.get.ensures) in
    subst (λ xs. OnOk c.code_stmt.result (c.code_stmt.new.draft.instrs.items ≡ xs))
    (ap (λ n. before ++ stmt_pushed u names spot.behind spot.over spot.point place n c.get.result.now)
    (ap length c.in_ok-code_of-in-LogicalIf.ensures.calls ∙ calls_long s (sites_in u e) c0)
    ∙ turned c.args.draft.now.instrs.items c.code_of-in-LogicalIf.new.out.items c.push-in-LogicalIf.new.out.items before p rest instr.Turn spot.behind
    c.in_ok-code_of-in-LogicalIf.ensures.code c.in_ok-push-in-LogicalIf.ensures c.in_ok-push-in-LogicalIf-2.ensures
    ∙ ap (λ xs. c.args.draft.now.instrs.items ++ xs) (sym whole))
    c.code_stmt.ensures.code

pub returns-in_ok-push-in-Do-clause-code : goal.returns-in_ok-push-in-Do-clause-code
returns-in_ok-push-in-Do-clause-code t c =
    let u = unit_of c.args.lines.now.scope.now in
    let names = c.args.lines.now.scope.now.names.now in
    let k = length c.args.draft.now.calls.items in
    let spot = c.args.spot.now in
    let place = length c.args.draft.now.targets.items in
    let o0 = c.args.draft.now.instrs.items in
    let three = param_pushed names c.in-Do.first ∷ param_pushed names c.in-Do.last ∷ step_pushed names c.in-Do.by ∷ [] in
    let begun = instr.BeginDo c.slot-in-Do.result (spot.point + 1) in
    subst (λ xs. OnOk c.push-in-Do-2.result (c.push-in-Do-2.new.out.items ≡ xs))
    (one_code o0 c.push-in-Do.new.out.items (three ++ begun ∷ []) (stmt_pushed u names spot.behind spot.over spot.point place k c.args.stmt.now) (spot.over ∷ [])
    (c.in_ok-push-in-Do.ensures ∙ one_code o0 c.code_values.new.out.items three (three ++ begun ∷ []) (begun ∷ []) c.in_ok-code_values-in-Do.ensures refl)
    (ap (stmt_pushed u names spot.behind spot.over spot.point place k) c.in-Do.is
    ∙ (λ i. param_pushed names c.in-Do.first ∷ param_pushed names c.in-Do.last ∷ step_pushed names c.in-Do.by
    ∷ instr.BeginDo (sym c.slot-in-Do.ensures i) (and_one spot.point i) ∷ spot.over ∷ [])))
    c.push-in-Do-2.ensures

pub returns-in_ok-code_call-in-Call-clause-calls : goal.returns-in_ok-code_call-in-Call-clause-calls
returns-in_ok-code_call-in-Call-clause-calls t c =
    let s = c.args.lines.now.scope.now in
    let u = unit_of s in
    on_ok c.push-in-Call.result
    (c.in_ok-code_call-in-Call.ensures.calls
    ∙ (λ i. with_calls s (sites.call_site false c.in-Call.f (c.as_slice.ensures i) ∷ flat_map (sites_in u) (c.as_slice.ensures i)) c.args.draft.now.calls.items)
    ∙ ap (λ xs. with_calls s xs c.args.draft.now.calls.items) (sym (ap (sites_of u) c.in-Call.is ∙ sites.in_call u c.in-Call.f c.in-Call.actuals)))
