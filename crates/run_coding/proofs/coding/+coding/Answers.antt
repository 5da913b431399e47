use Rattle.std.proofs.Common.{◌≡◌, ◌+◌, ◌-◌, suc, true, false, rules, ◌++◌, ◌∷◌, [], OnOk, length, subst, ap, sym, ◌∙◌, refl}
use Rattle.std.specs.Prelude.{Result, Ok, Err, set, flat_map}
use Rattle.fort_syntax.specs.Names.{Reference, applied}
use Rattle.fort_syntax.specs.declared.expr.Expr.TheViews as view
use Rattle.call_sites.specs.Books.{is_call}
use Rattle.fort_model.specs.Calls.{own_site, sites_in}
use Rattle.call_sites.proofs.Rows as sites
use Rattle.run_shapes.specs.declared.instr.Instr.TheVariants as instr
use Rattle.run_coding.specs.Pushed.{actuals_listed, applied_pushed, closing, pushed, values_listed}
use Rattle.run_coding.specs.Scopes.{unit_of, with_calls}
use Rattle.run_coding.proofs.Composed.{closed, is_reference, lazy, more_calls, more_codes, next_is, no_call, one_code, one_long, two_calls, two_codes}
use Rattle.run_coding.proofs.Rows.{in_apply, in_paren, in_pos, in_neg, in_not, in_power, in_bin, in_rel, in_and, in_or}
use Rattle.run_coding.proofs.coding.+coding.Goals as goal

-- what holds anyway holds where all went well
on_ok : {A E : Type 0} (r : Result A E) {P : Type 0} → P → OnOk r P
on_ok (Ok a) p = p
on_ok (Err e) p = tt

pub code_of-returns-in-Paren-clause-calls : goal.code_of-returns-in-Paren-clause-calls
code_of-returns-in-Paren-clause-calls t c =
    let u = unit_of c.args.scope.now in
    subst (λ xs. OnOk c.code_of.result (c.code_of.new.calls.items ≡ with_calls c.args.scope.now xs c.args.calls.now.items))
    (ap (sites_in u) c.get.ensures ∙ sym (ap (sites_in u) c.in-Paren.is ∙ sites.in_paren u c.in-Paren.a))
    c.code_of.ensures.calls

pub code_of-returns-in-Paren-clause-code : goal.code_of-returns-in-Paren-clause-code
code_of-returns-in-Paren-clause-code t c =
    let u = unit_of c.args.scope.now in
    let names = c.args.scope.now.names.now in
    let k = length c.args.calls.now.items in
    subst (λ xs. OnOk c.code_of.result (c.code_of.new.out.items ≡ c.args.out.now.items ++ xs))
    (ap (pushed u names true k) c.get.ensures ∙ sym (ap (pushed u names c.args.reads k) c.in-Paren.is ∙ in_paren u names c.args.reads k c.in-Paren.a))
    c.code_of.ensures.code

pub code_of-returns-in-Pos-clause-calls : goal.code_of-returns-in-Pos-clause-calls
code_of-returns-in-Pos-clause-calls t c =
    let u = unit_of c.args.scope.now in
    subst (λ xs. OnOk c.code_of-in-Pos.result (c.code_of-in-Pos.new.calls.items ≡ with_calls c.args.scope.now xs c.args.calls.now.items))
    (ap (sites_in u) c.get-in-Pos.ensures ∙ sym (ap (sites_in u) c.in-Pos.is ∙ sites.in_pos u c.in-Pos.a))
    c.code_of-in-Pos.ensures.calls

pub code_of-returns-in-Pos-clause-code : goal.code_of-returns-in-Pos-clause-code
code_of-returns-in-Pos-clause-code t c =
    let u = unit_of c.args.scope.now in
    let names = c.args.scope.now.names.now in
    let k = length c.args.calls.now.items in
    subst (λ xs. OnOk c.code_of-in-Pos.result (c.code_of-in-Pos.new.out.items ≡ c.args.out.now.items ++ xs))
    (ap (pushed u names true k) c.get-in-Pos.ensures ∙ sym (ap (pushed u names c.args.reads k) c.in-Pos.is ∙ in_pos u names c.args.reads k c.in-Pos.a))
    c.code_of-in-Pos.ensures.code

pub code_of-returns-in_ok-code_of-in-Neg-clause-calls : goal.code_of-returns-in_ok-code_of-in-Neg-clause-calls
code_of-returns-in_ok-code_of-in-Neg-clause-calls t c =
    let u = unit_of c.args.scope.now in
    on_ok c.push-in-Neg.result
    (c.in_ok-code_of-in-Neg.ensures.calls
    ∙ ap (λ xs. with_calls c.args.scope.now xs c.args.calls.now.items)
    (ap (sites_in u) c.get-in-Neg.ensures ∙ sym (ap (sites_in u) c.in-Neg.is ∙ sites.in_neg u c.in-Neg.a)))

pub code_of-returns-in_ok-code_of-in-Neg-clause-code : goal.code_of-returns-in_ok-code_of-in-Neg-clause-code
code_of-returns-in_ok-code_of-in-Neg-clause-code t c =
    let u = unit_of c.args.scope.now in
    let names = c.args.scope.now.names.now in
    let k = length c.args.calls.now.items in
    subst (λ xs. OnOk c.push-in-Neg.result (c.push-in-Neg.new.out.items ≡ xs))
    (one_code c.args.out.now.items c.code_of-in-Neg.new.out.items (pushed u names true k c.get-in-Neg.result.now) (pushed u names c.args.reads k c.args.e.now) (instr.Negate ∷ [])
    c.in_ok-code_of-in-Neg.ensures.code
    (ap (pushed u names c.args.reads k) c.in-Neg.is ∙ in_neg u names c.args.reads k c.in-Neg.a ∙ ap (λ a. pushed u names true k a ++ instr.Negate ∷ []) (sym c.get-in-Neg.ensures)))
    c.push-in-Neg.ensures

pub code_of-returns-in_ok-code_of-in-Power-clause-calls : goal.code_of-returns-in_ok-code_of-in-Power-clause-calls
code_of-returns-in_ok-code_of-in-Power-clause-calls t c =
    let u = unit_of c.args.scope.now in
    on_ok c.push-in-Power.result
    (c.in_ok-code_of-in-Power.ensures.calls
    ∙ ap (λ xs. with_calls c.args.scope.now xs c.args.calls.now.items)
    (ap (sites_in u) c.get-in-Power.ensures ∙ sym (ap (sites_in u) c.in-Power.is ∙ sites.in_power u c.in-Power.a c.in-Power.n)))

pub code_of-returns-in_ok-code_of-in-Power-clause-code : goal.code_of-returns-in_ok-code_of-in-Power-clause-code
code_of-returns-in_ok-code_of-in-Power-clause-code t c =
    let u = unit_of c.args.scope.now in
    let names = c.args.scope.now.names.now in
    let k = length c.args.calls.now.items in
    subst (λ xs. OnOk c.push-in-Power.result (c.push-in-Power.new.out.items ≡ xs))
    (one_code c.args.out.now.items c.code_of-in-Power.new.out.items (pushed u names true k c.get-in-Power.result.now) (pushed u names c.args.reads k c.args.e.now) (instr.Raise c.in-Power.n ∷ [])
    c.in_ok-code_of-in-Power.ensures.code
    (ap (pushed u names c.args.reads k) c.in-Power.is ∙ in_power u names c.args.reads k c.in-Power.a c.in-Power.n ∙ ap (λ a. pushed u names true k a ++ instr.Raise c.in-Power.n ∷ []) (sym c.get-in-Power.ensures)))
    c.push-in-Power.ensures

pub code_of-returns-in_ok-code_of-in-Not-clause-calls : goal.code_of-returns-in_ok-code_of-in-Not-clause-calls
code_of-returns-in_ok-code_of-in-Not-clause-calls t c =
    let u = unit_of c.args.scope.now in
    on_ok c.push-in-Not.result
    (c.in_ok-code_of-in-Not.ensures.calls
    ∙ ap (λ xs. with_calls c.args.scope.now xs c.args.calls.now.items)
    (ap (sites_in u) c.get-in-Not.ensures ∙ sym (ap (sites_in u) c.in-Not.is ∙ sites.in_not u c.in-Not.a)))

pub code_of-returns-in_ok-code_of-in-Not-clause-code : goal.code_of-returns-in_ok-code_of-in-Not-clause-code
code_of-returns-in_ok-code_of-in-Not-clause-code t c =
    let u = unit_of c.args.scope.now in
    let names = c.args.scope.now.names.now in
    let k = length c.args.calls.now.items in
    subst (λ xs. OnOk c.push-in-Not.result (c.push-in-Not.new.out.items ≡ xs))
    (one_code c.args.out.now.items c.code_of-in-Not.new.out.items (pushed u names true k c.get-in-Not.result.now) (pushed u names c.args.reads k c.args.e.now) (instr.Negation ∷ [])
    c.in_ok-code_of-in-Not.ensures.code
    (ap (pushed u names c.args.reads k) c.in-Not.is ∙ in_not u names c.args.reads k c.in-Not.a ∙ ap (λ a. pushed u names true k a ++ instr.Negation ∷ []) (sym c.get-in-Not.ensures)))
    c.push-in-Not.ensures

pub code_of-returns-in_ok-code_of-in-Bin-2-clause-calls : goal.code_of-returns-in_ok-code_of-in-Bin-2-clause-calls
code_of-returns-in_ok-code_of-in-Bin-2-clause-calls t c =
    let u = unit_of c.args.scope.now in
    on_ok c.push-in-Bin.result
    (two_calls c.args.scope.now (sites_in u c.get-in-Bin.result.now) (sites_in u c.get-in-Bin-2.result.now) (sites_in u c.args.e.now)
    c.args.calls.now.items c.code_of-in-Bin.new.calls.items c.code_of-in-Bin-2.new.calls.items
    c.in_ok-code_of-in-Bin.ensures.calls c.in_ok-code_of-in-Bin-2.ensures.calls
    (ap (sites_in u) c.in-Bin.is ∙ sites.in_bin u c.in-Bin.o c.in-Bin.a c.in-Bin.b
    ∙ sym (λ i. sites_in u (c.get-in-Bin.ensures i) ++ sites_in u (c.get-in-Bin-2.ensures i))))

pub code_of-returns-in_ok-code_of-in-Bin-2-clause-code : goal.code_of-returns-in_ok-code_of-in-Bin-2-clause-code
code_of-returns-in_ok-code_of-in-Bin-2-clause-code t c =
    let u = unit_of c.args.scope.now in
    let names = c.args.scope.now.names.now in
    let k = length c.args.calls.now.items in
    subst (λ xs. OnOk c.push-in-Bin.result (c.push-in-Bin.new.out.items ≡ xs))
    (two_codes c.args.scope.now (λ n. pushed u names true n c.get-in-Bin-2.result.now) (sites_in u c.get-in-Bin.result.now)
    c.args.calls.now.items c.code_of-in-Bin.new.calls.items
    c.args.out.now.items c.code_of-in-Bin.new.out.items c.code_of-in-Bin-2.new.out.items
    (pushed u names true k c.get-in-Bin.result.now) (pushed u names c.args.reads k c.args.e.now) (instr.Operation c.in-Bin.o ∷ [])
    c.in_ok-code_of-in-Bin.ensures.calls c.in_ok-code_of-in-Bin.ensures.code c.in_ok-code_of-in-Bin-2.ensures.code
    (ap (pushed u names c.args.reads k) c.in-Bin.is ∙ in_bin u names c.args.reads k c.in-Bin.o c.in-Bin.a c.in-Bin.b
    ∙ sym (λ i. pushed u names true k (c.get-in-Bin.ensures i) ++ (pushed u names true (k + length (sites_in u (c.get-in-Bin.ensures i))) (c.get-in-Bin-2.ensures i) ++ instr.Operation c.in-Bin.o ∷ []))))
    c.push-in-Bin.ensures

pub code_of-returns-in_ok-code_of-in-Rel-2-clause-calls : goal.code_of-returns-in_ok-code_of-in-Rel-2-clause-calls
code_of-returns-in_ok-code_of-in-Rel-2-clause-calls t c =
    let u = unit_of c.args.scope.now in
    on_ok c.push-in-Rel.result
    (two_calls c.args.scope.now (sites_in u c.get-in-Rel.result.now) (sites_in u c.get-in-Rel-2.result.now) (sites_in u c.args.e.now)
    c.args.calls.now.items c.code_of-in-Rel.new.calls.items c.code_of-in-Rel-2.new.calls.items
    c.in_ok-code_of-in-Rel.ensures.calls c.in_ok-code_of-in-Rel-2.ensures.calls
    (ap (sites_in u) c.in-Rel.is ∙ sites.in_rel u c.in-Rel.o c.in-Rel.a c.in-Rel.b
    ∙ sym (λ i. sites_in u (c.get-in-Rel.ensures i) ++ sites_in u (c.get-in-Rel-2.ensures i))))

pub code_of-returns-in_ok-code_of-in-Rel-2-clause-code : goal.code_of-returns-in_ok-code_of-in-Rel-2-clause-code
code_of-returns-in_ok-code_of-in-Rel-2-clause-code t c =
    let u = unit_of c.args.scope.now in
    let names = c.args.scope.now.names.now in
    let k = length c.args.calls.now.items in
    subst (λ xs. OnOk c.push-in-Rel.result (c.push-in-Rel.new.out.items ≡ xs))
    (two_codes c.args.scope.now (λ n. pushed u names true n c.get-in-Rel-2.result.now) (sites_in u c.get-in-Rel.result.now)
    c.args.calls.now.items c.code_of-in-Rel.new.calls.items
    c.args.out.now.items c.code_of-in-Rel.new.out.items c.code_of-in-Rel-2.new.out.items
    (pushed u names true k c.get-in-Rel.result.now) (pushed u names c.args.reads k c.args.e.now) (instr.Comparison c.in-Rel.o ∷ [])
    c.in_ok-code_of-in-Rel.ensures.calls c.in_ok-code_of-in-Rel.ensures.code c.in_ok-code_of-in-Rel-2.ensures.code
    (ap (pushed u names c.args.reads k) c.in-Rel.is ∙ in_rel u names c.args.reads k c.in-Rel.o c.in-Rel.a c.in-Rel.b
    ∙ sym (λ i. pushed u names true k (c.get-in-Rel.ensures i) ++ (pushed u names true (k + length (sites_in u (c.get-in-Rel.ensures i))) (c.get-in-Rel-2.ensures i) ++ instr.Comparison c.in-Rel.o ∷ []))))
    c.push-in-Rel.ensures

pub code_actuals-loop-e-preserved : goal.code_actuals-loop-e-preserved
code_actuals-loop-e-preserved t c =
    let s = c.args.scope.now in
    let u = unit_of s in
    let names = s.names.now in
    let xs = c.args.args.now in
    let i = c.loop-e.e-index in
    let next = next_is xs i c.e-item.result c.loop-e-test.true c.e-item.is in (
      more_calls s u xs i c.e-item.result c.loop-e.calls.items c.code_of.new.calls.items _ next c.in_ok-code_of.ensures.calls c.loop-e.invariant.0,
      more_codes s u (actuals_listed u names) (pushed u names false) (λ k e es. refl) xs i c.e-item.result c.loop-e.calls.items c.code_of.new.calls.items
          c.loop-e.out.items c.code_of.new.out.items _ next c.in_ok-code_of.ensures.calls c.in_ok-code_of.ensures.code c.loop-e.invariant.1,
    )

pub code_values-loop-e-preserved : goal.code_values-loop-e-preserved
code_values-loop-e-preserved t c =
    let s = c.args.scope.now in
    let u = unit_of s in
    let names = s.names.now in
    let xs = c.args.args.now in
    let i = c.loop-e.e-index in
    let next = next_is xs i c.e-item.result c.loop-e-test.true c.e-item.is in (
      more_calls s u xs i c.e-item.result c.loop-e.calls.items c.code_of.new.calls.items _ next c.in_ok-code_of.ensures.calls c.loop-e.invariant.0,
      more_codes s u (values_listed u names) (pushed u names true) (λ k e es. refl) xs i c.e-item.result c.loop-e.calls.items c.code_of.new.calls.items
          c.loop-e.out.items c.code_of.new.out.items _ next c.in_ok-code_of.ensures.calls c.in_ok-code_of.ensures.code c.loop-e.invariant.1,
    )

pub code_of-returns-in_ok-push-in-And-2-clause-calls : goal.code_of-returns-in_ok-push-in-And-2-clause-calls
code_of-returns-in_ok-push-in-And-2-clause-calls t c =
    let u = unit_of c.args.scope.now in
    two_calls c.args.scope.now (sites_in u c.get-in-And.result.now) (sites_in u c.get-in-And-2.result.now) (sites_in u c.args.e.now)
    c.args.calls.now.items c.code_of-in-And.new.calls.items c.code_of-in-And-2.new.calls.items
    c.in_ok-code_of-in-And.ensures.calls c.in_ok-code_of-in-And-2.ensures.calls
    (ap (sites_in u) c.in-And.is ∙ sites.in_and u c.in-And.a c.in-And.b
    ∙ sym (λ i. sites_in u (c.get-in-And.ensures i) ++ sites_in u (c.get-in-And-2.ensures i)))

pub code_of-returns-in_ok-push-in-And-2-clause-code : goal.code_of-returns-in_ok-push-in-And-2-clause-code
code_of-returns-in_ok-push-in-And-2-clause-code t c =
    let u = unit_of c.args.scope.now in
    let names = c.args.scope.now.names.now in
    let k = length c.args.calls.now.items in
    let o1 = c.code_of-in-And.new.out.items in
    let o4 = c.push-in-And-2.new.out.items in
    let place : c.len-place.result ≡ length o1 = search rules in
    let long : c.len.result ≡ length o4 = search rules in
    c.patch.ensures
    ∙ (λ i. set o4 (place i) (instr.SkipFalse (long i - place i - 1)))
    ∙ lazy c.args.scope.now instr.SkipFalse (λ n. pushed u names true n c.get-in-And-2.result.now) (sites_in u c.get-in-And.result.now)
    c.args.calls.now.items c.code_of-in-And.new.calls.items
    c.args.out.now.items o1 c.push-in-And.new.out.items c.code_of-in-And-2.new.out.items o4
    (pushed u names true k c.get-in-And.result.now) (pushed u names c.args.reads k c.args.e.now) instr.Both
    c.in_ok-code_of-in-And.ensures.calls c.in_ok-code_of-in-And.ensures.code c.in_ok-push-in-And.ensures c.in_ok-code_of-in-And-2.ensures.code c.in_ok-push-in-And-2.ensures
    (ap (pushed u names c.args.reads k) c.in-And.is ∙ in_and u names c.args.reads k c.in-And.a c.in-And.b
    ∙ sym (λ i. pushed u names true k (c.get-in-And.ensures i)
    ++ (instr.SkipFalse (suc (length (pushed u names true (k + length (sites_in u (c.get-in-And.ensures i))) (c.get-in-And-2.ensures i))))
    ∷ (pushed u names true (k + length (sites_in u (c.get-in-And.ensures i))) (c.get-in-And-2.ensures i) ++ instr.Both ∷ []))))

pub code_of-returns-in_ok-push-in-Or-2-clause-calls : goal.code_of-returns-in_ok-push-in-Or-2-clause-calls
code_of-returns-in_ok-push-in-Or-2-clause-calls t c =
    let u = unit_of c.args.scope.now in
    two_calls c.args.scope.now (sites_in u c.get-in-Or.result.now) (sites_in u c.get-in-Or-2.result.now) (sites_in u c.args.e.now)
    c.args.calls.now.items c.code_of-in-Or.new.calls.items c.code_of-in-Or-2.new.calls.items
    c.in_ok-code_of-in-Or.ensures.calls c.in_ok-code_of-in-Or-2.ensures.calls
    (ap (sites_in u) c.in-Or.is ∙ sites.in_or u c.in-Or.a c.in-Or.b
    ∙ sym (λ i. sites_in u (c.get-in-Or.ensures i) ++ sites_in u (c.get-in-Or-2.ensures i)))

pub code_of-returns-in_ok-push-in-Or-2-clause-code : goal.code_of-returns-in_ok-push-in-Or-2-clause-code
code_of-returns-in_ok-push-in-Or-2-clause-code t c =
    let u = unit_of c.args.scope.now in
    let names = c.args.scope.now.names.now in
    let k = length c.args.calls.now.items in
    let o1 = c.code_of-in-Or.new.out.items in
    let o4 = c.push-in-Or-2.new.out.items in
    let place : c.len-place-in-Or.result ≡ length o1 = search rules in
    let long : c.len-in-Or.result ≡ length o4 = search rules in
    c.patch-in-Or.ensures
    ∙ (λ i. set o4 (place i) (instr.SkipTrue (long i - place i - 1)))
    ∙ lazy c.args.scope.now instr.SkipTrue (λ n. pushed u names true n c.get-in-Or-2.result.now) (sites_in u c.get-in-Or.result.now)
    c.args.calls.now.items c.code_of-in-Or.new.calls.items
    c.args.out.now.items o1 c.push-in-Or.new.out.items c.code_of-in-Or-2.new.out.items o4
    (pushed u names true k c.get-in-Or.result.now) (pushed u names c.args.reads k c.args.e.now) instr.Either
    c.in_ok-code_of-in-Or.ensures.calls c.in_ok-code_of-in-Or.ensures.code c.in_ok-push-in-Or.ensures c.in_ok-code_of-in-Or-2.ensures.code c.in_ok-push-in-Or-2.ensures
    (ap (pushed u names c.args.reads k) c.in-Or.is ∙ in_or u names c.args.reads k c.in-Or.a c.in-Or.b
    ∙ sym (λ i. pushed u names true k (c.get-in-Or.ensures i)
    ++ (instr.SkipTrue (suc (length (pushed u names true (k + length (sites_in u (c.get-in-Or.ensures i))) (c.get-in-Or-2.ensures i))))
    ∷ (pushed u names true (k + length (sites_in u (c.get-in-Or.ensures i))) (c.get-in-Or-2.ensures i) ++ instr.Either ∷ []))))

pub code_of-returns-in_ok-code_actuals-in-Apply-clause-calls : goal.code_of-returns-in_ok-code_actuals-in-Apply-clause-calls
code_of-returns-in_ok-code_actuals-in-Apply-clause-calls t c =
    let s = c.args.scope.now in
    let u = unit_of s in
    let names = s.names.now in
    let k = length c.args.calls.now.items in
    let f = c.in-Apply.f in
    let args = c.as_slice-args.result.now in
    let form : c.args.e.now ≡ view.Apply f args = c.in-Apply.is ∙ ap (view.Apply f) (sym c.as_slice-args.ensures) in
    let kind : is_call (applied u f) ≡ true = sym c.is_call.ensures ∙ c.if-is_call.true in
    let site = sites.call_site true f args in
    let reference : applied u f ≡ Reference = is_reference (applied u f) kind in
    let first : c.push_call.new.calls.items ≡ with_calls s (site ∷ []) c.args.calls.now.items =
    c.in_ok-place-in-Apply.ensures.listed
    ∙ ap (λ callee. c.args.calls.now.items ++ record { number = suc k; callee = callee; actuals = length args } ∷ []) c.function.ensures in
    on_ok c.push-then-is_call.result
    (two_calls s (site ∷ []) (flat_map (sites_in u) args) (sites_in u c.args.e.now)
    c.args.calls.now.items c.push_call.new.calls.items c.code_actuals.new.calls.items first c.in_ok-code_actuals-in-Apply.ensures.calls
    (ap (sites_in u) form ∙ sites.in_apply u f args ∙ ap (λ a. own_site a f args ++ flat_map (sites_in u) args) reference))

pub code_of-returns-in_ok-code_actuals-in-Apply-clause-code : goal.code_of-returns-in_ok-code_actuals-in-Apply-clause-code
code_of-returns-in_ok-code_actuals-in-Apply-clause-code t c =
    let s = c.args.scope.now in
    let u = unit_of s in
    let names = s.names.now in
    let k = length c.args.calls.now.items in
    let f = c.in-Apply.f in
    let args = c.as_slice-args.result.now in
    let form : c.args.e.now ≡ view.Apply f args = c.in-Apply.is ∙ ap (view.Apply f) (sym c.as_slice-args.ensures) in
    let kind : is_call (applied u f) ≡ true = sym c.is_call.ensures ∙ c.if-is_call.true in
    let site = sites.call_site true f args in
    let reference : applied u f ≡ Reference = is_reference (applied u f) kind in
    let first : c.push_call.new.calls.items ≡ with_calls s (site ∷ []) c.args.calls.now.items =
    c.in_ok-place-in-Apply.ensures.listed
    ∙ ap (λ callee. c.args.calls.now.items ++ record { number = suc k; callee = callee; actuals = length args } ∷ []) c.function.ensures in
    let place = c.in_ok-place-in-Apply.place in
    subst (λ xs. OnOk c.push-then-is_call.result (c.push-then-is_call.new.out.items ≡ xs))
    (one_code c.args.out.now.items c.code_actuals.new.out.items (actuals_listed u names (suc k) args) (pushed u names c.args.reads k c.args.e.now) (instr.Refer place ∷ [])
    (c.in_ok-code_actuals-in-Apply.ensures.code ∙ ap (λ n. c.args.out.now.items ++ actuals_listed u names n args) (one_long s site c.args.calls.now.items c.push_call.new.calls.items first))
    (ap (pushed u names c.args.reads k) form ∙ in_apply u names c.args.reads k f args
    ∙ ap (λ a. applied_pushed names c.args.reads k f a (length args) (values_listed u names k args) (actuals_listed u names (suc k) args)) reference
    ∙ ap (λ n. actuals_listed u names (suc k) args ++ instr.Refer n ∷ []) (sym c.in_ok-place-in-Apply.ensures.place)))
    c.push-then-is_call.ensures

pub code_of-returns-in_ok-code_values-in-Apply-clause-calls : goal.code_of-returns-in_ok-code_values-in-Apply-clause-calls
code_of-returns-in_ok-code_values-in-Apply-clause-calls t c =
    let s = c.args.scope.now in
    let u = unit_of s in
    let names = s.names.now in
    let k = length c.args.calls.now.items in
    let f = c.in-Apply.f in
    let args = c.as_slice-args.result.now in
    let form : c.args.e.now ≡ view.Apply f args = c.in-Apply.is ∙ ap (view.Apply f) (sym c.as_slice-args.ensures) in
    let kind : is_call (applied u f) ≡ false = sym c.is_call.ensures ∙ c.if-is_call.false in
    on_ok c.close.result
    (c.in_ok-code_values-in-Apply.ensures.calls
    ∙ ap (λ xs. with_calls s xs c.args.calls.now.items)
    (sym (ap (sites_in u) form ∙ sites.in_apply u f args ∙ ap (λ xs. xs ++ flat_map (sites_in u) args) (no_call (applied u f) f args kind))))

pub code_of-returns-in_ok-code_values-in-Apply-clause-code : goal.code_of-returns-in_ok-code_values-in-Apply-clause-code
code_of-returns-in_ok-code_values-in-Apply-clause-code t c =
    let s = c.args.scope.now in
    let u = unit_of s in
    let names = s.names.now in
    let k = length c.args.calls.now.items in
    let f = c.in-Apply.f in
    let args = c.as_slice-args.result.now in
    let form : c.args.e.now ≡ view.Apply f args = c.in-Apply.is ∙ ap (view.Apply f) (sym c.as_slice-args.ensures) in
    let kind : is_call (applied u f) ≡ false = sym c.is_call.ensures ∙ c.if-is_call.false in
    subst (λ xs. OnOk c.close.result (c.close.new.out.items ≡ xs))
    (one_code c.args.out.now.items c.code_values.new.out.items (values_listed u names k args) (pushed u names c.args.reads k c.args.e.now)
    (closing names c.args.reads f (applied u f) (length args))
    c.in_ok-code_values-in-Apply.ensures.code
    (ap (pushed u names c.args.reads k) form ∙ in_apply u names c.args.reads k f args
    ∙ closed names c.args.reads k f (applied u f) (length args) (values_listed u names k args) (actuals_listed u names (suc k) args) kind))
    c.close.ensures
