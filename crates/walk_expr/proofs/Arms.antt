-- An expression is done where its form is.
use Rattle.std.proofs.Common.{◌≡◌, ℕ, List, Result, IfOk, sym, ap, ◌∙◌}
use Rattle.std.proofs.lemmas.Result.{IfOk-weaker}
use Rattle.formula.specs.Tree.{Tree}
use Rattle.formula.specs.Pool.{Grows, tree_of}
use Rattle.formula.specs.declared.node.Node.{Node}
use Rattle.formula.specs.declared.node.TermId.{TermId}
use Rattle.fort_syntax.specs.declared.expr.Expr.{Expr}
use Rattle.fort_syntax.specs.declared.name.Name.{Name}
use Rattle.fort_model.specs.Seen.{Named, See, ◌>>=◌, see}
use Rattle.fort_model.specs.WalkCalls.{Sight, Operand, Computed}
use Rattle.fort_model.specs.WalkExpr as steps
use Rattle.walk_operands.specs.Operands.{operand_tree}
use Rattle.walk_operands.specs.declared.operand.Operand.{Operand as Code}
use Rattle.walk_operators.specs.declared.operators.Binary.{Binary}
use Rattle.walk_operators.specs.declared.operators.Unary.{Unary as Single}
use Rattle.walk_setting.specs.declared.setting.Setting.{Setting}
use Rattle.walk_setting.specs.Settings.{DoesIn, seen_from}
use Rattle.walk_setting.proofs.Done.{does_as, does_here, does_then, within_here}
use Rattle.walk_state.specs.declared.walk.Walk.{Walk}
use Rattle.walk_state.specs.Moments.{Did, Moment, moment}
use Rattle.walk_values.specs.Parts.{Does, DoesWithin}
use Rattle.walk_expr.specs.Parts as parts

module _ {E : Type 0} (pool nodes : List Node) (s : Setting) (card : ℕ) (m0 m1 : Moment) (res : Result Code E) (e form : Expr) where
  pub by_form : (part : Sight Tree → See Tree (Operand Tree)) → e ≡ form → ((w : Sight Tree) → steps.operand w card m0.now form ≡ part w)
      → IfOk res (λ x. DoesIn pool s m0 part m1 (operand_tree nodes x)) → IfOk res (λ x. DoesIn pool s m0 (λ w. steps.operand w card m0.now e) m1 (operand_tree nodes x))
  by_form part is same h =
      IfOk-weaker res (λ x. DoesIn pool s m0 part m1 (operand_tree nodes x)) (λ x. DoesIn pool s m0 (λ w. steps.operand w card m0.now e) m1 (operand_tree nodes x))
      (λ x d. does_as pool s m0 m1 part (λ w. steps.operand w card m0.now e) (operand_tree nodes x)
      (λ p r. sym (ap (steps.operand (seen_from s p) card m0.now) is ∙ same (seen_from s p))) d) h

  pub by_does : (part : Sight Tree → See Tree (Operand Tree)) → e ≡ form → ((w : Sight Tree) → steps.operand w card m0.now form ≡ part w)
      → IfOk res (λ x. Does m0 part m1 (operand_tree nodes x)) → IfOk res (λ x. DoesIn pool s m0 (λ w. steps.operand w card m0.now e) m1 (operand_tree nodes x))
  by_does part is same h =
      by_form part is same
      (IfOk-weaker res (λ x. Does m0 part m1 (operand_tree nodes x)) (λ x. DoesIn pool s m0 part m1 (operand_tree nodes x))
      (λ x d. does_here pool s m0 m1 part (operand_tree nodes x) d) h)

  pub by_within : (part : Sight Tree → See Tree (Operand Tree)) → e ≡ form → ((w : Sight Tree) → steps.operand w card m0.now form ≡ part w)
      → IfOk res (λ x. DoesWithin s.scene.now.bound m0 part m1 (operand_tree nodes x)) → IfOk res (λ x. DoesIn pool s m0 (λ w. steps.operand w card m0.now e) m1 (operand_tree nodes x))
  by_within part is same h =
      by_form part is same
      (IfOk-weaker res (λ x. DoesWithin s.scene.now.bound m0 part m1 (operand_tree nodes x)) (λ x. DoesIn pool s m0 part m1 (operand_tree nodes x))
      (λ x d. within_here pool s m0 m1 part (operand_tree nodes x) d) h)

  pub by_one : (op : Single) (a b : Expr) → e ≡ form → ((w : Sight Tree) → steps.operand w card m0.now form ≡ parts.of_single w card m0.now op a) → b ≡ a
      → IfOk res (λ x. DoesIn pool s m0 (λ w. parts.of_single w card m0.now op b) m1 (operand_tree nodes x)) → IfOk res (λ x. DoesIn pool s m0 (λ w. steps.operand w card m0.now e) m1 (operand_tree nodes x))
  by_one op a b is same got h =
      by_form (λ w. parts.of_single w card m0.now op b) is (λ w. same w ∙ sym (ap (parts.of_single w card m0.now op) got)) h

  pub by_applied : (a : Name) (args given : List Expr) → e ≡ form → ((w : Sight Tree) → steps.operand w card m0.now form ≡ parts.of_applied w card m0.now a args) → given ≡ args
      → IfOk res (λ x. DoesIn pool s m0 (λ w. parts.of_applied w card m0.now a given) m1 (operand_tree nodes x)) → IfOk res (λ x. DoesIn pool s m0 (λ w. steps.operand w card m0.now e) m1 (operand_tree nodes x))
  by_applied a args given is same got h =
      by_form (λ w. parts.of_applied w card m0.now a given) is (λ w. same w ∙ sym (ap (parts.of_applied w card m0.now a) got)) h

-- what a call gives is what is computed
pub did_computed_call : (m0 m1 : Moment) (part : See Tree (Named Tree × Tree)) (v : Tree) → Did m0 (part >>= λ c. see (c.1)) m1 v → Did m0 (part >>= λ c. see (Computed (c.1))) m1 (Computed v)
did_computed_call m0 m1 part v d = record { is = d.is; gives = ap (λ (t : Tree). Computed t) d.gives }

-- an operator of two values, of which the second one is done behind the first
pub by_two : {E : Type 0} (w0 w1 w2 : Walk) (s : Setting) (card : ℕ) (res : Result Code E) (e form : Expr) (op : Binary) (id : TermId) (a b x y : Expr)
    → e ≡ form → ((w : Sight Tree) → steps.operand w card (moment w0).now form ≡ (steps.value w card (moment w0).now a >>= λ v. parts.of_second w card (moment w0).now op v b)) → x ≡ a → y ≡ b → Grows w0.pool w1.pool
    → DoesIn w0.pool s (moment w0) (λ w. steps.value w card (moment w0).now x) (moment w1) (tree_of w1.pool id)
    → IfOk res (λ z. DoesIn w1.pool s (moment w1) (λ w. parts.of_second w card (moment w1).now op (tree_of w1.pool id) y) (moment w2) (operand_tree w2.pool z))
    → IfOk res (λ z. DoesIn w0.pool s (moment w0) (λ w. steps.operand w card (moment w0).now e) (moment w2) (operand_tree w2.pool z))
by_two w0 w1 w2 s card res e form op id a b x y is same first second g did h =
    by_form w0.pool w2.pool s card (moment w0) (moment w2) res e form (λ w. steps.value w card (moment w0).now x >>= λ v. parts.of_second w card (moment w0).now op v y) is
    (λ w. same w ∙ sym (λ i. steps.value w card (moment w0).now (first i) >>= λ v. parts.of_second w card (moment w0).now op v (second i)))
    (IfOk-weaker res (λ z. DoesIn w1.pool s (moment w1) (λ w. parts.of_second w card (moment w1).now op (tree_of w1.pool id) y) (moment w2) (operand_tree w2.pool z))
    (λ z. DoesIn w0.pool s (moment w0) (λ w. steps.value w card (moment w0).now x >>= λ v. parts.of_second w card (moment w0).now op v y) (moment w2) (operand_tree w2.pool z))
    (λ z d. does_then s w0 w1 w2 (λ w. steps.value w card (moment w0).now x) (λ w now v. parts.of_second w card now op v y) (tree_of w1.pool id) (operand_tree w2.pool z) g did d) h)
