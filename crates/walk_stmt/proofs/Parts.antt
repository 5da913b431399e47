-- Parts of statements, one behind another.
use Rattle.std.proofs.Common.{◌≡◌, ℕ, zero, suc, ◌-◌, ◌<◌, ◌≤◌, ◌⊎◌, inl, inr, Bool, true, false, cond, List, [], ◌∷◌, Option, drop, get_or, length, take, refl, sym, ap, ◌∙◌, subst, append_assoc, arith}
use Rattle.std.proofs.lemmas.Grind.{common_steps}
use Rattle.std.specs.Prelude.{◌==◌, is_some}
use Rattle.formula.specs.Pool.{Grows}
use Rattle.formula.specs.Tree.{Tree}
use Rattle.formula.specs.declared.node.Node.{Node}
use Rattle.fort_model.specs.Seen.{Named, See, ◌>>=◌, ◌>>◌, see}
use Rattle.fort_model.specs.Senses.{is_defined, negated, of_terms}
use Rattle.fort_model.specs.WalkCalls.{Operand, Sight, call}
use Rattle.fort_model.specs.WalkExpr.{checked, operands, value}
use Rattle.fort_model.specs.WalkStmt.{assign, behind, performed, result, taken}
use Rattle.fort_syntax.specs.Names.{subroutine}
use Rattle.fort_syntax.specs.TreePatterns.{row_of}
use Rattle.fort_syntax.specs.declared.condition.Kind.TheVariants.{ResultCheck}
use Rattle.fort_syntax.specs.declared.expr.Expr.{Expr}
use Rattle.fort_syntax.specs.declared.name.Name.{Name}
use Rattle.fort_syntax.specs.declared.stmt.Stmt.{Stmt}
use Rattle.fort_syntax.specs.declared.stmt.Stmt.TheVariants.{BlockIf, ElseIf}
use Rattle.fort_syntax.specs.declared.stmt.Stmt.TheViews as stmt
use Rattle.fort_syntax.specs.declared.unit.Unit.{Unit as Routine}
use Rattle.path_scene.proofs.Staying.{ready_stays}
use Rattle.walk_calls.specs.Calls.{CallsIn, called_at}
use Rattle.walk_choices.specs.Choices.{decided, is_false, is_true}
use Rattle.walk_setting.specs.declared.setting.Setting.{Setting}
use Rattle.walk_setting.specs.Settings.{DoesIn, PerformsIn, performed_at, seen_from}
use Rattle.walk_setting.proofs.Done.{bind_assoc, does_here, performs_as, performs_not, performs_on, performs_past, performs_then}
use Rattle.walk_state.specs.declared.walk.Walk.{Walk}
use Rattle.walk_state.specs.Moments.{Moment, moment}
use Rattle.walk_stmt.specs.Parts.{of_assignment, of_call, of_passed, of_return}
use Rattle.walk_values.specs.Parts.{Does}

-- ---- assignments and calls

-- a part behind a call
called_on : (m0 m1 m2 : Moment) (part : See Tree (Named Tree × Tree)) (next : Named Tree → See Tree (Named Tree)) → m1 ≡ called_at m0 part → m2 ≡ performed_at m1 (next m1.now)
    → m2 ≡ performed_at m0 (part >>= λ after. next (after.0))
called_on m0 m1 m2 part next first second =
    let seen = part m0.answers in
    let rest = next (seen.value.0) seen.rest in
    second
    ∙ (λ i. performed_at (first i) (next ((first i).now)))
    ∙ (λ i. record { now = rest.value; past = m0.past; events = append_assoc m0.events seen.events rest.events i; answers = rest.rest })

module _ (s : Setting) (card pc : ℕ) (cs : List ℕ) (w0 w1 w2 w3 : Walk) (g01 : Grows w0.pool w1.pool) (g12 : Grows w1.pool w2.pool) where
  pub assigned : (left right : Expr) (v : Tree) → DoesIn w0.pool s (moment w0) (λ w. value w card (moment w0).now right) (moment w1) v
      → PerformsIn w1.pool s (moment w1) (λ w. assign w card (moment w1).now left v) (moment w2)
      → PerformsIn w2.pool s (moment w2) (λ w. behind w card pc (moment w2).now cs) (moment w3)
      → PerformsIn w0.pool s (moment w0) (λ w. of_assignment w card pc (moment w0).now left right cs) (moment w3)
  assigned left right v d1 d2 d3 =
      performs_then s w0 w1 w3 (λ w. value w card (moment w0).now right) (λ w now a. assign w card now left a >>= λ after. behind w card pc after cs) v g01 d1
      (performs_on s w1 w2 w3 (λ w. assign w card (moment w1).now left v) (λ w after. behind w card pc after cs) g12 d2 d3)

  pub called : (f : Name) (args : List Expr) (callee : Option ℕ) (xs : List (Operand Tree)) (v : Tree) → callee ≡ subroutine s.scene.now.books.now.units.now f
      → DoesIn w0.pool s (moment w0) (λ w. operands w card (moment w0).now (row_of args)) (moment w1) xs
      → CallsIn w1.pool s (moment w1) (λ w. call w card callee (moment w1).now xs) (moment w2) v
      → PerformsIn w2.pool s (moment w2) (λ w. behind w card pc (moment w2).now cs) (moment w3)
      → PerformsIn w0.pool s (moment w0) (λ w. of_call w card pc (moment w0).now f args cs) (moment w3)
  called f args callee xs v is d1 d2 d3 =
      performs_then s w0 w1 w3 (λ w. operands w card (moment w0).now (row_of args))
      (λ w now ys. call w card (subroutine w.program.units f) now ys >>= λ after. behind w card pc (after.0) cs) xs g01 d1
      (λ p r.
      called_on (moment w1) (moment w2) (moment w3) (call (seen_from s p) card (subroutine p.units f) (moment w1).now xs) (λ now. behind (seen_from s p) card pc now cs)
      (subst (λ (c : Option ℕ). moment w2 ≡ called_at (moment w1) (call (seen_from s p) card c (moment w1).now xs))
      (is ∙ ap (λ (us : List Routine). subroutine us f) r.is_scene.units) (d2 p r).is)
      (d3 p (ready_stays w1.pool w2.pool g12 s.scene.now p r)))

-- ---- RETURN

module _ (pool : List Node) (s : Setting) (card pc : ℕ) (m0 m1 : Moment) where
  pub returned_nothing : is_some s.book.now.unit.now.sort ≡ false → m1 ≡ m0 → PerformsIn pool s m0 (λ w. of_return w card pc m0.now) m1
  returned_nothing none same =
      performs_as pool s m0 m1 (λ w. see m0.now) (λ w. of_return w card pc m0.now)
      (λ p r. ap (λ (b : Bool). result (seen_from s p) card m0.now b >> see m0.now) (sym none))
      (performs_not pool s m0 m1 same)

  pub returned_value : is_some s.book.now.unit.now.sort ≡ true → Does m0 (λ w. checked w ResultCheck card (is_defined of_terms (m0.now s.book.now.unit.now.name))) m1 tt
      → PerformsIn pool s m0 (λ w. of_return w card pc m0.now) m1
  returned_value some d =
      performs_as pool s m0 m1 (λ w. checked w ResultCheck card (is_defined of_terms (m0.now s.book.now.unit.now.name)) >> see m0.now) (λ w. of_return w card pc m0.now)
      (λ p r. ap (λ (b : Bool). result (seen_from s p) card m0.now b >> see m0.now) (sym some))
      (performs_past pool s m0 m1 (λ w. checked w ResultCheck card (is_defined of_terms (m0.now s.book.now.unit.now.name))) tt
      (does_here pool s m0 m1 (λ w. checked w ResultCheck card (is_defined of_terms (m0.now s.book.now.unit.now.name))) tt d))

-- ---- logical IFs

-- a logical IF without a choice
pub if_unchosen : (w : Sight Tree) (card pc : ℕ) (now : Named Tree) (e : Expr) (s : Stmt) → see now ≡ performed w card pc now (stmt.LogicalIf e s) []
unfolding Rattle.fort_syntax.specs.declared.stmt.Stmt.TheBlock.hidden-the_row-Stmt-0 denote.Hole.Carrier.hidden
if_unchosen w card pc now e s = refl

-- a logical IF with its choice
pub if_chosen : (w : Sight Tree) (card pc : ℕ) (now : Named Tree) (e : Expr) (s : Stmt) (c : ℕ) (cs : List ℕ)
    → (value w card now e >>= λ v. cond (c == 1) (taken w v >> performed w card pc now s cs) (taken w (negated w.sense v) >> behind w card pc now cs)) ≡ performed w card pc now (stmt.LogicalIf e s) (c ∷ cs)
unfolding Rattle.fort_syntax.specs.declared.stmt.Stmt.TheBlock.hidden-the_row-Stmt-0 denote.Hole.Carrier.hidden
if_chosen w card pc now e s c cs = refl

module _ (s : Setting) (card pc : ℕ) (cs : List ℕ) (w0 w1 w2 : Walk) (e : Expr) (g01 : Grows w0.pool w1.pool) where
  -- behind a condition that is false
  pub passed : DoesIn w0.pool s (moment w0) (λ w. is_false w card (moment w0).now e) (moment w1) tt
      → PerformsIn w1.pool s (moment w1) (λ w. behind w card pc (moment w1).now cs) (moment w2)
      → PerformsIn w0.pool s (moment w0) (λ w. of_passed w card pc (moment w0).now e cs) (moment w2)
  passed d1 d2 =
      performs_as w0.pool s (moment w0) (moment w2) (λ w. is_false w card (moment w0).now e >>= λ _. behind w card pc (moment w0).now cs) (λ w. of_passed w card pc (moment w0).now e cs)
      (λ p r.
      let v = seen_from s p in
      bind_assoc (value v card (moment w0).now e) (λ x. taken v (negated v.sense x)) (λ _. behind v card pc (moment w0).now cs))
      (performs_then s w0 w1 w2 (λ w. is_false w card (moment w0).now e) (λ w now _. behind w card pc now cs) tt g01 d1 d2)

  -- a condition that is true, and its statement
  pub carried_on : (c : ℕ) (then : Stmt) → (c == 1) ≡ true → DoesIn w0.pool s (moment w0) (λ w. is_true w card (moment w0).now e) (moment w1) tt
      → PerformsIn w1.pool s (moment w1) (λ w. performed w card pc (moment w1).now then cs) (moment w2)
      → PerformsIn w0.pool s (moment w0) (λ w. performed w card pc (moment w0).now (stmt.LogicalIf e then) (c ∷ cs)) (moment w2)
  carried_on c then one d1 d2 =
      performs_as w0.pool s (moment w0) (moment w2) (λ w. is_true w card (moment w0).now e >>= λ _. performed w card pc (moment w0).now then cs)
      (λ w. performed w card pc (moment w0).now (stmt.LogicalIf e then) (c ∷ cs))
      (λ p r.
      let v = seen_from s p in
      bind_assoc (value v card (moment w0).now e) (λ x. taken v x) (λ _. performed v card pc (moment w0).now then cs)
      ∙ (λ i. value v card (moment w0).now e >>= λ x.
      cond (sym one i) (taken v x >> performed v card pc (moment w0).now then cs) (taken v (negated v.sense x) >> behind v card pc (moment w0).now cs))
      ∙ if_chosen v card pc (moment w0).now e then c cs)
      (performs_then s w0 w1 w2 (λ w. is_true w card (moment w0).now e) (λ w now _. performed w card pc now then cs) tt g01 d1 d2)

module _ (pool : List Node) (s : Setting) (card pc : ℕ) (cs : List ℕ) (m0 m1 : Moment) where
  -- a logical IF whose condition is false
  pub passed_by : (e : Expr) (then : Stmt) (c : ℕ) → (c == 1) ≡ false → PerformsIn pool s m0 (λ w. of_passed w card pc m0.now e cs) m1
      → PerformsIn pool s m0 (λ w. performed w card pc m0.now (stmt.LogicalIf e then) (c ∷ cs)) m1
  passed_by e then c other d =
      performs_as pool s m0 m1 (λ w. of_passed w card pc m0.now e cs) (λ w. performed w card pc m0.now (stmt.LogicalIf e then) (c ∷ cs))
      (λ p r.
      let v = seen_from s p in
      (λ i. value v card m0.now e >>= λ x. cond (sym other i) (taken v x >> performed v card pc m0.now then cs) (taken v (negated v.sense x) >> behind v card pc m0.now cs))
      ∙ if_chosen v card pc m0.now e then c cs) d

  -- a logical IF without a choice
  pub passed_not : (e : Expr) (then : Stmt) → m1 ≡ m0 → PerformsIn pool s m0 (λ w. performed w card pc m0.now (stmt.LogicalIf e then) []) m1
  passed_not e then same =
      performs_as pool s m0 m1 (λ w. see m0.now) (λ w. performed w card pc m0.now (stmt.LogicalIf e then) [])
      (λ p r. if_unchosen (seen_from s p) card pc m0.now e then) (performs_not pool s m0 m1 same)

  -- a statement that is told otherwise
  pub as_told : (told is : Stmt) → is ≡ told → PerformsIn pool s m0 (λ w. performed w card pc m0.now told cs) m1 → PerformsIn pool s m0 (λ w. performed w card pc m0.now is cs) m1
  as_told told is e d = subst (λ (x : Stmt). PerformsIn pool s m0 (λ w. performed w card pc m0.now x cs) m1) (sym e) d

  -- so are choices
  pub as_chosen : (told is : List ℕ) (x : Stmt) → is ≡ told → PerformsIn pool s m0 (λ w. performed w card pc m0.now x told) m1 → PerformsIn pool s m0 (λ w. performed w card pc m0.now x is) m1
  as_chosen told is x e d = subst (λ (ys : List ℕ). PerformsIn pool s m0 (λ w. performed w card pc m0.now x ys) m1) (sym e) d

  -- a condition that decides where the flow goes on
  pub decided_as : (e : Expr) (is : Stmt) → (is ≡ BlockIf e) ⊎ (is ≡ ElseIf e) → PerformsIn pool s m0 (λ w. decided w card m0.now e cs) m1 → PerformsIn pool s m0 (λ w. performed w card pc m0.now is cs) m1
  decided_as e is (inl h) d = as_told (BlockIf e) is h d
  decided_as e is (inr h) d = as_told (ElseIf e) is h d

-- ---- choices

pub no_item : (xs : List ℕ) → length xs < 1 → xs ≡ []
no_item [] lt = refl
no_item (x ∷ xs) lt = absurd (omega arith)

pub first_rest : (xs : List ℕ) → 1 ≤ length xs → xs ≡ get_or xs 0 0 ∷ take (length xs - 1) (drop 1 xs)
first_rest [] h = absurd (omega arith)
first_rest (x ∷ xs) h = grind (arith, common_steps)

pub is_one : (c : ℕ) → c ≡ 1 → (c == 1) ≡ true
is_one c e = ap (λ (k : ℕ). k == 1) e

pub is_other : (c : ℕ) → (c ≡ 1 → ⊥) → (c == 1) ≡ false
is_other zero h = grind arith
is_other (suc zero) h = absurd (h refl)
is_other (suc (suc c)) h = grind arith
