-- What is known stays known as forks grow.
use Rattle.std.proofs.Common.{◌≡◌, ℕ, zero, suc, ◌+◌, ◌<◌, ◌≤◌, ◌⊎◌, inl, inr, true, false, cond, Bool, List, [], ◌∷◌, ◌++◌, length, Option, Some, None, slice_get, refl, sym, ap, ◌∙◌, subst, add-one, drop, arith}
use Rattle.std.specs.Prelude.{◌==◌}
use Rattle.fort_syntax.specs.declared.dialect.Dialect.{Dialect}
use Rattle.fort_syntax.specs.declared.dialect.Dialect.TheVariants.{Common, SeventySeven}
use Rattle.fort_syntax.specs.declared.expr.Expr.{Expr}
use Rattle.fort_syntax.specs.Grammar.{is_carried}
use Rattle.fort_syntax.specs.TreePatterns.{carried}
use Rattle.fort_syntax.specs.declared.stmt.Stmt.{Stmt}
use Rattle.fort_syntax.specs.declared.stmt.Stmt.TheViews as stmt
use Rattle.fort_syntax.specs.declared.stmt.Stmt.TheVariants.{Subroutine, Function, Declare, Dimension, Common as CommonBlock, Assign, GoTo, Computed, ArithIf, LogicalIf', Do, Continue, Call, Return, End, BlockIf, ElseIf, Else, EndIf}
use Rattle.fort_syntax.specs.declared.unit.Line.{Line}
use Rattle.fort_syntax.specs.declared.unit.Unit.{Unit as Routine}
use Rattle.fort_model.specs.declared.graph.Fork.{Fork}
use Rattle.fort_model.specs.declared.graph.Target.{Target}
use Rattle.fort_model.specs.declared.graph.Target.TheVariants.{Point}
use Rattle.fort_model.specs.Flow.{target, is_branch, loops_at, loops_around, next_point, next_branch}
use Rattle.fort_model.specs.Graphs.{IsForkTo, IsBehind, IsWithin, IsDoTarget, IsComputedTarget, IsTargetOf, points_of_labels}
use Rattle.std.proofs.lemmas.List.{length-drop}
use Rattle.unit_points.proofs.Scanning.{within}
use Rattle.flow_tests.specs.Tests.{is_flowing}
use Rattle.flow_tests.specs.Growing.{Extends, AreWithin, Grown}
use Rattle.flow_tests.proofs.Extending.{same_some, none_some, pushed, extends_on, fork_kept, tests_kept, within_more}
use Rattle.flow_targets.specs.Leading.{IsOverAt, IsKnown, IsLogicalTarget, IsEntered}
use Rattle.flow_targets.specs.declared.known.Known.{Known}

-- ---- targets

pub target_within : (lines : List Line) (label : ℕ) → target lines label ≤ length lines
target_within [] label = omega arith
target_within (line ∷ lines) label = by (line.label == label) (target_within lines label)
  where
    by : (b : Bool) → target lines label ≤ length lines → cond b 0 (suc (target lines label)) ≤ suc (length lines)
    by true rec = omega arith
    by false rec = omega (arith, rec)

points_in : (u : Routine) (count : ℕ) (labels : List ℕ) (t : Target) (k : ℕ) → slice_get (points_of_labels u labels) k ≡ Some t → IsWithin (length u.lines) count t
points_in u count [] t k e = absurd (none_some t e)
points_in u count (l ∷ labels) t zero e = subst (IsWithin (length u.lines) count) (same_some (Point (target u.lines l)) t e) (target_within u.lines l)
points_in u count (l ∷ labels) t (suc k) e = points_in u count labels t k e

pub points_within : (u : Routine) (count : ℕ) (labels : List ℕ) → AreWithin (length u.lines) count (points_of_labels u labels)
points_within u count labels = record { each = λ t h. points_in u count labels t h.0 h.1 }

pub push_within : (size count : ℕ) (ts : List Target) (t : Target) → AreWithin size count ts → IsWithin size count t → AreWithin size count (ts ++ t ∷ [])
push_within size count ts t all one = record { each = λ x h. by x h.0 (pushed ts t h.0 x h.1) }
  where
    by : (x : Target) (k : ℕ) → (slice_get ts k ≡ Some x) ⊎ ((k ≡ length ts) × (t ≡ x)) → IsWithin size count x
    by x k (inl e) = all.each x (k, e)
    by x k (inr e) = subst (IsWithin size count) e.1 one

pub none_within : (size count : ℕ) → AreWithin size count []
none_within size count = record { each = λ t h. absurd (none_some t h.1) }

-- ---- statements

module _ (old new : List Fork) (x : Extends old new) (u : Routine) (pc : ℕ) where
  pub behind_kept : (t : Target) → IsBehind u old pc t → IsBehind u new pc t
  behind_kept t h = tests_kept old new x (next_point u pc) (loops_at u pc) t h

  do_kept : (dialect : Dialect) (last : ℕ) (t : Target) → IsDoTarget dialect u old last pc t → IsDoTarget dialect u new last pc t
  do_kept Common last t h = h
  do_kept SeventySeven last t h =
      (h.0, fork_kept old new x t None (Point (suc pc) ∷ h.0 ∷ []) h.1, tests_kept old new x (next_point u last) (loops_around u last pc) h.0 h.2)

  computed_kept : (dialect : Dialect) (labels : List ℕ) (t : Target) → IsComputedTarget dialect u old pc labels t → IsComputedTarget dialect u new pc labels t
  computed_kept Common labels t h = fork_kept old new x t None (points_of_labels u labels) h
  computed_kept SeventySeven labels t h = (h.0, fork_kept old new x t None (points_of_labels u labels ++ h.0 ∷ []) h.1, behind_kept h.0 h.2)

  pub target_kept : (dialect : Dialect) (s : Stmt) (t : Target) → IsTargetOf dialect u old pc s t → IsTargetOf dialect u new pc s t
  target_kept dialect (Assign left right) t h = behind_kept t h
  target_kept dialect (GoTo label) t h = h
  target_kept dialect (Computed labels n) t h = computed_kept dialect labels t h
  target_kept dialect (ArithIf e l m n) t h = fork_kept old new x t None (points_of_labels u (l ∷ m ∷ n ∷ [])) h
  target_kept dialect (LogicalIf' e _ (carried s)) t h =
      (h.0, h.1, fork_kept old new x t None (h.0 ∷ h.1 ∷ []) h.2, target_kept dialect s h.0 h.3, behind_kept h.1 h.4)
  target_kept dialect (Do label n first last step) t h = do_kept dialect (target u.lines label) t h
  target_kept dialect Continue t h = behind_kept t h
  target_kept dialect (Call f args) t h = behind_kept t h
  target_kept dialect Return t h = h
  target_kept dialect (BlockIf e) t h = fork_kept old new x t None (Point (next_point u pc) ∷ Point (next_branch u pc) ∷ []) h
  target_kept dialect (ElseIf e) t h = fork_kept old new x t None (Point (next_point u pc) ∷ Point (next_branch u pc) ∷ []) h
  target_kept dialect Else t h = behind_kept t h
  target_kept dialect EndIf t h = behind_kept t h
  target_kept dialect (Subroutine f dummies) t h = fork_kept old new x t None [] h
  target_kept dialect (Function sort f dummies) t h = fork_kept old new x t None [] h
  target_kept dialect (Declare sort items) t h = fork_kept old new x t None [] h
  target_kept dialect (Dimension items) t h = fork_kept old new x t None [] h
  target_kept dialect (CommonBlock groups) t h = fork_kept old new x t None [] h
  target_kept dialect End t h = fork_kept old new x t None [] h

  over_kept : (o : Option ℕ) (t : Target) → IsOverAt u old pc o t → IsOverAt u new pc o t
  over_kept None t h = tt
  over_kept (Some label) t h = tests_kept old new x (next_point u (target u.lines label)) (loops_around u (target u.lines label) pc) t h

pub known_grows : (k : Known) (most : ℕ) (old new : List Fork) (t : Target) → Grown (length k.unit.now.lines) most old new t → IsKnown k old → IsKnown k new
known_grows k most old new t grown is = record {
  flowing = is.flowing;
  known = is.known;
  turns = is.turns;
  falling = grown.falling;
  behind_long = is.behind_long;
  over_long = is.over_long;
  tests = λ q x e. (
    behind_kept old new grown.extends k.unit.now q x (is.tests q x e).0,
    within_more (length k.unit.now.lines) (length old) (length new) x grown.longer (is.tests q x e).1,
  );
  overs = λ q x line e h. (
    over_kept old new grown.extends k.unit.now q _ x (is.overs q x line e h).0,
    within_more (length k.unit.now.lines) (length old) (length new) x grown.longer (is.overs q x line e h).1,
  );
}

pub grown_on : (size a b : ℕ) (old mid new : List Fork) (s t : Target) → Grown size a old mid s → Grown size b mid new t → Grown size (a + b) old new t
grown_on size a b old mid new s t x y = record {
  extends = extends_on old mid new x.extends y.extends;
  falling = y.falling;
  within = y.within;
  longer = (let l = x.longer in let m = y.longer in omega (arith, l, m));
  few = (let l = x.few in let m = y.few in omega (arith, l, m));
}

pub grown_less : (size a b : ℕ) (old new : List Fork) (t : Target) → a ≤ b → Grown size a old new t → Grown size b old new t
grown_less size a b old new t le x = record {
  extends = x.extends;
  falling = x.falling;
  within = x.within;
  longer = x.longer;
  few = (let l = x.few in omega (arith, l, le));
}

pub logical_is : (dialect : Dialect) (u : Routine) (forks : List Fork) (pc : ℕ) (e : Expr) (s : Stmt) (t : Target) → IsLogicalTarget dialect u forks pc s t → IsTargetOf dialect u forks pc (stmt.LogicalIf e s) t
unfolding Rattle.fort_syntax.specs.declared.stmt.Stmt.TheBlock.hidden-the_row-Stmt-0 denote.Hole.Carrier.hidden
logical_is dialect u forks pc e s t h = h

pub flowing_if : (u : Routine) (e : Expr) (s : Stmt) → is_flowing u (stmt.LogicalIf e s) ≡ is_carried s
unfolding Rattle.fort_syntax.specs.declared.stmt.Stmt.TheBlock.hidden-the_row-Stmt-0 denote.Hole.Carrier.hidden
flowing_if u e s = refl

pub branch_within : (u : Routine) (k : ℕ) → k < length u.lines → next_branch u k ≤ length u.lines
branch_within u k lt =
    let few = within is_branch (drop (suc k) u.lines) 0 in
    let long = length-drop (suc k) u.lines in
    (let done : next_branch u k ≤ length u.lines = omega (arith, few, long) in done)

-- a DO that may be passed over
pub entered : (dialect : Dialect) → dialect ≡ SeventySeven → (u : Routine) (old new : List Fork) → Extends old new → (pc : ℕ) (o : Option ℕ) (t inside over : Target) → inside ≡ Point (pc + 1)
    → IsForkTo new t None (inside ∷ over ∷ []) → IsOverAt u old pc o over → IsEntered dialect u new pc o t
entered dialect is u old new x pc None t inside over point fork tests = tt
entered dialect is u old new x pc (Some label) t inside over point fork tests =
    subst (λ d. IsDoTarget d u new (target u.lines label) pc t) (sym is) (
      over,
      subst (λ (p : Target). IsForkTo new t None (p ∷ over ∷ [])) (point ∙ ap (λ (n : ℕ). Point n) (add-one pc)) fork,
      tests_kept old new x (next_point u (target u.lines label)) (loops_around u (target u.lines label) pc) over tests,
    )
