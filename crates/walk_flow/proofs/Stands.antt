-- DOs stand at their points, and forks tell where they are tested.
use Rattle.std.proofs.Common.{◌≡◌, ℕ, zero, suc, ◌+◌, Bool, true, false, cond, List, [], ◌∷◌, Option, Some, None, slice_get, refl, sym, ap, ◌∙◌, subst, arith}
use Rattle.std.specs.Prelude.{◌==◌, nat_lt}
use Rattle.fort_syntax.specs.declared.dialect.Dialect.{Dialect}
use Rattle.fort_syntax.specs.declared.stmt.Stmt.{Stmt}
use Rattle.fort_syntax.specs.declared.stmt.Stmt.TheVariants.{Do}
use Rattle.fort_syntax.specs.declared.unit.Line.{Line}
use Rattle.fort_syntax.specs.declared.unit.Unit.{Unit as Routine}
use Rattle.fort_model.specs.Flow.{target, Loop, loop_of, loops_from, loops_at, around, loops_around}
use Rattle.fort_model.specs.Graphs.{AreTargetsOf, AreTests, IsForkTo, IsTargetOf}
use Rattle.fort_model.specs.declared.graph.Fork.{Fork}
use Rattle.fort_model.specs.declared.graph.Target.{Target}
use Rattle.fort_model.specs.declared.graph.Target.TheVariants.{Point, Fork as AtFork}
use Rattle.walk_flow.specs.Loops.{AreLoopsOf, IsLoopOf, IsNextTest, test_of}
use Rattle.walk_flow.specs.declared.loops.NextTest.{NextTest}

none_some : {X : Type 0} (a : X) → ◌≡◌ {A = Option X} None (Some a) → ⊥
none_some a e = cc

same_some : {X : Type 0} (a b : X) → ◌≡◌ {A = Option X} (Some a) (Some b) → a ≡ b
same_some a b e = cc

plus_none : (i : ℕ) → i + 0 ≡ i
plus_none i = omega arith

plus_suc : (i j : ℕ) → i + suc j ≡ suc i + j
plus_suc i j = omega arith

none_plus : (j : ℕ) → j ≡ 0 + j
none_plus j = omega arith

module _ (u : Routine) where
  if_there : (b : Bool) (d : Loop) (ds : List Loop) → IsLoopOf u d → AreLoopsOf u ds → AreLoopsOf u (cond b (d ∷ ds) ds)
  if_there true d ds is h = (is, h)
  if_there false d ds is h = h

  loop_stands : (pc i : ℕ) (line : Line) (s : Stmt) (ds : List Loop) → slice_get u.lines i ≡ Some line → line.stmt ≡ s → AreLoopsOf u ds → AreLoopsOf u (loop_of u.lines pc i s ds)
  loop_stands pc i line (Do label x first last step) ds here is h =
      if_there (target u.lines label == pc) (record { at = i; variable = x; last = last; step = step }) ds
      (record { line = line; label = label; first = first; stands = here; is = is }) h
  loop_stands pc i line s ds here is h = h

  lines_stand : (pc i : ℕ) (lines : List Line) (ds : List Loop) → ((j : ℕ) (line : Line) → slice_get lines j ≡ Some line → slice_get u.lines (i + j) ≡ Some line)
      → AreLoopsOf u ds → AreLoopsOf u (loops_from u.lines pc i lines ds)
  lines_stand pc i [] ds here h = h
  lines_stand pc i (line ∷ lines) ds here h =
      lines_stand pc (suc i) lines (loop_of u.lines pc i line.stmt ds)
      (λ j l e. subst (λ (k : ℕ). slice_get u.lines k ≡ Some l) (plus_suc i j) (here (suc j) l e))
      (loop_stands pc i line line.stmt ds (subst (λ (k : ℕ). slice_get u.lines k ≡ Some line) (plus_none i) (here 0 line refl)) refl h)

  -- the DOs whose last statement stands at a point stand at theirs
  pub loops_stand : (pc : ℕ) → AreLoopsOf u (loops_at u pc)
  loops_stand pc = lines_stand pc 0 u.lines [] (λ j l e. subst (λ (k : ℕ). slice_get u.lines k ≡ Some l) (none_plus j) e) tt

  around_stand : (pc : ℕ) (ds : List Loop) → AreLoopsOf u ds → AreLoopsOf u (around pc ds)
  around_stand pc [] h = tt
  around_stand pc (d ∷ ds) h = if_there (nat_lt d.at pc) d (around pc ds) h.0 (around_stand pc ds h.1)

  pub loops_around_stand : (last pc : ℕ) → AreLoopsOf u (loops_around u last pc)
  loops_around_stand last pc = around_stand pc (loops_at u last) (loops_stand last)

-- ---- the targets of statements

starts_from : (dialect : Dialect) (u : Routine) (forks : List Fork) (pc k : ℕ) (lines : List Line) (ts : List Target) (line : Line) (t : Target)
    → AreTargetsOf dialect u forks pc lines ts → slice_get lines k ≡ Some line → slice_get ts k ≡ Some t → IsTargetOf dialect u forks (pc + k) line.stmt t
starts_from dialect u forks pc k [] ts line t h here there = absurd (none_some line here)
starts_from dialect u forks pc k (x ∷ lines) [] line t h here there = absurd h
starts_from dialect u forks pc zero (x ∷ lines) (y ∷ ts) line t h here there =
    subst (λ (j : ℕ). IsTargetOf dialect u forks j line.stmt t) (sym (plus_none pc))
    (subst (λ (z : Target). IsTargetOf dialect u forks pc line.stmt z) (same_some y t there) (subst (λ (l : Line). IsTargetOf dialect u forks pc l.stmt y) (same_some x line here) h.0))
starts_from dialect u forks pc (suc k) (x ∷ lines) (y ∷ ts) line t h here there =
    subst (λ (j : ℕ). IsTargetOf dialect u forks j line.stmt t) (sym (plus_suc pc k)) (starts_from dialect u forks (suc pc) k lines ts line t h.1 here there)

-- the target of a statement
pub start_is : (dialect : Dialect) (u : Routine) (forks : List Fork) (k : ℕ) (lines : List Line) (ts : List Target) (line : Line) (t : Target)
    → AreTargetsOf dialect u forks 0 lines ts → slice_get lines k ≡ Some line → slice_get ts k ≡ Some t → IsTargetOf dialect u forks k line.stmt t
start_is dialect u forks k lines ts line t h here there =
    subst (λ (j : ℕ). IsTargetOf dialect u forks j line.stmt t) (sym (none_plus k)) (starts_from dialect u forks 0 k lines ts line t h here there)

-- each statement has a target
pub start_there : (dialect : Dialect) (u : Routine) (forks : List Fork) (pc k : ℕ) (lines : List Line) (ts : List Target) (line : Line)
    → AreTargetsOf dialect u forks pc lines ts → slice_get lines k ≡ Some line → slice_get ts k ≡ None → ⊥
start_there dialect u forks pc k [] ts line h here gone = none_some line here
start_there dialect u forks pc k (x ∷ lines) [] line h here gone = h
start_there dialect u forks pc zero (x ∷ lines) (y ∷ ts) line h here gone = none_some y (sym gone)
start_there dialect u forks pc (suc k) (x ∷ lines) (y ∷ ts) line h here gone = start_there dialect u forks (suc pc) k lines ts line h.1 here gone

-- ---- the next test

pub fork_there : (forks : List Fork) (k : ℕ) (f : Fork) (tested : Option ℕ) (targets : List Target) → slice_get forks k ≡ Some f → IsForkTo forks (AtFork k) tested targets
    → f ≡ record { tested = tested; targets = targets }
fork_there forks k f tested targets here is = same_some f (record { tested = tested; targets = targets }) (sym here ∙ is)

-- no DO is tested where a target is a point
pub no_test_at_point : (u : Routine) (forks : List Fork) (p q : ℕ) (ds : List Loop) → AreTests forks q ds (Point p) → IsNextTest u forks q ds None
no_test_at_point u forks p q [] h = refl
no_test_at_point u forks p q (d ∷ ds) h = absurd (h.1)

-- nor where there is no such fork
pub no_test_at_fork : (u : Routine) (forks : List Fork) (k q : ℕ) (ds : List Loop) → slice_get forks k ≡ None → AreTests forks q ds (AtFork k) → IsNextTest u forks q ds None
no_test_at_fork u forks k q [] none h = refl
no_test_at_fork u forks k q (d ∷ ds) none h = absurd (none_some (record { tested = Some d.at; targets = Point (suc d.at) ∷ h.0 ∷ [] }) (sym none ∙ h.1))

-- nor where a fork is no test
pub no_test_of_fork : (u : Routine) (forks : List Fork) (k q : ℕ) (f : Fork) (ds : List Loop) → slice_get forks k ≡ Some f → f.tested ≡ None → AreTests forks q ds (AtFork k) → IsNextTest u forks q ds None
no_test_of_fork u forks k q f [] here none h = refl
no_test_of_fork u forks k q f (d ∷ ds) here none h =
    absurd (none_some d.at (sym none ∙ ap (λ (g : Fork). g.tested) (fork_there forks k f (Some d.at) (Point (suc d.at) ∷ h.0 ∷ []) here h.1)))

-- nor where no DO stands at its point
pub no_test_of_line : (u : Routine) (forks : List Fork) (k q at : ℕ) (f : Fork) (ds : List Loop) → slice_get forks k ≡ Some f → f.tested ≡ Some at
    → ((d : Loop) → IsLoopOf u d → d.at ≡ at → None ≡ Some (test_of d)) → AreTests forks q ds (AtFork k) → AreLoopsOf u ds → IsNextTest u forks q ds None
no_test_of_line u forks k q at f [] here is none h stand = refl
no_test_of_line u forks k q at f (d ∷ ds) here is none h stand =
    absurd (none_some (test_of d) (none d (stand.0) (same_some d.at at (sym (ap (λ (g : Fork). g.tested) (fork_there forks k f (Some d.at) (Point (suc d.at) ∷ h.0 ∷ []) here h.1)) ∙ is))))

-- nor where a fork has one target
pub no_test_of_targets : (u : Routine) (forks : List Fork) (k q : ℕ) (f : Fork) (ds : List Loop) → slice_get forks k ≡ Some f → slice_get f.targets 1 ≡ None → AreTests forks q ds (AtFork k)
    → IsNextTest u forks q ds None
no_test_of_targets u forks k q f [] here none h = refl
no_test_of_targets u forks k q f (d ∷ ds) here none h =
    absurd (none_some (h.0) (sym none ∙ ap (λ (g : Fork). slice_get g.targets 1) (fork_there forks k f (Some d.at) (Point (suc d.at) ∷ h.0 ∷ []) here h.1)))

point_fork : (q k : ℕ) → AtFork k ≡ Point q → ⊥
point_fork q k e = cc

-- a test is that of the first DO
pub test_is : (u : Routine) (forks : List Fork) (k q at : ℕ) (f : Fork) (n : NextTest) (ds : List Loop) → slice_get forks k ≡ Some f → f.tested ≡ Some at
    → ((d : Loop) → IsLoopOf u d → d.at ≡ at → Some n.test ≡ Some (test_of d)) → slice_get f.targets 1 ≡ Some n.next → AreTests forks q ds (AtFork k) → AreLoopsOf u ds
    → IsNextTest u forks q ds (Some n)
test_is u forks k q at f n [] here is of next h stand = absurd (point_fork q k h)
test_is u forks k q at f n (d ∷ ds) here is of next h stand =
    let fork = fork_there forks k f (Some d.at) (Point (suc d.at) ∷ h.0 ∷ []) here h.1 in
    let there = same_some d.at at (sym (ap (λ (g : Fork). g.tested) fork) ∙ is) in
    let on : n.next ≡ h.0 = same_some n.next (h.0) (sym next ∙ ap (λ (g : Fork). slice_get g.targets 1) fork) in
    (n, refl, same_some n.test (test_of d) (of d (stand.0) there), subst (λ (t : Target). AreTests forks q ds t) (sym on) (h.2))
