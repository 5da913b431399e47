-- The DOs that a walk over statements finds.
use Rattle.std.proofs.Common.{◌≡◌, ◌≢◌, ℕ, zero, suc, ◌+◌, Bool, true, false, cond, List, [], ◌∷◌, ◌++◌, Some, slice_get, refl, sym, ap, ◌∙◌, subst, arith}
use Rattle.std.specs.Prelude.{◌==◌}
use Rattle.std.proofs.lemmas.Bool.Decides.{nat_tests}
use Rattle.fort_syntax.specs.declared.name.Name.{Name}
use Rattle.fort_syntax.specs.declared.stmt.Stmt.{Stmt}
use Rattle.fort_syntax.specs.declared.stmt.Stmt.TheVariants.{Subroutine, Function, Declare, Dimension, Common as CommonBlock, Assign, GoTo, Computed, ArithIf, LogicalIf', Do, Continue, Call, Return, End, BlockIf, ElseIf, Else, EndIf}
use Rattle.fort_syntax.specs.declared.unit.Line.{Line}
use Rattle.fort_model.specs.Flow.{Loop, loop_of, loops_from, target}
use Rattle.loop_tables.specs.Loops.{last_of}
use Rattle.run_doing.specs.Here.{DoHere, LoopHere}
use Rattle.run_doing.proofs.Each.{Each}

-- a DO is that of a statement, whose last statement stands at a point
pub record IsLoopOf (all : List Line) (q : ℕ) (s : Stmt) (d : Loop) : Type 0 where
  pub last : last_of all s ≡ Some q
  pub here : (names : List Name) → DoHere names s → LoopHere names d

-- a statement adds no DO, or one
pub data Found (all : List Line) (q i : ℕ) (s : Stmt) : Type 0 where
  none : ((ds : List Loop) → loop_of all q i s ds ≡ ds) → (last_of all s ≢ Some q) → Found all q i s
  one : (d : Loop) → d.at ≡ i → IsLoopOf all q s d → ((ds : List Loop) → loop_of all q i s ds ≡ d ∷ ds) → Found all q i s

same_point : (a b : ℕ) → (a == b) ≡ true → a ≡ b
same_point a b e = grind (arith, nat_tests)

other_point : (a b : ℕ) → (a == b) ≡ false → a ≢ b
other_point a b e = λ f. grind (arith, nat_tests)

inside : (a b : ℕ) → Some a ≡ Some b → a ≡ b
inside a b e = cc

pub found : (all : List Line) (q i : ℕ) (s : Stmt) → Found all q i s
found all q i (Do label x first last step) = by (target all label == q) refl
  where
    its : Loop
    its = record { at = i; variable = x; last = last; step = step }

    by : (b : Bool) → (target all label == q) ≡ b → Found all q i (Do label x first last step)
    by true e =
        one its refl (record { last = ap Some (same_point (target all label) q e); here = λ names h. h })
        (λ ds. ap (λ b. cond b (its ∷ ds) ds) e)
    by false e = none (λ ds. ap (λ b. cond b (its ∷ ds) ds) e) (λ f. other_point (target all label) q e (inside (target all label) q f))
found all q i (Subroutine f xs) = none (λ ds. refl) (λ e. cc)
found all q i (Function o f xs) = none (λ ds. refl) (λ e. cc)
found all q i (Declare o xs) = none (λ ds. refl) (λ e. cc)
found all q i (Dimension xs) = none (λ ds. refl) (λ e. cc)
found all q i (CommonBlock xs) = none (λ ds. refl) (λ e. cc)
found all q i (Assign l r) = none (λ ds. refl) (λ e. cc)
found all q i (GoTo l) = none (λ ds. refl) (λ e. cc)
found all q i (Computed ls x) = none (λ ds. refl) (λ e. cc)
found all q i (ArithIf e l m n) = none (λ ds. refl) (λ e. cc)
found all q i (LogicalIf' e _ s) = none (λ ds. refl) (λ e. cc)
found all q i Continue = none (λ ds. refl) (λ e. cc)
found all q i (Call f xs) = none (λ ds. refl) (λ e. cc)
found all q i Return = none (λ ds. refl) (λ e. cc)
found all q i End = none (λ ds. refl) (λ e. cc)
found all q i (BlockIf e) = none (λ ds. refl) (λ e. cc)
found all q i (ElseIf e) = none (λ ds. refl) (λ e. cc)
found all q i Else = none (λ ds. refl) (λ e. cc)
found all q i EndIf = none (λ ds. refl) (λ e. cc)

-- ---- each found DO stands where it is said to stand

pub record Stands (all : List Line) (q : ℕ) (d : Loop) : Type 0 where
  pub line : Line
  pub there : slice_get all d.at ≡ Some line
  pub its : IsLoopOf all q line.stmt d

module _ (all : List Line) (q : ℕ) where
  one_stands : (i : ℕ) (line : Line) (ds : List Loop) → slice_get all i ≡ Some line → Found all q i line.stmt → Each (Stands all q) ds
      → Each (Stands all q) (loop_of all q i line.stmt ds)
  one_stands i line ds e (none f never) h = subst (Each (Stands all q)) (sym (f ds)) h
  one_stands i line ds e (one d at its f) h =
      subst (Each (Stands all q)) (sym (f ds)) ((record { line = line; there = ap (slice_get all) at ∙ e; its = its }), h)

  and_none : (i : ℕ) → i ≡ i + 0
  and_none i = omega arith

  none_and : (j : ℕ) → 0 + j ≡ j
  none_and j = omega arith

  and_next : (i j : ℕ) → suc i + j ≡ i + suc j
  and_next i j = omega arith

  each_stands : (lines : List Line) (i : ℕ) (ds : List Loop) → ((j : ℕ) → slice_get all (i + j) ≡ slice_get lines j) → Each (Stands all q) ds
      → Each (Stands all q) (loops_from all q i lines ds)
  each_stands [] i ds same h = h
  each_stands (line ∷ lines) i ds same h =
      each_stands lines (suc i) (loop_of all q i line.stmt ds) (λ j. ap (slice_get all) (and_next i j) ∙ same (suc j))
      (one_stands i line ds (ap (slice_get all) (and_none i) ∙ same 0) (found all q i line.stmt) h)

  pub all_stand : Each (Stands all q) (loops_from all q 0 all [])
  all_stand = each_stands all 0 [] (λ j. ap (slice_get all) (none_and j)) tt

  -- ---- each DO is found

  pub record Cut (at : ℕ) (ds : List Loop) : Type 0 where
    pub before : List Loop
    pub own : Loop
    pub rest : List Loop
    pub is : ds ≡ before ++ own ∷ rest
    pub at_is : own.at ≡ at

  cut_kept : (at i : ℕ) (s : Stmt) (ds : List Loop) → Found all q i s → Cut at ds → Cut at (loop_of all q i s ds)
  cut_kept at i s ds (none f never) c = record { before = c.before; own = c.own; rest = c.rest; is = f ds ∙ c.is; at_is = c.at_is }
  cut_kept at i s ds (one d same its f) c = record { before = d ∷ c.before; own = c.own; rest = c.rest; is = f ds ∙ ap (λ es. d ∷ es) c.is; at_is = c.at_is }

  cut_on : (lines : List Line) (at i : ℕ) (ds : List Loop) → Cut at ds → Cut at (loops_from all q i lines ds)
  cut_on [] at i ds c = c
  cut_on (line ∷ lines) at i ds c = cut_on lines at (suc i) (loop_of all q i line.stmt ds) (cut_kept at i line.stmt ds (found all q i line.stmt) c)

  cut_first : (i : ℕ) (s : Stmt) (ds : List Loop) → last_of all s ≡ Some q → Found all q i s → Cut (i + 0) (loop_of all q i s ds)
  cut_first i s ds e (none f never) = absurd (never e)
  cut_first i s ds e (one d at its f) = record { before = []; own = d; rest = ds; is = f ds; at_is = at ∙ and_none i }

  cut_from : (lines : List Line) (i j : ℕ) (line : Line) (ds : List Loop) → slice_get lines j ≡ Some line → last_of all line.stmt ≡ Some q
      → Cut (i + j) (loops_from all q i lines ds)
  cut_from [] i j line ds e f = absurd (cc)
  cut_from (l ∷ lines) i zero line ds e f =
      let same : l ≡ line = cc in
      cut_on lines (i + 0) (suc i) (loop_of all q i l.stmt ds) (cut_first i l.stmt ds (ap (λ (x : Line). last_of all x.stmt) same ∙ f) (found all q i l.stmt))
  cut_from (l ∷ lines) i (suc j) line ds e f =
      subst (λ at. Cut at (loops_from all q (suc i) lines (loop_of all q i l.stmt ds))) (and_next i j)
      (cut_from lines (suc i) j line (loop_of all q i l.stmt ds) e f)

  pub cut_at : (at : ℕ) (line : Line) → slice_get all at ≡ Some line → last_of all line.stmt ≡ Some q → Cut at (loops_from all q 0 all [])
  cut_at at line e f = subst (λ n. Cut n (loops_from all q 0 all [])) (none_and at) (cut_from all 0 at line [] e f)
