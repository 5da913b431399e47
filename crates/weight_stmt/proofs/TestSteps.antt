-- DOs are tested in turn: one step.
use Rattle.std.proofs.Common.{◌≡◌, ℕ, zero, suc, ◌<◌, ◌≤◌, Bool, true, false, cond, List, [], ◌∷◌, length, drop, get_or, slice_get, sym, ap, ◌∙◌, arith}
use Rattle.std.specs.Prelude.{◌==◌}
use Rattle.std.proofs.lemmas.Bool.Decides.{nat_tests}
use Rattle.std.proofs.lemmas.List.{drop_all}
use Rattle.fort_syntax.specs.declared.unit.Line.{Line}
use Rattle.fort_model.specs.Flow.{Loop}
use Rattle.fort_model.specs.Seen.{Named}
use Rattle.fort_model.specs.WalkCalls.{Sight}
use Rattle.fort_model.specs.WalkStmt.{with_name}
use Rattle.loop_tables.specs.Loops.{loops_told, with_line}
use Rattle.weight_caps.specs.declared.loads.Load.{Load}
use Rattle.weight_stmt.specs.Turns.{loop_of, loop_tested, turned}
use Rattle.weight_stmt.specs.declared.parameters.Found.{Found}
use Rattle.weight_tallies.specs.Tallied as t
use Rattle.weight_tallies.specs.Tallies as c

is_one : (c : ℕ) → c ≡ 1 → (c == 1) ≡ true
is_one c e = grind (arith, nat_tests)

is_other : (c : ℕ) → (c ≡ 1 → ⊥) → (c == 1) ≡ false
is_other c e = grind (arith, nat_tests)

drop_next : (xs : List ℕ) (i x d : ℕ) → i < length xs → x ≡ get_or xs i d → drop i xs ≡ x ∷ drop (suc i) xs
drop_next [] i x d h e = absurd (omega arith)
drop_next (y ∷ ys) zero x d h e = ap (λ z. z ∷ ys) (sym e)
drop_next (y ∷ ys) (suc i) x d h e = drop_next ys i x d (omega arith) e

module _ (w : Sight ℕ) (lines : List Line) where
  -- the tests that are left, where so many points and choices are used
  abbrev pub left : Named ℕ → Load → List ℕ → List ℕ → t.Tallied (Named ℕ)
  left now load points cs = c.tests w now (loops_told lines points) cs load

  module _ (start : t.Tallied (Named ℕ)) (now : Named ℕ) (load : Load) (points choices : List ℕ) (i j : ℕ)
      (so_far : left now load (drop i points) (drop j choices) ≡ start) where
    -- no point is left
    pub ended : length points ≤ i → t.tallied now load ≡ start
    ended h = sym (ap (λ ps. left now load ps (drop j choices)) (drop_all i points h)) ∙ so_far

    -- a point without a DO is passed
    pub passed : (at d n : ℕ) → n ≡ suc i → i < length points → at ≡ get_or points i d
        → ((ds : List Loop) → with_line at (slice_get lines at) ds ≡ ds) → left now load (drop n points) (drop j choices) ≡ start
    passed at d n next h read none =
        ap (λ m. left now load (drop m points) (drop j choices)) next
        ∙ (sym (ap (λ ds. c.tests w now ds (drop j choices) load) (none (loops_told lines (drop (suc i) points))))
        ∙ (sym (ap (λ ps. left now load ps (drop j choices)) (drop_next points i at d h read)) ∙ so_far))

    module _ (at d : ℕ) (f : Found) (h : i < length points) (read : at ≡ get_or points i d)
        (there : (ds : List Loop) → with_line at (slice_get lines at) ds ≡ loop_of at f ∷ ds) where
      -- no choice is left
      pub unchosen : length choices ≤ j → t.tallied now load ≡ start
      unchosen k =
          sym (λ m. c.tests w now ((ap (loops_told lines) (drop_next points i at d h read) ∙ there (loops_told lines (drop (suc i) points))) m)
          (drop_all j choices k m) load) ∙ so_far

      module _ (choice e : ℕ) (k : j < length choices) (chosen : choice ≡ get_or choices j e) where
        abbrev by : (b : Bool) → t.Tallied (Named ℕ)
        by b =
            let s = loop_tested w now (loop_of at f) load in
            cond b (t.tallied (with_name now f.variable (t.next s.value)))
            (c.tests w (with_name now f.variable (c.left_with w.program.dialect s.value)) (loops_told lines (drop (suc i) points))
            (drop (suc j) choices)) s.load

        whole : by (choice == 1) ≡ start
        whole =
            sym (λ m. c.tests w now ((ap (loops_told lines) (drop_next points i at d h read) ∙ there (loops_told lines (drop (suc i) points))) m)
            (drop_next choices j choice e k chosen m) load) ∙ so_far

        abbrev weight : Bool → ℕ
        weight b = let s = loop_tested w now (loop_of at f) load in cond b (t.next s.value) (c.left_with w.program.dialect s.value)

        -- a DO goes round again
        pub round : (after : Named ℕ) (new : Load) → after ≡ (turned w now (loop_of at f) choice load).value
            → new ≡ (turned w now (loop_of at f) choice load).load → choice ≡ 1 → t.tallied after new ≡ start
        round after new g l one =
            (λ m. t.tallied (g m) (l m)) ∙ (ap (λ b. t.tallied (with_name now f.variable (weight b)) (loop_tested w now (loop_of at f) load).load)
            (is_one choice one) ∙ (sym (ap by (is_one choice one)) ∙ whole))

        -- a DO is left
        pub on : (after : Named ℕ) (new : Load) (n m : ℕ) → n ≡ suc i → m ≡ suc j → after ≡ (turned w now (loop_of at f) choice load).value
            → new ≡ (turned w now (loop_of at f) choice load).load → (choice ≡ 1 → ⊥)
            → left after new (drop n points) (drop m choices) ≡ start
        on after new n m next one g l other =
            (λ x. left (g x) (l x) (drop (next x) points) (drop (one x) choices))
            ∙ (ap (λ b. left (with_name now f.variable (weight b)) (loop_tested w now (loop_of at f) load).load (drop (suc i) points)
            (drop (suc j) choices)) (is_other choice other) ∙ (sym (ap by (is_other choice other)) ∙ whole))
