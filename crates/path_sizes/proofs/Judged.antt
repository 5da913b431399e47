-- The limits are judged in one way.
use Rattle.std.proofs.Common.{◌≡◌, ◌⊎◌, ℕ, suc, ◌+◌, ◌<◌, ◌≤◌, Bool, true, false, List, [], ◌∷◌, length, refl, sym, ◌∙◌, subst, inl, inr, arith}
use Rattle.std.specs.Prelude.{nat_le, sum}
use Rattle.std.proofs.lemmas.Bool.Decides.{nat_tests}
use Rattle.fort_syntax.specs.declared.refusal.Fault.{Fault}
use Rattle.fort_syntax.specs.declared.unit.Unit.{Unit as Routine}
use Rattle.fort_model.specs.Conditions.{checks_of, are_all_paths}
use Rattle.fort_model.specs.Paths.{Path, ArePathsInOrder}
use Rattle.fort_model.specs.Program.{Program, notes_of}
use Rattle.fort_laws.proofs.OnePath.{paths_are_one}
use Rattle.path_sizes.specs.Limits.{Sizes, nothing, with_path, with_paths, with_units, FewPaths, FewConditions, IsLight, AreWithin, HasManyPaths, HasManyConditions, IsHeavy, Passes, PassFrom}
use Rattle.path_sizes.specs.Laws.{SizesAreJudged, OneSizeFault}
use Rattle.path_sizes.specs.Weights.{weights_of}
use Rattle.path_sizes.proofs.Ascending.{no_longer}

either : (n m : ℕ) → (n ≤ m) ⊎ (m < n)
either n m = by (nat_le n m) refl
  where
    by : (b : Bool) → nat_le n m ≡ b → (n ≤ m) ⊎ (m < n)
    by true e = let le : n ≤ m = grind (arith, nat_tests) in inl le
    by false e = let lt : m < n = grind (arith, nat_tests) in inr lt

-- sizes are no less than others
record Above (s t : Sizes) : Type 0 where
  paths : s.paths ≤ t.paths
  conditions : s.conditions ≤ t.conditions
  weight : s.weight ≤ t.weight

above_itself : (s : Sizes) → Above s s
above_itself s = record { paths = omega arith; conditions = omega arith; weight = omega arith }

above_through : (s t v : Sizes) → Above s t → Above t v → Above s v
above_through s t v a b =
    let a0 = a.paths in let b0 = b.paths in let a1 = a.conditions in let b1 = b.conditions in let a2 = a.weight in let b2 = b.weight in
    record { paths = omega arith; conditions = omega arith; weight = omega arith }

add_above : (n m : ℕ) → n ≤ n + m
add_above n m = omega arith

suc_above : (n : ℕ) → n ≤ suc n
suc_above n = omega arith

within_below : (s t : Sizes) → Above s t → AreWithin t → AreWithin s
within_below s t a w =
    let a0 = a.paths in let a1 = a.conditions in let a2 = a.weight in
    let w0 = w.0 in let w1 = w.1 in let w2 = w.2 in
    (omega arith, omega arith, omega arith)

module _ (p : Program) where
  path_above : (i : ℕ) (u : Routine) (s : Sizes) (path : Path) → Above s (with_path p i u s path)
  path_above i u s path = record {
    paths = suc_above s.paths;
    conditions = add_above s.conditions (length (checks_of p i u path));
    weight = add_above s.weight (sum (weights_of p i u path));
  }

  paths_above : (i : ℕ) (u : Routine) (s : Sizes) (ps : List Path) → Above s (with_paths p i u s ps)
  paths_above i u s [] = above_itself s
  paths_above i u s (path ∷ ps) = above_through s (with_path p i u s path) (with_paths p i u (with_path p i u s path) ps) (path_above i u s path) (paths_above i u (with_path p i u s path) ps)

  units_above : (us : List Routine) (i : ℕ) (s : Sizes) (pss : List (List Path)) → Above s (with_units p i s us pss)
  units_above [] i s pss = above_itself s
  units_above (u ∷ us) i s [] = above_itself s
  units_above (u ∷ us) i s (ps ∷ pss) =
      above_through s (with_paths p i u s ps) (with_units p (suc i) (with_paths p i u s ps) us pss) (paths_above i u s ps) (units_above us (suc i) (with_paths p i u s ps) pss)

  next_count : (n m : ℕ) → suc n + m ≡ n + suc m
  next_count n m = omega arith

  no_count : (n : ℕ) → n ≡ n + 0
  no_count n = omega arith

  -- the number of paths
  counted : (i : ℕ) (u : Routine) (ps : List Path) (s : Sizes) → (with_paths p i u s ps).paths ≡ s.paths + length ps
  counted i u [] s = no_count s.paths
  counted i u (path ∷ ps) s = counted i u ps (with_path p i u s path) ∙ next_count s.paths (length ps)

  -- ---- a unit

  judged_unit : (i : ℕ) (u : Routine) (before : Sizes) (ps : List Path) → ArePathsInOrder p.dialect u (notes_of p i) ps
      → AreWithin (with_paths p i u before ps) ⊎ ((f : Fault) × Passes p i u before f)
  judged_unit i u before ps h = by (either (with_paths p i u before ps).paths 4096) (either (with_paths p i u before ps).conditions 100000) (either (with_paths p i u before ps).weight 2000000)
    where
      by : (FewPaths (with_paths p i u before ps) ⊎ (4096 < (with_paths p i u before ps).paths)) → (FewConditions (with_paths p i u before ps) ⊎ (100000 < (with_paths p i u before ps).conditions))
          → (IsLight (with_paths p i u before ps) ⊎ (2000000 < (with_paths p i u before ps).weight)) → AreWithin (with_paths p i u before ps) ⊎ ((f : Fault) × Passes p i u before f)
      by (inr many) b c =
          inr (_, inl (refl, (ps, h.ascending, (λ path m. (h.whole path).1 m), subst (λ n. 4096 < n) (counted i u ps before) many)))
      by (inl few) (inr many) c = inr (_, inr (inl (refl, (ps, h, few, many))))
      by (inl few) (inl less) (inr heavy) = inr (_, inr (inr (refl, (ps, h, few, less, heavy))))
      by (inl few) (inl less) (inl light) = inl (few, less, light)

  one_list : (i : ℕ) (u : Routine) (ps qs : List Path) → ArePathsInOrder p.dialect u (notes_of p i) ps → ArePathsInOrder p.dialect u (notes_of p i) qs → ps ≡ qs
  one_list i u ps qs h k = paths_are_one p.dialect u (notes_of p i) ps qs h k

  -- more paths than are left leave the limit behind
  not_few : (i : ℕ) (u : Routine) (before : Sizes) (ps : List Path) → ArePathsInOrder p.dialect u (notes_of p i) ps → HasManyPaths p i u before → FewPaths (with_paths p i u before ps) → ⊥
  not_few i u before ps h m few =
      let short = no_longer ps m.0 m.1 h.ascending (λ x a. (h.whole x).0 (m.2 x a)) in
      let count = counted i u ps before in
      let many = m.3 in
      omega arith

  not_within : (i : ℕ) (u : Routine) (before : Sizes) (f : Fault) (ps : List Path) → ArePathsInOrder p.dialect u (notes_of p i) ps → Passes p i u before f → AreWithin (with_paths p i u before ps) → ⊥
  not_within i u before f ps h (inl m) w = not_few i u before ps h m.1 w.0
  not_within i u before f ps h (inr (inl m)) w =
      let e = one_list i u m.1.0 ps m.1.1 h in
      let many : 100000 < (with_paths p i u before ps).conditions = subst (λ qs. 100000 < (with_paths p i u before qs).conditions) e m.1.3 in
      let few = w.1 in
      omega arith
  not_within i u before f ps h (inr (inr m)) w =
      let e = one_list i u m.1.0 ps m.1.1 h in
      let heavy : 2000000 < (with_paths p i u before ps).weight = subst (λ qs. 2000000 < (with_paths p i u before qs).weight) e m.1.4 in
      let light = w.2 in
      omega arith

  -- a list with few conditions, and one with many
  conditions_differ : (i : ℕ) (u : Routine) (before : Sizes) → HasManyConditions p i u before → IsHeavy p i u before → ⊥
  conditions_differ i u before m g =
      let e = one_list i u m.0 g.0 m.1 g.1 in
      let many : 100000 < (with_paths p i u before g.0).conditions = subst (λ qs. 100000 < (with_paths p i u before qs).conditions) e m.3 in
      let few = g.3 in
      omega arith

  one_pass : (i : ℕ) (u : Routine) (before : Sizes) (f g : Fault) → Passes p i u before f → Passes p i u before g → f ≡ g
  one_pass i u before f g (inl a) (inl b) = a.0 ∙ sym b.0
  one_pass i u before f g (inl a) (inr (inl b)) = absurd (not_few i u before b.1.0 b.1.1 a.1 b.1.2)
  one_pass i u before f g (inl a) (inr (inr b)) = absurd (not_few i u before b.1.0 b.1.1 a.1 b.1.2)
  one_pass i u before f g (inr (inl a)) (inl b) = absurd (not_few i u before a.1.0 a.1.1 b.1 a.1.2)
  one_pass i u before f g (inr (inr a)) (inl b) = absurd (not_few i u before a.1.0 a.1.1 b.1 a.1.2)
  one_pass i u before f g (inr (inl a)) (inr (inl b)) = a.0 ∙ sym b.0
  one_pass i u before f g (inr (inr a)) (inr (inr b)) = a.0 ∙ sym b.0
  one_pass i u before f g (inr (inl a)) (inr (inr b)) = absurd (conditions_differ i u before a.1 b.1)
  one_pass i u before f g (inr (inr a)) (inr (inl b)) = absurd (conditions_differ i u before b.1 a.1)

  -- ---- all units

  judged_from : (us : List Routine) (i : ℕ) (before : Sizes) (pss : List (List Path)) → are_all_paths p i us pss → AreWithin before
      → AreWithin (with_units p i before us pss) ⊎ ((f : Fault) × PassFrom p i before us f)
  judged_from [] i before [] h w = inl w
  judged_from [] i before (ps ∷ pss) h w = absurd h
  judged_from (u ∷ us) i before [] h w = absurd h
  judged_from (u ∷ us) i before (ps ∷ pss) h w = by (judged_unit i u before ps h.0) (λ v. judged_from us (suc i) (with_paths p i u before ps) pss h.1 v)
    where
      on : AreWithin (with_paths p i u before ps) → (AreWithin (with_units p (suc i) (with_paths p i u before ps) us pss) ⊎ ((f : Fault) × PassFrom p (suc i) (with_paths p i u before ps) us f))
          → AreWithin (with_units p i before (u ∷ us) (ps ∷ pss)) ⊎ ((f : Fault) × PassFrom p i before (u ∷ us) f)
      on v (inl x) = inl x
      on v (inr g) = inr (g.0, inr (ps, h.0, v, g.1))

      by : (AreWithin (with_paths p i u before ps) ⊎ ((f : Fault) × Passes p i u before f))
          → (AreWithin (with_paths p i u before ps) → AreWithin (with_units p (suc i) (with_paths p i u before ps) us pss) ⊎ ((f : Fault) × PassFrom p (suc i) (with_paths p i u before ps) us f))
          → AreWithin (with_units p i before (u ∷ us) (ps ∷ pss)) ⊎ ((f : Fault) × PassFrom p i before (u ∷ us) f)
      by (inl v) rec = on v (rec v)
      by (inr g) rec = inr (g.0, inl g.1)

  not_both : (us : List Routine) (i : ℕ) (before : Sizes) (pss : List (List Path)) (f : Fault) → are_all_paths p i us pss → AreWithin (with_units p i before us pss) → PassFrom p i before us f → ⊥
  not_both [] i before pss f h w g = g
  not_both (u ∷ us) i before [] f h w g = h
  not_both (u ∷ us) i before (ps ∷ pss) f h w (inl g) =
      not_within i u before f ps h.0 g (within_below (with_paths p i u before ps) (with_units p (suc i) (with_paths p i u before ps) us pss) (units_above us (suc i) (with_paths p i u before ps) pss) w)
  not_both (u ∷ us) i before (ps ∷ pss) f h w (inr g) =
      not_both us (suc i) (with_paths p i u before ps) pss f h.1 w
      (subst (λ qs. PassFrom p (suc i) (with_paths p i u before qs) us f) (one_list i u g.0 ps g.1 h.0) g.3)

  one_from : (us : List Routine) (i : ℕ) (before : Sizes) (f g : Fault) → PassFrom p i before us f → PassFrom p i before us g → f ≡ g
  one_from [] i before f g a b = absurd a
  one_from (u ∷ us) i before f g (inl a) (inl b) = one_pass i u before f g a b
  one_from (u ∷ us) i before f g (inl a) (inr b) = absurd (not_within i u before f b.0 b.1 a b.2)
  one_from (u ∷ us) i before f g (inr a) (inl b) = absurd (not_within i u before g a.0 a.1 b a.2)
  one_from (u ∷ us) i before f g (inr a) (inr b) =
      one_from us (suc i) (with_paths p i u before b.0) f g
      (subst (λ qs. PassFrom p (suc i) (with_paths p i u before qs) us f) (one_list i u a.0 b.0 a.1 b.1) a.3) b.3

nothing_within : AreWithin nothing
nothing_within = (omega arith, omega arith, omega arith)

pub sizes_are_judged : SizesAreJudged
sizes_are_judged p paths h =
    (judged_from p p.units 0 nothing paths h nothing_within, λ f w g. not_both p p.units 0 nothing paths f h w g)

pub one_size_fault : OneSizeFault
one_size_fault p f g a b = one_from p p.units 0 nothing f g a b
