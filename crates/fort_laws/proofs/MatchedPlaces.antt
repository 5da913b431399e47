-- Names and elements: where named values stand for cells, what a walk reads is what the cells hold.
use Rattle.std.proofs.Common.{◌≡◌, ℕ, zero, suc, ◌+◌, ◌<◌, ◌≤◌, true, ◌&&◌, ℤ, pos, ◌+ℤ◌, ◌-ℤ◌, ◌*ℤ◌, List, [], ◌∷◌, Some, slice_get, refl, sym, ap, ◌∙◌, subst, arith}
use Rattle.std.specs.Prelude.{int_le}
use Rattle.formula.specs.declared.value.Cell.{Cell}
use Rattle.formula.specs.declared.value.Cell.TheVariants as cell
use Rattle.formula.specs.declared.value.Value.{Value}
use Rattle.formula.specs.Values as value
use Rattle.formula.specs.Values.{holds, of_cell, is_between, cell_at, value_or_undefined, count}
use Rattle.formula.specs.Worth.{Function}
use Rattle.fort_syntax.specs.declared.name.Name.{Name}
use Rattle.fort_syntax.specs.declared.condition.Kind.TheVariants.{DefinedCheck, SubscriptCheck}
use Rattle.fort_syntax.specs.declared.dialect.Sort.{Sort}
use Rattle.fort_syntax.specs.declared.dialect.Sort.TheVariants.{Integer, Logical}
use Rattle.fort_syntax.specs.declared.stmt.Dim.{Dim}
use Rattle.fort_syntax.specs.declared.stmt.Dim.TheVariants.{Fixed, Named as Adjustable}
use Rattle.fort_syntax.specs.declared.unit.Unit.{Unit as Routine}
use Rattle.fort_model.specs.Cells.{num, is_defined}
use Rattle.fort_model.specs.Conditions.{sight}
use Rattle.fort_model.specs.Correct.{held_in}
use Rattle.fort_model.specs.Evaluate as run
use Rattle.fort_model.specs.Evaluate.{Scene}
use Rattle.fort_model.specs.Events.{checks}
use Rattle.fort_model.specs.Outcome.{give, check}
use Rattle.fort_model.specs.Places.{dim_value, dim_values, place, place_from, stretch}
use Rattle.fort_model.specs.Processor.{Processor}
use Rattle.fort_model.specs.Program.{Program}
use Rattle.fort_model.specs.Seen.{Named, meet}
use Rattle.fort_model.specs.Senses.{of_values}
use Rattle.fort_model.specs.Storage.{Storage, Environment, load, contents}
use Rattle.fort_model.specs.Symbols.{Symbol}
use Rattle.fort_model.specs.WalkCalls.{Sight}
use Rattle.fort_model.specs.WalkExpr as walk
use Rattle.fort_model.specs.WalkPlaces as places
use Rattle.fort_laws.specs.Matches.{Matches, Same}
use Rattle.fort_laws.specs.Places.{AreWithin}
use Rattle.fort_laws.specs.Standing.{IsOf, IsSort, Of, MayBe, Standing}
use Rattle.fort_laws.specs.Typed.{IsScalar, AreDims}
use Rattle.fort_laws.proofs.Matching.{stays_then, matches_see, matches_check, matches_as, matches_held, followed}
use Rattle.fort_laws.proofs.MatchedExpressions.{and_two}
use Rattle.fort_laws.proofs.PlaceBounds.{LiesIn, one_less}

sorted : (p : Processor) (sort : Sort) (c : Cell) → MayBe p sort c → is_defined c ≡ true → IsSort p sort c
sorted p sort (cell.Int z) h d = h
sorted p sort (cell.Logical b) h d = h
sorted p Integer cell.Undefined h d = absurd (grind arith)
sorted p Logical cell.Undefined h d = absurd (grind arith)

contents_get : (st : Storage) (first size k : ℕ) → k < size → slice_get (contents st first size) k ≡ Some (load st (first + k))
contents_get st first zero k h = absurd (omega arith)
contents_get st first (suc size) zero h = ap (λ (j : ℕ). Some (load st j)) (omega arith)
contents_get st first (suc size) (suc k) h = contents_get st (suc first) size k (omega arith) ∙ ap (λ (j : ℕ). Some (load st j)) (omega arith)

module _ (p : Processor) (u : Routine) (env : Environment) (st : Storage) where
  module _ (now : Named Value) (standing : Standing p u env st now) where
    pub scalar_stands : (sort : Sort) (x : Name) → IsScalar u sort x → now x ≡ of_cell (load st (env x).first)
    scalar_stands sort x h = standing.names x h.data_of h.is ∙ ap (λ (ds : List Dim). held_in ds st (env x)) h.scalar

    pub scalar_sort : (sort : Sort) (x : Name) → IsScalar u sort x → MayBe p sort (load st (env x).first)
    scalar_sort sort x h =
        subst (λ (q : Sort). MayBe p q (load st (env x).first)) h.sort_is
        (subst (λ (j : ℕ). MayBe p h.data_of.sort (load st j)) (omega arith) (standing.sorts x h.data_of h.is 0 (one_cell (env x).size one)))
      where
        one : pos (env x).size ≡ pos 1
        one = standing.sizes x h.data_of h.is ∙ ap (λ (ds : List Dim). stretch (dim_values env st ds)) h.scalar

        one_cell : (n : ℕ) → pos n ≡ pos 1 → 0 < n
        one_cell n e = grind arith

    module _ (fs : List Function) (values : Symbol → Value) (program : Program) (i : ℕ) (s : Scene) where
      abbrev here : Sight Value
      here = sight (of_values fs values) program i u

      -- a cell is read
      pub matches_read : (card j : ℕ) (v : Value) (sort : Sort) → v ≡ of_cell (load st j) → MayBe p sort (load st j) → Matches (Same st (Of p sort)) (walk.read here card v) (run.read card j) st
      matches_read card j v sort e may =
          matches_held (Same st (Of p sort)) _ (λ x. followed (check DefinedCheck card (is_defined (load x j))) (λ _. give (load x j))) st
          (stays_then (λ x y. is_defined (load st j) ≡ true) (Same st (Of p sort)) _ _ _ _ st
          (matches_check DefinedCheck card _ _ st (ap value.is_defined e))
          (λ x y h. matches_see (Same st (Of p sort)) v (load st j) st (refl, (e, sorted p sort (load st j) may h))))

      dim_is : (d : Dim) → AreDims u (d ∷ []) → value.num (places.dim (of_values fs values) now d) ≡ dim_value env st d
      dim_is (Fixed n) h = refl
      dim_is (Adjustable x) h = ap value.num (scalar_stands Integer x h.0)

      dims_split : (d : Dim) (ds : List Dim) → AreDims u (d ∷ ds) → AreDims u (d ∷ []) × AreDims u ds
      dims_split (Fixed n) ds h = (tt, h)
      dims_split (Adjustable x) ds h = ((h.0, tt), h.1)

      -- a value for each cell
      abbrev pub AreOf : List Value → List Cell → Type 0
      AreOf [] [] = Unit {0}
      AreOf [] (c ∷ cs) = ⊥
      AreOf (v ∷ vs) [] = ⊥
      AreOf (v ∷ vs) (c ∷ cs) = IsOf v c × AreOf vs cs

      -- so many subscripts as dimensions
      abbrev pub AreAsMany : List Cell → List Dim → Type 0
      AreAsMany [] [] = Unit {0}
      AreAsMany [] (d ∷ ds) = ⊥
      AreAsMany (c ∷ cs) [] = ⊥
      AreAsMany (c ∷ cs) (d ∷ ds) = AreAsMany cs ds

      pub matches_subscripts : (card : ℕ) (vs : List Value) (cs : List Cell) (ds : List Dim) → AreOf vs cs → AreAsMany cs ds → AreDims u ds
          → Matches (Same st (λ x y. AreWithin (run.numbers cs) (dim_values env st ds))) (meet (checks SubscriptCheck card (places.subscripts_fit (of_values fs values) now vs ds)))
          (run.subscripts_in card (run.numbers cs) (dim_values env st ds)) st
      matches_subscripts card [] [] [] h k l = matches_see (Same st (λ x y. Unit {0})) tt tt st (refl, tt)
      matches_subscripts card [] [] (d ∷ ds) h k l = absurd k
      matches_subscripts card [] (c ∷ cs) ds h k l = absurd h
      matches_subscripts card (v ∷ vs) [] ds h k l = absurd h
      matches_subscripts card (v ∷ vs) (c ∷ cs) [] h k l = absurd k
      matches_subscripts card (v ∷ vs) (c ∷ cs) (d ∷ ds) h k l =
          stays_then (λ x y. is_between (pos 1) (dim_value env st d) (num c) ≡ true) (Same st (λ x y. AreWithin (run.numbers (c ∷ cs)) (dim_values env st (d ∷ ds)))) _ _ _ _ st
          (matches_check SubscriptCheck card _ _ st
          ((λ j. (int_le (pos 1) (value.num (h.0 j)) && (int_le (value.num (h.0 j)) (dim_is d (dims_split d ds l).0 j) && true)))
          ∙ and_two (int_le (pos 1) (num c)) (int_le (num c) (dim_value env st d))))
          (λ x y within.
          matches_as (Same st (λ x y. AreWithin (run.numbers cs) (dim_values env st ds))) (Same st (λ x y. AreWithin (run.numbers (c ∷ cs)) (dim_values env st (d ∷ ds)))) _ _ st
          (λ x y after q. (q.0, (within, q.1)))
          (matches_subscripts card vs cs ds h.1 k (dims_split d ds l).1))

      place_from_is : (vs : List Value) (cs : List Cell) (ds : List Dim) (p q : Value) (z y : ℤ) → AreOf vs cs → AreDims u ds → value.num p ≡ z → value.num q ≡ y
          → value.num (places.place_from (of_values fs values) now p q vs ds) ≡ place_from z y (run.numbers cs) (dim_values env st ds)
      place_from_is [] [] ds p q z y h l e g = e
      place_from_is [] (c ∷ cs) ds p q z y h l e g = absurd h
      place_from_is (v ∷ vs) [] ds p q z y h l e g = absurd h
      place_from_is (v ∷ vs) (c ∷ cs) [] p q z y h l e g = e
      place_from_is (v ∷ vs) (c ∷ cs) (d ∷ ds) p q z y h l e g =
          place_from_is vs cs ds _ _ _ _ h.1 (dims_split d ds l).1 (λ j. e j +ℤ g j *ℤ (value.num (h.0 j) -ℤ pos 1)) (λ j. g j *ℤ dim_is d (dims_split d ds l).0 j)

      pub place_is : (vs : List Value) (cs : List Cell) (ds : List Dim) → AreOf vs cs → AreDims u ds
          → value.num (places.place (of_values fs values) now vs ds) ≡ place (run.numbers cs) (dim_values env st ds)
      place_is [] [] ds h l = refl
      place_is [] (c ∷ cs) ds h l = absurd h
      place_is (v ∷ vs) [] ds h l = absurd h
      place_is (v ∷ vs) (c ∷ cs) [] h l = refl
      place_is (v ∷ vs) (c ∷ cs) (d ∷ ds) h l = place_from_is vs cs ds _ _ _ _ h.1 (dims_split d ds l).1 (ap value.num h.0) (dim_is d (dims_split d ds l).0)

      -- the cell at a place of an array
      pub cell_of_place : (first size : ℕ) (z : ℤ) (stretched : ℤ) → LiesIn z stretched → pos size ≡ stretched
          → value_or_undefined (cell_at (contents st first size) z) ≡ of_cell (load st (first + count (z -ℤ pos 1)))
      cell_of_place first size z stretched h e = go h.at h.place_is h.low h.high
        where
          same_size : (n m : ℕ) → pos n ≡ pos m → n ≡ m
          same_size n m p = ap value.count p

          go : (k : ℕ) → z ≡ pos k → 1 ≤ k → k ≤ h.size → value_or_undefined (cell_at (contents st first size) z) ≡ of_cell (load st (first + count (z -ℤ pos 1)))
          go zero p l m = absurd (omega arith)
          go (suc k) p l m =
              let sizes : size ≡ h.size = same_size size h.size (e ∙ h.stretch_is) in
              ap (λ (x : ℤ). value_or_undefined (cell_at (contents st first size) x)) p
              ∙ ap value_or_undefined (contents_get st first size k (omega arith))
              ∙ ap (λ (x : ℤ). of_cell (load st (first + count x))) (sym (ap (λ (x : ℤ). x -ℤ pos 1) p ∙ one_less k))
