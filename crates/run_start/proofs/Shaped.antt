-- Shapes in numbers of a machine are those of the start.
use Rattle.std.proofs.Common.{◌≡◌, ℕ, zero, suc, ◌*◌, Bool, true, false, cond, not, ◌&&◌, Option, Some, None, List, [], ◌∷◌, ◌++◌, map, refl, sym, ap, ◌∙◌, arith}
use Rattle.std.specs.Prelude.{ℤ, pos, negsuc, ◌*ℤ◌, int_le}
use Rattle.std.specs.List.{list_all}
use Rattle.formula.specs.Values.{count}
use Rattle.fort_syntax.specs.Names.{data_name, dims_of}
use Rattle.fort_syntax.specs.declared.name.Name.{Name}
use Rattle.fort_syntax.specs.declared.stmt.Dim.{Dim}
use Rattle.fort_syntax.specs.declared.stmt.Dim.TheVariants.{Fixed, Named}
use Rattle.fort_syntax.specs.declared.unit.Unit.{Unit as Routine}
use Rattle.fort_notes.specs.declared.cases.Given.{Given}
use Rattle.fort_model.specs.Places.{size_of, stretch, stretch_from}
use Rattle.run_start.specs.Counted.{number, above_zero}
use Rattle.run_start.specs.Shapes.{dim_to, and_sized, sized_from, shape_to, and_shaped, shapes_from}
use Rattle.run_start.specs.Starts.{dim_at_start, entities, fits_cells, given_to, has_bad_shape, is_good_dim, is_in_shape, size_at_start}
use Rattle.run_start.proofs.Numbers.{below, times_number, times_fixed}

-- ---- dimensions

-- what a dimension is, where it is good: a number, and what the machine has of it
record IsDim (start : List Given) (d : Dim) : Type 0 where
  count : ℕ
  value : dim_at_start start d ≡ pos count
  times : (v : ℕ) (rest : Option ℕ → Option (Option ℕ)) → and_sized rest (number v) (dim_to start d) ≡ rest (number (v * count))

data DimIs (start : List Given) (d : Dim) : Type 0 where
  good : is_good_dim start d ≡ true → IsDim start d → DimIs start d
  bad : is_good_dim start d ≡ false → dim_to start d ≡ None → DimIs start d

named : (start : List Given) (x : Name) (z : ℤ) → dim_at_start start (Named x) ≡ z → DimIs start (Named x)
named start x (pos zero) e = bad (ap (int_le (pos 1)) e) (ap above_zero e)
named start x (pos (suc n)) e =
    good (ap (int_le (pos 1)) e ∙ (let t : int_le (pos 1) (pos (suc n)) ≡ true = grind arith in t))
    (record {
      count = suc n;
      value = e;
      times = λ v rest. ap (and_sized rest (number v)) (ap above_zero e) ∙ ap rest (times_number v (suc n) (omega arith));
    })
named start x (negsuc n) e = bad (ap (int_le (pos 1)) e) (ap above_zero e)

dim_is : (start : List Given) (d : Dim) → DimIs start d
dim_is start (Fixed n) = good refl (record { count = n; value = refl; times = λ v rest. ap rest (times_fixed v n) })
dim_is start (Named x) = named start x (dim_at_start start (Named x)) refl

-- ---- sizes

abbrev sized_or : Bool → ℕ → Option (Option ℕ)
sized_or true n = Some (number n)
sized_or false n = None

module _ (start : List Given) where
  sized : (ds : List Dim) (v : ℕ) → sized_from start (number v) ds ≡ sized_or (list_all (is_good_dim start) ds) (count (stretch_from (pos v) (map (dim_at_start start) ds)))
  sized [] v = refl
  sized (d ∷ ds) v = by (dim_is start d) (λ (w : ℕ). sized ds w)
    where
      by : DimIs start d → ((w : ℕ) → sized_from start (number w) ds ≡ sized_or (list_all (is_good_dim start) ds) (count (stretch_from (pos w) (map (dim_at_start start) ds))))
          → sized_from start (number v) (d ∷ ds) ≡ sized_or (is_good_dim start d && list_all (is_good_dim start) ds) (count (stretch_from (pos v *ℤ dim_at_start start d) (map (dim_at_start start) ds)))
      by (good t is) rec =
          is.times v (λ r. sized_from start r ds)
          ∙ (rec (v * is.count)
          ∙ (ap (λ (b : Bool). sized_or (b && list_all (is_good_dim start) ds) (count (stretch_from (pos (v * is.count)) (map (dim_at_start start) ds)))) (sym t)
          ∙ ap (λ (z : ℤ). sized_or (is_good_dim start d && list_all (is_good_dim start) ds) (count (stretch_from (pos v *ℤ z) (map (dim_at_start start) ds)))) (sym is.value)))
      by (bad t is) rec =
          ap (and_sized (λ r. sized_from start r ds) (number v)) is
          ∙ ap (λ (b : Bool). sized_or (b && list_all (is_good_dim start) ds) (count (stretch_from (pos v *ℤ dim_at_start start d) (map (dim_at_start start) ds)))) (sym t)

  one_first : (ds : List ℤ) → stretch_from (pos 1) ds ≡ stretch ds
  one_first [] = refl
  one_first (d ∷ ds) = ap (λ (z : ℤ). stretch_from z ds) (times_one d)
    where
      times_one : (z : ℤ) → pos 1 *ℤ z ≡ z
      times_one z = grind arith

  sized_one : (ds : List Dim) → sized_from start (Some 1) ds ≡ sized_or (list_all (is_good_dim start) ds) (size_of (map (dim_at_start start) ds))
  sized_one ds =
      ap (λ (o : Option ℕ). sized_from start o ds) (sym (below 1 (grind arith)))
      ∙ (sized ds 1 ∙ ap (λ (z : ℤ). sized_or (list_all (is_good_dim start) ds) (count z)) (one_first (map (dim_at_start start) ds)))

-- ---- names

append_none : {X : Type 0} (xs : List X) → xs ++ [] ≡ xs
append_none [] = refl
append_none (x ∷ xs) = ap (λ ys. x ∷ ys) (append_none xs)

append_assoc : {X : Type 0} (xs ys zs : List X) → (xs ++ ys) ++ zs ≡ xs ++ (ys ++ zs)
append_assoc [] ys zs = refl
append_assoc (x ∷ xs) ys zs = ap (λ ws. x ∷ ws) (append_assoc xs ys zs)

pub no_size : (start : List Given) (ds : List Dim) → sized_from start (Some 1) ds ≡ None → list_all (is_good_dim start) ds ≡ false
no_size start ds e = by (list_all (is_good_dim start) ds) refl
  where
    by : (b : Bool) → list_all (is_good_dim start) ds ≡ b → list_all (is_good_dim start) ds ≡ false
    by false t = t
    by true t = let s : None ≡ Some (number (size_of (map (dim_at_start start) ds))) = sym e ∙ (sized_one start ds ∙ ap (λ (b : Bool). sized_or b (size_of (map (dim_at_start start) ds))) t) in absurd (cc)

pub some_size : (start : List Given) (ds : List Dim) (o : Option ℕ) → sized_from start (Some 1) ds ≡ Some o → (list_all (is_good_dim start) ds ≡ true) × (o ≡ number (size_of (map (dim_at_start start) ds)))
some_size start ds o e = by (list_all (is_good_dim start) ds) refl
  where
    by : (b : Bool) → list_all (is_good_dim start) ds ≡ b → (list_all (is_good_dim start) ds ≡ true) × (o ≡ number (size_of (map (dim_at_start start) ds)))
    by true t =
        let s : Some o ≡ Some (number (size_of (map (dim_at_start start) ds))) = sym e ∙ (sized_one start ds ∙ ap (λ (b : Bool). sized_or b (size_of (map (dim_at_start start) ds))) t) in
        (t, (let r : o ≡ number (size_of (map (dim_at_start start) ds)) = cc in r))
    by false t = let s : Some o ≡ None = sym e ∙ (sized_one start ds ∙ ap (λ (b : Bool). sized_or b (size_of (map (dim_at_start start) ds))) t) in absurd (cc)

-- a name of which some dimension is bad is not in shape
pub bad_shape : (u : Routine) (start : List Given) (x : Name) → sized_from start (Some 1) (dims_of u x) ≡ None → None ≡ shape_to u start x
bad_shape u start x e =
    ap (λ (b : Bool). cond (b && fits_cells (data_name u x) (size_at_start u start x) (given_to start x)) (Some (number (size_at_start u start x))) None) (sym (no_size start (dims_of u x) e))

-- a name of which all dimensions are good is in shape where what is given fits
pub good_shape : (u : Routine) (start : List Given) (x : Name) (o : Option ℕ) (fits : Bool) → sized_from start (Some 1) (dims_of u x) ≡ Some o
    → ((n : ℕ) → o ≡ number n → fits ≡ fits_cells (data_name u x) n (given_to start x)) → cond fits (Some o) None ≡ shape_to u start x
good_shape u start x o fits e f =
    let s = some_size start (dims_of u x) o e in
    ap (λ (b : Bool). cond b (Some o) None) (f (size_at_start u start x) s.1)
    ∙ (ap (λ (p : Option ℕ). cond (fits_cells (data_name u x) (size_at_start u start x) (given_to start x)) (Some p) None) s.1
    ∙ ap (λ (b : Bool). cond (b && fits_cells (data_name u x) (size_at_start u start x) (given_to start x)) (Some (number (size_at_start u start x))) None) (sym s.0))

module _ (u : Routine) (start : List Given) where
  abbrev sizes_or : Bool → List (Option ℕ) → List Name → Option (List (Option ℕ))
  sizes_or true os xs = Some (os ++ map (λ x. number (size_at_start u start x)) xs)
  sizes_or false os xs = None

  shapes_are : (xs : List Name) (os : List (Option ℕ)) → shapes_from u start os xs ≡ sizes_or (list_all (is_in_shape u start) xs) os xs
  shapes_are [] os = ap Some (sym (append_none os))
  shapes_are (x ∷ xs) os = by (is_in_shape u start x) (shapes_are xs (os ++ number (size_at_start u start x) ∷ []))
    where
      moved : (b : Bool) → sizes_or b (os ++ number (size_at_start u start x) ∷ []) xs ≡ sizes_or b os (x ∷ xs)
      moved true = ap Some (append_assoc os (number (size_at_start u start x) ∷ []) (map (λ y. number (size_at_start u start y)) xs))
      moved false = refl

      by : (b : Bool) → shapes_from u start (os ++ number (size_at_start u start x) ∷ []) xs ≡ sizes_or (list_all (is_in_shape u start) xs) (os ++ number (size_at_start u start x) ∷ []) xs
          → and_shaped (λ ps. shapes_from u start ps xs) os (cond b (Some (number (size_at_start u start x))) None) ≡ sizes_or (b && list_all (is_in_shape u start) xs) os (x ∷ xs)
      by false rec = refl
      by true rec = rec ∙ moved (list_all (is_in_shape u start) xs)

  -- where all are in shape, these are the sizes
  pub all_shaped : (sizes : List (Option ℕ)) → shapes_from u start [] (entities u) ≡ Some sizes → (has_bad_shape u start ≡ false) × (sizes ≡ map (λ x. number (size_at_start u start x)) (entities u))
  all_shaped sizes e = by (list_all (is_in_shape u start) (entities u)) refl
    where
      by : (b : Bool) → list_all (is_in_shape u start) (entities u) ≡ b → (has_bad_shape u start ≡ false) × (sizes ≡ map (λ x. number (size_at_start u start x)) (entities u))
      by true t = let s : Some sizes ≡ Some (map (λ x. number (size_at_start u start x)) (entities u)) = sym e ∙ (shapes_are (entities u) [] ∙ ap (λ (b : Bool). sizes_or b [] (entities u)) t) in (ap not t, (let r : sizes ≡ map (λ x. number (size_at_start u start x)) (entities u) = cc in r))
      by false t = let s : Some sizes ≡ None = sym e ∙ (shapes_are (entities u) [] ∙ ap (λ (b : Bool). sizes_or b [] (entities u)) t) in absurd (cc)

  pub none_shaped : shapes_from u start [] (entities u) ≡ None → has_bad_shape u start ≡ true
  none_shaped e = by (list_all (is_in_shape u start) (entities u)) refl
    where
      by : (b : Bool) → list_all (is_in_shape u start) (entities u) ≡ b → has_bad_shape u start ≡ true
      by false t = ap not t
      by true t = let s : None ≡ Some (map (λ x. number (size_at_start u start x)) (entities u)) = sym e ∙ (shapes_are (entities u) [] ∙ ap (λ (b : Bool). sizes_or b [] (entities u)) t) in absurd (cc)
