-- What a walk takes of the types of names is true where names stand for cells that hold things of their types.
use Rattle.std.proofs.Common.{◌≡◌, ℕ, suc, ◌+◌, ◌*◌, ◌≤◌, Bool, true, ℤ, pos, ◌*ℤ◌, List, [], ◌∷◌, length, Option, Some, None, refl, sym, ap, ◌∙◌, subst, arith, rules}
use Rattle.std.proofs.Math.IntN.{pos-*ℤ-pos}
use Rattle.std.specs.List.{list_all}
use Rattle.std.specs.Ordering.{int_eq}
use Rattle.std.specs.Prelude.{option_map}
use Rattle.fort_syntax.specs.Names.{data_name}
use Rattle.formula.specs.declared.value.Cell.{Cell}
use Rattle.formula.specs.declared.value.Cell.TheVariants as cell
use Rattle.formula.specs.declared.value.Value.{Value}
use Rattle.formula.specs.declared.value.Value.TheVariants.{Int, Cells}
use Rattle.formula.specs.Values as value
use Rattle.formula.specs.Values.{holds, of_cell, is_integer_cell, is_logical_cell, are_cells, is_cell}
use Rattle.formula.specs.Worth.{Function}
use Rattle.fort_syntax.specs.declared.name.Name.{Name}
use Rattle.fort_syntax.specs.declared.dialect.Sort.{Sort}
use Rattle.fort_syntax.specs.declared.dialect.Sort.TheVariants.{Integer, Logical}
use Rattle.fort_syntax.specs.declared.stmt.Dim.{Dim}
use Rattle.fort_syntax.specs.declared.stmt.Dim.TheVariants.{Fixed, Named as Adjustable}
use Rattle.fort_syntax.specs.declared.unit.DataName.{DataName}
use Rattle.fort_syntax.specs.declared.unit.Unit.{Unit as Routine}
use Rattle.fort_model.specs.Correct.{held_in}
use Rattle.fort_model.specs.Events.{takes}
use Rattle.fort_model.specs.Fits.{has_sort}
use Rattle.fort_model.specs.Lists.{IsAmong}
use Rattle.fort_model.specs.Places as run
use Rattle.fort_model.specs.Places.{dim_values}
use Rattle.fort_model.specs.Processor.{Processor}
use Rattle.fort_model.specs.Seen.{Named as NamedBy}
use Rattle.fort_model.specs.Senses.{of_values}
use Rattle.fort_model.specs.Storage.{Storage, Environment, load, contents}
use Rattle.fort_model.specs.Symbols.{Symbol, LeastInteger, GreatestInteger}
use Rattle.fort_model.specs.WalkPlaces as walk
use Rattle.fort_model.specs.WalkPlaces.{size_if_fixed}
use Rattle.fort_laws.specs.CallLaw.{HoldsName}
use Rattle.fort_laws.specs.Frame.{IsSoundUnit}
use Rattle.fort_laws.specs.Matches.{AllTrue}
use Rattle.fort_laws.proofs.CallEntry.{all_contents}
use Rattle.fort_laws.proofs.CallNames.{data_name_is}
use Rattle.fort_laws.proofs.Small.{both_hold}
use Rattle.fort_laws.proofs.StorageLaws.{length-contents}

int_eq_same : (n : ℕ) → int_eq (pos n) (pos n) ≡ true
int_eq_same n = search rules

as_one : (test : Cell → Bool) (c : Cell) → is_cell test (of_cell c) ≡ test c
as_one test (cell.Int z) = refl
as_one test (cell.Logical b) = refl
as_one test cell.Undefined = refl

module _ (fs : List Function) (values : Symbol → Value) (p : Processor) (least : values LeastInteger ≡ Int p.least) (greatest : values GreatestInteger ≡ Int p.greatest) where
  -- the type of one cell, and of several
  pub cell_sorted : (q : Sort) (c : Cell) → has_sort p q c ≡ true → holds (walk.cell_sort (of_values fs values) q (of_cell c)) ≡ true
  cell_sorted Integer c h = (λ k. is_cell (is_integer_cell (value.num (least k)) (value.num (greatest k))) (of_cell c)) ∙ (as_one (is_integer_cell p.least p.greatest) c ∙ h)
  cell_sorted Logical c h = as_one is_logical_cell c ∙ h

  are_sorted : (test : Cell → Bool) (cs : List Cell) (n : Value) → value.num n ≡ pos (length cs) → list_all test cs ≡ true → are_cells test (value.num n) (Cells cs) ≡ true
  are_sorted test cs n e h = both_hold (int_eq (pos (length cs)) (value.num n)) (list_all test cs) (ap (int_eq (pos (length cs))) e ∙ int_eq_same (length cs)) h

  cells_sorted : (q : Sort) (cs : List Cell) (n : Value) → value.num n ≡ pos (length cs) → list_all (has_sort p q) cs ≡ true → holds (walk.cells_sort (of_values fs values) q n (Cells cs)) ≡ true
  cells_sorted Integer cs n e h = (λ k. are_cells (is_integer_cell (value.num (least k)) (value.num (greatest k))) (value.num n) (Cells cs)) ∙ are_sorted (is_integer_cell p.least p.greatest) cs n e h
  cells_sorted Logical cs n e h = are_sorted is_logical_cell cs n e h

  module _ (units : List Routine) (i : ℕ) (u : Routine) (sound : IsSoundUnit units i u) (env : Environment) (st : Storage) (now : NamedBy Value) where
    -- adjustable dimensions stand for their cells
    abbrev pub DimsStand : List Dim → Type 0
    DimsStand ds = (x : Name) → IsAmong (Adjustable x) ds → now x ≡ of_cell (load st (env x).first)

    dim_is : (d : Dim) (ds : List Dim) → DimsStand (d ∷ ds) → value.num (walk.dim (of_values fs values) now d) ≡ run.dim_value env st d
    dim_is (Fixed n) ds h = refl
    dim_is (Adjustable x) ds h = ap value.num (h x (0, refl))

    later : (d : Dim) (ds : List Dim) → DimsStand (d ∷ ds) → DimsStand ds
    later d ds h x k = h x (suc k.0, k.1)

    stretch_from_is : (ds : List Dim) → DimsStand ds → (q : Value) (z : ℤ) → value.num q ≡ z → value.num (walk.stretch_from (of_values fs values) now q ds) ≡ run.stretch_from z (dim_values env st ds)
    stretch_from_is [] h q z e = e
    stretch_from_is (d ∷ ds) h q z e = stretch_from_is ds (later d ds h) _ _ (λ k. e k *ℤ dim_is d ds h k)

    stretch_is : (ds : List Dim) → DimsStand ds → value.num (walk.stretch (of_values fs values) now ds) ≡ run.stretch (dim_values env st ds)
    stretch_is [] h = refl
    stretch_is (d ∷ ds) h = stretch_from_is ds (later d ds h) _ _ (dim_is d ds h)

    -- constant dimensions
    grouped : (m a k : ℕ) → m * a * k ≡ m * (a * k)
    grouped m a k = grind arith

    fixed_from : (ds : List Dim) (m n : ℕ) → size_if_fixed ds ≡ Some n → run.stretch_from (pos m) (dim_values env st ds) ≡ pos (m * n)
    fixed_from [] m n e = let one : 1 ≡ n = cc in let z : m ≡ m * 1 = grind arith in ap pos (z ∙ ap (λ (y : ℕ). m * y) one)
    fixed_from (Adjustable x ∷ ds) m n e = absurd (cc)
    fixed_from (Fixed a ∷ ds) m n e = by_rest (size_if_fixed ds) refl (λ k q. fixed_from ds (m * a) k q)
      where
        some_is : (k : ℕ) → Some (a * k) ≡ Some n → a * k ≡ n
        some_is k q = cc

        by_rest : (o : Option ℕ) → size_if_fixed ds ≡ o → ((k : ℕ) → size_if_fixed ds ≡ Some k → run.stretch_from (pos (m * a)) (dim_values env st ds) ≡ pos (m * a * k))
            → run.stretch_from (pos m *ℤ pos a) (dim_values env st ds) ≡ pos (m * n)
        by_rest None q rec = let none : option_map (λ (y : ℕ). a * y) None ≡ Some n = ap (option_map (λ (y : ℕ). a * y)) (sym q) ∙ e in absurd (cc)
        by_rest (Some k) q rec =
            let same : a * k ≡ n = some_is k (ap (option_map (λ (y : ℕ). a * y)) (sym q) ∙ e) in
            ap (λ (z : ℤ). run.stretch_from z (dim_values env st ds)) (pos-*ℤ-pos m a) ∙ (rec k q ∙ ap pos (grouped m a k ∙ ap (λ (y : ℕ). m * y) same))

    one_times : (n : ℕ) → 1 * n ≡ n
    one_times n = grind arith

    from_one : (ds : List Dim) → run.stretch_from (pos 1) (dim_values env st ds) ≡ run.stretch (dim_values env st ds)
    from_one [] = refl
    from_one (d ∷ ds) = ap (λ (z : ℤ). run.stretch_from z (dim_values env st ds)) (times_one (run.dim_value env st d))
      where
        times_one : (z : ℤ) → pos 1 *ℤ z ≡ z
        times_one z = search rules

    pub size_is : (ds : List Dim) → DimsStand ds → value.num (walk.size (of_values fs values) now ds) ≡ run.stretch (dim_values env st ds)
    size_is ds h = by_size (size_if_fixed ds) refl
      where
        by_size : (o : Option ℕ) → size_if_fixed ds ≡ o → value.num (walk.size_or (of_values fs values) (size_if_fixed ds) (walk.stretch (of_values fs values) now ds)) ≡ run.stretch (dim_values env st ds)
        by_size None q = ap (λ (o : Option ℕ). value.num (walk.size_or (of_values fs values) o (walk.stretch (of_values fs values) now ds))) q ∙ stretch_is ds h
        by_size (Some n) q =
            ap (λ (o : Option ℕ). value.num (walk.size_or (of_values fs values) o (walk.stretch (of_values fs values) now ds))) q
            ∙ (sym (fixed_from ds 1 n q ∙ ap pos (one_times n)) ∙ from_one ds)

    -- ---- the types of names

    module _ (named : (d : DataName) → IsAmong d u.names → now d.name ≡ held_in d.dims st (env d.name)) (sorted : (d : DataName) → IsAmong d u.names → HoldsName p env st d) (sizes : (d : DataName) → IsAmong d u.names → (1 ≤ (env d.name).size) × (pos (env d.name).size ≡ run.stretch (dim_values env st d.dims))) where
      dims_stand : (d : DataName) → IsAmong d u.names → DimsStand d.dims
      dims_stand d m x k =
          let a = sound.adjustables d x m k in
          subst (λ (z : Name). now z ≡ of_cell (load st (env z).first)) a.has.name
          (subst (λ (ds : List Dim). now a.has.its.name ≡ held_in ds st (env a.has.its.name)) a.is_scalar (named a.has.its a.has.among))

      data_sorted : (d : DataName) → IsAmong d u.names → (ds : List Dim) → d.dims ≡ ds → holds (walk.sort_by (of_values fs values) now ds d.sort (now d.name)) ≡ true
      data_sorted d m [] e =
          let z : (env d.name).first + 0 ≡ (env d.name).first = omega arith in
          ap (λ (v : Value). holds (walk.cell_sort (of_values fs values) d.sort v)) (named d m ∙ ap (λ (bs : List Dim). held_in bs st (env d.name)) e)
          ∙ cell_sorted d.sort (load st (env d.name).first) (ap (λ (k : ℕ). has_sort p d.sort (load st k)) (sym z) ∙ sorted d m 0 (sizes d m).0)
      data_sorted d m (b ∷ bs) e =
          ap (λ (v : Value). holds (walk.cells_sort (of_values fs values) d.sort (walk.size (of_values fs values) now (b ∷ bs)) v)) (named d m ∙ ap (λ (xs : List Dim). held_in xs st (env d.name)) e)
          ∙ cells_sorted d.sort (contents st (env d.name).first (env d.name).size) (walk.size (of_values fs values) now (b ∷ bs))
          (size_is (b ∷ bs) (subst DimsStand e (dims_stand d m))
          ∙ (ap (λ (xs : List Dim). run.stretch (dim_values env st xs)) (sym e) ∙ (sym (sizes d m).1 ∙ ap pos (sym (length-contents st (env d.name).first (env d.name).size)))))
          (all_contents (has_sort p d.sort) st (env d.name).first (env d.name).size (sorted d m))

      sort_true : (x : Name) → holds (walk.sort_of (of_values fs values) u now x) ≡ true
      sort_true x = by_data (data_name u x) refl
        where
          by_data : (o : Option DataName) → data_name u x ≡ o → holds (walk.sort_in (of_values fs values) now x (data_name u x)) ≡ true
          by_data None e = ap (λ (o : Option DataName). holds (walk.sort_in (of_values fs values) now x o)) e
          by_data (Some d) e =
              let k = data_name_is u.names x d e in
              ap (λ (o : Option DataName). holds (walk.sort_in (of_values fs values) now x o)) e
              ∙ subst (λ (z : Name). holds (walk.sort_by (of_values fs values) now d.dims d.sort (now z)) ≡ true) k.1 (data_sorted d k.0 d.dims refl)

      pub sorts_true : (xs : List Name) → AllTrue (takes (walk.sorts (of_values fs values) u now xs))
      sorts_true [] = tt
      sorts_true (x ∷ xs) = (sort_true x, sorts_true xs)
