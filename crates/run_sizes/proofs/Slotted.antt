-- The dimensions of names stand where they are said to stand.
use Rattle.std.proofs.Common.{◌≡◌, ℕ, zero, suc, ◌+◌, List, [], ◌∷◌, ◌++◌, drop, take, map, length, get_or, Some, slice_get, refl, sym, ap, ◌∙◌, append_assoc}
use Rattle.fort_syntax.specs.Names.{dims_of}
use Rattle.fort_syntax.specs.declared.name.Name.{Name}
use Rattle.fort_syntax.specs.declared.stmt.Dim.{Dim}
use Rattle.fort_syntax.specs.declared.stmt.Dim.TheVariants as dim
use Rattle.fort_syntax.specs.declared.unit.Unit.{Unit as Routine}
use Rattle.run_shapes.specs.Coded.{HasSlot}
use Rattle.run_shapes.specs.Seen.{dim_of, dims_at, dims_by}
use Rattle.run_shapes.specs.declared.slots.Amount.{Amount}
use Rattle.run_shapes.specs.declared.slots.Shape.{Shape}
use Rattle.run_shapes.specs.declared.slots.Slots.{Slots}
use Rattle.run_coding.proofs.Slots.{named}
use Rattle.run_doing.proofs.Each.{Each, each_at, each_both}
use Rattle.run_doing.proofs.Told.{slot_within}
use Rattle.run_doing.proofs.Tabled.{both_long, drop_first}
use Rattle.run_sizes.specs.Sized.{DimHere, dim_in, shapes_from, sizes_of}

take_first : {X : Type 0} (xs ys : List X) → take (length xs) (xs ++ ys) ≡ xs
take_first [] ys = refl
take_first (x ∷ xs) ys = ap (λ zs. x ∷ zs) (take_first xs ys)

mapped_long : {X Y : Type 0} (f : X → Y) (xs : List X) → length (map f xs) ≡ length xs
mapped_long f [] = refl
mapped_long f (x ∷ xs) = ap suc (mapped_long f xs)

module _ (u : Routine) (slots : Slots) (here : (x : Name) → Each (DimHere slots.names) (dims_of u x)) where
  dim_seen : (d : Dim) → DimHere slots.names d → dim_of slots (dim_in slots.names d) ≡ d
  dim_seen (dim.Fixed n) h = refl
  dim_seen (dim.Named x) h = ap dim.Named (named slots.names x h)

  dims_seen : (ds : List Dim) → Each (DimHere slots.names) ds → map (dim_of slots) (map (dim_in slots.names) ds) ≡ ds
  dims_seen [] h = refl
  dims_seen (d ∷ ds) h = λ i. dim_seen d h.0 i ∷ dims_seen ds h.1 i

  abbrev sized : List Name → List Amount
  sized xs = sizes_of u slots.names xs

  abbrev no_shape : Shape
  no_shape = record { first = 0; rank = 0 }

  -- the dimensions of one of some names, behind others
  stand : (before : List Amount) (first : ℕ) (xs : List Name) (slot : ℕ) (x : Name) → slots.sizes ≡ before ++ sized xs → length before ≡ first
      → slice_get xs slot ≡ Some x → dims_by slots (get_or (shapes_from u first xs) slot no_shape) ≡ dims_of u x
  stand before first [] slot x is long e = absurd (cc)
  stand before first (y ∷ xs) zero x is long e =
      let same : y ≡ x = cc in
      let ds = map (dim_in slots.names) (dims_of u y) in
      let there : drop first slots.sizes ≡ ds ++ sized xs = (λ i. drop (sym long i) (is i)) ∙ drop_first before (ds ++ sized xs) in
      ap (map (dim_of slots)) (ap (take (length (dims_of u y))) there
      ∙ ap (λ n. take n (ds ++ sized xs)) (sym (mapped_long (dim_in slots.names) (dims_of u y)))
      ∙ take_first ds (sized xs))
      ∙ dims_seen (dims_of u y) (here y) ∙ ap (dims_of u) same
  stand before first (y ∷ xs) (suc slot) x is long e =
      let ds = map (dim_in slots.names) (dims_of u y) in
      stand (before ++ ds) (first + length (dims_of u y)) xs slot x (is ∙ sym (append_assoc before ds (sized xs)))
      (both_long before ds ∙ (λ i. long i + mapped_long (dim_in slots.names) (dims_of u y) i)) e

  pub dims_stand : slots.shapes ≡ shapes_from u 0 slots.names → slots.sizes ≡ sizes_of u slots.names slots.names
      → (slot : ℕ) (x : Name) → slice_get slots.names slot ≡ Some x → dims_at slots slot ≡ dims_of u x
  dims_stand shaped is slot x e = ap (λ shapes. dims_by slots (get_or shapes slot no_shape)) shaped ∙ stand [] 0 slots.names slot x is refl e

  dims_fit : (ds : List Dim) → Each (DimHere slots.names) ds → Each (HasSlot (length slots.names)) (map (dim_in slots.names) ds)
  dims_fit [] h = tt
  dims_fit (dim.Fixed n ∷ ds) h = (tt, dims_fit ds h.1)
  dims_fit (dim.Named x ∷ ds) h = (slot_within slots.names x h.0, dims_fit ds h.1)

  sizes_fit : (xs : List Name) → Each (HasSlot (length slots.names)) (sized xs)
  sizes_fit [] = tt
  sizes_fit (x ∷ xs) = each_both (HasSlot (length slots.names)) (map (dim_in slots.names) (dims_of u x)) (sized xs) (dims_fit (dims_of u x) (here x)) (sizes_fit xs)

  pub dims_within : slots.sizes ≡ sizes_of u slots.names slots.names → (i : ℕ) (a : Amount) → slice_get slots.sizes i ≡ Some a → HasSlot (length slots.names) a
  dims_within is i a e = each_at (HasSlot (length slots.names)) (sized slots.names) i a (sizes_fit slots.names) (ap (λ sizes. slice_get sizes i) (sym is) ∙ e)

pub shapes_long : (u : Routine) (first : ℕ) (xs : List Name) → length (shapes_from u first xs) ≡ length xs
shapes_long u first [] = refl
shapes_long u first (x ∷ xs) = ap suc (shapes_long u (first + length (dims_of u x)) xs)
