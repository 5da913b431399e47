-- Storage, and where the names of a unit have their cells.
use Rattle.std.specs.Prelude.{ℕ, zero, suc, ◌+◌, List, [], ◌∷◌, cond, slice_index_or, slice_set}
use Rattle.formula.specs.Atoms.{same_bytes}
use Rattle.formula.specs.declared.value.Cell.{Cell}
use Rattle.formula.specs.declared.value.Cell.TheVariants.{Undefined}
use Rattle.fort_syntax.specs.declared.name.Name.{Name}

-- storage is a list of cells; they are counted from 0
abbrev pub Storage : Type 0
Storage = List Cell

abbrev pub load : Storage → ℕ → Cell
load st i = slice_index_or st i Undefined

abbrev pub store : Storage → ℕ → Cell → Storage
store st i c = slice_set st i c

-- neighbouring cells: the first, and how many they are
pub record Extent : Type 0 where
  pub first : ℕ
  pub size : ℕ

-- the contents of size cells from a first one on
abbrev pub contents : Storage → ℕ → ℕ → List Cell
contents st i zero = []
contents st i (suc size) = load st i ∷ contents st (suc i) size

-- contents are written to the cells from a first one on
abbrev pub write : List Cell → ℕ → Storage → Storage
write [] i st = st
write (c ∷ cs) i st = write cs (suc i) (store st i c)

-- an environment says which cells a name has; it tells nothing of names without cells
abbrev pub Environment : Type 0
Environment = Name → Extent

-- names get extents in order; every other name keeps what it has
abbrev pub with_extents : List Name → List Extent → Environment → Environment
with_extents [] es env x = env x
with_extents (y ∷ ys) [] env x = env x
with_extents (y ∷ ys) (e ∷ es) env x = cond (same_bytes y x) e (with_extents ys es env x)

-- extents of these sizes side by side, from a first cell on
abbrev pub side_by_side : List ℕ → ℕ → List Extent
side_by_side [] i = []
side_by_side (size ∷ sizes) i = record { first = i; size = size } ∷ side_by_side sizes (i + size)
