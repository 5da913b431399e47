-- Storage that a unit may be run on: its names lie apart, and their cells have their names' sizes and types.
use Rattle.std.specs.Prelude.{◌≡◌, ◌≢◌, ◌≤◌, ◌<◌, ℕ, ◌+◌, Bool, true, false, pos, int_le, List, length, IsTrue}
use Rattle.std.specs.List.{list_all}
use Rattle.fort_syntax.specs.Names.{is_own}
use Rattle.formula.specs.declared.value.Cell.{Cell}
use Rattle.formula.specs.declared.value.Cell.TheVariants.{Int, Logical, Undefined}
use Rattle.formula.specs.Values.{is_integer_cell, is_logical_cell}
use Rattle.fort_syntax.specs.declared.dialect.Sort.{Sort}
use Rattle.fort_syntax.specs.declared.dialect.Sort.TheVariants as sort
use Rattle.fort_syntax.specs.declared.stmt.Dim.{Dim}
use Rattle.fort_syntax.specs.declared.stmt.Dim.TheVariants.{Fixed, Named}
use Rattle.fort_syntax.specs.declared.unit.DataName.{DataName}
use Rattle.fort_syntax.specs.declared.unit.Unit.{Unit as Routine}
use Rattle.fort_model.specs.Lists.{IsAmong}
use Rattle.fort_model.specs.Places.{dim_values, stretch}
use Rattle.fort_model.specs.Processor.{Processor}
use Rattle.fort_model.specs.Smashes.{Smashes}
use Rattle.fort_model.specs.Storage.{Storage, Environment, Extent, load, contents}

-- a dummy or a COMMON entity of a unit: the names that have cells before it is entered
pub record IsVisible (u : Routine) (d : DataName) : Type 0 where
  pub among : IsAmong d u.names
  pub not_own : is_own d.role ≡ false

-- a cell is one of some neighbouring cells
abbrev pub IsIn : ℕ → Extent → Type 0
IsIn k e = (e.first ≤ k) × (k < e.first + e.size)

-- no cell of a visible name that the unit smashes is a cell of another visible name
abbrev pub IsApart : List Routine → ℕ → Routine → Environment → Type 0
IsApart units i u env =
    (d e : DataName) → IsVisible u d → IsVisible u e → Smashes units i d.name → d.name ≢ e.name
    → (k : ℕ) → IsIn k (env d.name) → IsIn k (env e.name) → ⊥

-- an adjustable dimension is a number of at least 1
abbrev pub is_positive : Cell → Bool
is_positive (Int z) = int_le (pos 1) z
is_positive (Logical b) = false
is_positive Undefined = false

abbrev pub is_good_dim : Environment → Storage → Dim → Bool
is_good_dim env st (Fixed n) = true
is_good_dim env st (Named x) = is_positive (load st (env x).first)

-- the cells of a name lie in the storage, they are as many as its dimensions say, and its adjustable dimensions are numbers
-- of at least 1
pub record HasShape (env : Environment) (st : Storage) (d : DataName) : Type 0 where
  pub within : (env d.name).first + (env d.name).size ≤ length st
  pub size : pos (env d.name).size ≡ stretch (dim_values env st d.dims)
  pub dims : IsTrue (list_all (is_good_dim env st) d.dims)

-- each visible name of a unit has the shape that its dimensions say
abbrev pub HaveShapes : Routine → Environment → Storage → Type 0
HaveShapes u env st = (d : DataName) → IsVisible u d → HasShape env st d

-- a cell is undefined, or has a type, and is in the processor's range
abbrev pub has_sort : Processor → Sort → Cell → Bool
has_sort p sort.Integer c = is_integer_cell p.least p.greatest c
has_sort p sort.Logical c = is_logical_cell c

-- each visible name has its shape, and cells of its type
pub record Fits (p : Processor) (u : Routine) (env : Environment) (st : Storage) : Type 0 where
  pub shapes : HaveShapes u env st
  pub sorts : (d : DataName) → IsVisible u d
      → IsTrue (list_all (has_sort p d.sort) (contents st (env d.name).first (env d.name).size))
