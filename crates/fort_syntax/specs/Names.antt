-- What names mean in a unit, and which unit a call is of.
use Rattle.std.specs.Prelude.{ℕ, suc, Bool, true, false, cond, not, ◌&&◌, List, [], ◌∷◌, ◌++◌, map, Option, Some, None, is_some, slice_get, codes}
use Rattle.std.specs.List.{filter}
use Rattle.formula.specs.Atoms.{same_bytes}
use Rattle.fort_syntax.specs.declared.name.Name.{Name}
use Rattle.fort_syntax.specs.declared.dialect.Sort.{Sort}
use Rattle.fort_syntax.specs.declared.stmt.Dim.{Dim}
use Rattle.fort_syntax.specs.declared.stmt.Group.{Group}
use Rattle.fort_syntax.specs.declared.unit.DataName.{DataName}
use Rattle.fort_syntax.specs.declared.unit.Role.{Role}
use Rattle.fort_syntax.specs.declared.unit.Role.TheVariants.{Dummy, InCommon, OwnValue, Local}
use Rattle.fort_syntax.specs.declared.unit.Unit.{Unit as Routine}

-- the first data name in a list with this name
abbrev pub data_name_in : List DataName → Name → Option DataName
data_name_in [] x = None
data_name_in (d ∷ ds) x = cond (same_bytes d.name x) (Some d) (data_name_in ds x)

-- the data name of a unit with this name: its type, its dimensions and its role
abbrev pub data_name : Routine → Name → Option DataName
data_name u x = data_name_in u.names x

abbrev pub dims_of_data : Option DataName → List Dim
dims_of_data None = []
dims_of_data (Some d) = d.dims

-- the dimensions of a name in a unit: none where it is a scalar, or no data name at all
abbrev pub dims_of : Routine → Name → List Dim
dims_of u x = dims_of_data (data_name u x)

-- the type of a data name, or else another one
abbrev pub sort_or : Option DataName → Option Sort → Option Sort
sort_or None other = other
sort_or (Some d) other = Some d.sort

-- locals, and the value of a FUNCTION, get new cells at each entry; the other data names have the cells of the caller
abbrev pub is_own : Role → Bool
is_own Dummy = false
is_own InCommon = false
is_own OwnValue = true
is_own Local = true

-- the data names that get new cells at each entry, in order
abbrev pub own_in : List DataName → List DataName
own_in [] = []
own_in (d ∷ ds) =
    let rest = own_in ds in
    cond (is_own d.role) (d ∷ rest) rest

abbrev pub own_names : Routine → List DataName
own_names u = own_in u.names

-- the intrinsic functions
pub data Intrinsic : Type 0 where
  Absolute Modulo Greatest Least : Intrinsic

abbrev pub intrinsic : Name → Option Intrinsic
intrinsic f =
    cond (same_bytes f (codes "IABS")) (Some Absolute)
    (cond (same_bytes f (codes "MOD")) (Some Modulo)
    (cond (same_bytes f (codes "MAX0")) (Some Greatest)
    (cond (same_bytes f (codes "MIN0")) (Some Least) None)))

-- what a name before a bracket is in an expression
pub data Applied : Type 0 where
  Element : List Dim → Applied
  BuiltIn : Intrinsic → Applied
  Reference : Applied

abbrev pub applied_by : List Dim → Option Intrinsic → Applied
applied_by (d ∷ ds) i = Element (d ∷ ds)
applied_by [] (Some i) = BuiltIn i
applied_by [] None = Reference

-- an array of the unit, whatever its name; else an intrinsic function; else a FUNCTION of the deck
abbrev pub applied : Routine → Name → Applied
applied u f = applied_by (dims_of u f) (intrinsic f)

-- the number, from 0, of the first unit of a kind in a list whose first has the number i
abbrev pub first_unit : (Routine → Bool) → List Routine → ℕ → Option ℕ
first_unit is [] i = None
first_unit is (u ∷ us) i = cond (is u) (Some i) (first_unit is us (suc i))

abbrev pub is_function : Routine → Bool
is_function u = is_some u.sort

-- the unit that a CALL of a name is of: the first SUBROUTINE with that name
abbrev pub subroutine : List Routine → Name → Option ℕ
subroutine units f = first_unit (λ u. not (is_function u) && same_bytes u.name f) units 0

-- the unit that a reference to a name is of: the first FUNCTION with that name
abbrev pub function : List Routine → Name → Option ℕ
function units f = first_unit (λ u. is_function u && same_bytes u.name f) units 0

abbrev pub unit_at : List Routine → Option ℕ → Option Routine
unit_at units None = None
unit_at units (Some i) = slice_get units i

-- ---- the names of a unit by their roles

abbrev pub is_in_common : Role → Bool
is_in_common Dummy = false
is_in_common InCommon = true
is_in_common OwnValue = false
is_in_common Local = false

abbrev pub is_own_value : Role → Bool
is_own_value Dummy = false
is_own_value InCommon = false
is_own_value OwnValue = true
is_own_value Local = false

abbrev pub is_local : Role → Bool
is_local Dummy = false
is_local InCommon = false
is_local OwnValue = false
is_local Local = true

abbrev pub has_role : (Role → Bool) → Option DataName → Bool
has_role is None = false
has_role is (Some d) = is d.role

-- a unit has a name as a COMMON entity
abbrev pub has_common : Routine → Name → Bool
has_common u x = has_role is_in_common (data_name u x)

abbrev pub items_of : List Group → List Name
items_of [] = []
items_of (g ∷ gs) = map (λ item. item.name) g.items ++ items_of gs

-- the COMMON entities of a unit, in the order of declaration
abbrev pub commons : Routine → List Name
commons u = items_of u.blocks

-- the names of a unit with such a role, in the order of first appearance
abbrev pub names_with : (Role → Bool) → Routine → List Name
names_with is u = map (λ d. d.name) (filter (λ d. is d.role) u.names)
