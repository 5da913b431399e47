-- The start of a run: what is refused, and where the start entities have their cells.
use Rattle.std.specs.Prelude.{ℕ, zero, suc, ◌+◌, ◌*◌, ◌==◌, Bool, true, false, cond, not, ◌&&◌, nat_le, nat_lt, max, ℤ, pos, int_le, List, [], ◌∷◌, ◌++◌, map, length, sum, replicate, Option, Some, None, slice_get}
use Rattle.std.specs.List.{list_all}
use Rattle.formula.specs.Atoms.{same_bytes, is_among, has_twin}
use Rattle.formula.specs.Values.{is_between}
use Rattle.formula.specs.declared.value.Cell.{Cell}
use Rattle.formula.specs.declared.value.Cell.TheVariants.{Int, Logical, Undefined}
use Rattle.fort_syntax.specs.Names.{commons, data_name, dims_of, first_unit}
use Rattle.fort_syntax.specs.declared.dialect.Sort.{Sort}
use Rattle.fort_syntax.specs.declared.dialect.Sort.TheVariants as sort
use Rattle.fort_syntax.specs.declared.name.Name.{Name}
use Rattle.fort_syntax.specs.declared.stmt.Dim.{Dim}
use Rattle.fort_syntax.specs.declared.stmt.Dim.TheVariants.{Fixed, Named}
use Rattle.fort_syntax.specs.declared.unit.DataName.{DataName}
use Rattle.fort_syntax.specs.declared.unit.Unit.{Unit as Routine}
use Rattle.fort_notes.specs.declared.cases.Given.{Given}
use Rattle.fort_notes.specs.declared.cases.Passing.{Passing}
use Rattle.fort_notes.specs.declared.cases.Passing.TheVariants.{Reference, Copy, Listed}
use Rattle.fort_notes.specs.declared.cases.Site.{Site}
use Rattle.fort_model.specs.Calls.{CallSite}
use Rattle.fort_model.specs.CallFacts.{sites_of_unit}
use Rattle.fort_model.specs.Cells.{num}
use Rattle.fort_model.specs.Places.{size_of}
use Rattle.fort_model.specs.Run.{own_sizes}
use Rattle.fort_model.specs.Storage.{Storage, Environment, with_extents, side_by_side}
use Rattle.fort_model.specs.declared.bounds.Bounds.{Bounds}

-- the number of the first unit with a name
abbrev pub unit_named : List Routine → Name → Option ℕ
unit_named units x = first_unit (λ u. same_bytes u.name x) units 0

-- the start entities: dummies, then COMMON entities; the value of a FUNCTION is none
abbrev pub entities : Routine → List Name
entities u = u.dummies ++ commons u

-- what a name was given
abbrev pub given_to : List Given → Name → Option Given
given_to [] x = None
given_to (g ∷ gs) x = cond (same_bytes g.name x) (Some g) (given_to gs x)

-- the cells that were given
abbrev pub cells_given : Option Given → List Cell
cells_given None = []
cells_given (Some g) = g.cells

-- ---- 1: names that are none

-- an argument of a call, counted from 1
abbrev pub has_place : Option CallSite → ℕ → Bool
has_place None k = false
has_place (Some s) k = nat_le 1 k && nat_le k (length s.actuals)

-- the site of a number, from 1
abbrev pub call_in : Routine → ℕ → Option CallSite
call_in u zero = None
call_in u (suc k) = slice_get (sites_of_unit u) k

-- a site is that of an argument of a call in a unit
abbrev pub is_site_of : Option Routine → Site → Bool
is_site_of None s = false
is_site_of (Some u) s = has_place (call_in u s.call) s.place

-- so in the unit of a number
abbrev pub is_site_in : List Routine → Option ℕ → Site → Bool
is_site_in units None s = false
is_site_in units (Some i) s = is_site_of (slice_get units i) s

-- all listed sites are such
abbrev pub are_sites : List Routine → Passing → Bool
are_sites units Reference = true
are_sites units Copy = true
are_sites units (Listed sites) = list_all (λ s. is_site_in units (unit_named units s.unit) s) sites

-- the names that are given
abbrev pub names_given : List Given → List Name
names_given start = map (λ g. g.name) start

-- no name is given twice, and each is a start entity
abbrev pub are_names : Routine → List Given → Bool
are_names u start = not (has_twin (names_given start)) && list_all (λ x. is_among x (entities u)) (names_given start)

-- there is no such unit, or a name or a site is none
abbrev pub is_unknown_in : List Routine → Passing → Option Routine → List Given → Bool
is_unknown_in units passing None start = true
is_unknown_in units passing (Some u) start = not (are_names u start && are_sites units passing)

-- ---- 2: shapes

-- the number in the first of some cells
abbrev pub first_num : List Cell → ℤ
first_num [] = pos 0
first_num (c ∷ cs) = num c

-- a dimension at the start
abbrev pub dim_at_start : List Given → Dim → ℤ
dim_at_start start (Fixed n) = pos n
dim_at_start start (Named x) = first_num (cells_given (given_to start x))

-- how many cells a name has at the start
abbrev pub size_at_start : Routine → List Given → Name → ℕ
size_at_start u start x = size_of (map (dim_at_start start) (dims_of u x))

-- a cell holds nothing of the other type
abbrev pub is_of_sort : Sort → Cell → Bool
is_of_sort sort.Integer (Logical b) = false
is_of_sort sort.Logical (Int n) = false
is_of_sort s c = true

-- so all cells of a data name
abbrev pub are_of_sort : Option DataName → List Cell → Bool
are_of_sort None cs = true
are_of_sort (Some d) cs = list_all (is_of_sort d.sort) cs

-- an adjustable dimension must be given, and be 1 at least, even where its array is not given
abbrev pub is_good_dim : List Given → Dim → Bool
is_good_dim start (Fixed n) = true
is_good_dim start (Named x) = int_le (pos 1) (dim_at_start start (Named x))

-- cells that are given to a name of this type are as many as these, and of its type
abbrev pub fits_cells : Option DataName → ℕ → Option Given → Bool
fits_cells d size None = true
fits_cells d size (Some g) = (length g.cells == size) && are_of_sort d g.cells

-- a start entity is in shape: its adjustable dimensions are good, and what is given fits
abbrev pub is_in_shape : Routine → List Given → Name → Bool
is_in_shape u start x = list_all (is_good_dim start) (dims_of u x) && fits_cells (data_name u x)
    (size_at_start u start x) (given_to start x)

-- some start entity is not
abbrev pub has_bad_shape : Routine → List Given → Bool
has_bad_shape u start = not (list_all (is_in_shape u start) (entities u))

-- ---- 3: ranges

-- a number is one of the processor
abbrev pub is_in_range : Bounds → Cell → Bool
is_in_range b (Int n) = is_between b.least b.greatest n
is_in_range b c = true

-- so all that a name was given
abbrev pub is_given_in_range : Bounds → Option Given → Bool
is_given_in_range b None = true
is_given_in_range b (Some g) = list_all (is_in_range b) g.cells

-- so all that is given
abbrev pub all_in_range : Bounds → List Given → Bool
all_in_range b start = list_all (λ g. list_all (is_in_range b) g.cells) start

-- some number is none of the processor
abbrev pub is_out_of_range : Bounds → List Given → Bool
is_out_of_range b start = not (all_in_range b start)

-- ---- 4: how many cells

-- the greatest of some numbers, at least 1
abbrev pub greatest_of : List ℕ → ℕ
greatest_of [] = 1
greatest_of (n ∷ ns) = max n (greatest_of ns)

-- no name has cells
abbrev pub nowhere_at_all : Environment
nowhere_at_all x = record { first = 0; size = 0 }

-- how many cells each own name of a unit has; their dimensions are constants
abbrev pub own_cells : Routine → List ℕ
own_cells u = own_sizes u nowhere_at_all []

-- the greatest number of cells of an own name of some units, at least 1
abbrev pub longest_own : List Routine → ℕ
longest_own [] = 1
longest_own (u ∷ us) = max (greatest_of (own_cells u)) (longest_own us)

-- the length of the longest array, at least 1; so scalars, which have one cell, don't count
abbrev pub longest : List Routine → Routine → List Given → ℕ
longest units u start = max (greatest_of (map (size_at_start u start) (entities u))) (longest_own units)

-- for each unit its own cells, and its dummies times the greatest length
abbrev pub needs_of : ℕ → List Routine → ℕ
needs_of most [] = 0
needs_of most (u ∷ us) = sum (own_cells u) + length u.dummies * most + needs_of most us

-- start cells, and for each unit its own and the number of its dummies times the greatest length
abbrev pub cells_wanted : List Routine → Routine → List Given → ℕ
cells_wanted units u start = sum (map (size_at_start u start) (entities u)) + needs_of (longest units u start) units

-- these are more than 4,000,000
abbrev pub wants_too_many : List Routine → Routine → List Given → Bool
wants_too_many units u start = nat_lt 4000000 (cells_wanted units u start)

-- ---- the start

-- the cells of a name: what it was given, or undefined ones
abbrev pub cells_or : ℕ → Option Given → List Cell
cells_or size None = replicate size Undefined
cells_or size (Some g) = g.cells

-- the cells of names, side by side
abbrev pub contents_of : Routine → List Given → List Name → Storage
contents_of u start [] = []
contents_of u start (x ∷ xs) = cells_or (size_at_start u start x) (given_to start x) ++ contents_of u start xs

-- each start entity has cells of its own, side by side; a name that is not given is undefined
abbrev pub start_storage : Routine → List Given → Storage
start_storage u start = contents_of u start (entities u)

-- where the start entities have their cells
abbrev pub start_environment : Routine → List Given → Environment
start_environment u start = with_extents (entities u) (side_by_side (map (size_at_start u start) (entities u)) 0) nowhere_at_all
