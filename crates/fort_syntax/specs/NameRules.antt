-- What declarations may say: rules 15 to 17, 24 and 25 on names, types, dimensions and blocks.
use Rattle.std.specs.Prelude.{ℕ, ◌*◌, ◌&&◌, ◌||◌, not, nat_lt, Bool, true, false, List, [], ◌∷◌, ◌++◌, map, length, is_none, Option}
use Rattle.std.specs.List.{list_any}
use Rattle.std.specs.Cmp.Lexicographic.{pointwise}
use Rattle.formula.specs.Atoms.{same_bytes, is_among, has_twin}
use Rattle.fort_syntax.specs.Scopes.{Scope, same_option, same_dims, do_meet, kept, is_given_dims, is_integer_scalar}
use Rattle.fort_syntax.specs.Units.{Segment, gathered, own_name, dummies_by, dummies_of, items_by, common_items_by, names_of_items, scope_of, blocks_by, items_of_block, names_in, names_in_dims}
use Rattle.fort_syntax.specs.OrderRules.{Place}
use Rattle.fort_syntax.specs.declared.name.Name.{Name}
use Rattle.fort_syntax.specs.declared.dialect.Dialect.{Dialect}
use Rattle.fort_syntax.specs.declared.dialect.Dialect.TheVariants.{Common, SeventySeven}
use Rattle.fort_syntax.specs.declared.dialect.Sort.{Sort}
use Rattle.fort_syntax.specs.declared.stmt.Dim.{Dim}
use Rattle.fort_syntax.specs.declared.stmt.Dim.TheVariants.{Fixed, Named}
use Rattle.fort_syntax.specs.declared.stmt.Item.{Item}
use Rattle.fort_syntax.specs.declared.stmt.Stmt.{Stmt}
use Rattle.fort_syntax.specs.declared.stmt.Stmt.TheVariants.{Declare}

-- ---- 15

-- the names that a statement types as a Declare does
abbrev pub typed_by : Stmt → List Name
typed_by (Declare sort items) = names_of_items items
typed_by _ = []

-- the names that a statement gives dimensions
abbrev pub dimensioned_by : Stmt → List Name
dimensioned_by s = names_of_items (kept (λ item. is_given_dims item.dims) (items_by s))

abbrev pub commons_by : Stmt → List Name
commons_by s = names_of_items (common_items_by s)

-- a statement does to a name what was done to it before, or does so twice
abbrev pub does_again : (Stmt → List Name) → Place → Bool
does_again give p = has_twin (give p.line.stmt) || do_meet (give p.line.stmt) (gathered give p.before)

-- 15: a dummy is listed twice; a name is typed, dimensioned or put into COMMON the second time; a dummy
-- is put into COMMON; the unit's own name is a dummy, typed, dimensioned or put into COMMON
abbrev pub breaks_15 : Place → Bool
breaks_15 p =
    does_again dummies_by p || does_again typed_by p || does_again dimensioned_by p || does_again commons_by p
    || do_meet (commons_by p.line.stmt) (dummies_of p.unit)
    || is_among (own_name p.unit)
    (dummies_by p.line.stmt ++ typed_by p.line.stmt ++ dimensioned_by p.line.stmt ++ commons_by p.line.stmt)

-- ---- 16

-- 16: a name stands in a statement that has no type in the unit
abbrev pub breaks_16 : Place → Bool
breaks_16 p = list_any (λ x. is_none ((scope_of p.unit).sort x)) (names_in p.line.stmt)

-- ---- 17

abbrev pub most_dims : Dialect → ℕ
most_dims Common = 3
most_dims SeventySeven = 7

abbrev pub is_zero_dim : Dim → Bool
is_zero_dim (Fixed n) = nat_lt n 1
is_zero_dim (Named x) = false

-- the product of the dimensions that are constants
abbrev pub fixed_size : List Dim → ℕ
fixed_size [] = 1
fixed_size (Fixed n ∷ dims) = n * fixed_size dims
fixed_size (Named x ∷ dims) = fixed_size dims

-- too many dimensions, one of 0, or too many elements by the dimensions that are constants
abbrev pub is_bad_shape : Dialect → List Dim → Bool
is_bad_shape dialect dims =
    nat_lt (most_dims dialect) (length dims) || list_any is_zero_dim dims || nat_lt 1000000 (fixed_size dims)

-- 17: more than three dimensions, or seven under 77; one of 0; a product of the constant ones over 1,000,000
abbrev pub breaks_17 : Place → Bool
breaks_17 p = list_any (λ item. is_bad_shape p.dialect item.dims) (items_by p.line.stmt)

-- ---- 24

-- a member of a block: its name, its type and its dimensions
pub record Member : Type 0 where
  pub name : Name
  pub sort : Option Sort
  pub dims : List Dim

abbrev pub same_member : Member → Member → Bool
same_member a b = same_bytes a.name b.name && same_option a.sort b.sort && same_dims a.dims b.dims

abbrev pub same_members : List Member → List Member → Bool
same_members = pointwise same_member

abbrev pub member_of : Scope → Name → Member
member_of scope x = record { name = x; sort = scope.sort x; dims = scope.dims x }

abbrev pub members : Segment → Name → List Member
members unit b = map (member_of (scope_of unit)) (names_of_items (items_of_block unit b))

abbrev pub is_named_dim : Dim → Bool
is_named_dim (Fixed n) = false
is_named_dim (Named x) = true

abbrev pub is_adjustable : List Dim → Bool
is_adjustable dims = list_any is_named_dim dims

-- a unit declares a block with other members
abbrev pub declares_otherwise : Name → List Member → Segment → Bool
declares_otherwise b own unit = is_among b (gathered blocks_by unit) && not (same_members own (members unit b))

-- a block differs from that of an earlier unit, or has a member with an adjustable dimension
abbrev pub is_bad_block_of : Place → Name → Bool
is_bad_block_of p b =
    list_any (declares_otherwise b (members p.unit b)) p.earlier || list_any (λ m. is_adjustable m.dims) (members p.unit b)

-- 24: the first COMMON statement with a block that differs from the one of an earlier unit, in names,
-- types or dimensions, or that has an adjustable dimension
abbrev pub breaks_24 : Place → Bool
breaks_24 p =
    list_any (λ b. not (is_among b (gathered blocks_by p.before)) && is_bad_block_of p b) (blocks_by p.line.stmt)

-- ---- 25

-- a name that may be a dimension: an integer scalar dummy
abbrev pub may_be_dim : Segment → Name → Bool
may_be_dim unit x = is_among x (dummies_of unit) && is_integer_scalar (scope_of unit) x

abbrev pub is_bad_item : Segment → Item → Bool
is_bad_item unit item =
    list_any (λ x. not (is_among item.name (dummies_of unit)) || not (may_be_dim unit x)) (names_in_dims item.dims)

-- 25: a dimension is a name, and the array is no dummy or the name is no integer scalar dummy
abbrev pub breaks_25 : Place → Bool
breaks_25 p = list_any (is_bad_item p.unit) (items_by p.line.stmt)
