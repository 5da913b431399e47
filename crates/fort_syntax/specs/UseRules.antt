-- What executable statements may do: rules 18 to 23 on uses of names, types, subscripts and labels, and
-- on the value of a FUNCTION.
use Rattle.std.specs.Prelude.{ℕ, ◌==◌, ◌&&◌, ◌||◌, not, Bool, true, false, List, ◌++◌, length}
use Rattle.std.specs.List.{list_any}
use Rattle.formula.specs.Atoms.{same_bytes, is_among}
use Rattle.fort_syntax.specs.Scopes.{Scope, is_array, is_intrinsic, is_intrinsic_name, takes_so_many}
use Rattle.fort_syntax.specs.Uses.{Use, read, assigned, assigned_element, counted, applied, argument_of, actual, called, Occurrence, uses_of, used_labels}
use Rattle.fort_syntax.specs.Units.{Segment, gathered, executables, own_name, is_function_segment, dummies_of, commons_of, scope_of, data_names, is_called, is_reference}
use Rattle.fort_syntax.specs.TypeRules.{is_well_typed, all_plain_subscripts}
use Rattle.fort_syntax.specs.OrderRules.{Place, is_empty}
use Rattle.fort_syntax.specs.declared.name.Name.{Name}
use Rattle.fort_syntax.specs.declared.dialect.Dialect.{Dialect}
use Rattle.fort_syntax.specs.declared.dialect.Dialect.TheVariants.{Common, SeventySeven}
use Rattle.fort_syntax.specs.declared.unit.Line.{Line}

-- ---- 18

-- the bare name of an array may stand only as an actual of a CALL, or of a function that is not
-- intrinsic; brackets hold as many subscripts as the array has dimensions, and as many arguments as
-- the intrinsic function takes
abbrev pub is_misused : Scope → Name → Use → Bool
is_misused scope x read = is_array scope x
is_misused scope x assigned = is_array scope x
is_misused scope x counted = is_array scope x
is_misused scope x (argument_of f) = is_array scope x && (is_array scope f || is_intrinsic_name f)
is_misused scope x actual = false
is_misused scope x (assigned_element n) = not (is_array scope x && (n == length (scope.dims x)))
is_misused scope x (applied n) =
    (is_array scope x && not (n == length (scope.dims x))) || (is_intrinsic scope x && not (takes_so_many x n))
is_misused scope x called = false

-- a use as a scalar, where the name is no array
abbrev pub is_bare : Use → Bool
is_bare read = true
is_bare assigned = true
is_bare counted = true
is_bare (argument_of f) = true
is_bare actual = true
is_bare (assigned_element n) = false
is_bare (applied n) = false
is_bare called = false

abbrev pub is_bare_use_of : Name → Occurrence → Bool
is_bare_use_of x o = same_bytes o.name x && is_bare o.«use»

abbrev pub is_reference_to : Scope → Name → Occurrence → Bool
is_reference_to scope x o = same_bytes o.name x && is_reference scope o

-- a name is used as a function and as a scalar
abbrev pub is_used_both_ways : Scope → List Occurrence → Name → Bool
is_used_both_ways scope uses x = list_any (is_reference_to scope x) uses && list_any (is_bare_use_of x) uses

-- a dummy or a COMMON entity is used as a function; a CALL names a data name; the own name of a
-- SUBROUTINE is used otherwise than by a CALL
abbrev pub is_use_of_other_kind : Segment → Occurrence → Bool
is_use_of_other_kind unit o =
    (is_reference (scope_of unit) o && (is_among o.name (dummies_of unit) || is_among o.name (commons_of unit)))
    || (is_called o.«use» && is_among o.name (data_names unit))
    || (not (is_called o.«use») && not (is_function_segment unit) && same_bytes o.name (own_name unit))

-- a name of a statement has been used as a function and as a scalar with it, and not before it
abbrev pub is_second_kind_of_use : Place → Occurrence → Bool
is_second_kind_of_use p o =
    is_used_both_ways (scope_of p.unit) (gathered uses_of p.before ++ uses_of p.line.stmt) o.name
    && not (is_used_both_ways (scope_of p.unit) (gathered uses_of p.before) o.name)

-- 18: a name is used as what it is not
abbrev pub breaks_18 : Place → Bool
breaks_18 p =
    list_any (λ o. is_misused (scope_of p.unit) o.name o.«use» || is_use_of_other_kind p.unit o || is_second_kind_of_use p o)
    (uses_of p.line.stmt)

-- ---- 19, 20

-- 19: an operand, a subscript, a side, a condition, a parameter or an argument has the wrong type
abbrev pub breaks_19 : Place → Bool
breaks_19 p = not (is_well_typed (scope_of p.unit) p.line.stmt)

abbrev pub wants_plain_subscripts : Dialect → Bool
wants_plain_subscripts Common = true
wants_plain_subscripts SeventySeven = false

-- 20: without 77, a subscript has none of the plain forms
abbrev pub breaks_20 : Place → Bool
breaks_20 p = wants_plain_subscripts p.dialect && not (all_plain_subscripts (scope_of p.unit) p.line.stmt)

-- ---- 21, 22

-- a statement of some has a label; 0 is none
abbrev pub has_label : ℕ → List Line → Bool
has_label label lines = not (label == 0) && list_any (λ line. line.label == label) lines

-- 21: the label of a statement stands on an earlier one of the unit
abbrev pub breaks_21 : Place → Bool
breaks_21 p = has_label p.line.label p.before

-- 22: a label that the statement names stands on no executable statement of the unit
abbrev pub breaks_22 : Place → Bool
breaks_22 p = list_any (λ label. not (has_label label (executables p.unit))) (used_labels p.line.stmt)

-- ---- 23

abbrev pub is_assigned : Use → Bool
is_assigned assigned = true
is_assigned _ = false

-- a name is the left side of some assignment
abbrev pub assigns : Name → List Occurrence → Bool
assigns x uses = list_any (λ o. same_bytes o.name x && is_assigned o.«use») uses

-- 23: the own name of a FUNCTION is the left side of no assignment in it; its head
abbrev pub breaks_23 : Place → Bool
breaks_23 p = is_empty p.before && is_function_segment p.unit && not (assigns (own_name p.unit) (gathered uses_of p.unit))
