-- The tests of names in notes, by a table of roles.
use Rattle.std.specs.Prelude.{◌≡◌, ℕ, Bool, true, false, cond, not, ◌&&◌, ◌||◌, List, Option, Some, None}
use Rattle.std.specs.Map.{lookup}
use Rattle.formula.specs.Atoms.{same_bytes}
use Rattle.formula.specs.Substitution.{is_bound}
use Rattle.formula.specs.TermTests.{names_pass}
use Rattle.formula.specs.Tree.{Tree}
use Rattle.fort_syntax.specs.Names.{data_name, data_name_in, is_own, is_local}
use Rattle.fort_syntax.specs.declared.unit.DataName.{DataName}
use Rattle.fort_syntax.specs.declared.unit.Role.{Role}
use Rattle.fort_syntax.specs.declared.unit.Unit.{Unit as Routine}
use Rattle.fort_notes.specs.Judging.{any_role}
use Rattle.note_names.specs.declared.name_test.NameTest.{NameTest}
use Rattle.note_names.specs.declared.name_test.NameTest.TheVariants.{NoOld, GoodOld, KnownNames, NoOwn, NoLocal}

-- ---- roles

-- the role that a table of names with roles tells of a name
abbrev pub role_in : List (List ℕ × Role) → List ℕ → Option Role
role_in table x = lookup (same_bytes x) table

-- a table tells that role of a name, and of the others what it told before
abbrev pub Tells : List (List ℕ × Role) → List (List ℕ × Role) → List ℕ → Role → Type 0
Tells old new name role = (x : List ℕ) → role_in new x ≡ cond (same_bytes name x) (Some role) (role_in old x)

abbrev pub role_of_data : Option DataName → Option Role
role_of_data None = None
role_of_data (Some d) = Some d.role

-- the role of a data name of a unit; without a unit there is none
abbrev pub role_of : Option Routine → List ℕ → Option Role
role_of None x = None
role_of (Some u) x = role_of_data (data_name u x)

-- a table tells of each name its role among these
abbrev pub AreRolesIn : List DataName → List (List ℕ × Role) → Type 0
AreRolesIn names table = (x : List ℕ) → role_in table x ≡ role_of_data (data_name_in names x)

-- a table tells of each name its role in the unit
abbrev pub AreRolesOf : Option Routine → List (List ℕ × Role) → Type 0
AreRolesOf u table = (x : List ℕ) → role_in table x ≡ role_of u x

-- ---- tests

abbrev pub role_passes : (Role → Bool) → Option Role → Bool
role_passes is None = false
role_passes is (Some role) = is role

-- a symbol passes a test
abbrev pub now_passes : NameTest → List (List ℕ × Role) → List ℕ → Bool
now_passes NoOld table x = true
now_passes GoodOld table x = true
now_passes KnownNames table x = is_bound x || role_passes any_role (role_in table x)
now_passes NoOwn table x = is_bound x || not (role_passes is_own (role_in table x))
now_passes NoLocal table x = is_bound x || not (role_passes is_local (role_in table x))

-- the entry value of a name passes a test
abbrev pub entry_passes : NameTest → List (List ℕ × Role) → List ℕ → Bool
entry_passes NoOld table x = false
entry_passes GoodOld table x = is_bound x || not (role_passes is_own (role_in table x))
entry_passes KnownNames table x = not (is_bound x) && role_passes any_role (role_in table x)
entry_passes NoOwn table x = true
entry_passes NoLocal table x = true

-- all names in a term pass a test
abbrev pub term_passes : NameTest → List (List ℕ × Role) → Tree → Bool
term_passes test table t = names_pass (now_passes test table) (entry_passes test table) t
