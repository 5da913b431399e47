-- Notes that fit their units.
use Rattle.std.specs.Prelude.{◌≡◌, ◌<◌, ℕ, Bool, true, false, not, ◌&&◌, ◌||◌, List, length, Some, slice_get, IsTrue}
use Rattle.std.specs.List.{list_all}
use Rattle.fort_syntax.specs.Names.{data_name, is_own, has_role, is_local}
use Rattle.formula.specs.Substitution.{is_bound}
use Rattle.formula.specs.TermTests.{names_pass}
use Rattle.formula.specs.Tree.{Tree}
use Rattle.fort_syntax.specs.declared.unit.Role.{Role}
use Rattle.fort_syntax.specs.declared.unit.Unit.{Unit as Routine}
use Rattle.fort_model.specs.Lists.{IsAmong}
use Rattle.fort_notes.specs.Assertions.{Notes, Assertion}
use Rattle.fort_model.specs.Program.{Program, assertion_at}

-- a bound, or a name of the unit with such a role
abbrev pub may_name : Routine → (Role → Bool) → List ℕ → Bool
may_name u is x = is_bound x || has_role is (data_name u x)

abbrev pub is_visible_role : Role → Bool
is_visible_role role = not (is_own role)

abbrev pub any_role : Role → Bool
any_role role = true

-- the entry value of a dummy or a COMMON entity
abbrev pub has_entry : Routine → List ℕ → Bool
has_entry u x = not (is_bound x) && has_role is_visible_role (data_name u x)

abbrev pub no_entry : List ℕ → Bool
no_entry x = false

abbrev pub terms_fit : Routine → (Role → Bool) → (List ℕ → Bool) → List Tree → Type 0
terms_fit u is entry ts = IsTrue (list_all (names_pass (may_name u is) entry) ts)

-- an ASSERT names any data name, stands at a statement, and is the only one there
pub record FitsAssertion (u : Routine) (notes : Notes) (a : Assertion) : Type 0 where
  pub terms : terms_fit u any_role (has_entry u) a.terms
  pub clock : terms_fit u any_role (has_entry u) a.clock
  pub stands : a.point < length u.lines
  pub only : assertion_at notes a.point ≡ Some a

-- INPUT names dummies and COMMON entities, OUTPUT a FUNCTION's own name too; entry values stand in OUTPUT and ASSERT
pub record FitsUnit (u : Routine) (notes : Notes) : Type 0 where
  pub input : terms_fit u is_visible_role no_entry notes.input
  pub output : terms_fit u (λ role. not (is_local role)) (has_entry u) notes.output
  pub asserts : (a : Assertion) → IsAmong a notes.asserts → FitsAssertion u notes a

-- each unit has notes, and they fit it
pub record HasFittingNotes (p : Program) : Type 0 where
  pub count : length p.notes ≡ length p.units
  pub fits : (i : ℕ) (u : Routine) (notes : Notes) → slice_get p.units i ≡ Some u → slice_get p.notes i ≡ Some notes
      → FitsUnit u notes
