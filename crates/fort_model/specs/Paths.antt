-- Cut points, edges, uncut cycles, and the paths of a unit. A path is a start and the choices at each statement that
-- is performed, one list for each.
use Rattle.std.specs.Prelude.{◌≡◌, ◌↔◌, ℕ, zero, suc, List, [], ◌∷◌, Option, Some, None, slice_get}
use Rattle.std.specs.List.{concat}
use Rattle.std.specs.Cmp.Lexicographic.{slice_cmp}
use Rattle.std.specs.Ordering.{nat_cmp}
use Rattle.std.specs.declared.cmp.Ordering.TheVariants.{Less}
use Rattle.fort_syntax.specs.declared.dialect.Dialect.{Dialect}
use Rattle.fort_syntax.specs.declared.unit.Line.{Line}
use Rattle.fort_syntax.specs.declared.unit.Unit.{Unit as Routine}
use Rattle.fort_model.specs.Lists.{IsAmong}
use Rattle.fort_model.specs.Flow.{leads}
use Rattle.fort_notes.specs.Assertions.{Assertion, Notes}
use Rattle.fort_model.specs.Program.{assertion_at}

-- a point is the end of the unit, which a RETURN reaches; or that of a statement with an ASSERT; or no cut point
pub data Cut : Type 0 where
  NoCut AtEnd : Cut
  AtAssert : Assertion → Cut

abbrev pub cut_of : Option Assertion → Cut
cut_of None = NoCut
cut_of (Some a) = AtAssert a

abbrev pub cut_in : Option Line → Option Assertion → Cut
cut_in None a = AtEnd
cut_in (Some line) a = cut_of a

abbrev pub cut_at : Routine → Notes → ℕ → Cut
cut_at u notes pc = cut_in (slice_get u.lines pc) (assertion_at notes pc)

module _ (dialect : Dialect) (u : Routine) where
  -- the statement at a point leads to another point under some choices
  pub record Edge (pc : ℕ) (cs : List ℕ) (q : ℕ) : Type 0 where
    pub line : Line
    pub at : slice_get u.lines pc ≡ Some line
    pub to : leads dialect u pc line.stmt cs ≡ Some q

  module _ (notes : Notes) where
    -- a way from a point to another, on which no statement that is left has an ASSERT
    pub data Uncut : ℕ → ℕ → Type 0 where
      one : {p q : ℕ} (cs : List ℕ) → cut_at u notes p ≡ NoCut → Edge p cs q → Uncut p q
      more : {p q r : ℕ} (cs : List ℕ) → cut_at u notes p ≡ NoCut → Edge p cs q → Uncut q r → Uncut p r

    -- at a cut point a path is over, and elsewhere it goes on
    abbrev pub over_or : Cut → List (List ℕ) → Type 0 → Type 0
    over_or NoCut path on = on
    over_or AtEnd path on = path ≡ []
    over_or (AtAssert a) path on = path ≡ []

    abbrev pub goes_on : Option ℕ → List (List ℕ) → (ℕ → Type 0) → Type 0
    goes_on None path on = ⊥
    goes_on (Some q) path on = over_or (cut_at u notes q) path (on q)

    abbrev pub goes_from : Option Line → ℕ → List ℕ → List (List ℕ) → (ℕ → Type 0) → Type 0
    goes_from None pc cs path on = ⊥
    goes_from (Some line) pc cs path on = goes_on (leads dialect u pc line.stmt cs) path on

    -- choices that lead from the statement at a point to the next cut point
    abbrev pub IsWay : ℕ → List (List ℕ) → Type 0
    IsWay pc [] = ⊥
    IsWay pc (cs ∷ path) = goes_from (slice_get u.lines pc) pc cs path (λ q. IsWay q path)

    -- choices that lead from the entry to the next cut point; the entry may itself be one, and then there are none
    abbrev pub IsWayIn : List (List ℕ) → Type 0
    IsWayIn path = over_or (cut_at u notes 0) path (IsWay 0 path)

-- a start, 0 for the entry and else the number of an ASSERT, counted from 1; and the choices at each statement
pub record Path : Type 0 where
  pub start : ℕ
  pub choices : List (List ℕ)

abbrev pub starts_at : Dialect → Routine → Notes → Option Assertion → List (List ℕ) → Type 0
starts_at dialect u notes None way = ⊥
starts_at dialect u notes (Some a) way = IsWay dialect u notes a.point way

abbrev pub is_path_from : Dialect → Routine → Notes → ℕ → List (List ℕ) → Type 0
is_path_from dialect u notes zero way = IsWayIn dialect u notes way
is_path_from dialect u notes (suc k) way = starts_at dialect u notes (slice_get notes.asserts k) way

abbrev pub IsPath : Dialect → Routine → Notes → Path → Type 0
IsPath dialect u notes path = is_path_from dialect u notes path.start path.choices

-- a path comes before another: by its start, then by its choices in order
abbrev pub comes_before : Path → Path → Type 0
comes_before a b = slice_cmp nat_cmp (a.start ∷ concat a.choices) (b.start ∷ concat b.choices) ≡ Less

abbrev pub ascend_from : Path → List Path → Type 0
ascend_from a [] = Unit {0}
ascend_from a (b ∷ rest) = comes_before a b × ascend_from b rest

abbrev pub Ascend : List Path → Type 0
Ascend [] = Unit {0}
Ascend (a ∷ rest) = ascend_from a rest

-- a list is the paths of a unit in order: it ascends, and holds just the paths
pub record ArePathsInOrder (dialect : Dialect) (u : Routine) (notes : Notes) (paths : List Path) : Type 0 where
  pub ascending : Ascend paths
  pub whole : (path : Path) → IsPath dialect u notes path ↔ IsAmong path paths
