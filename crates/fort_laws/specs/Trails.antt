-- The points along a path, and paths that their choices tell.
use Rattle.std.specs.Prelude.{◌≡◌, ℕ, List, [], ◌∷◌, ◌++◌, Some, None, slice_get}
use Rattle.std.specs.List.{concat}
use Rattle.fort_syntax.specs.declared.dialect.Dialect.{Dialect}
use Rattle.fort_syntax.specs.declared.stmt.Stmt.{Stmt}
use Rattle.fort_syntax.specs.declared.unit.Unit.{Unit as Routine}
use Rattle.fort_model.specs.Flow.{leads, leads_at}
use Rattle.fort_model.specs.PathPoints.{start_point, points_of}
use Rattle.fort_model.specs.Paths.{Cut, NoCut, AtEnd, AtAssert, cut_at, Path, IsPath}
use Rattle.fort_notes.specs.Assertions.{Notes}

-- from the first of some points choices lead to the next, and so on to the last of them
abbrev pub LeadThrough : Dialect → Routine → List (List ℕ) → List ℕ → Type 0
LeadThrough dialect u path [] = ⊥
LeadThrough dialect u [] (p ∷ ps) = ps ≡ []
LeadThrough dialect u (cs ∷ path) (p ∷ []) = ⊥
LeadThrough dialect u (cs ∷ path) (p ∷ (q ∷ ps)) = (leads_at dialect u p cs ≡ Some q) × LeadThrough dialect u path (q ∷ ps)

abbrev pub IsCut : Cut → Type 0
IsCut NoCut = ⊥
IsCut AtEnd = Unit {0}
IsCut (AtAssert a) = Unit {0}

-- the last of some points is a cut point, and no other is one
abbrev pub StopAtCut : Routine → Notes → List ℕ → Type 0
StopAtCut u notes [] = ⊥
StopAtCut u notes (p ∷ []) = IsCut (cut_at u notes p)
StopAtCut u notes (p ∷ (q ∷ ps)) = (cut_at u notes p ≡ NoCut) × StopAtCut u notes (q ∷ ps)

-- the last of some points is a cut point, and no other is one but maybe the first
abbrev pub GoToCut : Routine → Notes → List ℕ → Type 0
GoToCut u notes [] = ⊥
GoToCut u notes (p ∷ []) = IsCut (cut_at u notes p)
GoToCut u notes (p ∷ (q ∷ ps)) = StopAtCut u notes (q ∷ ps)

-- along a path choices lead through just its points, of which the last is the next cut point
abbrev pub PathsLeadThrough : Type 0
PathsLeadThrough =
    (dialect : Dialect) (u : Routine) (notes : Notes) (path : Path) → IsPath dialect u notes path
    → LeadThrough dialect u path.choices (points_of dialect u notes path)
    × (slice_get (points_of dialect u notes path) 0 ≡ start_point notes path.start)
    × GoToCut u notes (points_of dialect u notes path)
    × ((ps : List ℕ) → LeadThrough dialect u path.choices ps → slice_get ps 0 ≡ start_point notes path.start
    → ps ≡ points_of dialect u notes path)

-- choices under which a statement leads on are no front of others under which it does
abbrev pub ChoicesEnd : Type 0
ChoicesEnd =
    (dialect : Dialect) (u : Routine) (pc : ℕ) (s : Stmt) (cs : List ℕ) (q x : ℕ) (more : List ℕ)
    → leads dialect u pc s cs ≡ Some q → leads dialect u pc s (cs ++ x ∷ more) ≡ None

-- a start and all choices, one after the other, tell a path of a unit: which choices are those of which
-- statement is a matter of the text
abbrev pub FlatChoicesTellPaths : Type 0
FlatChoicesTellPaths =
    (dialect : Dialect) (u : Routine) (notes : Notes) (a b : Path) → IsPath dialect u notes a → IsPath dialect u notes b
    → a.start ≡ b.start → concat a.choices ≡ concat b.choices → a ≡ b
