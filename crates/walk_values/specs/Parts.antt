-- What a part of a walk does in every program.
use Rattle.std.specs.Prelude.{◌≡◌, ℕ}
use Rattle.formula.specs.Tree.{Tree}
use Rattle.fort_syntax.specs.declared.unit.Unit.{Unit as Routine}
use Rattle.fort_model.specs.Conditions.{sight}
use Rattle.fort_model.specs.Program.{Program}
use Rattle.fort_model.specs.Seen.{See}
use Rattle.fort_model.specs.Senses.{of_terms}
use Rattle.fort_model.specs.WalkCalls.{Sight}
use Rattle.walk_state.specs.Moments.{Did, Moment}

-- in the sense of terms, whatever the program is
abbrev pub Does : {A : Type 0} → Moment → (Sight Tree → See Tree A) → Moment → A → Type 0
Does before part after value = (p : Program) (i : ℕ) (u : Routine) → Did before (part (sight of_terms p i u)) after value

-- the same in programs with a bound
abbrev pub DoesWithin : {A : Type 0} → ℕ → Moment → (Sight Tree → See Tree A) → Moment → A → Type 0
DoesWithin bound before part after value =
    (p : Program) (i : ℕ) (u : Routine) → p.bound ≡ bound → Did before (part (sight of_terms p i u)) after value
