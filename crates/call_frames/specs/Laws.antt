-- Laws of frames.
use Rattle.std.specs.Prelude.{ℕ, ◌≡◌, Bool, true, List, map}
use Rattle.formula.specs.Tree.{Tree}
use Rattle.formula.specs.declared.node.Node.{Node}
use Rattle.formula.specs.declared.node.TermId.{TermId}
use Rattle.fort_model.specs.Conditions.{sight}
use Rattle.fort_model.specs.Fitting.{terms_fit}
use Rattle.fort_model.specs.Program.{Program}
use Rattle.fort_model.specs.Seen.{Named}
use Rattle.fort_model.specs.Senses.{of_terms, note}
use Rattle.fort_model.specs.WalkCalls.{seen_by}
use Rattle.fort_syntax.specs.declared.name.Name.{Name}
use Rattle.fort_syntax.specs.declared.unit.Role.{Role}
use Rattle.fort_syntax.specs.declared.unit.Unit.{Unit as Routine}
use Rattle.note_terms.specs.Stated.{are_known_terms, stated}
use Rattle.walk_names.specs.declared.names.Names.{Names}
use Rattle.call_frames.specs.Frames.{HasEntry, IsFrame, is_shared, is_shared_role, told_by}

-- terms are known to a frame, and what it states of them is what notes say
pub record TellsNotes (nodes : List Node) (names : Names) (entry : List TermId) (before now : Named Tree)
    (ts : List Tree) : Type 0 where
  pub known : are_known_terms names.table entry ts ≡ true
  pub same : map (stated nodes names entry) ts ≡ map (note of_terms before now) ts

-- of terms that name bounds, dummies, COMMON entities and the value of a FUNCTION alone
abbrev pub FramesTellNotes : Type 0
FramesTellNotes =
    (nodes : List Node) (names : Names) (entry : List TermId) (g : Routine) (before now : Named Tree)
    (is : Role → Bool) (entries : Name → Bool) (ts : List Tree)
    → IsFrame nodes names g now → HasEntry nodes names.table entry g before
    → ((role : Role) → is role ≡ true → is_shared_role role ≡ true) → ((x : Name) → entries x ≡ true
    → is_shared g x ≡ true) → terms_fit g is entries ts
    → TellsNotes nodes names entry before now ts

-- what names of a called unit stand for in each program
abbrev pub ToldByCalls : Type 0
ToldByCalls =
    (p : Program) (i : ℕ) (u g : Routine) (actuals : List Tree) (now : Named Tree) (value : Tree)
    → told_by g actuals now value ≡ seen_by (sight of_terms p i u) g actuals now value
