-- What code answers that reads a part.
use Rattle.std.specs.Prelude.{ℕ, ◌≡◌, Bool, true, false, Result, Ok, Err, Option, Some, None, List, map}
use Rattle.formula.specs.declared.node.Node.{Node}
use Rattle.formula.specs.declared.node.TermId.{TermId}
use Rattle.formula.specs.Pool.{tree_of}
use Rattle.formula.specs.Tree.{Tree}
use Rattle.fort_syntax.specs.declared.rule.Rule.TheVariants.{BadNote, UnknownNoteName}
use Rattle.fort_notes.specs.Parts.{Parsed, refused, is_over}
use Rattle.fort_notes.specs.Forms.{is_clock_or_end}
use Rattle.note_parts.specs.declared.lack.Lack.{Lack}
use Rattle.note_parts.specs.declared.lack.Lack.TheVariants as lack
use Rattle.note_parts.specs.declared.term_lists.Until.{Until}
use Rattle.note_parts.specs.declared.term_lists.Until.TheVariants as until

-- the rule that a text breaks where a part was not read; memory may run out at any text
abbrev pub Fails : {Y : Type 0} → Lack → Parsed Y → Type 0
Fails lack.Form read = read ≡ refused BadNote
Fails lack.Function read = read ≡ refused UnknownNoteName
Fails lack.Memory read = Unit {0}

-- an answer, seen by view, is the part that begins the text, with the text behind it
abbrev pub Gives : {X Y : Type 0} → (X → Parsed Y) → Result X Lack → Parsed Y → Type 0
Gives view (Ok x) read = read ≡ view x
Gives view (Err e) read = Fails e read

-- an answer, seen by view, is the part that begins the text; without one the text has not the form of the part
abbrev pub Finds : {X Y : Type 0} → (X → Parsed Y) → Option X → Parsed Y → Type 0
Finds view (Some x) read = read ≡ view x
Finds view None read = read ≡ refused BadNote

-- the trees of some ids
abbrev pub trees_of : List Node → List TermId → List Tree
trees_of pool ids = map (tree_of pool) ids

-- where a list of terms ends
abbrev pub ends_at : Until → List ℕ → Bool
ends_at until.End = is_over
ends_at until.Clock = is_clock_or_end
