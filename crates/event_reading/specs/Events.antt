-- Which bytes are the text of definitions, conditions and marks, and how far a text that is none can be read.
use Rattle.std.specs.Prelude.{ℕ, ◌≡◌, ◌≤◌, List, ◌++◌, length, map, take}
use Rattle.std.specs.List.{All}
use Rattle.formula.specs.declared.node.Node.{Node}
use Rattle.formula.specs.Adding.{AreAdded}
use Rattle.formula.specs.Worth.{Function, function_of}
use Rattle.fort_syntax.specs.Conditions.{ConditionTree}
use Rattle.event_text.specs.declared.marks.Marks.{Marks}
use Rattle.event_text.specs.Conditions.{condition_tree, IsConditionIn, IsDefinitionIn}
use Rattle.event_text.specs.EventText.{closing_line, event_text}
use Rattle.event_text.specs.Readable.{IsReadable}
use Rattle.event_reading.specs.declared.events.Events.{Events}
use Rattle.event_reading.specs.declared.events.EventFault.{EventFault}
use Rattle.event_reading.specs.declared.events.EventFault.TheVariants.{BadEvent, NoMemory}
use Rattle.event_reading.specs.Fronts.{IsCounting}

-- bytes that are the text of no list that can be read
abbrev pub IsNoText : List ℕ → Type 0
IsNoText bytes = (ds : List Function) (cs : List ConditionTree) (marks : Marks) → IsReadable ds cs marks
    → bytes ≡ event_text ds cs marks → ⊥

-- lines that the closing line makes the text of a list that can be read
abbrev pub IsFront : List ℕ → Type 0
IsFront lines = (ds : List Function) × (cs : List ConditionTree) × (marks : Marks) × IsReadable ds cs marks
    × (lines ++ closing_line (length cs) ≡ event_text ds cs marks)

-- the first n bytes are the longest prefix of such lines
pub record IsLongestFront (bytes : List ℕ) (n : ℕ) : Type 0 where
  pub within : n ≤ length bytes
  pub front : IsFront (take n bytes)
  pub longest : (k : ℕ) → k ≤ length bytes → IsFront (take k bytes) → k ≤ n

-- the bytes are the text of what was read, whose terms are of the pool
pub record IsRead (bytes : List ℕ) (pool : List Node) (e : Events) : Type 0 where
  pub readable : IsReadable (map (function_of pool) e.definitions) (map (condition_tree pool) e.conditions) e.marks
  pub text : event_text (map (function_of pool) e.definitions) (map (condition_tree pool) e.conditions) e.marks ≡ bytes
  pub definitions : AreAdded pool e.definitions
  pub counting : All IsCounting (map (function_of pool) e.definitions)
  pub definitions_inside : All (IsDefinitionIn pool) e.definitions
  pub conditions_inside : All (IsConditionIn pool) e.conditions
  pub letters : length e.marks.letters ≡ length e.conditions

-- why nothing was read
abbrev pub IsRefused : List ℕ → EventFault → Type 0
IsRefused bytes (BadEvent at) = IsNoText bytes × IsLongestFront bytes at
IsRefused bytes NoMemory = Unit {0}
