-- What the words of a call ask for.
use Rattle.std.specs.Prelude.{ℕ, ◌≡◌, ◌≤◌, ◌&&◌, nat_le, if◌then◌else◌, Bool, Option, Some, None, List, [], ◌∷◌, length, drop, map, codes, string_bytes, ⊤}
use Rattle.std.specs.declared.string.String.{String}
use Rattle.edge_io.specs.Causes.{Rose}
use Rattle.formula.specs.Atoms.{is_digits, same_bytes, spelled}
use Rattle.fort_syntax.specs.declared.dialect.Dialect.{Dialect}
use Rattle.fort_syntax.specs.declared.dialect.Dialect.TheVariants.{Common, SeventySeven}
use Rattle.deck_made.specs.Made.{made_deck}
use Rattle.vcg_top.specs.declared.command.Command.{Command}
use Rattle.vcg_top.specs.declared.command.Command.TheVariants.{Deck, Made}
use Rattle.vcg_top.specs.declared.command.Task.{Task}
use Rattle.vcg_top.specs.declared.command.Task.TheVariants.{Vc, Check, Run, Try}

-- ---- words

-- the task of a word
abbrev pub task_of : List ℕ → Option Task
task_of w =
    if same_bytes w (codes "vc") then Some Vc
    else if same_bytes w (codes "check") then Some Check
    else if same_bytes w (codes "run") then Some Run
    else if same_bytes w (codes "try") then Some Try
    else None

abbrev pub deck_command : Dialect → Option Task → Option Command
deck_command d None = None
deck_command d (Some t) = Some (Deck t d)

-- a number of 1 to 18 digits
abbrev pub is_number : List ℕ → Bool
is_number w = is_digits w && nat_le (length w) 18

abbrev pub made_command : List ℕ → Option Command
made_command w = if is_number w then Some (Made (spelled w)) else None

-- `made` and a number, or a task and `77`
abbrev pub two_words : List ℕ → List ℕ → Option Command
two_words w v =
    if same_bytes w (codes "made") then made_command v
    else if same_bytes v (codes "77") then deck_command SeventySeven (task_of w)
    else None

abbrev pub asked_command : List (List ℕ) → Option Command
asked_command (w ∷ []) = deck_command Common (task_of w)
asked_command (w ∷ v ∷ []) = two_words w v
asked_command _ = None

-- what words ask for
abbrev pub asked : {A : Type 0} → List (String A) → Option Command
asked words = asked_command (map string_bytes words)

-- ---- decks

-- a made deck is of the common dialect
abbrev pub dialect_of : Command → Dialect
dialect_of (Deck t d) = d
dialect_of (Made n) = Common

-- so many bytes of an input are read, one more than a deck may have
abbrev pub most_read : ℕ
most_read = 1048577

-- the numbers of which decks are made
abbrev pub IsMadeNumber : ℕ → Type 0
IsMadeNumber n = (1 ≤ n) × (n ≤ 200)

-- the deck of a command: what a source tells that it has, or the made deck of a number from 1 to 200
abbrev pub IsDeckOf : Command → Option (List ℕ) → List ℕ → Type 0
IsDeckOf (Deck t d) left bytes = left ≡ Some bytes
IsDeckOf (Made n) left bytes = (bytes ≡ made_deck n) × IsMadeNumber n

-- what is left in the source: of a deck that is read what is behind it; of a made deck nothing is said here
abbrev pub IsTakenOf : Command → List ℕ → Option (List ℕ) → Type 0
IsTakenOf (Deck t d) bytes left = left ≡ Some (drop most_read bytes)
IsTakenOf (Made n) bytes left = ⊤

-- the source did not fail, where it is read
abbrev pub IsReadWell : Command → ℕ → ℕ → Type 0
IsReadWell (Deck t d) before now = ¬ Rose before now
IsReadWell (Made n) before now = ⊤

-- no prover is asked
abbrev pub AsksNone : Command → Type 0
AsksNone (Deck Vc d) = ⊥
AsksNone (Deck Check d) = ⊤
AsksNone (Deck Run d) = ⊤
AsksNone (Deck Try d) = ⊤
AsksNone (Made n) = ⊥
