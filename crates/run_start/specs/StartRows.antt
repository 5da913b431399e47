-- Starts of small units: what is refused, and what the cells hold.
use Rattle.std.specs.Prelude.{◌≡◌, true, false, pos, neg_ℤ, List, [], ◌∷◌, Option, Some, None, codes}
use Rattle.formula.specs.declared.value.Cell.{Cell}
use Rattle.formula.specs.declared.value.Cell.TheVariants.{Logical, Undefined}
use Rattle.fort_syntax.specs.SmallDecks.{A, I, J, K, N}
use Rattle.fort_syntax.specs.declared.name.Name.{Name}
use Rattle.fort_syntax.specs.declared.stmt.Dim.TheVariants.{Fixed, Named}
use Rattle.fort_syntax.specs.declared.stmt.Stmt.TheVariants.{Return}
use Rattle.fort_syntax.specs.declared.unit.Role.TheVariants.{Dummy, Local}
use Rattle.fort_syntax.specs.declared.unit.Unit.{Unit as Routine}
use Rattle.fort_notes.specs.declared.cases.Given.{Given}
use Rattle.fort_notes.specs.declared.cases.Passing.{Passing}
use Rattle.fort_notes.specs.declared.cases.Passing.TheVariants.{Reference, Listed}
use Rattle.fort_model.specs.Decks.{line, scalar, array, routine, int}
use Rattle.fort_model.specs.Rows.{inc}
use Rattle.run_state.specs.declared.machine.Setting.{Setting}
use Rattle.run_start.specs.Started.{refusal_of}
use Rattle.run_start.specs.Starts.{cells_wanted, start_storage}
use Rattle.run_start.specs.declared.refusal.RunRefusal.{RunRefusal}
use Rattle.run_start.specs.declared.refusal.RunRefusal.TheVariants.{UnknownName, BadShape, OutOfRange, ManyCells}

-- the numbers of 16 bits
abbrev pub setting : Passing → Setting
setting passing = record { bounds = record { least = neg_ℤ (pos 32768); greatest = pos 32767 }; lazy = false; passing = passing }

-- a name with its cells
abbrev pub entry : Name → List Cell → Given
entry x cs = record { name = x; cells = cs }

-- the first refusal of a start of a unit that is alone
abbrev pub refused : Routine → Name → List Given → Option RunRefusal
refused u x given = refusal_of (u ∷ []) (setting Reference) x given

-- an array as long as a dummy says, and a local of a million cells beside two or three dummies
abbrev pub adjustable : Routine
adjustable = routine (codes "R") (A ∷ N ∷ []) (array Dummy A (Named N ∷ []) ∷ scalar Dummy N ∷ []) (line 5 Return ∷ [])

abbrev pub big : List Name → Routine
big dummies = record (routine (codes "BIG") dummies (array Local A (Fixed 1000000 ∷ []) ∷ []) (line 5 Return ∷ [])) { dummies = dummies }

-- a unit or a name that is none, a name that is given twice, and a site of no call
abbrev pub NamesAreKnown : Type 0
NamesAreKnown =
    (refused inc (codes "INC") (entry I (int 5 ∷ []) ∷ []) ≡ None) × (refused inc (codes "INC") [] ≡ None) × (refused inc (codes "DEC") [] ≡ Some UnknownName)
    × (refused inc (codes "INC") (entry J (int 5 ∷ []) ∷ []) ≡ Some UnknownName) × (refused inc (codes "INC") (entry I (int 5 ∷ []) ∷ entry I (int 5 ∷ []) ∷ []) ≡ Some UnknownName)
    × (refusal_of (inc ∷ []) (setting (Listed (record { unit = codes "INC"; call = 1; place = 1 } ∷ []))) (codes "INC") [] ≡ Some UnknownName)

-- too many cells, and a truth value for an integer; a number out of range comes later
abbrev pub ShapesAreJudged : Type 0
ShapesAreJudged =
    (refused inc (codes "INC") (entry I (int 5 ∷ int 40000 ∷ []) ∷ []) ≡ Some BadShape) × (refused inc (codes "INC") (entry I (Logical true ∷ []) ∷ []) ≡ Some BadShape)
    × (refused inc (codes "INC") (entry I (int 40000 ∷ []) ∷ []) ≡ Some OutOfRange) × (refused inc (codes "INC") (entry I (Undefined ∷ []) ∷ []) ≡ None)

-- an adjustable dimension must be given, and be 1 at least
abbrev pub DimensionsAreGiven : Type 0
DimensionsAreGiven =
    (refused adjustable (codes "R") [] ≡ Some BadShape) × (refused adjustable (codes "R") (entry N (int 0 ∷ []) ∷ []) ≡ Some BadShape)
    × (refused adjustable (codes "R") (entry N (int 2 ∷ []) ∷ []) ≡ None) × (refused adjustable (codes "R") (entry N (int 2 ∷ []) ∷ entry A (int 1 ∷ []) ∷ []) ≡ Some BadShape)
    × (start_storage adjustable (entry N (int 2 ∷ []) ∷ []) ≡ Undefined ∷ Undefined ∷ int 2 ∷ [])

-- 3 + 1,000,000 + 3 times 1,000,000 cells are too many, and with two dummies there are fewer
abbrev pub CellsAreCounted : Type 0
CellsAreCounted =
    (cells_wanted (big (I ∷ J ∷ K ∷ []) ∷ []) (big (I ∷ J ∷ K ∷ [])) [] ≡ 4000003) × (refused (big (I ∷ J ∷ K ∷ [])) (codes "BIG") [] ≡ Some ManyCells)
    × (refused (big (I ∷ J ∷ [])) (codes "BIG") [] ≡ None)
