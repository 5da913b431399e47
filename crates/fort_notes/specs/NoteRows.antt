-- What the notes of small decks say.
use Rattle.std.specs.Prelude.{◌≡◌, ℕ, pos, negsuc, true, false, List, [], ◌∷◌, codes, None, Ok, Err}
use Rattle.formula.specs.Tree.{Tree, num, truth, symbol, apply, more, none}
use Rattle.formula.specs.Worth.{plain}
use Rattle.formula.specs.declared.function.BuiltIn.TheVariants.{Defined as IsDefined, AtMost, Less}
use Rattle.formula.specs.declared.function.Func.{Func}
use Rattle.formula.specs.declared.function.Func.TheVariants.{BuiltIn}
use Rattle.formula.specs.declared.value.Cell.TheVariants.{Int}
use Rattle.fort_syntax.specs.declared.deck.Deck.{Deck}
use Rattle.fort_syntax.specs.declared.deck.Placed.{Placed}
use Rattle.fort_syntax.specs.declared.dialect.Sort.TheVariants.{Integer}
use Rattle.fort_syntax.specs.declared.rule.Rule.{Rule}
use Rattle.fort_syntax.specs.declared.rule.Rule.TheVariants.{BadNote, NoInputOrOutput, UnknownNoteName}
use Rattle.fort_syntax.specs.declared.stmt.Stmt.TheVariants.{Return}
use Rattle.fort_syntax.specs.declared.unit.Role.TheVariants.{Dummy, Local}
use Rattle.fort_syntax.specs.declared.unit.Unit.{Unit as Routine}
use Rattle.fort_notes.specs.Assertions.{Notes}
use Rattle.fort_notes.specs.Remarks.{remarks_of}
use Rattle.fort_notes.specs.declared.cases.Passing.TheVariants.{Reference}

-- a SUBROUTINE with a dummy N and a local J
abbrev pub small_unit : Routine
small_unit = record {
  name = codes "P";
  sort = None;
  head = 3;
  dummies = codes "N" ∷ [];
  names = record { name = codes "N"; sort = Integer; dims = []; role = Dummy } ∷ record { name = codes "J"; sort = Integer; dims = []; role = Local } ∷ [];
  functions = [];
  blocks = [];
  lines = record { card = 7; label = 0; stmt = Return } ∷ [];
  «end» = 8;
}

-- a note in the unit, before its only statement; one before the units, and one behind them
abbrev pub in_unit : ℕ → List ℕ → Placed
in_unit card text = record { card = card; text = text; unit = 1; line = 0 }

abbrev pub before_units : ℕ → List ℕ → Placed
before_units card text = record { card = card; text = text; unit = 0; line = 0 }

abbrev pub behind_units : ℕ → List ℕ → Placed
behind_units card text = record { card = card; text = text; unit = 0; line = 1 }

-- the notes of the unit with INPUT and OUTPUT, and one more
abbrev pub with_note : List ℕ → Deck
with_note text = record {
  units = small_unit ∷ [];
  notes = in_unit 4 (codes "INPUT (DEFINED N)") ∷ in_unit 5 (codes "OUTPUT T") ∷ in_unit 6 text ∷ [];
}

abbrev pub call : Func → List Tree → Tree
call f [] = apply f none
call f (t ∷ []) = apply f (more t none)
call f (t ∷ (s ∷ ts)) = apply f (more t (more s none))

abbrev pub n_symbol : Tree
n_symbol = symbol (codes "N")

abbrev pub small_notes : Notes
small_notes = record {
  input = call (BuiltIn IsDefined) (n_symbol ∷ []) ∷ [];
  output = truth true ∷ [];
  asserts = record {
    point = 0;
    card = 6;
    terms = call (BuiltIn AtMost) (num (pos 0) ∷ n_symbol ∷ [])
        ∷ [];
    clock = n_symbol ∷ [];
  } ∷ [];
}

-- INPUT, OUTPUT, and an ASSERT with a clock
abbrev pub NotesOfUnit : Type 0
NotesOfUnit =
    remarks_of (with_note (codes "ASSERT (ZLEQ 0 N) CLOCK N"))
    ≡ Ok (record { bound = 32767; definitions = []; units = small_notes ∷ []; runs = []; tries = []; proofs = [] })

-- a bound and a definition before the units, and a run behind them
abbrev pub NotesAround : Type 0
NotesAround =
    remarks_of
    (record {
      units = small_unit ∷ [];
      notes = before_units 1 (codes "BOUND 100") ∷ before_units 2 (codes "DEFN POS (K) (ZLESSP 0 K)") ∷ in_unit 4 (codes "INPUT (DEFINED N)") ∷ in_unit 5 (codes "OUTPUT T")
          ∷ behind_units 9 (codes "RUN P -10 10 STRICT REF 7 (N 3)") ∷ [];
    })
    ≡ Ok
    (record {
      bound = 100;
      definitions = record { name = codes "POS"; params = codes "K" ∷ []; body = plain (call (BuiltIn Less) (num (pos 0) ∷ symbol (codes "K") ∷ [])) } ∷ [];
      units = record { input = call (BuiltIn IsDefined) (n_symbol ∷ []) ∷ []; output = truth true ∷ []; asserts = [] } ∷ [];
      runs = record {
        unit = codes "P";
        least = negsuc 9;
        greatest = pos 10;
        lazy = false;
        passing = Reference;
        steps = 7;
        start = record { name = codes "N"; cells = Int (pos 3) ∷ [] } ∷ [];
      } ∷ [];
      tries = [];
      proofs = [];
    })

abbrev pub breaks_at_6 : Rule → List ℕ → Type 0
breaks_at_6 rule text = remarks_of (with_note text) ≡ Err (record { rule = rule; card = 6 })

-- forms, places and names that are at fault
abbrev pub FaultsOfNotes : Type 0
FaultsOfNotes =
    breaks_at_6 BadNote (codes "ASSERT")
    × breaks_at_6 BadNote (codes "ASSERT CLOCK N")
    × breaks_at_6 UnknownNoteName (codes "ASSERT (CLOCK N)")
    × breaks_at_6 BadNote (codes "ASSERT (EQUAL CLOCK N)")
    × breaks_at_6 UnknownNoteName (codes "ASSERT M")
    × breaks_at_6 UnknownNoteName (codes "ASSERT (EQUAL (OLD LEAST) N)")
    × breaks_at_6 BadNote (codes "ASSERT (EQUAL (OLD J) N)")
    × breaks_at_6 NoInputOrOutput (codes "INPUT T")
    × breaks_at_6 BadNote (codes "RUN P -10 10 STRICT REF 7")
    × breaks_at_6 BadNote (codes "REMARK")
