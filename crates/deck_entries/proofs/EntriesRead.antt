-- Entries that were read one by one make a deck, or have its first fault.
use Rattle.std.proofs.Common.{◌≡◌, ℕ, inr, List, [], ◌∷◌, ◌++◌, refl, sym, ap, subst, ◌∙◌, append_assoc, append-nil}
use Rattle.std.specs.Prelude.{map, Some, None}
use Rattle.fort_syntax.specs.Readings.{AreReadAs}
use Rattle.fort_syntax.specs.Grammar.{Spells}
use Rattle.fort_syntax.specs.Units.{stated, remarked, class_of, statements, segments, unit_of}
use Rattle.fort_syntax.specs.UnitRules.{fault_of}
use Rattle.fort_syntax.specs.declared.cards.Entry.{Entry}
use Rattle.fort_syntax.specs.declared.cards.Entry.TheVariants.{Statement, Note}
use Rattle.fort_syntax.specs.declared.deck.Placed.{Placed}
use Rattle.fort_syntax.specs.declared.dialect.Dialect.{Dialect}
use Rattle.fort_syntax.specs.declared.refusal.Fault.{Fault}
use Rattle.fort_syntax.specs.declared.unit.Line.{Line}
use Rattle.fort_syntax.specs.declared.unit.Unit.{Unit as Routine}
use Rattle.deck_entries.specs.Decks.{IsDeckOf, IsFirstFault}
use Rattle.deck_entries.specs.Readings.{top, passed, placed_at, notes_at, pieces_of, HasRead}
use Rattle.deck_entries.specs.declared.spot.Spot.{Spot}
use Rattle.deck_entries.proofs.NotePlaces.{notes_are}

-- behind one more statement
pub statement_read : (d : Dialect) (all left : List Entry) (card label : ℕ) (text : List ℕ) (line : Line)
    (lines lines' : List Line) (notes notes' : List Placed) (spot spot' : Spot)
    → line.card ≡ card → line.label ≡ label → Spells d text line.stmt
    → lines' ≡ lines ++ line ∷ [] → notes' ≡ notes → spot' ≡ passed (class_of line.stmt) spot
    → HasRead d all (Statement card label text ∷ left) lines notes spot → HasRead d all left lines' notes' spot'
statement_read d all left card label text line lines lines' notes notes' spot spot' c b t l n s read =
    let same = λ (more : List Line). append_assoc lines (line ∷ []) more in
    let joined = λ (more : List Line). ap (λ ls. ls ++ more) l ∙ same more in
    record {
      pieces = λ more h. subst (λ ls. AreReadAs d all (pieces_of all ls)) (sym (joined more)) (read.pieces (line ∷ more) ((c, b, t), h));
      placed = λ more.
          (λ i. n i ++ notes_at (s i) (pieces_of left more)) ∙ read.placed (line ∷ more)
          ∙ ap (λ ls. notes_at top (pieces_of all ls)) (sym (joined more));
      faults = λ fault h. read.faults fault (inr ((stated line, (c, b, t)), h));
    }

-- behind one more note
pub note_read : (d : Dialect) (all left : List Entry) (card : ℕ) (text : List ℕ)
    (lines lines' : List Line) (notes notes' : List Placed) (spot spot' : Spot)
    → lines' ≡ lines → notes' ≡ notes ++ placed_at spot card text ∷ [] → spot' ≡ spot
    → HasRead d all (Note card text ∷ left) lines notes spot → HasRead d all left lines' notes' spot'
note_read d all left card text lines lines' notes notes' spot spot' l n s read =
    record {
      pieces = λ more h. subst (λ ls. AreReadAs d all (pieces_of all (ls ++ more))) (sym l) (read.pieces more ((refl, refl), h));
      placed = λ more.
          (λ i. n i ++ notes_at (s i) (pieces_of left more))
          ∙ append_assoc notes (placed_at spot card text ∷ []) (notes_at spot (pieces_of left more))
          ∙ read.placed more
          ∙ ap (λ ls. notes_at top (pieces_of all (ls ++ more))) (sym l);
      faults = λ fault h. read.faults fault (inr ((remarked card text, (refl, refl)), h));
    }

-- ---- all entries

statements_are : (entries : List Entry) (lines : List Line) → statements (pieces_of entries lines) ≡ lines
statements_are [] [] = refl
statements_are [] (line ∷ lines) = ap (λ ls. line ∷ ls) (statements_are [] lines)
statements_are (Statement card label text ∷ entries) [] = refl
statements_are (Statement card label text ∷ entries) (line ∷ lines) = ap (λ ls. line ∷ ls) (statements_are entries lines)
statements_are (Note card text ∷ entries) lines = statements_are entries lines

all_read : (d : Dialect) (all : List Entry) (lines : List Line) (notes : List Placed) (spot : Spot) → HasRead d all [] lines notes spot
    → AreReadAs d all (pieces_of all lines)
all_read d all lines notes spot read = subst (λ ls. AreReadAs d all (pieces_of all ls)) (append-nil lines) (read.pieces [] _)

all_placed : (d : Dialect) (all : List Entry) (lines : List Line) (notes : List Placed) (spot : Spot) → HasRead d all [] lines notes spot
    → notes ≡ notes_at top (pieces_of all lines)
all_placed d all lines notes spot read =
    sym (append-nil notes) ∙ read.placed [] ∙ ap (λ ls. notes_at top (pieces_of all ls)) (append-nil lines)

-- the first fault of a deck whose statements are all spelled
pub fault_found : (d : Dialect) (all : List Entry) (lines : List Line) (notes : List Placed) (spot : Spot) (fault : Fault)
    → HasRead d all [] lines notes spot → Some fault ≡ fault_of d lines → IsFirstFault d all fault
fault_found d all lines notes spot fault read f =
    inr (pieces_of all lines, all_read d all lines notes spot read, ap (fault_of d) (statements_are all lines) ∙ sym f)

-- the deck without a fault
pub deck_found : (d : Dialect) (all : List Entry) (lines : List Line) (notes : List Placed) (spot : Spot) (units : List Routine)
    → HasRead d all [] lines notes spot → None ≡ fault_of d lines → units ≡ map unit_of (segments lines)
    → IsDeckOf d all (record { units = units; notes = notes })
deck_found d all lines notes spot units read f u =
    let same = statements_are all lines in (
      pieces_of all lines,
      all_read d all lines notes spot read,
      ap (fault_of d) same ∙ sym f,
      λ i. record {
        units = (u ∙ ap (λ ls. map unit_of (segments ls)) (sym same)) i;
        notes = (all_placed d all lines notes spot read ∙ notes_are (pieces_of all lines)) i;
      },
    )
