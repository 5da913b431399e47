-- The decks of texts that are not too long stand on cards with small numbers, and their statements name few labels.
use Rattle.std.proofs.Common.{◌≡◌, ℕ, suc, ◌+◌, ◌-◌, ◌*◌, ◌<◌, ◌≤◌, ◌^◌, Bool, true, false, cond, List, [], ◌∷◌, ◌++◌, map, length, take, drop, replicate, Some, None, refl, sym, ap, ◌∙◌, subst, arith}
use Rattle.std.specs.Prelude.{nat_lt, ◌==◌, if◌then◌else◌}
use Rattle.std.specs.Char.{to_ascii_uppercase}
use Rattle.std.specs.List.{AllByRecursion}
use Rattle.std.proofs.lemmas.Bool.Decides.{nat_tests}
use Rattle.std.proofs.lemmas.List.{length-append, length-take, length-drop, length-replicate, length-map}
use Rattle.formula.specs.Atoms.{is_digits}
use Rattle.fort_syntax.specs.CardRules.{card_fault, fault_from, nothing}
use Rattle.fort_syntax.specs.Cards.{Card, columns, without_return, last_card, cards_from, cards_of, kind_of, without_blanks, statement_text, note_text, is_plus, continuing, continued, noted, begun_by, entries_from, entries_of}
use Rattle.fort_syntax.specs.Grammar.{more_listed, comma_list, form}
use Rattle.fort_syntax.specs.Readings.{IsReadAs, AreReadAs}
use Rattle.fort_syntax.specs.Spelled.{label}
use Rattle.fort_syntax.specs.TreePatterns.{carried}
use Rattle.fort_syntax.specs.Units.{Piece, stated, remarked, statements, class_of, is_performing, Segment, put_before, begun_with, segments, executables, unit_of, is_inside, placed, notes_behind, deck_of}
use Rattle.fort_syntax.specs.declared.cards.CardKind.{CardKind}
use Rattle.fort_syntax.specs.declared.cards.CardKind.TheVariants.{NoteCard, CommentCard, ContinuationCard, InitialCard}
use Rattle.fort_syntax.specs.declared.cards.Entry.{Entry}
use Rattle.fort_syntax.specs.declared.cards.Entry.TheVariants.{Statement, Note}
use Rattle.fort_syntax.specs.declared.class.Class.{Class}
use Rattle.fort_syntax.specs.declared.class.Class.TheVariants.{Heading, Declaring, Performing, Ending}
use Rattle.fort_syntax.specs.declared.deck.Placed.{Placed}
use Rattle.fort_syntax.specs.declared.dialect.Dialect.{Dialect}
use Rattle.fort_syntax.specs.declared.rule.Rule.TheVariants.{TooLong}
use Rattle.fort_syntax.specs.declared.stmt.Stmt.{Stmt}
use Rattle.fort_syntax.specs.declared.stmt.Stmt.TheVariants.{Subroutine, Function, Declare, Dimension, Common, Assign, GoTo, Computed, ArithIf, LogicalIf', Do, Continue, Call, Return, End, BlockIf, ElseIf, Else, EndIf}
use Rattle.fort_syntax.specs.declared.unit.Line.{Line}
use Rattle.fort_syntax.specs.declared.unit.Unit.{Unit as Routine}
use Rattle.note_laws.proofs.Small.{all_append}
use Rattle.readable_laws.specs.Small.{HasFewLabels, IsSmallLine}

-- ---- cards

abbrev IsShort : Card → Type 0
IsShort card = length card ≤ 144

columns_short : (bytes : List ℕ) → IsShort (columns bytes)
columns_short bytes =
    let a = length-append (take 72 bytes) (replicate (72 - length bytes) 32) in
    let b = length-take 72 bytes in
    let c : length (replicate {A = ℕ} (72 - length bytes) 32) ≡ 72 - length bytes = length-replicate (72 - length bytes) 32 in
    let d : length (replicate {A = ℕ} (72 - length bytes) 32) ≤ 72 = omega arith in
    omega arith

last_short : (begun : List ℕ) → AllByRecursion IsShort (last_card begun)
last_short [] = tt
last_short (b ∷ rest) = (columns_short (without_return (b ∷ rest)), tt)

cards_short : (bytes begun : List ℕ) → AllByRecursion IsShort (cards_from bytes begun)
cards_short [] begun = last_short begun
cards_short (b ∷ rest) begun = by (b == 10) (cards_short rest []) (cards_short rest (begun ++ b ∷ []))
  where
    by : (t : Bool) → AllByRecursion IsShort (cards_from rest []) → AllByRecursion IsShort (cards_from rest (begun ++ b ∷ []))
        → AllByRecursion IsShort (if t then columns (without_return begun) ∷ cards_from rest [] else cards_from rest (begun ++ b ∷ []))
    by true h k = (columns_short (without_return begun), h)
    by false h k = k

last_few : (begun : List ℕ) → length (last_card begun) ≤ 1
last_few [] = omega arith
last_few (b ∷ rest) = omega arith

cards_few : (bytes begun : List ℕ) → length (cards_from bytes begun) ≤ suc (length bytes)
cards_few [] begun = last_few begun
cards_few (b ∷ rest) begun = by (b == 10) (cards_few rest []) (cards_few rest (begun ++ b ∷ []))
  where
    by : (t : Bool) → length (cards_from rest []) ≤ suc (length rest) → length (cards_from rest (begun ++ b ∷ [])) ≤ suc (length rest)
        → length (if t then columns (without_return begun) ∷ cards_from rest [] else cards_from rest (begun ++ b ∷ [])) ≤ suc (suc (length rest))
    by true h k = omega arith
    by false h k = omega arith

-- ---- the text of statements

blanks_shorter : (bs : List ℕ) → length (without_blanks bs) ≤ length bs
blanks_shorter [] = omega arith
blanks_shorter (b ∷ bs) = by (b == 32) (blanks_shorter bs)
  where
    by : (t : Bool) → length (without_blanks bs) ≤ length bs → length (if t then without_blanks bs else b ∷ without_blanks bs) ≤ suc (length bs)
    by true h = omega arith
    by false h = omega arith

drop_shorter : (n : ℕ) (bs : List ℕ) → length (drop n bs) ≤ length bs
drop_shorter n bs = let e = length-drop n bs in omega arith

statement_short : (card : Card) → IsShort card → length (statement_text card) ≤ 144
statement_short card h =
    let a = length-map (without_blanks (drop 6 card)) to_ascii_uppercase in
    let b = blanks_shorter (drop 6 card) in
    let c = drop_shorter 6 card in
    omega arith

continued_few : (cards : List Card) → AllByRecursion IsShort cards → length (continued cards) ≤ 144 * length cards
continued_few [] h = omega arith
continued_few (card ∷ rest) h = by (kind_of card) (continued_few rest h.1)
  where
    by : (kind : CardKind) → length (continued rest) ≤ 144 * length rest → length (continuing kind card (continued rest)) ≤ 144 * suc (length rest)
    by ContinuationCard k = let a = statement_short card h.0 in let b = length-append (statement_text card) (continued rest) in omega arith
    by CommentCard k = omega arith
    by NoteCard k = omega arith
    by InitialCard k = omega arith

-- ---- statements and notes

abbrev IsSmallEntry : Entry → Type 0
IsSmallEntry (Statement number l text) = (number < 2 ^ 32) × (length text < 2 ^ 32)
IsSmallEntry (Note number text) = number < 2 ^ 32

begun_small : (kind : CardKind) (number : ℕ) (card : Card) (rest : List Card) → IsShort card → AllByRecursion IsShort rest → number + length rest < 2 ^ 24 → AllByRecursion IsSmallEntry (begun_by kind number card rest)
begun_small InitialCard number card rest h k lt =
    let a = statement_short card h in
    let b = continued_few rest k in
    let c = length-append (statement_text card) (continued rest) in
    ((omega arith, omega arith), tt)
begun_small NoteCard number card rest h k lt = by (is_plus card)
  where
    by : (t : Bool) → AllByRecursion IsSmallEntry (if t then [] else Note number (note_text card ++ noted rest) ∷ [])
    by true = tt
    by false = (let small : number < 2 ^ 32 = omega arith in small, tt)
begun_small CommentCard number card rest h k lt = tt
begun_small ContinuationCard number card rest h k lt = tt

entries_small : (cards : List Card) (number : ℕ) → AllByRecursion IsShort cards → number + length cards < 2 ^ 24 → AllByRecursion IsSmallEntry (entries_from number cards)
entries_small [] number h lt = tt
entries_small (card ∷ rest) number h lt =
    all_append IsSmallEntry (begun_by (kind_of card) number card rest) (entries_from (number + 1) rest) (begun_small (kind_of card) number card rest h.0 h.1 (omega arith))
    (entries_small rest (number + 1) h.1 (omega arith))

not_long : (bytes : List ℕ) → card_fault bytes ≡ None → length bytes ≤ 1048576
not_long bytes e = by (nat_lt 1048576 (length bytes)) refl e
  where
    by : (t : Bool) → nat_lt 1048576 (length bytes) ≡ t → (if t then Some (record { rule = TooLong; card = 1 }) else fault_from nothing 1 (cards_of bytes)) ≡ None → length bytes ≤ 1048576
    by true q k = absurd (cc)
    by false q k = grind (arith, nat_tests)

text_small : (bytes : List ℕ) → card_fault bytes ≡ None → AllByRecursion IsSmallEntry (entries_of bytes)
text_small bytes e =
    let a = not_long bytes e in
    let b = cards_few bytes [] in
    entries_small (cards_of bytes) 1 (cards_short bytes []) (omega arith)

-- ---- labels

some_digits : (t : List ℕ) → is_digits t ≡ true → 1 ≤ length t
some_digits [] h = absurd (cc)
some_digits (b ∷ t) h = omega arith

more_labels : (ls t : List ℕ) → more_listed label ls t → length ls ≤ length t
more_labels [] t h = omega arith
more_labels (l ∷ ls) t h =
    let a = ap length h.2 ∙ length-append h.0 h.1 in
    let b = ap length h.4.2 ∙ length-append h.4.0 h.4.1 in
    let c = some_digits h.4.0 h.4.3.0 in
    let d = more_labels ls h.4.1 h.4.4 in
    omega arith

all_labels : (ls t : List ℕ) → comma_list label ls t → length ls ≤ length t
all_labels [] t h = absurd h
all_labels (l ∷ ls) t h =
    let a = ap length h.2 ∙ length-append h.0 h.1 in
    let c = some_digits h.0 h.3.0 in
    let d = more_labels ls h.1 h.4 in
    omega arith

few_labels : (d : Dialect) (s : Stmt) (t : List ℕ) → form d s t → length t < 2 ^ 32 → HasFewLabels s
few_labels d (Computed ls x) t h lt =
    let a = ap length h.2 ∙ length-append h.0 h.1 in
    let b = ap length h.4.2 ∙ length-append h.4.0 h.4.1 in
    let c = ap length h.4.3.2 ∙ length-append h.4.3.0 h.4.3.1 in
    let e = ap length h.4.3.4.2 ∙ length-append h.4.3.4.0 h.4.3.4.1 in
    let k = all_labels ls h.4.3.4.0 h.4.3.4.3 in
    omega arith
few_labels d (LogicalIf' x _ (carried s)) t h lt =
    let a = ap length h.2 ∙ length-append h.0 h.1 in
    let b = ap length h.4.2 ∙ length-append h.4.0 h.4.1 in
    few_labels d s h.4.1 h.4.4.1 (omega arith)
few_labels d (Assign left right) t h lt = tt
few_labels d (GoTo l) t h lt = tt
few_labels d (ArithIf e l m n) t h lt = tt
few_labels d (Do l x first last by) t h lt = tt
few_labels d Continue t h lt = tt
few_labels d (Call g args) t h lt = tt
few_labels d Return t h lt = tt
few_labels d (BlockIf e) t h lt = tt
few_labels d (ElseIf e) t h lt = tt
few_labels d Else t h lt = tt
few_labels d EndIf t h lt = tt
few_labels d (Subroutine g dummies) t h lt = tt
few_labels d (Function sort g dummies) t h lt = tt
few_labels d (Declare sort items) t h lt = tt
few_labels d (Dimension items) t h lt = tt
few_labels d (Common groups) t h lt = tt
few_labels d End t h lt = tt

-- ---- decks

abbrev IsSmallPiece : Piece → Type 0
IsSmallPiece (stated line) = IsSmallLine line
IsSmallPiece (remarked n t) = n < 2 ^ 32

piece_small : (d : Dialect) (entry : Entry) (piece : Piece) → IsReadAs d entry piece → IsSmallEntry entry → IsSmallPiece piece
piece_small d (Statement number l text) (stated line) k h =
    record { card = subst (λ (n : ℕ). n < 2 ^ 32) (sym k.0) h.0; labels = few_labels d line.stmt text k.2.0 h.1 }
piece_small d (Statement number l text) (remarked n t) k h = absurd k
piece_small d (Note number text) (stated line) k h = absurd k
piece_small d (Note number text) (remarked n t) k h = subst (λ (m : ℕ). m < 2 ^ 32) (sym k.0) h

pieces_small : (d : Dialect) (entries : List Entry) (pieces : List Piece) → AreReadAs d entries pieces → AllByRecursion IsSmallEntry entries → AllByRecursion IsSmallPiece pieces
pieces_small d [] [] k h = tt
pieces_small d [] (piece ∷ pieces) k h = absurd k
pieces_small d (entry ∷ entries) [] k h = absurd k
pieces_small d (entry ∷ entries) (piece ∷ pieces) k h = (piece_small d entry piece k.0 h.0, pieces_small d entries pieces k.1 h.1)

stated_small : (pieces : List Piece) → AllByRecursion IsSmallPiece pieces → AllByRecursion IsSmallLine (statements pieces)
stated_small [] h = tt
stated_small (stated line ∷ pieces) h = (h.0, stated_small pieces h.1)
stated_small (remarked n t ∷ pieces) h = stated_small pieces h.1

abbrev AreSmallLines : List Line → Type 0
AreSmallLines lines = AllByRecursion IsSmallLine lines

put_small : (line : Line) (rest : List Segment) → IsSmallLine line → AllByRecursion AreSmallLines rest → AllByRecursion AreSmallLines (put_before line rest)
put_small line [] h k = ((h, tt), tt)
put_small line (segment ∷ rest) h k = ((h, k.0), k.1)

begun_with_small : (class : Class) (line : Line) (rest : List Segment) → IsSmallLine line → AllByRecursion AreSmallLines rest → AllByRecursion AreSmallLines (begun_with class line rest)
begun_with_small Ending line rest h k = ((h, tt), k)
begun_with_small Heading line rest h k = put_small line rest h k
begun_with_small Declaring line rest h k = put_small line rest h k
begun_with_small Performing line rest h k = put_small line rest h k

segments_small : (lines : List Line) → AreSmallLines lines → AllByRecursion AreSmallLines (segments lines)
segments_small [] h = tt
segments_small (line ∷ lines) h = begun_with_small (class_of line.stmt) line (segments lines) h.0 (segments_small lines h.1)

executables_small : (lines : List Line) → AreSmallLines lines → AreSmallLines (executables lines)
executables_small [] h = tt
executables_small (line ∷ lines) h =
    all_append IsSmallLine (cond (is_performing (class_of line.stmt)) (line ∷ []) []) (executables lines) (by (is_performing (class_of line.stmt))) (executables_small lines h.1)
  where
    by : (t : Bool) → AreSmallLines (cond t (line ∷ []) [])
    by true = (h.0, tt)
    by false = tt

units_small : (ss : List Segment) → AllByRecursion AreSmallLines ss → AllByRecursion (λ (u : Routine). AreSmallLines u.lines) (map unit_of ss)
units_small [] h = tt
units_small (s ∷ ss) h = (executables_small s h.0, units_small ss h.1)

placed_card : (before : List Line) (card : ℕ) (text : List ℕ) → (placed before card text).card ≡ card
placed_card before card text = by (is_inside false before) _ _ refl refl
  where
    by : (t : Bool) (a b : Placed) → a.card ≡ card → b.card ≡ card → (cond t a b).card ≡ card
    by true a b h k = h
    by false a b h k = k

notes_small : (pieces : List Piece) (before : List Line) → AllByRecursion IsSmallPiece pieces → AllByRecursion (λ (n : Placed). n.card < 2 ^ 32) (notes_behind before pieces)
notes_small [] before h = tt
notes_small (stated line ∷ pieces) before h = notes_small pieces (before ++ line ∷ []) h.1
notes_small (remarked card text ∷ pieces) before h = (subst (λ (n : ℕ). n < 2 ^ 32) (sym (placed_card before card text)) h.0, notes_small pieces before h.1)

-- what is small in the deck of a text
pub record IsSmallText (pieces : List Piece) : Type 0 where
  pub lines : AllByRecursion (λ (u : Routine). AllByRecursion IsSmallLine u.lines) (deck_of pieces).units
  pub notes : AllByRecursion (λ (n : Placed). n.card < 2 ^ 32) (deck_of pieces).notes

pub texts_are_small : (d : Dialect) (bytes : List ℕ) (pieces : List Piece) → card_fault bytes ≡ None → AreReadAs d (entries_of bytes) pieces → IsSmallText pieces
texts_are_small d bytes pieces e read =
    let small = pieces_small d (entries_of bytes) pieces read (text_small bytes e) in
    record { lines = units_small (segments (statements pieces)) (segments_small (statements pieces) (stated_small pieces small)); notes = notes_small pieces [] small }
