-- Entries make one deck, or have one first fault.
use Rattle.std.proofs.Common.{◌≡◌, ◌⊎◌, inl, inr, List, [], ◌∷◌, Option, Some, None, refl, sym, ap, ◌∙◌}
use Rattle.std.proofs.lemmas.Option.{none-some, same_Some}
use Rattle.fort_syntax.specs.Misspelled.{refusal_of}
use Rattle.fort_syntax.specs.Readings.{IsReadAs, AreReadAs}
use Rattle.fort_syntax.specs.UnitRules.{unit_fault}
use Rattle.fort_syntax.specs.Units.{Piece, stated, remarked, deck_of}
use Rattle.fort_syntax.specs.declared.cards.Entry.{Entry}
use Rattle.fort_syntax.specs.declared.cards.Entry.TheVariants.{Statement, Note}
use Rattle.fort_syntax.specs.declared.deck.Deck.{Deck}
use Rattle.fort_syntax.specs.declared.dialect.Dialect.{Dialect}
use Rattle.fort_syntax.specs.declared.refusal.Fault.{Fault}
use Rattle.fort_syntax.specs.declared.stmt.Stmt.{Stmt}
use Rattle.stmt_parse.specs.Statements.{statement_of}
use Rattle.stmt_parse.proofs.StatementsAgree.{found_is_spelled, none_is_spelled, text_spells_one_statement}
use Rattle.deck_entries.specs.Decks.{IsMisspelled, IsFirstMisspelled, IsFirstFault, IsDeckOf}
use Rattle.deck_entries.specs.Laws.{DeckOrFirstFault, DecksAreOne, FirstFaultsAreOne}

-- ---- a deck or a fault

-- an entry is read, or its text is misspelled
read_or_not : (d : Dialect) (entry : Entry)
    → ((piece : Piece) × IsReadAs d entry piece) ⊎ ((fault : Fault) × IsMisspelled d entry fault)
read_or_not d (Note card text) = inl (remarked card text, (refl, refl))
read_or_not d (Statement card label text) = by (statement_of d text) refl
  where
    by : (o : Option Stmt) → statement_of d text ≡ o
        → ((piece : Piece) × IsReadAs d (Statement card label text) piece)
        ⊎ ((fault : Fault) × IsMisspelled d (Statement card label text) fault)
    by (Some s) e = inl (stated (record { card = card; label = label; stmt = s }), (refl, refl, found_is_spelled d text s e))
    by None e = inr (record { rule = refusal_of d text; card = card }, (none_is_spelled d text e, refl))

-- all entries are read, or one is the first whose text is misspelled
all_or_first : (d : Dialect) (entries : List Entry)
    → ((pieces : List Piece) × AreReadAs d entries pieces) ⊎ ((fault : Fault) × IsFirstMisspelled d entries fault)
all_or_first d [] = inl ([], tt)
all_or_first d (entry ∷ entries) = by (read_or_not d entry) (all_or_first d entries)
  where
    by : ((piece : Piece) × IsReadAs d entry piece) ⊎ ((fault : Fault) × IsMisspelled d entry fault)
        → ((pieces : List Piece) × AreReadAs d entries pieces) ⊎ ((fault : Fault) × IsFirstMisspelled d entries fault)
        → ((pieces : List Piece) × AreReadAs d (entry ∷ entries) pieces)
        ⊎ ((fault : Fault) × IsFirstMisspelled d (entry ∷ entries) fault)
    by (inr m) rest = inr (m.0, inl m.1)
    by (inl r) (inl all) = inl (r.0 ∷ all.0, (r.1, all.1))
    by (inl r) (inr m) = inr (m.0, inr (r, m.1))

deck_or_fault : (d : Dialect) (entries : List Entry)
    → ((deck : Deck) × IsDeckOf d entries deck) ⊎ ((fault : Fault) × IsFirstFault d entries fault)
deck_or_fault d entries = by (all_or_first d entries)
  where
    judged : (pieces : List Piece) → AreReadAs d entries pieces → (o : Option Fault) → unit_fault d pieces ≡ o
        → ((deck : Deck) × IsDeckOf d entries deck) ⊎ ((fault : Fault) × IsFirstFault d entries fault)
    judged pieces h (Some fault) e = inr (fault, inr (pieces, h, e))
    judged pieces h None e = inl (deck_of pieces, (pieces, h, e, refl))

    by : ((pieces : List Piece) × AreReadAs d entries pieces) ⊎ ((fault : Fault) × IsFirstMisspelled d entries fault)
        → ((deck : Deck) × IsDeckOf d entries deck) ⊎ ((fault : Fault) × IsFirstFault d entries fault)
    by (inr m) = inr (m.0, inl m.1)
    by (inl all) = judged all.0 all.1 (unit_fault d all.0) refl

-- ---- not both, and one of each

-- an entry is read in one way
piece_one : (d : Dialect) (e : Entry) (p q : Piece) → IsReadAs d e p → IsReadAs d e q → p ≡ q
piece_one d (Statement card label text) (stated l) (stated m) h k =
    let cards : l.card ≡ m.card = h.0 ∙ sym k.0 in
    let labels : l.label ≡ m.label = h.1 ∙ sym k.1 in
    let statements = text_spells_one_statement d text l.stmt m.stmt h.2 k.2 in
    λ i. stated (record { card = cards i; label = labels i; stmt = statements i })
piece_one d (Statement card label text) (stated l) (remarked n t) h k = absurd k
piece_one d (Statement card label text) (remarked n t) q h k = absurd h
piece_one d (Note card text) (stated l) q h k = absurd h
piece_one d (Note card text) (remarked n t) (stated m) h k = absurd k
piece_one d (Note card text) (remarked n t) (remarked m u) h k = λ i. remarked ((h.0 ∙ sym k.0) i) ((h.1 ∙ sym k.1) i)

pieces_one : (d : Dialect) (es : List Entry) (ps qs : List Piece) → AreReadAs d es ps → AreReadAs d es qs → ps ≡ qs
pieces_one d [] [] [] h k = refl
pieces_one d [] [] (q ∷ qs) h k = absurd k
pieces_one d [] (p ∷ ps) qs h k = absurd h
pieces_one d (e ∷ es) [] qs h k = absurd h
pieces_one d (e ∷ es) (p ∷ ps) [] h k = absurd k
pieces_one d (e ∷ es) (p ∷ ps) (q ∷ qs) h k = λ i. piece_one d e p q h.0 k.0 i ∷ pieces_one d es ps qs h.1 k.1 i

-- what is read is not misspelled
read_not_misspelled : (d : Dialect) (e : Entry) (p : Piece) (fault : Fault) → IsReadAs d e p → ¬ IsMisspelled d e fault
read_not_misspelled d (Statement card label text) (stated l) fault h k = k.0 l.stmt h.2
read_not_misspelled d (Statement card label text) (remarked n t) fault h k = h
read_not_misspelled d (Note card text) p fault h k = k

all_read : (d : Dialect) (es : List Entry) (ps : List Piece) (fault : Fault) → AreReadAs d es ps → ¬ IsFirstMisspelled d es fault
all_read d [] ps fault h k = k
all_read d (e ∷ es) [] fault h k = h
all_read d (e ∷ es) (p ∷ ps) fault h (inl k) = read_not_misspelled d e p fault h.0 k
all_read d (e ∷ es) (p ∷ ps) fault h (inr k) = all_read d es ps fault h.1 k.1

-- what makes a deck has no fault
pub deck_unfaulted : (d : Dialect) (es : List Entry) (deck : Deck) (fault : Fault) → IsDeckOf d es deck → ¬ IsFirstFault d es fault
deck_unfaulted d es deck fault h (inl k) = all_read d es h.0 fault h.1 k
deck_unfaulted d es deck fault h (inr k) =
    none-some fault (sym h.2 ∙ ap (unit_fault d) (pieces_one d es h.0 k.0 h.1 k.1) ∙ k.2)

misspelled_one : (d : Dialect) (e : Entry) (a b : Fault) → IsMisspelled d e a → IsMisspelled d e b → a ≡ b
misspelled_one d (Statement card label text) a b h k = h.1 ∙ sym k.1
misspelled_one d (Note card text) a b h k = absurd h

first_one : (d : Dialect) (es : List Entry) (a b : Fault) → IsFirstMisspelled d es a → IsFirstMisspelled d es b → a ≡ b
first_one d [] a b h k = absurd h
first_one d (e ∷ es) a b (inl h) (inl k) = misspelled_one d e a b h k
first_one d (e ∷ es) a b (inl h) (inr k) = absurd (read_not_misspelled d e k.0.0 a k.0.1 h)
first_one d (e ∷ es) a b (inr h) (inl k) = absurd (read_not_misspelled d e h.0.0 b h.0.1 k)
first_one d (e ∷ es) a b (inr h) (inr k) = first_one d es a b h.1 k.1

pub first_faults_are_one : FirstFaultsAreOne
first_faults_are_one d es a b (inl h) (inl k) = first_one d es a b h k
first_faults_are_one d es a b (inl h) (inr k) = absurd (all_read d es k.0 a k.1 h)
first_faults_are_one d es a b (inr h) (inl k) = absurd (all_read d es h.0 b h.1 k)
first_faults_are_one d es a b (inr h) (inr k) =
    same_Some a b (sym h.2 ∙ ap (unit_fault d) (pieces_one d es h.0 k.0 h.1 k.1) ∙ k.2)

pub decks_are_one : DecksAreOne
decks_are_one d es a b h k = h.3 ∙ ap deck_of (pieces_one d es h.0 k.0 h.1 k.1) ∙ sym k.3

pub deck_or_first_fault : DeckOrFirstFault
deck_or_first_fault d entries = (deck_or_fault d entries, deck_unfaulted d entries)
