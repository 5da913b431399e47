-- The terms of notes that fit their units, and that a text can spell, have names of FORTRAN.
use Rattle.std.proofs.Common.{◌≡◌, ℕ, zero, suc, ◌<◌, ◌^◌, Bool, true, false, ◌||◌, not, List, [], ◌∷◌, length, Option, Some, None, slice_get, refl, subst, arith}
use Rattle.std.specs.List.{All, AllByRecursion, list_all}
use Rattle.std.proofs.lemmas.List.Elements.{All-head, All-tail}
use Rattle.formula.specs.declared.definition.Heading.{Heading}
use Rattle.formula.specs.Atoms.{is_name}
use Rattle.formula.specs.ReadableTerms.{IsReadableTerm}
use Rattle.formula.specs.Substitution.{is_bound}
use Rattle.formula.specs.TermTests.{names_pass, row_names_pass}
use Rattle.formula.specs.Tree.{Tree, num, truth, symbol, old, apply, Row, none, more}
use Rattle.fort_syntax.specs.Names.{data_name, has_role, is_local}
use Rattle.fort_syntax.specs.declared.unit.DataName.{DataName}
use Rattle.fort_syntax.specs.declared.unit.Role.{Role}
use Rattle.fort_syntax.specs.declared.unit.Unit.{Unit as Routine}
use Rattle.fort_notes.specs.Assertions.{Assertion, Notes}
use Rattle.fort_model.specs.Fitting.{may_name, is_visible_role, any_role, has_entry, no_entry, FitsAssertion, FitsUnit, HasFittingNotes}
use Rattle.fort_model.specs.Program.{Program, notes_in, notes_of}
use Rattle.note_laws.specs.Readable.{IsReadableAssertion, AreReadableNotes}
use Rattle.note_laws.proofs.Small.{both_parts, both_hold}
use Rattle.readable_laws.proofs.Made.{IsNoted, may_stand}
use Rattle.readable_laws.proofs.Right.{IsUnitRight, IsAssertRight, AreNotesRight}

-- ---- lists

pub each_of : {A : Type 0} (P : A → Type 0) (xs : List A) → All P xs → AllByRecursion P xs
each_of P [] h = tt
each_of P (x ∷ xs) h = (All-head P x xs h, each_of P xs (All-tail P x xs h))

pub at_place : {A : Type 0} (P : A → Type 0) (xs : List A) → AllByRecursion P xs → (k : ℕ) (x : A) → slice_get xs k ≡ Some x → P x
at_place P [] h k x e = absurd (cc)
at_place P (y ∷ ys) h zero x e = let f : y ≡ x = cc in subst P f h.0
at_place P (y ∷ ys) h (suc k) x e = at_place P ys h.1 k x e

pub no_gap : {A : Type 0} (xs : List A) (k : ℕ) → k < length xs → slice_get xs k ≡ None → ⊥
no_gap [] k lt e = absurd (omega arith)
no_gap (x ∷ xs) zero lt e = absurd (cc)
no_gap (x ∷ xs) (suc k) lt e = no_gap xs k (omega arith) e

-- ---- more names

module _ (a b c d : List ℕ → Bool) (h : (w : List ℕ) → a w ≡ true → c w ≡ true) (k : (w : List ℕ) → b w ≡ true → d w ≡ true) where
  mutual
    names_more : (t : Tree) → names_pass a b t ≡ true → names_pass c d t ≡ true
    names_more (num z) e = refl
    names_more (truth t) e = refl
    names_more (symbol w) e = h w e
    names_more (old w) e = k w e
    names_more (apply f row) e = row_names_more row e

    row_names_more : (row : Row) → row_names_pass a b row ≡ true → row_names_pass c d row ≡ true
    row_names_more none e = refl
    row_names_more (more t row) e =
        let p = both_parts (names_pass a b t) (row_names_pass a b row) e in both_hold (names_pass c d t) (row_names_pass c d row) (names_more t p.0) (row_names_more row p.1)

-- ---- the terms of a unit

module _ (hs : List Heading) (u : Routine) (r : IsUnitRight u) where
  role_named : (is : Role → Bool) (w : List ℕ) → has_role is (data_name u w) ≡ true → is_name w ≡ true
  role_named is w e = by (data_name u w) refl e
    where
      by : (o : Option DataName) → data_name u w ≡ o → has_role is o ≡ true → is_name w ≡ true
      by None q t = absurd (cc)
      by (Some d) q t = r.names w d q

  may_stand_named : (is : Role → Bool) (w : List ℕ) → may_name u is w ≡ true → may_stand hs w ≡ true
  may_stand_named is w e = by (is_bound w) e
    where
      by : (b : Bool) → (b || has_role is (data_name u w)) ≡ true → (b || is_name w) ≡ true
      by true t = refl
      by false t = role_named is w t

  entry_named : (w : List ℕ) → has_entry u w ≡ true → is_name w ≡ true
  entry_named w e = role_named is_visible_role w (both_parts _ (has_role is_visible_role (data_name u w)) e).1

  no_entry_named : (w : List ℕ) → no_entry w ≡ true → is_name w ≡ true
  no_entry_named w e = absurd (cc)

  noted : (is : Role → Bool) (entry : List ℕ → Bool) → ((w : List ℕ) → entry w ≡ true → is_name w ≡ true) → (ts : List Tree) → AllByRecursion (IsReadableTerm hs) ts
      → list_all (names_pass (may_name u is) entry) ts ≡ true → AllByRecursion (IsNoted hs) ts
  noted is entry k [] h e = tt
  noted is entry k (t ∷ ts) h e =
      let p = both_parts (names_pass (may_name u is) entry t) (list_all (names_pass (may_name u is) entry) ts) e in
      (record { readable = h.0; names = names_more (may_name u is) entry (may_stand hs) is_name (may_stand_named is) k t p.0 }, noted is entry k ts h.1 p.1)

  assert_right : (notes : Notes) (a : Assertion) → IsReadableAssertion hs a → FitsAssertion u notes a → a.card < 2 ^ 32 → IsAssertRight hs a
  assert_right notes a h f c = record {
    card = c;
    terms = noted any_role (has_entry u) entry_named a.terms (each_of (IsReadableTerm hs) a.terms h.terms) f.terms;
    clock = noted any_role (has_entry u) entry_named a.clock (each_of (IsReadableTerm hs) a.clock h.clock) f.clock;
  }

  notes_fit : (notes : Notes) → AreReadableNotes hs notes → FitsUnit u notes → 0 < length notes.input → ((k : ℕ) (a : Assertion) → slice_get notes.asserts k ≡ Some a → a.card < 2 ^ 32) → AreNotesRight hs notes
  notes_fit notes h f some cards = record {
    some = some;
    input = noted is_visible_role no_entry no_entry_named notes.input (each_of (IsReadableTerm hs) notes.input h.input) f.input;
    output = noted (λ role. not (is_local role)) (has_entry u) entry_named notes.output (each_of (IsReadableTerm hs) notes.output h.output) f.output;
    asserts = λ k a e. assert_right notes a (at_place (IsReadableAssertion hs) notes.asserts (each_of (IsReadableAssertion hs) notes.asserts h.asserts) k a e) (f.asserts a (k, e)) (cards k a e);
  }

-- the notes of a unit of a program whose notes fit, and can be read back
pub notes_right : (hs : List Heading) (p : Program) → HasFittingNotes p → All (AreReadableNotes hs) p.notes → (i : ℕ) (u : Routine) → slice_get p.units i ≡ Some u → IsUnitRight u
    → 0 < length (notes_of p i).input → ((k : ℕ) (a : Assertion) → slice_get (notes_of p i).asserts k ≡ Some a → a.card < 2 ^ 32) → AreNotesRight hs (notes_of p i)
notes_right hs p fits read i u is r some cards = by (slice_get p.notes i) refl some cards
  where
    by : (o : Option Notes) → slice_get p.notes i ≡ o → 0 < length (notes_in o).input → ((k : ℕ) (a : Assertion) → slice_get (notes_in o).asserts k ≡ Some a → a.card < 2 ^ 32) → AreNotesRight hs (notes_in o)
    by None e some cards = absurd (omega arith)
    by (Some notes) e some cards = notes_fit hs u r notes (at_place (AreReadableNotes hs) p.notes (each_of (AreReadableNotes hs) p.notes read) i notes e) (fits.fits i u notes is e) some cards
