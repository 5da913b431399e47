-- The notes of a well-formed deck fit its units.
use Rattle.std.proofs.Common.{◌≡◌, ℕ, zero, suc, ◌+◌, ◌<◌, Bool, true, false, cond, Option, Some, None, List, [], ◌∷◌, ◌++◌, length, slice_get, refl, sym, ap, ◌∙◌, subst, arith}
use Rattle.std.specs.Prelude.{◌&&◌, ◌==◌, not, nat_lt, if◌then◌else◌}
use Rattle.std.specs.List.{flat_map, list_all, list_any}
use Rattle.std.proofs.lemmas.Bool.Decides.{nat_tests}
use Rattle.formula.specs.TermTests.{names_pass}
use Rattle.formula.specs.Tree.{Tree}
use Rattle.fort_syntax.specs.DeckOrder.{notes_ascend_above}
use Rattle.fort_syntax.specs.Names.{is_own, is_local}
use Rattle.fort_syntax.specs.declared.deck.Deck.{Deck}
use Rattle.fort_syntax.specs.declared.deck.Placed.{Placed}
use Rattle.fort_syntax.specs.declared.rule.Rule.{Rule}
use Rattle.fort_syntax.specs.declared.rule.Rule.TheVariants.{BadNote, UnknownNoteName, OutputNamesLocal}
use Rattle.fort_syntax.specs.declared.unit.Unit.{Unit as Routine}
use Rattle.fort_notes.specs.Assertions.{Assertion, Notes}
use Rattle.fort_notes.specs.Forms.{Form, bound, definition, input, output, assertion, run, try, proof}
use Rattle.fort_notes.specs.Judging.{Word, Bound, PlainDefinition, CountingDefinition, Input, Output, Assert, Run, Try, Proof, word_of_note, is_that, begins_with, unit_of_number, has_line, is_beside, is_alone_at_line, is_in_place, Judged, headings, has_no_old, has_good_old, has_known_names, has_none_of, first_failing, names_broken}
use Rattle.fort_notes.specs.Remarks.{Remarks, input_in, output_in, assertion_in, of_unit, notes_by, notes_of_units}
use Rattle.fort_model.specs.Fitting.{may_name, is_visible_role, any_role, has_entry, no_entry, FitsAssertion, FitsUnit}
use Rattle.fort_model.specs.Lists.{IsAmong}
use Rattle.fort_model.specs.Program.{assertion_in as assertion_found}
use Rattle.note_laws.specs.Laws.{NotesFitUnits}
use Rattle.note_laws.proofs.Small.{known, both_parts, none_among, flat_among, filter_passes, flat_tests, tests_front, tests_back, none_passes}
use Rattle.note_laws.proofs.FormsGive.{IsForm}
use Rattle.note_laws.proofs.NotesJudged.{JudgedAs}
use Rattle.note_laws.proofs.AllJudged.{AreJudged, Origin, origin, remarks_judged}
use Rattle.note_laws.proofs.NamesFit.{input_names, output_names, assert_names}

-- ---- tests that are all passed

passed : (b : Bool) (rule : Rule) (rest : Option Rule) → (if b then rest else Some rule) ≡ None → (b ≡ true) × (rest ≡ None)
passed true rule rest e = (refl, e)
passed false rule rest e = absurd (cc)

two_passed : (a b : Bool) (x y : Rule) → first_failing ((a, x) ∷ (b, y) ∷ []) ≡ None → (a ≡ true) × (b ≡ true)
two_passed a b x y e =
    let p = passed a x (first_failing ((b, y) ∷ [])) e in
    let q = passed b y None p.1 in (p.0, q.0)

three_passed : (a b c : Bool) (x y z : Rule) → first_failing ((a, x) ∷ (b, y) ∷ (c, z) ∷ []) ≡ None → (a ≡ true) × (b ≡ true) × (c ≡ true)
three_passed a b c x y z e =
    let p = passed a x (first_failing ((b, y) ∷ (c, z) ∷ [])) e in
    let q = passed b y (first_failing ((c, z) ∷ [])) p.1 in
    let r = passed c z None q.1 in (p.0, q.0, r.0)

-- ---- the notes of one unit

-- a judged note of the unit of a number
pub record OfUnit (deck : Deck) (js : List Judged) (i : ℕ) (j : Judged) : Type 0 where
  pub among : IsAmong j js
  pub unit : j.unit ≡ suc i
  pub origin : Origin deck deck.notes js j

same_number : (m n : ℕ) → (m == n) ≡ true → m ≡ n
same_number m n e = grind (arith, nat_tests)

pub of_unit_from : (deck : Deck) (js : List Judged) → AreJudged deck [] deck.notes js → (i : ℕ) (j : Judged) → IsAmong j (of_unit (suc i) js) → OfUnit deck js i j
of_unit_from deck js h i j m =
    let p = filter_passes (λ k. k.unit == suc i) js j m in
    record { among = p.0; unit = same_number j.unit (suc i) p.1; origin = origin deck js h j p.0 }

module _ (deck : Deck) (js : List Judged) (i : ℕ) (u : Routine) (is : slice_get deck.units i ≡ Some u) where
  -- what a note of the unit names breaks no rule
  names_kept : (j : Judged) (o : OfUnit deck js i j) → names_broken o.origin.before (Some u) j.form ≡ None
  names_kept j o =
      let place : unit_of_number deck.units o.origin.note.unit ≡ Some u = ap (unit_of_number deck.units) (sym o.origin.judged.unit ∙ o.unit) ∙ is in
      subst (λ (v : Option Routine). names_broken o.origin.before v j.form ≡ None) place o.origin.judged.names

  input_fits : (before : List Judged) (f : Form) → names_broken before (Some u) f ≡ None → list_all (names_pass (may_name u is_visible_role) no_entry) (input_in f) ≡ true
  input_fits before (input ts) e =
      let p = three_passed (list_all has_no_old ts) (list_all (has_known_names (Some u)) ts) (list_all (has_none_of (Some u) is_own) ts) BadNote UnknownNoteName OutputNamesLocal e in
      input_names u ts p.0 p.1 p.2
  input_fits before (bound b) e = refl
  input_fits before (definition d) e = refl
  input_fits before (output ts) e = refl
  input_fits before (assertion ts stands clock) e = refl
  input_fits before (run card) e = refl
  input_fits before (try card) e = refl
  input_fits before (proof p) e = refl

  output_fits : (before : List Judged) (f : Form) → names_broken before (Some u) f ≡ None
      → list_all (names_pass (may_name u (λ role. not (is_local role))) (has_entry u)) (output_in f) ≡ true
  output_fits before (output ts) e =
      let p = three_passed (list_all (has_good_old (Some u)) ts) (list_all (has_known_names (Some u)) ts) (list_all (has_none_of (Some u) is_local) ts) BadNote UnknownNoteName OutputNamesLocal e in
      output_names u ts p.0 p.1 p.2
  output_fits before (bound b) e = refl
  output_fits before (definition d) e = refl
  output_fits before (input ts) e = refl
  output_fits before (assertion ts stands clock) e = refl
  output_fits before (run card) e = refl
  output_fits before (try card) e = refl
  output_fits before (proof p) e = refl

-- ---- ASSERTs

-- what an ASSERT of a judged note is
pub record IsAssertOf (j : Judged) (a : Assertion) : Type 0 where
  pub stands : Bool
  pub form : j.form ≡ assertion a.terms stands a.clock
  pub point : a.point ≡ j.line
  pub card : a.card ≡ j.card

pub assert_of : (j : Judged) (a : Assertion) → IsAmong a (assertion_in j j.form) → IsAssertOf j a
assert_of j a m = go j.form refl m
  where
    go : (f : Form) → j.form ≡ f → IsAmong a (assertion_in j f) → IsAssertOf j a
    go (assertion ts stands clock) e (zero, m) =
        let same : record { point = j.line; card = j.card; terms = ts; clock = clock } ≡ a = cc in
        record {
          stands = stands;
          form = e ∙ ap (λ (x : Assertion). assertion x.terms stands x.clock) same;
          point = sym (ap (λ (x : Assertion). x.point) same);
          card = sym (ap (λ (x : Assertion). x.card) same);
        }
    go (assertion ts stands clock) e (suc k, m) = absurd (cc)
    go (bound b) e m = none_among m
    go (definition d) e m = none_among m
    go (input ts) e m = none_among m
    go (output ts) e m = none_among m
    go (run card) e m = none_among m
    go (try card) e m = none_among m
    go (proof p) e m = none_among m

-- an ASSERT has its word
assert_word : (deck : Deck) (before : List Judged) (n : Placed) (j : Judged) (ts clock : List Tree) (stands : Bool) → j.form ≡ assertion ts stands clock → (h : JudgedAs deck before n j) → h.first ≡ Assert
assert_word deck before n j ts clock stands e h = go h.first (subst (IsForm (headings before) h.first) e h.form)
  where
    go : (w : Word) → IsForm (headings before) w (assertion ts stands clock) → w ≡ Assert
    go Assert k = refl
    go Bound k = absurd k
    go PlainDefinition k = absurd k
    go CountingDefinition k = absurd k
    go Input k = absurd k
    go Output k = absurd k
    go Run k = absurd k
    go Try k = absurd k
    go Proof k = absurd k

-- an ASSERT of a unit: where it was judged, at a statement, alone
pub record AssertOrigin (deck : Deck) (js : List Judged) (i : ℕ) (a : Assertion) : Type 0 where
  pub judged : Judged
  pub of_unit : OfUnit deck js i judged
  pub is : IsAssertOf judged a
  pub begins : word_of_note of_unit.origin.note ≡ Some Assert
  pub alone : is_alone_at_line deck of_unit.origin.note ≡ true

pub assert_origin : (deck : Deck) (js : List Judged) → AreJudged deck [] deck.notes js → (i : ℕ) (a : Assertion)
    → IsAmong a (flat_map (λ j. assertion_in j j.form) (of_unit (suc i) js)) → AssertOrigin deck js i a
assert_origin deck js h i a m =
    let f = flat_among (λ j. assertion_in j j.form) (of_unit (suc i) js) a m in
    let o = of_unit_from deck js h i f.0 f.1 in
    let is = assert_of f.0 a f.2 in
    let judged = o.origin.judged in
    let w = assert_word deck o.origin.before o.origin.note f.0 a.terms a.clock is.stands is.form judged in
    record {
      judged = f.0;
      of_unit = o;
      is = is;
      begins = judged.is ∙ ap Some w;
      alone = subst (λ (x : Word). is_in_place deck o.origin.before x o.origin.note ≡ true) w judged.place;
    }

-- ---- cards

pub above : (m n : ℕ) → nat_lt m n ≡ true → m < n
above m n e = grind (arith, nat_tests)

-- judged notes stand on later cards, one behind the other
pub later_cards : (deck : Deck) (done : List Judged) (card : ℕ) (ns : List Placed) (js : List Judged) → AreJudged deck done ns js → notes_ascend_above card ns ≡ true
    → (j : Judged) → IsAmong j js → card < j.card
later_cards deck done card [] [] h up j m = none_among m
later_cards deck done card [] (k ∷ js) h up j m = absurd h
later_cards deck done card (n ∷ ns) [] h up j m = absurd h
later_cards deck done card (n ∷ ns) (k ∷ js) h up j m =
    let parts = both_parts (nat_lt card n.card) (notes_ascend_above n.card ns) up in
    at (above card n.card parts.0) (λ l. later_cards deck (done ++ k ∷ []) n.card ns js h.1 parts.1 j l) m
  where
    at : card < n.card → (IsAmong j js → n.card < j.card) → IsAmong j (k ∷ js) → card < j.card
    at lt rec (zero, e) = let same : k ≡ j = cc in subst (λ (c : ℕ). card < c) (sym h.0.card ∙ ap (λ (x : Judged). x.card) same) lt
    at lt rec (suc p, e) = let l = rec (p, e) in omega arith

pub cards_tell : (deck : Deck) (done : List Judged) (card : ℕ) (ns : List Placed) (js : List Judged) → AreJudged deck done ns js → notes_ascend_above card ns ≡ true
    → (j k : Judged) → IsAmong j js → IsAmong k js → j.card ≡ k.card → j ≡ k
cards_tell deck done card [] [] h up j k m l e = none_among m
cards_tell deck done card [] (i ∷ js) h up j k m l e = absurd h
cards_tell deck done card (n ∷ ns) [] h up j k m l e = absurd h
cards_tell deck done card (n ∷ ns) (i ∷ js) h up j k m l e =
    let parts = both_parts (nat_lt card n.card) (notes_ascend_above n.card ns) up in
    at (λ x p. later_cards deck (done ++ i ∷ []) n.card ns js h.1 parts.1 x p)
    (λ p q. cards_tell deck (done ++ i ∷ []) n.card ns js h.1 parts.1 j k p q e) m l
  where
    at : ((x : Judged) → IsAmong x js → n.card < x.card) → (IsAmong j js → IsAmong k js → j ≡ k) → IsAmong j (i ∷ js) → IsAmong k (i ∷ js) → j ≡ k
    at later rec (zero, p) (zero, q) = cc
    at later rec (zero, p) (suc b, q) =
        let same : i ≡ j = cc in
        let card : n.card ≡ j.card = sym h.0.card ∙ ap (λ (x : Judged). x.card) same in
        let lt = later k (b, q) in absurd (omega arith)
    at later rec (suc a, p) (zero, q) =
        let same : i ≡ k = cc in
        let card : n.card ≡ k.card = sym h.0.card ∙ ap (λ (x : Judged). x.card) same in
        let lt = later j (a, p) in absurd (omega arith)
    at later rec (suc a, p) (suc b, q) = rec (a, p) (b, q)

-- the ASSERT at its point is found where no other stands there
found : (xs : List Assertion) (a : Assertion) → IsAmong a xs → ((b : Assertion) → IsAmong b xs → b.point ≡ a.point → b ≡ a) → assertion_found xs a.point ≡ Some a
found [] a m h = none_among m
found (x ∷ xs) a m h = known (x.point == a.point)
    (λ t. ap (λ (b : Bool). cond b (Some x) (assertion_found xs a.point)) t ∙ ap Some (h x (0, refl) (same_number x.point a.point t)))
    (λ f. ap (λ (b : Bool). cond b (Some x) (assertion_found xs a.point)) f ∙ found xs a (behind f m) (λ b l e. h b (suc l.0, l.1) e))
  where
    behind : (x.point == a.point) ≡ false → IsAmong a (x ∷ xs) → IsAmong a xs
    behind f (zero, e) =
        let same : x ≡ a = cc in
        let q : (a.point == a.point) ≡ false = subst (λ (y : Assertion). (y.point == a.point) ≡ false) same f in
        absurd (own a.point q)
      where
        own : (n : ℕ) → (n == n) ≡ false → ⊥
        own n q = grind (arith, nat_tests)
    behind f (suc k, e) = (k, e)

alone_parts : (deck : Deck) (n : Placed) → is_alone_at_line deck n ≡ true
    → (has_line n.line (unit_of_number deck.units n.unit) ≡ true) × (list_any (λ m. begins_with Assert m && is_beside n m) deck.notes ≡ false)
alone_parts deck n e =
    let p = both_parts (has_line n.line (unit_of_number deck.units n.unit)) (not (list_any (λ m. begins_with Assert m && is_beside n m) deck.notes)) e in
    (p.0, not_true (list_any (λ m. begins_with Assert m && is_beside n m) deck.notes) p.1)
  where
    not_true : (b : Bool) → not b ≡ true → b ≡ false
    not_true true q = absurd (cc)
    not_true false q = refl

-- two ASSERTs of a unit at one point are one
pub one_at_point : (deck : Deck) (js : List Judged) → AreJudged deck [] deck.notes js → notes_ascend_above 0 deck.notes ≡ true → (i : ℕ) (a b : Assertion)
    → IsAmong a (flat_map (λ j. assertion_in j j.form) (of_unit (suc i) js)) → IsAmong b (flat_map (λ j. assertion_in j j.form) (of_unit (suc i) js))
    → b.point ≡ a.point → b ≡ a
one_at_point deck js h up i a b m l e =
    let p = assert_origin deck js h i a m in
    let q = assert_origin deck js h i b l in
    let same = cards_tell deck [] 0 deck.notes js h up q.judged p.judged q.of_unit.among p.of_unit.among (one_card p q) in
    let form : assertion b.terms q.is.stands b.clock ≡ assertion a.terms p.is.stands a.clock = sym q.is.form ∙ (ap (λ (j : Judged). j.form) same ∙ p.is.form) in
    one_assert a b (terms_of form) (clock_of form) e (q.is.card ∙ (ap (λ (j : Judged). j.card) same ∙ sym p.is.card))
  where
    terms_of : {ts us cs ds : List Tree} {x y : Bool} → assertion ts x cs ≡ assertion us y ds → ts ≡ us
    terms_of q = cc

    clock_of : {ts us cs ds : List Tree} {x y : Bool} → assertion ts x cs ≡ assertion us y ds → cs ≡ ds
    clock_of q = cc

    one_assert : (x y : Assertion) → y.terms ≡ x.terms → y.clock ≡ x.clock → y.point ≡ x.point → y.card ≡ x.card → y ≡ x
    one_assert x y ts cs ps ns = λ k. record { point = ps k; card = ns k; terms = ts k; clock = cs k }

    -- else the second would stand beside the first
    apart : (n o : Placed) → n.unit ≡ o.unit → n.line ≡ o.line → list_any (λ m. begins_with Assert m && is_beside n m) deck.notes ≡ false → word_of_note o ≡ Some Assert
        → IsAmong o deck.notes → n.card ≡ o.card
    apart n o unit line none word among =
        let test = none_passes (λ m. begins_with Assert m && is_beside n m) deck.notes none o among in
        beside n o unit line (sym (ap (λ (w : Option Word). is_that Assert w && is_beside n o) word) ∙ test)
      where
        beside : (n o : Placed) → n.unit ≡ o.unit → n.line ≡ o.line → is_beside n o ≡ false → n.card ≡ o.card
        beside n o unit line test = grind (arith, nat_tests)

    one_card : (p : AssertOrigin deck js i a) (q : AssertOrigin deck js i b) → q.judged.card ≡ p.judged.card
    one_card p q =
        let n = p.of_unit.origin in
        let o = q.of_unit.origin in
        let unit : n.note.unit ≡ o.note.unit = sym n.judged.unit ∙ (p.of_unit.unit ∙ (sym q.of_unit.unit ∙ o.judged.unit)) in
        let line : n.note.line ≡ o.note.line = sym n.judged.line ∙ (sym p.is.point ∙ (sym e ∙ (q.is.point ∙ o.judged.line))) in
        let none = alone_parts deck n.note p.alone in
        o.judged.card ∙ (sym (apart n.note o.note unit line none.1 q.begins o.among) ∙ sym n.judged.card)

fits_assert : (deck : Deck) (js : List Judged) → AreJudged deck [] deck.notes js → notes_ascend_above 0 deck.notes ≡ true → (i : ℕ) (u : Routine) → slice_get deck.units i ≡ Some u
    → (notes : Notes) → notes.asserts ≡ flat_map (λ j. assertion_in j j.form) (of_unit (suc i) js) → (a : Assertion) → IsAmong a notes.asserts → FitsAssertion u notes a
fits_assert deck js h up i u is notes asserts a m =
    let l = subst (IsAmong a) asserts m in
    let p = assert_origin deck js h i a l in
    let kept = subst (λ (f : Form). names_broken p.of_unit.origin.before (Some u) f ≡ None) p.is.form (names_kept deck js i u is p.judged p.of_unit) in
    let tests = two_passed (list_all (has_good_old (Some u)) (a.terms ++ a.clock)) (list_all (has_known_names (Some u)) (a.terms ++ a.clock)) BadNote UnknownNoteName kept in
    let all = assert_names u (a.terms ++ a.clock) tests.0 tests.1 in
    let place = alone_parts deck p.of_unit.origin.note p.alone in
    let unit : unit_of_number deck.units p.of_unit.origin.note.unit ≡ Some u = ap (unit_of_number deck.units) (sym p.of_unit.origin.judged.unit ∙ p.of_unit.unit) ∙ is in
    let line = subst (λ (o : Option Routine). has_line p.of_unit.origin.note.line o ≡ true) unit place.0 in
    record {
      terms = tests_front (names_pass (may_name u any_role) (has_entry u)) a.terms a.clock all;
      clock = tests_back (names_pass (may_name u any_role) (has_entry u)) a.terms a.clock all;
      stands = subst (λ (k : ℕ). k < length u.lines) (sym (p.is.point ∙ p.of_unit.origin.judged.line)) (above p.of_unit.origin.note.line (length u.lines) line);
      only = found notes.asserts a m (λ b k e. one_at_point deck js h up i a b l (subst (IsAmong b) asserts k) e);
    }

-- ---- units

fits_unit : (deck : Deck) (js : List Judged) → AreJudged deck [] deck.notes js → notes_ascend_above 0 deck.notes ≡ true → (i : ℕ) (u : Routine) → slice_get deck.units i ≡ Some u
    → FitsUnit u (notes_by (of_unit (suc i) js))
fits_unit deck js h up i u is = record {
  input = flat_tests (names_pass (may_name u is_visible_role) no_entry) (λ j. input_in j.form) (of_unit (suc i) js)
      (λ j m. let o = of_unit_from deck js h i j m in input_fits deck js i u is o.origin.before j.form (names_kept deck js i u is j o));
  output = flat_tests (names_pass (may_name u (λ role. not (is_local role))) (has_entry u)) (λ j. output_in j.form) (of_unit (suc i) js)
      (λ j m. let o = of_unit_from deck js h i j m in output_fits deck js i u is o.origin.before j.form (names_kept deck js i u is j o));
  asserts = λ a m. fits_assert deck js h up i u is (notes_by (of_unit (suc i) js)) refl a m;
}

-- the notes of a number are those of its unit
pub notes_at : (js : List Judged) (first : ℕ) (units : List Routine) (i : ℕ) (notes : Notes) → slice_get (notes_of_units js first units) i ≡ Some notes
    → (k : ℕ) → k ≡ first + i → notes ≡ notes_by (of_unit k js)
notes_at js first [] i notes e k same = absurd (cc)
notes_at js first (u ∷ us) zero notes e k same =
    let p : notes_by (of_unit first js) ≡ notes = cc in
    let q : first ≡ k = omega arith in sym p ∙ ap (λ (n : ℕ). notes_by (of_unit n js)) q
notes_at js first (u ∷ us) (suc i) notes e k same = let q : k ≡ suc first + i = omega arith in notes_at js (suc first) us i notes e k q

as_many : (js : List Judged) (first : ℕ) (units : List Routine) → length (notes_of_units js first units) ≡ length units
as_many js first [] = refl
as_many js first (u ∷ us) = ap suc (as_many js (suc first) us)

pub notes_fit_units : NotesFitUnits
notes_fit_units dialect deck r table well e =
    let j = remarks_judged deck r e in
    let units : r.units ≡ notes_of_units j.notes 1 deck.units = ap (λ (x : Remarks). x.units) j.is in
    record {
      count = ap length units ∙ as_many j.notes 1 deck.units;
      fits = λ i u notes is at.
          let k : suc i ≡ 1 + i = omega arith in
          let same = notes_at j.notes 1 deck.units i notes (ap (λ (ns : List Notes). slice_get ns i) (sym units) ∙ at) (suc i) k in
          subst (FitsUnit u) (sym same) (fits_unit deck j.notes j.are.all well.notes i u is);
    }
