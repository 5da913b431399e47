-- The INPUT of each unit of a deck whose notes are not at fault has a term.
use Rattle.std.proofs.Common.{◌≡◌, ℕ, zero, suc, ◌+◌, ◌<◌, Bool, true, false, not, ◌&&◌, ◌||◌, List, [], ◌∷◌, ◌++◌, flat_map, filter, length, cond, Option, Some, None, Result, Ok, Err, slice_get, refl, sym, ap, ◌∙◌, subst, arith}
use Rattle.std.specs.Prelude.{◌==◌, nat_le, if◌then◌else◌}
use Rattle.std.specs.List.{list_any}
use Rattle.std.proofs.lemmas.Bool.Decides.{nat_tests}
use Rattle.std.proofs.lemmas.List.{length-append}
use Rattle.formula.specs.Reading.{or_else}
use Rattle.formula.specs.Tree.{Tree}
use Rattle.formula.specs.declared.definition.Heading.{Heading}
use Rattle.fort_syntax.specs.declared.deck.Deck.{Deck}
use Rattle.fort_syntax.specs.declared.deck.Placed.{Placed}
use Rattle.fort_syntax.specs.declared.refusal.Fault.{Fault}
use Rattle.fort_syntax.specs.declared.rule.Rule.{Rule}
use Rattle.fort_syntax.specs.declared.rule.Rule.TheVariants.{BadNote, NoInputOrOutput}
use Rattle.fort_syntax.specs.declared.unit.Unit.{Unit as Routine}
use Rattle.fort_notes.specs.Assertions.{Notes}
use Rattle.fort_notes.specs.Parts.{Parsed, parsed, refused, ◌>>=◌, rest_of, some, word, term}
use Rattle.fort_notes.specs.Forms.{Form, bound, definition, input, output, assertion, run, try, proof, terms}
use Rattle.fort_notes.specs.Judging.{Word, Bound, PlainDefinition, CountingDefinition, Input, Output, Assert, Run, Try, Proof, word_of_note, is_that, begins_with, unit_of_number, is_in_place, is_second, Judged, headings, form_of, clocks, may_have_clocks, first_failing, names_broken, judged_unless, judged_form, judged_as, judge, judged_then, judged_from, judged, stands_in, lacks_note, lacking_from, missing_note, judged_or_fault}
use Rattle.fort_notes.specs.Remarks.{Remarks, input_in, of_unit, notes_by, remarks_by, remarks_if, remarks_of}
use Rattle.fort_model.specs.Lists.{IsAmong}
use Rattle.note_laws.proofs.Small.{known, both_parts, none_among}
use Rattle.note_laws.proofs.FormsGive.{IsForm}
use Rattle.note_laws.proofs.NotesJudged.{Judges, judge_judges}
use Rattle.fort_laws.proofs.Kept.{among_left, among_right}
use Rattle.note_laws.proofs.NotesFit.{notes_at}

-- ---- what is judged as INPUT has a term

abbrev pub HasTerm : Form → Type 0
HasTerm (input ts) = 0 < length ts
HasTerm _ = Unit {0}

-- what a parsed form is
abbrev Holds : Parsed Form → Type 0
Holds (parsed f rest) = HasTerm f
Holds (refused rule) = Unit {0}

abbrev HoldsSome : Parsed (List Tree) → Type 0
HoldsSome (parsed ts rest) = 0 < length ts
HoldsSome (refused rule) = Unit {0}

some_holds : (p : Parsed (List Tree)) → HoldsSome (some p)
some_holds (refused rule) = tt
some_holds (parsed [] rest) = tt
some_holds (parsed (t ∷ ts) rest) = let one : 0 < length (t ∷ ts) = omega arith in one

input_holds : (p : Parsed (List Tree)) → HoldsSome p → Holds (p >>= λ ts rest. parsed (input ts) rest)
input_holds (refused rule) h = tt
input_holds (parsed ts rest) h = h

-- a note that begins with INPUT and was judged so
abbrev OkHolds : Result Judged Rule → Type 0
OkHolds (Ok j) = HasTerm j.form
OkHolds (Err rule) = Unit {0}

unless_holds : (a : Option Rule) (n : Placed) (f : Form) → HasTerm f → OkHolds (judged_unless a n f)
unless_holds None n f h = h
unless_holds (Some rule) n f h = tt

formed_holds : (done : List Judged) (u : Option Routine) (n : Placed) (p : Parsed Form) → Holds p → OkHolds (judged_form done u n p)
formed_holds done u n (refused rule) h = tt
formed_holds done u n (parsed f rest) h = unless_holds (or_else (first_failing ((nat_le (clocks n.text) (may_have_clocks f), BadNote) ∷ [])) (names_broken done u f)) n f h

word_holds : (done : List Judged) (p : Parsed (List ℕ)) → Holds (p >>= λ _ rest. form_of done Input rest)
word_holds done (refused rule) = tt
word_holds done (parsed w rest) = input_holds (terms (headings done) rest) (some_holds (rest_of (term (headings done) None) rest))

input_judged : (deck : Deck) (done : List Judged) (n : Placed) → OkHolds (judged_as deck done n (Some Input))
input_judged deck done n = by (is_in_place deck done Input n) (is_second done Input n)
  where
    formed : Result Judged Rule
    formed = judged_form done (unit_of_number deck.units n.unit) n (word n.text >>= λ _ rest. form_of done Input rest)

    by : (b s : Bool) → OkHolds (if not b then Err BadNote else if s then Err NoInputOrOutput else formed)
    by false s = tt
    by true true = tt
    by true false = formed_holds done (unit_of_number deck.units n.unit) n (word n.text >>= λ _ rest. form_of done Input rest) (word_holds done (word n.text))

judged_holds : (deck : Deck) (done : List Judged) (n : Placed) → word_of_note n ≡ Some Input → OkHolds (judge deck done n)
judged_holds deck done n e = subst (λ (o : Option Word). OkHolds (judged_as deck done n o)) (sym e) (input_judged deck done n)

-- ---- all notes

all_is : (xs ys : List Judged) → judged_or_fault (Ok xs) None ≡ Ok ys → xs ≡ ys
all_is xs ys e = cc

module _ (deck : Deck) where
  -- what was judged before stays
  stays : (ns : List Placed) (done all : List Judged) → judged_from deck done ns ≡ Ok all → (x : Judged) → IsAmong x done → IsAmong x all
  stays [] done all e x m = subst (IsAmong x) (all_is done all e) m
  stays (n ∷ ns) done all e x m = by (judge deck done n) e (λ j q. stays ns (done ++ j ∷ []) all q x (among_left x done (j ∷ []) m))
    where
      by : (r : Result Judged Rule) → judged_then r n.card (λ j. judged_from deck (done ++ j ∷ []) ns) ≡ Ok all → ((j : Judged) → judged_from deck (done ++ j ∷ []) ns ≡ Ok all → IsAmong x all) → IsAmong x all
      by (Err rule) q rec = absurd (cc)
      by (Ok j) q rec = rec j q

  -- a note that begins with INPUT was judged as one with a term
  record IsInputOf (all : List Judged) (n : Placed) : Type 0 where
    j : Judged
    among : IsAmong j all
    unit : j.unit ≡ n.unit
    some : 0 < length (input_in j.form)

  some_input : (hs : List Heading) (f : Form) → IsForm hs Input f → HasTerm f → 0 < length (input_in f)
  some_input hs (input ts) h k = k
  some_input hs (bound b) h k = absurd h
  some_input hs (definition d) h k = absurd h
  some_input hs (output ts) h k = absurd h
  some_input hs (assertion ts stands clock) h k = absurd h
  some_input hs (run card) h k = absurd h
  some_input hs (try card) h k = absurd h
  some_input hs (proof p) h k = absurd h

  one_word : (v w : Word) → Some v ≡ Some w → v ≡ w
  one_word v w e = cc

  one_input : (done : List Judged) (n : Placed) (j : Judged) → word_of_note n ≡ Some Input → judge deck done n ≡ Ok j → (j.unit ≡ n.unit) × (0 < length (input_in j.form))
  one_input done n j e q =
      let h = subst (Judges deck done n) q (judge_judges deck done n) in
      let k = subst OkHolds q (judged_holds deck done n e) in
      let first = one_word h.first Input (sym h.is ∙ e) in
      (h.unit, some_input (headings done) j.form (subst (λ (w : Word). IsForm (headings done) w j.form) first h.form) k)

  found : (ns : List Placed) (done all : List Judged) → judged_from deck done ns ≡ Ok all → (n : Placed) → IsAmong n ns → word_of_note n ≡ Some Input → IsInputOf all n
  found [] done all e n m word = none_among m
  found (k ∷ ns) done all e n (zero, at) word = by (judge deck done k) refl e
    where
      same : k ≡ n
      same = cc

      by : (r : Result Judged Rule) → judge deck done k ≡ r → judged_then r k.card (λ j. judged_from deck (done ++ j ∷ []) ns) ≡ Ok all → IsInputOf all n
      by (Err rule) q s = absurd (cc)
      by (Ok j) q s =
          let o = one_input done n j word (ap (judge deck done) (sym same) ∙ q) in
          record { j = j; among = stays ns (done ++ j ∷ []) all s j (among_right j done (j ∷ []) (0, refl)); unit = o.0; some = o.1 }
  found (k ∷ ns) done all e n (suc i, at) word = by (judge deck done k) e (λ j q. found ns (done ++ j ∷ []) all q n (i, at) word)
    where
      by : (r : Result Judged Rule) → judged_then r k.card (λ j. judged_from deck (done ++ j ∷ []) ns) ≡ Ok all → ((j : Judged) → judged_from deck (done ++ j ∷ []) ns ≡ Ok all → IsInputOf all n) → IsInputOf all n
      by (Err rule) q rec = absurd (cc)
      by (Ok j) q rec = rec j q

-- ---- each unit has such a note

any_among : {A : Type 0} (test : A → Bool) (xs : List A) → list_any test xs ≡ true → (x : A) × IsAmong x xs × (test x ≡ true)
any_among test [] h = absurd (cc)
any_among {A = A} test (x ∷ xs) h = known (test x) (λ t. (x, (0, refl), t)) (λ f. behind (any_among test xs (sym (ap (λ (b : Bool). b || list_any test xs) f) ∙ h)))
  where
    behind : (y : A) × IsAmong y xs × (test y ≡ true) → (y : A) × IsAmong y (x ∷ xs) × (test y ≡ true)
    behind r = (r.0, (suc r.1.0, r.1.1), r.2)

input_word : (o : Option Word) → is_that Input o ≡ true → o ≡ Some Input
input_word None h = absurd (cc)
input_word (Some Input) h = refl
input_word (Some Bound) h = absurd (cc)
input_word (Some PlainDefinition) h = absurd (cc)
input_word (Some CountingDefinition) h = absurd (cc)
input_word (Some Output) h = absurd (cc)
input_word (Some Assert) h = absurd (cc)
input_word (Some Run) h = absurd (cc)
input_word (Some Try) h = absurd (cc)
input_word (Some Proof) h = absurd (cc)

has_note : (notes : List Placed) (us : List Routine) (first i k : ℕ) (u : Routine) → k ≡ first + i → lacking_from notes first us ≡ None → slice_get us i ≡ Some u → lacks_note notes k ≡ false
has_note notes [] first i k u same none at = absurd (cc)
has_note notes (v ∷ us) first i k u same none at = by (lacks_note notes first) refl none (λ q j l at. has_note notes us (suc first) j k u l q at) i same at
  where
    by : (t : Bool) → lacks_note notes first ≡ t → (if t then Some (record { rule = NoInputOrOutput; card = v.head }) else lacking_from notes (suc first) us) ≡ None
        → (lacking_from notes (suc first) us ≡ None → (j : ℕ) → k ≡ suc first + j → slice_get us j ≡ Some u → lacks_note notes k ≡ false)
        → (i : ℕ) → k ≡ first + i → slice_get (v ∷ us) i ≡ Some u → lacks_note notes k ≡ false
    by true e q rec i same at = absurd (cc)
    by false e q rec zero same at = let z : first ≡ k = omega arith in ap (lacks_note notes) (sym z) ∙ e
    by false e q rec (suc j) same at = rec q j (omega arith) at

not_lacking : (a b : Bool) → not (a && b) ≡ false → a ≡ true
not_lacking true b h = refl
not_lacking false b h = absurd (cc)

equal_numbers : (m n : ℕ) → (m == n) ≡ true → m ≡ n
equal_numbers m n e = grind (arith, nat_tests)

same_number : (m n : ℕ) → m ≡ n → (m == n) ≡ true
same_number m n e = grind (arith, nat_tests)

-- what a judged note of the unit gives stands among what all of them give
given_some : (test : Judged → Bool) (js : List Judged) (j : Judged) → IsAmong j js → test j ≡ true → 0 < length (input_in j.form) → 0 < length (flat_map (λ x. input_in x.form) (filter test js))
given_some test [] j m t some = none_among m
given_some test (k ∷ js) j (zero, e) t some =
    let same : k ≡ j = cc in
    let q : test k ≡ true = ap test same ∙ t in
    subst (λ (b : Bool). 0 < length (flat_map (λ x. input_in x.form) (cond b (k ∷ filter test js) (filter test js)))) (sym q)
    (longer (input_in k.form) (flat_map (λ x. input_in x.form) (filter test js)) (subst (λ (x : Judged). 0 < length (input_in x.form)) (sym same) some))
  where
    longer : (xs ys : List Tree) → 0 < length xs → 0 < length (xs ++ ys)
    longer xs ys h = let e = length-append xs ys in omega arith
given_some test (k ∷ js) j (suc i, e) t some = by (test k) (given_some test js j (i, e) t some)
  where
    by : (b : Bool) → 0 < length (flat_map (λ x. input_in x.form) (filter test js)) → 0 < length (flat_map (λ x. input_in x.form) (cond b (k ∷ filter test js) (filter test js)))
    by false h = h
    by true h = let e = length-append (input_in k.form) (flat_map (λ x. input_in x.form) (filter test js)) in omega arith

-- ---- the notes of a deck

record IsJudgedOf (deck : Deck) (r : Remarks) : Type 0 where
  all : List Judged
  judged_is : judged deck ≡ Ok all
  none : missing_note deck ≡ None
  is : remarks_by deck.units all ≡ r

judged_of : (deck : Deck) (r : Remarks) → remarks_of deck ≡ Ok r → IsJudgedOf deck r
judged_of deck r e = by (judged deck) refl (missing_note deck) refl e
  where
    by : (a : Result (List Judged) Fault) → judged deck ≡ a → (o : Option Fault) → missing_note deck ≡ o → remarks_if deck.units (judged_or_fault a o) ≡ Ok r → IsJudgedOf deck r
    by (Err f) q o s k = absurd (cc)
    by (Ok all) q (Some g) s k = absurd (cc)
    by (Ok all) q None s k = record { all = all; judged_is = q; none = s; is = same k }
      where
        same : remarks_if deck.units (Ok all) ≡ Ok r → remarks_by deck.units all ≡ r
        same l = cc

pub inputs_have_terms : (deck : Deck) (r : Remarks) → remarks_of deck ≡ Ok r → (i : ℕ) (u : Routine) (notes : Notes) → slice_get deck.units i ≡ Some u → slice_get r.units i ≡ Some notes → 0 < length notes.input
inputs_have_terms deck r e i u notes is at =
    let d = judged_of deck r e in
    let lacks = has_note deck.notes deck.units 1 i (suc i) u (omega arith) d.none is in
    let stands = not_lacking (stands_in Input (suc i) deck.notes) (stands_in Output (suc i) deck.notes) lacks in
    let n = any_among (λ n. (n.unit == suc i) && begins_with Input n) deck.notes stands in
    let p = both_parts (n.0.unit == suc i) (begins_with Input n.0) n.2 in
    let f = found deck deck.notes [] d.all d.judged_is n.0 n.1 (input_word (word_of_note n.0) p.1) in
    let unit : f.j.unit ≡ suc i = f.unit ∙ equal_numbers n.0.unit (suc i) p.0 in
    let same : notes ≡ notes_by (of_unit (suc i) d.all) = notes_at d.all 1 deck.units i notes (ap (λ (x : Remarks). slice_get x.units i) d.is ∙ at) (suc i) (omega arith) in
    subst (λ (x : Notes). 0 < length x.input) (sym same) (given_some (λ j. j.unit == suc i) d.all f.j f.among (same_number f.j.unit (suc i) unit) f.some)
