-- What a note that was judged is, and which rules its faults break.
use Rattle.std.proofs.Common.{◌≡◌, Bool, true, false, Option, Some, None, List, [], ◌∷◌, ◌++◌, Result, Ok, Err, refl}
use Rattle.std.specs.Prelude.{not, nat_le, if◌then◌else◌}
use Rattle.std.specs.List.{AllByRecursion, flat_map, list_all}
use Rattle.formula.specs.Adding.{adding_fault}
use Rattle.formula.specs.Reading.{or_else}
use Rattle.formula.specs.declared.definition_fault.DefFault.{DefFault}
use Rattle.formula.specs.declared.definition_fault.DefFault.TheVariants.{KnownName, UnknownFunction, BadCount, BadRecursion, FreeName, SameParameter, NoMemory}
use Rattle.fort_syntax.specs.FirstFaults.{stage_of}
use Rattle.fort_syntax.specs.declared.deck.Deck.{Deck}
use Rattle.fort_syntax.specs.declared.deck.Placed.{Placed}
use Rattle.fort_syntax.specs.declared.rule.Rule.{Rule}
use Rattle.fort_syntax.specs.declared.rule.Rule.TheVariants.{BadNote, NoInputOrOutput, UnknownNoteName, OutputNamesLocal}
use Rattle.fort_syntax.specs.declared.unit.Unit.{Unit as Routine}
use Rattle.fort_syntax.specs.Names.{is_own, is_local}
use Rattle.fort_notes.specs.Parts.{Parsed, parsed, refused, ◌>>=◌, word}
use Rattle.fort_notes.specs.Forms.{Form, bound, definition, input, output, assertion, run, try, proof}
use Rattle.fort_notes.specs.Judging.{Word, word_of_note, unit_of_number, is_in_place, is_second, Judged, headings, form_of, clocks, may_have_clocks, has_no_old, has_good_old, has_known_names, has_none_of, first_failing, rule_of_definition, rule_if, body_terms, step_terms, names_broken, judged_unless, judged_form, judged_as, judge}
use Rattle.note_laws.proofs.Small.{known}
use Rattle.note_laws.proofs.PartsGive.{Gives}
use Rattle.note_laws.proofs.FormsGive.{IsForm, note_gives}

-- ---- rules of faults

abbrev IsOfNotes : Option Rule → Type 0
IsOfNotes None = Unit {0}
IsOfNotes (Some rule) = stage_of rule ≡ 8

or_else_of_notes : (a b : Option Rule) → IsOfNotes a → IsOfNotes b → IsOfNotes (or_else a b)
or_else_of_notes None b h k = k
or_else_of_notes (Some rule) b h k = h

failing_of_notes : (tests : List (Bool × Rule)) → AllByRecursion (λ t. stage_of t.1 ≡ 8) tests → IsOfNotes (first_failing tests)
failing_of_notes [] h = tt
failing_of_notes (t ∷ tests) h = known t.0
    (λ e. go t.0 (failing_of_notes tests h.1))
    (λ e. go t.0 (failing_of_notes tests h.1))
  where
    go : (b : Bool) → IsOfNotes (first_failing tests) → IsOfNotes (if b then first_failing tests else Some t.1)
    go true k = k
    go false k = h.0

definition_rule : (f : DefFault) → stage_of (rule_of_definition f) ≡ 8
definition_rule KnownName = refl
definition_rule UnknownFunction = refl
definition_rule BadCount = refl
definition_rule BadRecursion = refl
definition_rule FreeName = refl
definition_rule SameParameter = refl
definition_rule NoMemory = refl

rule_if_of_notes : (o : Option DefFault) → IsOfNotes (rule_if o)
rule_if_of_notes None = tt
rule_if_of_notes (Some f) = definition_rule f

names_of_notes : (done : List Judged) (u : Option Routine) (f : Form) → IsOfNotes (names_broken done u f)
names_of_notes done u (bound b) = tt
names_of_notes done u (definition d) =
    or_else_of_notes (first_failing ((list_all has_no_old (body_terms d.body), BadNote) ∷ [])) (rule_if (adding_fault (headings done) d.name d.params d.body))
    (failing_of_notes ((list_all has_no_old (body_terms d.body), BadNote) ∷ []) (refl, tt)) (rule_if_of_notes (adding_fault (headings done) d.name d.params d.body))
names_of_notes done u (input ts) =
    failing_of_notes ((list_all has_no_old ts, BadNote) ∷ (list_all (has_known_names u) ts, UnknownNoteName) ∷ (list_all (has_none_of u is_own) ts, OutputNamesLocal) ∷ [])
    (refl, (refl, (refl, tt)))
names_of_notes done u (output ts) =
    failing_of_notes ((list_all (has_good_old u) ts, BadNote) ∷ (list_all (has_known_names u) ts, UnknownNoteName) ∷ (list_all (has_none_of u is_local) ts, OutputNamesLocal) ∷ [])
    (refl, (refl, (refl, tt)))
names_of_notes done u (assertion ts stands clock) =
    failing_of_notes ((list_all (has_good_old u) (ts ++ clock), BadNote) ∷ (list_all (has_known_names u) (ts ++ clock), UnknownNoteName) ∷ []) (refl, (refl, tt))
names_of_notes done u (run card) = tt
names_of_notes done u (try card) = tt
names_of_notes done u (proof p) = failing_of_notes ((list_all has_no_old (flat_map step_terms p.steps), BadNote) ∷ []) (refl, tt)

-- ---- a note that is not at fault

-- what was judged of a note behind others
pub record JudgedAs (deck : Deck) (done : List Judged) (n : Placed) (j : Judged) : Type 0 where
  pub first : Word
  pub is : word_of_note n ≡ Some first
  pub place : is_in_place deck done first n ≡ true
  pub unit : j.unit ≡ n.unit
  pub line : j.line ≡ n.line
  pub card : j.card ≡ n.card
  pub form : IsForm (headings done) first j.form
  pub names : names_broken done (unit_of_number deck.units n.unit) j.form ≡ None

-- what judging a note comes to
abbrev pub Judges : Deck → List Judged → Placed → Result Judged Rule → Type 0
Judges deck done n (Ok j) = JudgedAs deck done n j
Judges deck done n (Err rule) = stage_of rule ≡ 8

pub or_else_none : (a b : Option Rule) → or_else a b ≡ None → b ≡ None
or_else_none None b e = e
or_else_none (Some rule) b e = absurd (cc)

module _ (deck : Deck) (done : List Judged) (n : Placed) (w : Word) (is : word_of_note n ≡ Some w) (place : is_in_place deck done w n ≡ true) where
  unless_judges : (a : Option Rule) (f : Form) → IsOfNotes a → IsForm (headings done) w f
      → (a ≡ None → names_broken done (unit_of_number deck.units n.unit) f ≡ None) → Judges deck done n (judged_unless a n f)
  unless_judges (Some rule) f a h k = a
  unless_judges None f a h k = record { first = w; is = is; place = place; unit = refl; line = refl; card = refl; form = h; names = k refl }

  form_judges : (p : Parsed Form) → Gives (IsForm (headings done) w) p → Judges deck done n (judged_form done (unit_of_number deck.units n.unit) n p)
  form_judges (refused rule) h = h
  form_judges (parsed f rest) h =
      let u = unit_of_number deck.units n.unit in
      let clock = first_failing ((nat_le (clocks n.text) (may_have_clocks f), BadNote) ∷ []) in
      unless_judges (or_else clock (names_broken done u f)) f
      (or_else_of_notes clock (names_broken done u f) (failing_of_notes ((nat_le (clocks n.text) (may_have_clocks f), BadNote) ∷ []) (refl, tt)) (names_of_notes done u f))
      h (λ e. or_else_none clock (names_broken done u f) e)

word_judges : (deck : Deck) (done : List Judged) (n : Placed) (o : Option Word) → word_of_note n ≡ o → Judges deck done n (judged_as deck done n o)
word_judges deck done n None is = refl
word_judges deck done n (Some w) is = by (is_in_place deck done w n) refl
  where
    formed : Result Judged Rule
    formed = judged_form done (unit_of_number deck.units n.unit) n (word n.text >>= λ _ rest. form_of done w rest)

    second : (s : Bool) → Judges deck done n formed → Judges deck done n (if s then Err NoInputOrOutput else formed)
    second true h = refl
    second false h = h

    by : (b : Bool) → is_in_place deck done w n ≡ b → Judges deck done n (if not b then Err BadNote else if is_second done w n then Err NoInputOrOutput else formed)
    by false e = refl
    by true e = second (is_second done w n) (form_judges deck done n w is e (word n.text >>= λ _ rest. form_of done w rest) (note_gives done w n.text))

pub judge_judges : (deck : Deck) (done : List Judged) (n : Placed) → Judges deck done n (judge deck done n)
judge_judges deck done n = word_judges deck done n (word_of_note n) refl
