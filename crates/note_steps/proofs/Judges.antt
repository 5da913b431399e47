-- The step of one note is the judgement of it.
use Rattle.std.proofs.Common.{◌≡◌, ℕ, Bool, true, false, not, Option, Some, None, List, [], ◌∷◌, refl, sym, ap, ◌∙◌}
use Rattle.std.specs.Prelude.{◌&&◌, nat_le, if◌then◌else◌, Result, Ok, Err}
use Rattle.std.specs.List.{list_all}
use Rattle.formula.specs.Adding.{adding_fault}
use Rattle.formula.specs.Atoms.{is_among, is_symbol}
use Rattle.formula.specs.Headings.{headings_of}
use Rattle.formula.specs.Reading.{or_else}
use Rattle.formula.specs.declared.definition.Definition.{Definition}
use Rattle.formula.specs.declared.definition.Heading.{Heading}
use Rattle.fort_syntax.specs.declared.deck.Deck.{Deck}
use Rattle.fort_syntax.specs.declared.deck.Placed.{Placed}
use Rattle.fort_syntax.specs.declared.rule.Rule.{Rule}
use Rattle.fort_syntax.specs.declared.rule.Rule.TheVariants.{BadNote, NoInputOrOutput}
use Rattle.fort_syntax.specs.declared.unit.Unit.{Unit as Routine}
use Rattle.fort_notes.specs.Forms.{Form, bound, definition, input, output, assertion, run, try, proof, proof_form, step_parts}
use Rattle.fort_notes.specs.Parts.{Parsed, parsed, refused, ◌>>=◌, word, word_of, passing, bracket, some, rest_of}
use Rattle.fort_notes.specs.Judging as judging
use Rattle.fort_notes.specs.Judging.{Judged, is_in_place, is_second, form_of, headings, lemmas, names_broken, judged_form, judged_as, judged_unless, judge, unit_of_number, word_of_note, first_failing, has_no_old, body_terms, rule_if, clocks, may_have_clocks, is_before_units}
use Rattle.note_reading.specs.NoteTrees.{form_by}
use Rattle.note_steps.specs.Steps.{Knows, is_placed, is_repeated, form_only, form_behind, read_as, told_if, told, all_broken, JudgesBy}
use Rattle.note_steps.specs.declared.taken.Taken.{Taken}

module _ (deck : Deck) (t : Taken) (ds : List Definition) (done : List Judged) (k : Knows t ds done) where
  placed : (w : judging.Word) (n : Placed) → is_in_place deck done w n ≡ is_placed deck t.bounded w n
  placed judging.Bound n = ap (λ b. is_before_units n && not b) k.bounded
  placed judging.PlainDefinition n = refl
  placed judging.CountingDefinition n = refl
  placed judging.Input n = refl
  placed judging.Output n = refl
  placed judging.Assert n = refl
  placed judging.Run n = refl
  placed judging.Try n = refl
  placed judging.Proof n = refl

  second : (w : judging.Word) (n : Placed) → is_second done w n ≡ is_repeated t w n.unit
  second judging.Bound n = refl
  second judging.PlainDefinition n = refl
  second judging.CountingDefinition n = refl
  second judging.Input n = k.inputs n.unit
  second judging.Output n = k.outputs n.unit
  second judging.Assert n = refl
  second judging.Run n = refl
  second judging.Try n = refl
  second judging.Proof n = refl

  proofs_alike : (hs : List Heading) (text : List ℕ) → proof_form hs (lemmas done) text ≡ proof_form hs t.lemmas text
  proofs_alike hs text = λ i. (word_of is_symbol text >>= λ lemma left. passing (not (k.lemmas lemma i)) lemma left) >>= λ lemma left.
      some (rest_of (bracket (step_parts hs)) left) >>= λ steps rest. parsed (proof (record { lemma = lemma; steps = steps })) rest

  form_is : (w : judging.Word) (text : List ℕ) → form_of done w text ≡ form_by (headings done) t.lemmas w text
  form_is judging.Bound text = refl
  form_is judging.PlainDefinition text = refl
  form_is judging.CountingDefinition text = refl
  form_is judging.Input text = refl
  form_is judging.Output text = refl
  form_is judging.Assert text = refl
  form_is judging.Run text = refl
  form_is judging.Try text = refl
  form_is judging.Proof text = proofs_alike (headings done) text

  behind : (w : judging.Word) (text : List ℕ) → (word text >>= λ _ rest. form_of done w rest) ≡ form_behind (headings_of ds) t.lemmas w text
  behind w text = (λ i. word text >>= λ _ rest. form_is w rest i) ∙ ap (λ hs. form_behind hs t.lemmas w text) k.headings

  or_none : (a : Option Rule) → a ≡ or_else a None
  or_none None = refl
  or_none (Some r) = refl

  or_more : (a b c : Option Rule) → or_else a (or_else b c) ≡ or_else (or_else a b) c
  or_more None b c = refl
  or_more (Some r) b c = refl

  -- CLOCK
  abbrev clock : List ℕ → Form → Option Rule
  clock text f = first_failing ((nat_le (clocks text) (may_have_clocks f), BadNote) ∷ [])

  -- CLOCK and names
  rules : (u : Option Routine) (text : List ℕ) (f : Form) → or_else (clock text f) (names_broken done u f) ≡ all_broken (headings done) u text f
  rules u text (definition d) =
      or_more (clock text (definition d)) (first_failing ((list_all has_no_old (body_terms d.body), BadNote) ∷ [])) (rule_if (adding_fault (headings done) d.name d.params d.body))
  rules u text (bound b) = or_none (or_else (clock text (bound b)) (names_broken done u (bound b)))
  rules u text (input ts) = or_none (or_else (clock text (input ts)) (names_broken done u (input ts)))
  rules u text (output ts) = or_none (or_else (clock text (output ts)) (names_broken done u (output ts)))
  rules u text (assertion ts s c) = or_none (or_else (clock text (assertion ts s c)) (names_broken done u (assertion ts s c)))
  rules u text (run c) = or_none (or_else (clock text (run c)) (names_broken done u (run c)))
  rules u text (try c) = or_none (or_else (clock text (try c)) (names_broken done u (try c)))
  rules u text (proof p) = or_none (or_else (clock text (proof p)) (names_broken done u (proof p)))

  judged_is : (u : Option Routine) (n : Placed) (p : Parsed Form) → judged_form done u n p ≡ told_if (headings_of ds) u n (form_only p)
  judged_is u n (refused rule) = refl
  judged_is u n (parsed f rest) = ap (λ r. judged_unless r n f) (rules u n.text f ∙ ap (λ hs. all_broken hs u n.text f) k.headings)

  chosen : (u : Option Routine) (n : Placed) (b c : Bool) (p : Parsed Form)
      → (if not b then Err BadNote else if c then Err NoInputOrOutput else judged_form done u n p)
      ≡ told_if (headings_of ds) u n (if not b then Err BadNote else if c then Err NoInputOrOutput else form_only p)
  chosen u n false c p = refl
  chosen u n true true p = refl
  chosen u n true false p = judged_is u n p

  by_word : (n : Placed) (w : Option judging.Word) → judged_as deck done n w ≡ told_if (headings_of ds) (unit_of_number deck.units n.unit) n (read_as deck t (headings_of ds) n w)
  by_word n None = refl
  by_word n (Some w) =
      (λ i. if not (placed w n i) then Err BadNote else if second w n i then Err NoInputOrOutput else judged_form done (unit_of_number deck.units n.unit) n (behind w n.text i))
      ∙ chosen (unit_of_number deck.units n.unit) n (is_placed deck t.bounded w n) (is_repeated t w n.unit) (form_behind (headings_of ds) t.lemmas w n.text)

pub judge_is : (deck : Deck) (t : Taken) (ds : List Definition) (n : Placed) → JudgesBy deck t ds n
judge_is deck t ds n = λ done k. by_word deck t ds done k n (word_of_note n)
