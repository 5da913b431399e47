-- The judgement of one note by what is known of the earlier ones.
use Rattle.std.specs.Prelude.{ℕ, zero, suc, ◌≡◌, ◌==◌, ◌&&◌, ◌||◌, not, Bool, true, false, if◌then◌else◌, Option, Some, None, List, [], ◌∷◌, ◌++◌, drop, Result, Ok, Err}
use Rattle.std.specs.List.{list_any}
use Rattle.formula.specs.Adding.{adding_fault}
use Rattle.formula.specs.Atoms.{is_among}
use Rattle.formula.specs.Headings.{headings_of}
use Rattle.formula.specs.Reading.{or_else}
use Rattle.formula.specs.declared.definition.Definition.{Definition}
use Rattle.formula.specs.declared.definition.Heading.{Heading}
use Rattle.fort_syntax.specs.declared.deck.Deck.{Deck}
use Rattle.fort_syntax.specs.declared.deck.Placed.{Placed}
use Rattle.fort_syntax.specs.declared.rule.Rule.{Rule}
use Rattle.fort_syntax.specs.declared.rule.Rule.TheVariants.{BadNote, NoInputOrOutput}
use Rattle.fort_syntax.specs.declared.unit.Unit.{Unit as Routine}
use Rattle.fort_notes.specs.Forms.{Form, definition}
use Rattle.fort_notes.specs.Judging as judging
use Rattle.fort_notes.specs.Judging.{Judged, is_before_units, is_behind_units, is_at_head, is_alone_at_line, is_bound_form, is_input_form, is_output_form, headings, lemmas, rule_if, judged_unless, unit_of_number}
use Rattle.fort_notes.specs.Parts.{Parsed, parsed, refused, ◌>>=◌, word}
use Rattle.note_reading.specs.NoteTrees.{form_by, broken_by}
use Rattle.note_reading.specs.declared.note_form.NoteForm.{NoteForm}
use Rattle.note_reading.specs.declared.note_form.NoteForm.TheVariants as note
use Rattle.note_places.specs.Places.{is_known}
use Rattle.note_steps.specs.declared.refused.Refused.{Refused}
use Rattle.note_steps.specs.declared.refused.Refused.TheVariants.{Broken, Memory}
use Rattle.note_steps.specs.declared.taken.Taken.{Taken}

-- ---- answers

-- an answer, seen by view, is what is told, or the rule that is told; memory may run out at any note
abbrev pub Says : {X Y : Type 0} → (X → Y) → Result X Refused → Result Y Rule → Type 0
Says view (Ok x) told = told ≡ Ok (view x)
Says view (Err (Broken rule)) told = told ≡ Err rule
Says view (Err Memory) told = Unit {0}

-- ---- steps 1 and 2: places

-- a note stands where one with its first word may stand, where it is known whether a BOUND came before
abbrev pub is_placed : Deck → Bool → judging.Word → Placed → Bool
is_placed deck bounded judging.Bound n = is_before_units n && not bounded
is_placed deck bounded judging.PlainDefinition n = is_before_units n
is_placed deck bounded judging.CountingDefinition n = is_before_units n
is_placed deck bounded judging.Input n = is_at_head n
is_placed deck bounded judging.Output n = is_at_head n
is_placed deck bounded judging.Assert n = is_alone_at_line deck n
is_placed deck bounded judging.Run n = is_behind_units deck n
is_placed deck bounded judging.Try n = is_behind_units deck n
is_placed deck bounded judging.Proof n = is_behind_units deck n

-- the unit has an INPUT or OUTPUT of this word already
abbrev pub is_repeated : Taken → judging.Word → ℕ → Bool
is_repeated t judging.Input i = is_known i t.inputs
is_repeated t judging.Output i = is_known i t.outputs
is_repeated t w i = false

-- ---- step 3: forms

-- the part alone
abbrev pub form_only : Parsed Form → Result Form Rule
form_only (parsed f rest) = Ok f
form_only (refused rule) = Err rule

-- what stands behind the first word of a text
abbrev pub form_behind : List Heading → List (List ℕ) → judging.Word → List ℕ → Parsed Form
form_behind hs ls w text = word text >>= λ _ rest. form_by hs ls w rest

-- what a note says by steps 1 to 3
abbrev pub read_as : Deck → Taken → List Heading → Placed → Option judging.Word → Result Form Rule
read_as deck t hs n None = Err BadNote
read_as deck t hs n (Some w) =
    if not (is_placed deck t.bounded w n) then Err BadNote
    else if is_repeated t w n.unit then Err NoInputOrOutput
    else form_only (form_behind hs t.lemmas w n.text)

-- ---- steps 4 to 6: names

-- the rule that a definition breaks as one that is added
abbrev pub defined_broken : List Heading → Form → Option Rule
defined_broken hs (definition d) = rule_if (adding_fault hs d.name d.params d.body)
defined_broken hs f = None

abbrev pub all_broken : List Heading → Option Routine → List ℕ → Form → Option Rule
all_broken hs u text f = or_else (broken_by [] u text f) (defined_broken hs f)

-- ---- a note

abbrev pub judged_note : Placed → Form → Judged
judged_note n f = record { unit = n.unit; line = n.line; card = n.card; form = f }

abbrev pub told_if : List Heading → Option Routine → Placed → Result Form Rule → Result Judged Rule
told_if hs u n (Err rule) = Err rule
told_if hs u n (Ok f) = judged_unless (all_broken hs u n.text f) n f

-- what a note is judged to be, by what was gathered of the earlier ones
abbrev pub told : Deck → Taken → List Heading → Placed → Result Judged Rule
told deck t hs n = told_if hs (unit_of_number deck.units n.unit) n (read_as deck t hs n (judging.word_of_note n))

-- ---- what is gathered

-- the definition of a note
abbrev pub definitions_in : NoteForm → List Definition
definitions_in (note.Definition d) = d ∷ []
definitions_in f = []

-- what was gathered of notes that were judged
pub record Knows (t : Taken) (ds : List Definition) (done : List Judged) : Type 0 where
  pub bounded : list_any (λ j. is_bound_form j.form) done ≡ t.bounded
  pub inputs : (i : ℕ) → list_any (λ j. (j.unit == i) && is_input_form j.form) done ≡ is_known i t.inputs
  pub outputs : (i : ℕ) → list_any (λ j. (j.unit == i) && is_output_form j.form) done ≡ is_known i t.outputs
  pub lemmas : (x : List ℕ) → is_among x (lemmas done) ≡ is_among x t.lemmas
  pub headings : headings done ≡ headings_of ds

-- the step of one note, for what was gathered of any earlier ones
abbrev pub JudgesBy : Deck → Taken → List Definition → Placed → Type 0
JudgesBy deck t ds n = (done : List Judged) → Knows t ds done → judging.judge deck done n ≡ told deck t (headings_of ds) n
