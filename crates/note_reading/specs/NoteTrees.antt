-- What notes with ids of a pool stand for, and what is read behind each first word.
use Rattle.std.specs.Prelude.{ℕ, nat_le, Option, List, [], ◌∷◌, length}
use Rattle.std.specs.List.{list_all}
use Rattle.formula.specs.declared.definition.Heading.{Heading}
use Rattle.formula.specs.declared.node.Node.{Node}
use Rattle.formula.specs.Adding.{IsBodyIn}
use Rattle.formula.specs.Pool.{AllBelow}
use Rattle.formula.specs.Reading.{or_else}
use Rattle.formula.specs.Worth.{function_of}
use Rattle.fort_syntax.specs.declared.rule.Rule.{Rule}
use Rattle.fort_syntax.specs.declared.rule.Rule.TheVariants.{BadNote}
use Rattle.fort_syntax.specs.declared.unit.Unit.{Unit as Routine}
use Rattle.fort_notes.specs.Parts.{Parsed, parsed, ◌>>=◌}
use Rattle.fort_notes.specs.Forms.{Form, bound, definition, input, output, run, try, proof, terms, bound_form, plain_form, counting_form, assertion_form, run_form, try_form, proof_form}
use Rattle.fort_notes.specs.Judging as judging
use Rattle.fort_notes.specs.Judging.{Judged, clocks, may_have_clocks, first_failing, names_broken, has_no_old, body_terms}
use Rattle.note_parts.specs.Answers.{trees_of}
use Rattle.note_forms.specs.FormTrees.{assertion_of, IsAssertedIn, AreStepsIn, proof_tree}
use Rattle.note_reading.specs.declared.note_form.NoteForm.{NoteForm}
use Rattle.note_reading.specs.declared.note_form.NoteForm.TheVariants as note

abbrev pub form_tree : List Node → NoteForm → Form
form_tree pool (note.Bound b) = bound b
form_tree pool (note.Definition d) = definition (function_of pool d)
form_tree pool (note.Input ts) = input (trees_of pool ts)
form_tree pool (note.Output ts) = output (trees_of pool ts)
form_tree pool (note.Assertion a) = assertion_of pool a
form_tree pool (note.Run card) = run card
form_tree pool (note.Try card) = try card
form_tree pool (note.Proof p) = proof (proof_tree pool p)

-- the terms of a note are of the pool
abbrev pub IsFormIn : List Node → NoteForm → Type 0
IsFormIn pool (note.Bound b) = Unit {0}
IsFormIn pool (note.Definition d) = IsBodyIn pool d.body
IsFormIn pool (note.Input ts) = AllBelow (length pool) ts
IsFormIn pool (note.Output ts) = AllBelow (length pool) ts
IsFormIn pool (note.Assertion a) = IsAssertedIn pool a
IsFormIn pool (note.Run card) = Unit {0}
IsFormIn pool (note.Try card) = Unit {0}
IsFormIn pool (note.Proof p) = AreStepsIn pool p.steps

abbrev pub input_form : List Heading → List ℕ → Parsed Form
input_form headings text = terms headings text >>= λ ts rest. parsed (input ts) rest

abbrev pub output_form : List Heading → List ℕ → Parsed Form
output_form headings text = terms headings text >>= λ ts rest. parsed (output ts) rest

-- what stands behind a first word, where these definitions and certificates are known
abbrev pub form_by : List Heading → List (List ℕ) → judging.Word → List ℕ → Parsed Form
form_by headings lemmas judging.Bound text = bound_form text
form_by headings lemmas judging.PlainDefinition text = plain_form headings text
form_by headings lemmas judging.CountingDefinition text = counting_form headings text
form_by headings lemmas judging.Input text = input_form headings text
form_by headings lemmas judging.Output text = output_form headings text
form_by headings lemmas judging.Assert text = assertion_form headings text
form_by headings lemmas judging.Run text = run_form text
form_by headings lemmas judging.Try text = try_form text
form_by headings lemmas judging.Proof text = proof_form headings lemmas text

-- ---- names

-- the rule that CLOCK breaks where it stands too often
abbrev pub clocks_broken : List ℕ → ℕ → Option Rule
clocks_broken text most = first_failing ((nat_le (clocks text) most, BadNote) ∷ [])

-- the rule that a form breaks by CLOCK and by names; whether a definition may be added is not looked at
abbrev pub broken_by : List Judged → Option Routine → List ℕ → Form → Option Rule
broken_by done u text (definition d) = or_else (clocks_broken text 0)
    (first_failing ((list_all has_no_old (body_terms d.body), BadNote) ∷ []))
broken_by done u text f = or_else (clocks_broken text (may_have_clocks f)) (names_broken done u f)
