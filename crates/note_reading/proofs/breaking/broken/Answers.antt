use Rattle.std.proofs.Common.{◌≡◌, ◌∙◌, ap, sym, List}
use Rattle.formula.specs.declared.node.TermId.{TermId}
use Rattle.formula.specs.Reading.{or_else}
use Rattle.fort_notes.specs.Forms.{input, output}
use Rattle.fort_notes.specs.Judging.{names_broken}
use Rattle.note_parts.specs.Answers.{trees_of}
use Rattle.note_forms.specs.FormTrees.{assertion_of}
use Rattle.note_reading.specs.declared.note_form.NoteForm.{NoteForm}
use Rattle.note_reading.specs.NoteTrees.{form_tree, broken_by, clocks_broken}
use Rattle.note_reading.proofs.breaking.broken.Goals as goal

pub returns-in-Input : goal.returns-in-Input
returns-in-Input c = λ done u right.
    c.first-in-Input.ensures
    ∙ (λ i. or_else (c.clock_rule-in-Input.ensures i) (c.input_broken.ensures done u right i))
    ∙ ap (λ (ids : List TermId). or_else (clocks_broken c.args.text.now 0) (names_broken done u (input (trees_of c.args.pool.now ids)))) c.as_slice.ensures
    ∙ ap (λ (f : NoteForm). broken_by done u c.args.text.now (form_tree c.args.pool.now f)) (sym c.in-Input.is)

pub returns-in-Output : goal.returns-in-Output
returns-in-Output c = λ done u right.
    c.first-in-Output.ensures
    ∙ (λ i. or_else (c.clock_rule-in-Output.ensures i) (c.output_broken.ensures done u right i))
    ∙ ap (λ (ids : List TermId). or_else (clocks_broken c.args.text.now 0) (names_broken done u (output (trees_of c.args.pool.now ids)))) c.as_slice-in-Output.ensures
    ∙ ap (λ (f : NoteForm). broken_by done u c.args.text.now (form_tree c.args.pool.now f)) (sym c.in-Output.is)

pub returns-in-Assertion : goal.returns-in-Assertion
returns-in-Assertion c = λ done u right.
    c.first-in-Assertion.ensures
    ∙ (λ i. or_else (c.clock_rule-in-Assertion.ensures i) (c.assertion_broken.ensures done u right i))
    ∙ ap (λ m. or_else (clocks_broken c.args.text.now m) (names_broken done u (assertion_of c.args.pool.now c.in-Assertion.a))) c.most_clocks.ensures
    ∙ ap (λ (f : NoteForm). broken_by done u c.args.text.now (form_tree c.args.pool.now f)) (sym c.in-Assertion.is)
