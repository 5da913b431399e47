use Rattle.std.proofs.Common.{true, refl}
use Rattle.note_judging.proofs.Learning.{learns_assertion, learns_bound, learns_definition, learns_input, learns_output, learns_proof, learns_run, learns_try, on_ok}
use Rattle.note_judging.proofs.gathering.learn.Goals as goal

pub returns-in-Bound : goal.returns-in-Bound
returns-in-Bound c =
    learns_bound c.args.taken.now (record { bounded = true; inputs = c.args.taken.now.inputs; outputs = c.args.taken.now.outputs; lemmas = c.args.taken.now.lemmas }) c.args.unit c.in-Bound.field-0 c.args.form.now
    c.in-Bound.is refl refl refl refl

pub returns-in-Input : goal.returns-in-Input
returns-in-Input c =
    on_ok c.add.result (λ added.
    learns_input c.args.taken.now (record { bounded = c.args.taken.now.bounded; inputs = c.add.new.self; outputs = c.args.taken.now.outputs; lemmas = c.args.taken.now.lemmas }) c.args.unit c.in-Input.field-0 c.args.form.now
    c.in-Input.is refl added refl refl) c.add.ensures.added

pub returns-in-Output : goal.returns-in-Output
returns-in-Output c =
    on_ok c.add-in-Output.result (λ added.
    learns_output c.args.taken.now (record { bounded = c.args.taken.now.bounded; inputs = c.args.taken.now.inputs; outputs = c.add-in-Output.new.self; lemmas = c.args.taken.now.lemmas }) c.args.unit c.in-Output.field-0 c.args.form.now
    c.in-Output.is refl refl added refl) c.add-in-Output.ensures.added

pub returns-in-Ok : goal.returns-in-Ok
returns-in-Ok c =
    learns_proof c.args.taken.now (record { bounded = c.args.taken.now.bounded; inputs = c.args.taken.now.inputs; outputs = c.args.taken.now.outputs; lemmas = c.add-in-Proof.new.self }) c.args.unit c.in-Proof.p c.args.form.now
    c.in-Proof.is refl refl refl c.in-Ok.ensures.names

pub returns-in-Definition : goal.returns-in-Definition
returns-in-Definition c = learns_definition c.args.taken.now c.args.unit c.args.form.now c.in-Definition.field-0 c.in-Definition.is

pub returns-in-Assertion : goal.returns-in-Assertion
returns-in-Assertion c = learns_assertion c.args.taken.now c.args.unit c.args.form.now c.in-Assertion.field-0 c.in-Assertion.is

pub returns-in-Run : goal.returns-in-Run
returns-in-Run c = learns_run c.args.taken.now c.args.unit c.args.form.now c.in-Run.field-0 c.in-Run.is

pub returns-in-Try : goal.returns-in-Try
returns-in-Try c = learns_try c.args.taken.now c.args.unit c.args.form.now c.in-Try.field-0 c.in-Try.is
