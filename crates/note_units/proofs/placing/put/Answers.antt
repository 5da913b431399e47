use Rattle.std.proofs.Common.{refl}
use Rattle.std.proofs.lemmas.Result.{on_ok_weaker}
use Rattle.note_units.proofs.Placed.{puts_bound, puts_definition, puts_proof, puts_run, puts_try, stay_assertion, stay_input, stay_output, stay_proof}
use Rattle.note_units.proofs.placing.put.Goals as goal

pub returns-in-Bound-clause-puts : goal.returns-in-Bound-clause-puts
returns-in-Bound-clause-puts c =
    on_ok_weaker c.push.result (λ e. puts_bound c.args.sorted.now (record { bounds = c.push.new.items; units = c.args.sorted.now.units; runs = c.args.sorted.now.runs; tries = c.args.sorted.now.tries; proofs = c.args.sorted.now.proofs }) c.args.noted c.in-Bound.bound c.in-Bound.is e refl refl refl refl) c.push.ensures

pub returns-in-Definition-clause-puts : goal.returns-in-Definition-clause-puts
returns-in-Definition-clause-puts c =
    puts_definition c.args.sorted.now c.args.sorted.now c.args.noted c.in-Definition.field-0 c.in-Definition.is refl refl refl refl refl

pub returns-in-Input-clause-inside : goal.returns-in-Input-clause-inside
returns-in-Input-clause-inside c =
    on_ok_weaker c.put_input.result (stay_input c.args.noted.form c.args.sorted.now.units.items c.args.sorted.now.proofs.items c.put_input.new.units.items c.args.sorted.now.proofs.items refl c.in-Input.terms c.in-Input.is) c.put_input.ensures.inside

pub returns-in-Output-clause-inside : goal.returns-in-Output-clause-inside
returns-in-Output-clause-inside c =
    on_ok_weaker c.put_output.result (stay_output c.args.noted.form c.args.sorted.now.units.items c.args.sorted.now.proofs.items c.put_output.new.units.items c.args.sorted.now.proofs.items refl c.in-Output.terms c.in-Output.is) c.put_output.ensures.inside

pub returns-in-Assertion-clause-inside : goal.returns-in-Assertion-clause-inside
returns-in-Assertion-clause-inside c =
    on_ok_weaker c.put_assert.result (stay_assertion c.args.noted.form c.args.sorted.now.units.items c.args.sorted.now.proofs.items c.put_assert.new.units.items c.args.sorted.now.proofs.items refl c.in-Assertion.asserted (record { line = c.args.noted.line; card = c.args.noted.card; terms = c.in-Assertion.asserted.terms; clock = c.in-Assertion.asserted.clock }) c.in-Assertion.is refl refl) c.put_assert.ensures.inside

pub returns-in-Run-clause-puts : goal.returns-in-Run-clause-puts
returns-in-Run-clause-puts c =
    on_ok_weaker c.push-in-Run.result (λ e. puts_run c.args.sorted.now (record { bounds = c.args.sorted.now.bounds; units = c.args.sorted.now.units; runs = c.push-in-Run.new.items; tries = c.args.sorted.now.tries; proofs = c.args.sorted.now.proofs }) c.args.noted c.in-Run.run' c.in-Run.is refl refl e refl refl) c.push-in-Run.ensures

pub returns-in-Try-clause-puts : goal.returns-in-Try-clause-puts
returns-in-Try-clause-puts c =
    on_ok_weaker c.push-in-Try.result (λ e. puts_try c.args.sorted.now (record { bounds = c.args.sorted.now.bounds; units = c.args.sorted.now.units; runs = c.args.sorted.now.runs; tries = c.push-in-Try.new.items; proofs = c.args.sorted.now.proofs }) c.args.noted c.in-Try.try_card c.in-Try.is refl refl refl e refl) c.push-in-Try.ensures

pub returns-clause-puts : goal.returns-clause-puts
returns-clause-puts c =
    on_ok_weaker c.push-in-Proof.result (λ e. puts_proof c.args.sorted.now (record { bounds = c.args.sorted.now.bounds; units = c.args.sorted.now.units; runs = c.args.sorted.now.runs; tries = c.args.sorted.now.tries; proofs = c.push-in-Proof.new.items }) c.args.noted c.in-Proof.proof c.in-Proof.is refl refl refl refl e) c.push-in-Proof.ensures

pub returns-clause-inside : goal.returns-clause-inside
returns-clause-inside c =
    on_ok_weaker c.push-in-Proof.result (stay_proof c.args.noted.form c.args.sorted.now.units.items c.args.sorted.now.proofs.items c.args.sorted.now.units.items c.push-in-Proof.new.items.items c.in-Proof.proof c.in-Proof.is refl) c.push-in-Proof.ensures
