use Rattle.std.proofs.Common.{List, refl, subst}
use Rattle.fort_notes.specs.declared.cases.Given.{Given}
use Rattle.run_eval.specs.Performed.{IsFirstRun}
use Rattle.run_eval.specs.declared.runs.Run.{Run}
use Rattle.run_eval.proofs.Came.{run_came}
use Rattle.run_eval.proofs.runs.performed.Goals as goal

pub returns-in-Ok : goal.returns-in-Ok
returns-in-Ok c =
    let new : Run = record { unit = c.in-Ok.run'.unit; entries = c.in-Ok.run'.entries; state = c.go.new.state } in
    let first = subst (λ (given : List Given). IsFirstRun c.args.deck.now c.args.setting.now c.args.card.now.unit given c.in-Ok.run') c.as_slice.ensures c.in-Ok.ensures in
    run_came c.args.deck.now c.args.setting.now c.args.card.now c.in-Ok.run' new c.runs_are_rests.ensures first refl refl c.go.ensures.went c.go.ensures.tells
