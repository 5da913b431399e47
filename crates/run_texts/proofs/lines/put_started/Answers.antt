use Rattle.std.proofs.Common.{◌≡◌, ◌++◌, ℕ, List, OnOk, subst}
use Rattle.run_state.specs.declared.machine.Setting.{Setting}
use Rattle.run_eval.specs.Performed.{IsRunOf}
use Rattle.run_texts.proofs.Written.{run_written}
use Rattle.run_texts.proofs.lines.put_started.Goals as goal

pub returns-in-Ok-performed : goal.returns-in-Ok-performed
returns-in-Ok-performed c =
    let deck = c.args.desk.now.deck.now in
    let card = c.args.card.now in
    let r = c.in-Ok-performed.run' in
    subst (λ (t : List ℕ). OnOk c.put_run.result (c.put_run.new.text.items ≡ c.args.text.now.items ++ t))
    (run_written deck card r c.put_run.ensures.small (subst (λ (s : Setting). IsRunOf deck s card r) c.in-Ok.ensures c.in-Ok-performed.ensures))
    c.put_run.ensures.told
