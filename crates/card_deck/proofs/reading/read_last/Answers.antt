use Rattle.std.proofs.Common.{[], ap, sym, ◌∙◌, arith}
use Rattle.std.proofs.lemmas.Result.{on_ok_weaker}
use Rattle.card_deck.specs.Reading.{fault_with}
use Rattle.card_deck.proofs.Last.{one_card}
use Rattle.card_deck.proofs.reading.read_last.Goals as goal

pub returns-clause-faults : goal.returns-clause-faults
returns-clause-faults c =
    on_ok_weaker c.read.result
    (λ same. same [] ∙ ap (fault_with c.args.reading.now) (sym (one_card c.args.card.now (grind arith))))
    c.read.ensures.faults

pub returns-clause-broken : goal.returns-clause-broken
returns-clause-broken c = λ f e.
    ap (fault_with c.args.reading.now) (one_card c.args.card.now (grind arith)) ∙ c.read.ensures.broken f e []
