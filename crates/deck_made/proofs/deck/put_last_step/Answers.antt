use Rattle.std.proofs.lemmas.Result.{on_ok_weaker}
use Rattle.deck_made.proofs.Joined.{later_step}
use Rattle.deck_made.proofs.deck.put_last_step.Goals as goal

pub returns : goal.returns
returns c =
    on_ok_weaker c.put-4.result
    (later_step c.args.text.now.items c.put-2.new.text.items c.put-3.new.text.items c.put-4.new.text.items c.digits.result c.args.number
    c.if-number-eq1.false c.digits.ensures c.in_ok-put.ensures c.in_ok-put-2.ensures)
    c.put-4.ensures
