use Rattle.std.proofs.lemmas.Result.{on_ok_weaker}
use Rattle.deck_made.proofs.Joined.{unit_put}
use Rattle.deck_made.proofs.deck.put_unit.Goals as goal

pub returns : goal.returns
returns c =
    on_ok_weaker c.put-4.result
    (unit_put c.args.text.now.items c.put.new.text.items c.put-2.new.text.items c.put-3.new.text.items c.put_last_step.new.text.items c.put-4.new.text.items
    c.digits.result c.args.number c.digits.ensures c.in_ok-put.ensures c.in_ok-put-2.ensures c.in_ok-put-3.ensures c.in_ok-put_last_step.ensures)
    c.put-4.ensures
