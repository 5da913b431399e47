use Rattle.deck_made.proofs.Joined.{one_more}
use Rattle.deck_made.proofs.deck.made.Goals as goal

pub loop-number-preserved : goal.loop-number-preserved
loop-number-preserved c =
    one_more c.loop-number.number c.loop-number.text.items c.put_unit.new.text.items c.loop-number.invariant.0 c.loop-number.invariant.1 c.in_ok-put_unit.ensures
