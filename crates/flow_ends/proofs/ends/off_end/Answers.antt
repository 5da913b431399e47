use Rattle.std.proofs.Common.{sym, ap, ◌∙◌}
use Rattle.fort_model.specs.Rules.{off_end}
use Rattle.flow_ends.specs.Ends.{card_list}
use Rattle.flow_ends.proofs.Last.{tells_one, tells_none}
use Rattle.flow_ends.proofs.ends.off_end.Goals as goal

pub returns-in-Some : goal.returns-in-Some
returns-in-Some c =
    tells_one (off_end c.args.dialect c.args.unit.now c.args.unit.now.lines) c.in-Some.card (sym (ap card_list c.in-Some.is) ∙ c.off_card.ensures)

pub returns-in-None : goal.returns-in-None
returns-in-None c =
    tells_none (off_end c.args.dialect c.args.unit.now c.args.unit.now.lines) (sym (ap card_list c.in-None.is) ∙ c.off_card.ensures)
