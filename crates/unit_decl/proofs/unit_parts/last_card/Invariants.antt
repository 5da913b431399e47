use Rattle.std.proofs.Common.{◌≡◌, drop}
use Rattle.fort_syntax.specs.Units.{card_of_last}
use Rattle.unit_decl.proofs.unit_parts.last_card.Given as goal

abbrev pub invariant-loop-line : goal.invariant-loop-line
invariant-loop-line l = card_of_last l.card (drop l.line-index l.unit) ≡ card_of_last 0 l.unit
