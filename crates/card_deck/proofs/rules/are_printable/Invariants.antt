use Rattle.std.proofs.Common.{◌≡◌, drop}
use Rattle.std.specs.List.{list_all}
use Rattle.fort_syntax.specs.CardRules.{is_printable}
use Rattle.card_deck.proofs.rules.are_printable.Given as goal

abbrev pub invariant-loop-byte : goal.invariant-loop-byte
invariant-loop-byte l = list_all is_printable (drop l.byte-index l.bytes) ≡ list_all is_printable l.bytes
