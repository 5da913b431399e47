use Rattle.std.proofs.Common.{◌≡◌, drop}
use Rattle.std.specs.List.{list_all}
use Rattle.fort_syntax.specs.Cards.{is_blank}
use Rattle.card_deck.proofs.columns.are_blank.Given as goal

abbrev pub invariant-loop-byte : goal.invariant-loop-byte
invariant-loop-byte l = list_all is_blank (drop l.byte-index l.bytes) ≡ list_all is_blank l.bytes
