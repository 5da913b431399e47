use Rattle.std.proofs.Common.{◌≡◌, ◌++◌, drop}
use Rattle.std.specs.Prelude.{map}
use Rattle.std.specs.Char.{to_ascii_uppercase}
use Rattle.fort_syntax.specs.Cards.{without_blanks}
use Rattle.card_deck.proofs.text.put_dense.Given as goal

abbrev pub invariant-loop-byte : goal.invariant-loop-byte
invariant-loop-byte l =
    l.text.items ++ map to_ascii_uppercase (without_blanks (drop l.byte-index l.bytes))
    ≡ l.initial.text.items ++ map to_ascii_uppercase (without_blanks l.bytes)
