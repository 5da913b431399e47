use Rattle.std.proofs.Common.{◌≡◌, ◌<◌, ◌^◌, drop}
use Rattle.std.specs.Prelude.{◌||◌}
use Rattle.formula.specs.Atoms.{is_digit, spelled, spelled_from}
use Rattle.std.specs.List.{list_all}
use Rattle.fort_syntax.specs.Cards.{without_blanks, is_given}
use Rattle.card_deck.proofs.label.label.Given as goal

abbrev pub invariant-loop-byte : goal.invariant-loop-byte
invariant-loop-byte l = record {
  small : l.number < 10 ^ l.byte-index;
  digits : list_all is_digit (without_blanks (drop l.byte-index l.field)) ≡ list_all is_digit (without_blanks l.field);
  given : (l.given || is_given (without_blanks (drop l.byte-index l.field))) ≡ is_given (without_blanks l.field);
  number : spelled_from l.number (without_blanks (drop l.byte-index l.field)) ≡ spelled (without_blanks l.field);
}
