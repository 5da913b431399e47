use Rattle.std.proofs.Common.{◌≡◌, true, drop}
use Rattle.deck_laws.specs.Ascent.{entries_ascend_above}
use Rattle.deck_entries.specs.Readings.{HasRead, IsWithin}
use Rattle.deck_entries.proofs.reading.read.Given as goal

abbrev pub invariant-loop-entry : goal.invariant-loop-entry
invariant-loop-entry l = record {
  read : HasRead l.dialect l.cards (drop l.entry-index l.cards) l.reading.lines.items l.reading.notes.items l.reading.spot;
  within : IsWithin l.last l.reading.spot;
  ascend : entries_ascend_above l.last (drop l.entry-index l.cards) ≡ true;
}
