use Rattle.std.proofs.Common.{◌≡◌, drop, length}
use Rattle.smash_laws.specs.Ordered.{with_rows, smash_table}
use Rattle.smash_table.proofs.units.smash_table.Given as goal

abbrev pub invariant-loop-number : goal.invariant-loop-number
invariant-loop-number l = record {
  made : with_rows l.deck.units.now l.rows.items (drop l.number-index l.order) ≡ smash_table l.deck.units.now l.order;
  long : length l.rows.items ≡ length l.deck.units.now;
}
