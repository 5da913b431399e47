use Rattle.std.proofs.Common.{◌≡◌, ◌≤◌, ◌-◌}
use Rattle.deck_made.specs.Made.{made_deck}
use Rattle.deck_made.proofs.deck.made.Given as goal

abbrev pub invariant-loop-number : goal.invariant-loop-number
invariant-loop-number l = (1 ≤ l.number) × (l.text.items ≡ made_deck (l.number - 1))
