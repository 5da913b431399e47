use Rattle.std.proofs.Common.{◌≡◌, ◌≤◌, List, ℕ, length, drop, map, false}
use Rattle.formula.specs.Atoms.{has_twin, is_among}
use Rattle.note_forms.proofs.try_cards.has_twin.Given as goal

-- the symbols from `left` on were seen, and differ
abbrev pub invariant-loop-left : goal.invariant-loop-left
invariant-loop-left l = record {
  within : l.left ≤ length l.sheet;
  seen : (x : List ℕ) → is_among x l.seen ≡ is_among x (drop l.left (map (λ e. e.0) l.sheet));
  differ : has_twin (drop l.left (map (λ e. e.0) l.sheet)) ≡ false;
}

abbrev pub decreases-loop-left : goal.decreases-loop-left
decreases-loop-left l = l.left
