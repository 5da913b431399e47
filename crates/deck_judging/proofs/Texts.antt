-- What is found of a deck is found of its text.
use Rattle.std.proofs.Common.{◌≡◌, ◌≤◌, ℕ, inl, inr, List, Some, length, slice_get, refl, sym, arith, subst}
use Rattle.fort_syntax.specs.declared.deck.Deck.{Deck}
use Rattle.fort_syntax.specs.declared.dialect.Dialect.{Dialect}
use Rattle.fort_syntax.specs.declared.refusal.Fault.{Fault}
use Rattle.deck_sizes.proofs.Counting.{decks_are_short}
use Rattle.judging.specs.Judgement.{IsDeckIn, IsFirstFaultIn}
use Rattle.deck_judging.specs.Judged.{IsJudgedIn}
use Rattle.deck_judging.specs.Findings.{judged_as}
use Rattle.deck_judging.specs.Stages.{AreConditionsOfDeck, AreShort, IsDeckFault, IsFoundAs}
use Rattle.deck_judging.specs.declared.findings.Findings.{Findings}
use Rattle.deck_judging.specs.declared.found.Judged.{Judged}

-- units of a deck are not too long
pub short_in : (d : Dialect) (bytes : List ℕ) (deck : Deck) → IsDeckIn d bytes deck → AreShort deck.units
short_in d bytes deck h i u e =
    let few : length u.lines ≤ 1048576 = decks_are_short d bytes h.1.0 h.0 h.1.1 i u (subst (λ (x : Deck). slice_get x.units i ≡ Some u) h.1.3 e) in
    omega (arith, few)

findings_in : (d : Dialect) (bytes : List ℕ) (deck : Deck) (j : Findings) → IsDeckIn d bytes deck → AreConditionsOfDeck d deck j → IsJudgedIn d bytes (judged_as deck j)
findings_in d bytes deck j is h = record {
  deck = deck;
  r = h.r;
  p = h.p;
  paths = h.paths;
  accepted = record { is_deck = is; accepted = h.accepted; within = h.within };
  functions = h.functions;
  conditions = h.trees;
  definitions_inside = h.bodies;
  definitions_added = h.added;
  conditions_inside = h.inside;
  units = h.units;
  paths_counted = h.counted;
  is_deck = refl;
  bound = h.bound;
  calls_kept = h.calls_kept;
  calls_known = h.calls_known;
  runs = h.runs;
  tries = h.tries;
}

pub judged_in : (d : Dialect) (bytes : List ℕ) (deck : Deck) (j : Judged) → IsDeckIn d bytes deck → IsFoundAs d deck j → IsJudgedIn d bytes j
judged_in d bytes deck j is h = subst (λ (k : Judged). IsJudgedIn d bytes k) (sym h.is) (findings_in d bytes deck h.findings is h.conditions)

pub fault_in : (d : Dialect) (bytes : List ℕ) (deck : Deck) (f : Fault) → IsDeckIn d bytes deck → IsDeckFault d deck f → IsFirstFaultIn d bytes f
fault_in d bytes deck f is (inl h) = inl (inr (deck, is, h))
fault_in d bytes deck f is (inr h) =
    inr (deck, h.0, h.1, record { is_deck = is; is_program = h.2; kept = h.3 }, h.4)
