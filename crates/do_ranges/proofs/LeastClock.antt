-- The least ill clock is the first fault by the rule on clocks.
use Rattle.std.proofs.Common.{◌≡◌, ℕ, suc, min, ◌<◌, ◌≤◌, ◌⊎◌, inl, inr, Bool, true, false, cond, List, [], ◌∷◌, map, length, Option, Some, None, refl, sym, ap, ◌∙◌, subst, arith}
use Rattle.std.specs.Prelude.{◌==◌, ◌||◌, not, nat_lt}
use Rattle.std.proofs.lemmas.List.{length-map}
use Rattle.formula.specs.Pool.{tree_of}
use Rattle.formula.specs.declared.node.Node.{Node}
use Rattle.fort_syntax.specs.FirstFaults.{TellsLeast}
use Rattle.fort_syntax.specs.Rules.{rule_number}
use Rattle.fort_syntax.specs.declared.rule.Rule.{Rule}
use Rattle.fort_syntax.specs.declared.rule.Rule.TheVariants.{ClockLength}
use Rattle.fort_notes.specs.Assertions.{assertion_tree}
use Rattle.fort_notes.specs.declared.notes.AssertSpec.{AssertSpec}
use Rattle.fort_model.specs.Lists.{IsAmong}
use Rattle.fort_model.specs.Rules.{is_bad_clock, bad_clocks, all_clocks}
use Rattle.unit_faults.specs.Breaking.{IsBrokenAt}
use Rattle.unit_faults.proofs.Least.{none_among, among_cases}
use Rattle.do_ranges.specs.Clocks.{is_ill_clock, lesser, least_ill, parts_of_first, clock_fault_at, clock_fault}

module _ (pool : List Node) where
  long : (a : AssertSpec) → length (assertion_tree pool a).clock ≡ length a.clock
  long a = length-map a.clock (tree_of pool)

  same_test : (parts : ℕ) (a : AssertSpec) → is_bad_clock parts (assertion_tree pool a) ≡ is_ill_clock parts a
  same_test parts a = ap (λ n. (n == 0) || (nat_lt 4 n || not (n == parts))) (long a)

  abbrev ill_cards : ℕ → List AssertSpec → List ℕ
  ill_cards parts asserts = bad_clocks parts (map (assertion_tree pool) asserts)

  -- the least of a card that there may be and others
  abbrev IsLeastOf : Option ℕ → List ℕ → Option ℕ → Type 0
  IsLeastOf best cards None = (best ≡ None) × ((card : ℕ) → IsAmong card cards → ⊥)
  IsLeastOf best cards (Some m) = ((best ≡ Some m) ⊎ IsAmong m cards) × ((b : ℕ) → best ≡ Some b → m ≤ b) × ((card : ℕ) → IsAmong card cards → m ≤ card)

  same_some : (a b : ℕ) → ◌≡◌ {A = Option ℕ} (Some a) (Some b) → a ≡ b
  same_some a b e = cc

  of_none : (best : Option ℕ) → IsLeastOf best [] best
  of_none None = (refl, λ card h. none_among card h)
  of_none (Some m) = (inl refl, λ b e. (let same = same_some m b e in omega (arith, same)), λ card h. absurd (none_among card h))

  chosen : (best : Option ℕ) (card m : ℕ) → m ≡ lesser best card → (best ≡ Some m) ⊎ (m ≡ card)
  chosen None card m e = inr e
  chosen (Some b) card m e = by (cases b card)
    where
      cases : (b card : ℕ) → (min b card ≡ b) ⊎ (min b card ≡ card)
      cases b card = grind arith

      by : (min b card ≡ b) ⊎ (min b card ≡ card) → (◌≡◌ {A = Option ℕ} (Some b) (Some m)) ⊎ (m ≡ card)
      by (inl s) = inl (ap (λ (n : ℕ). Some n) (sym (e ∙ s)))
      by (inr s) = inr (e ∙ s)

  below_best : (best : Option ℕ) (card b : ℕ) → best ≡ Some b → lesser best card ≤ b
  below_best None card b e = absurd (cc)
  below_best (Some a) card b e = (let same = same_some a b e in omega (arith, same))

  below_card : (best : Option ℕ) (card : ℕ) → lesser best card ≤ card
  below_card None card = omega arith
  below_card (Some a) card = omega arith

  with_card : (best : Option ℕ) (card : ℕ) (cards : List ℕ) (o : Option ℕ) → IsLeastOf (Some (lesser best card)) cards o → IsLeastOf best (card ∷ cards) o
  with_card best card cards None h = absurd (let e = h.0 in cc)
  with_card best card cards (Some m) h = (among h.0, λ b e. (let x = below_best best card b e in let y = h.1 (lesser best card) refl in omega (arith, x, y)), least)
    where
      among : (◌≡◌ {A = Option ℕ} (Some (lesser best card)) (Some m)) ⊎ IsAmong m cards → (best ≡ Some m) ⊎ IsAmong m (card ∷ cards)
      among (inr (k, e)) = inr (suc k, e)
      among (inl e) = by (chosen best card m (sym (same_some (lesser best card) m e)))
        where
          by : (best ≡ Some m) ⊎ (m ≡ card) → (best ≡ Some m) ⊎ IsAmong m (card ∷ cards)
          by (inl s) = inl s
          by (inr s) = inr (0, ap (λ (n : ℕ). Some n) (sym s))

      least : (other : ℕ) → IsAmong other (card ∷ cards) → m ≤ other
      least other s = by (among_cases other card cards s)
        where
          by : (other ≡ card) ⊎ IsAmong other cards → m ≤ other
          by (inl e) = (let x = below_card best card in let y = h.1 (lesser best card) refl in omega (arith, x, y, e))
          by (inr t) = h.2 other t

  least_is : (parts : ℕ) (asserts : List AssertSpec) (best : Option ℕ) → IsLeastOf best (ill_cards parts asserts) (least_ill parts asserts best)
  least_is parts [] best = of_none best
  least_is parts (a ∷ rest) best =
      subst (λ b. IsLeastOf best (cond b (a.card ∷ ill_cards parts rest) (ill_cards parts rest)) (least_ill parts (a ∷ rest) best)) (sym (same_test parts a))
      (by (is_ill_clock parts a) (λ b. least_is parts rest b))
    where
      by : (t : Bool) → ((b : Option ℕ) → IsLeastOf b (ill_cards parts rest) (least_ill parts rest b))
          → IsLeastOf best (cond t (a.card ∷ ill_cards parts rest) (ill_cards parts rest)) (least_ill parts rest (cond t (Some (lesser best a.card)) best))
      by true rec = with_card best a.card (ill_cards parts rest) (least_ill parts rest (Some (lesser best a.card))) (rec (Some (lesser best a.card)))
      by false rec = rec best

  all_are : (asserts : List AssertSpec) → all_clocks (map (assertion_tree pool) asserts) ≡ ill_cards (parts_of_first asserts) asserts
  all_are [] = refl
  all_are (a ∷ rest) = ap (λ n. bad_clocks n (map (assertion_tree pool) (a ∷ rest))) (long a)

  same_rule : (rule : Rule) → rule ≡ ClockLength → rule_number ClockLength ≤ rule_number rule
  same_rule rule e = subst (λ r. rule_number ClockLength ≤ rule_number r) (sym e) (omega arith)

  from_least : (cards : List ℕ) (o : Option ℕ) → IsLeastOf None cards o → TellsLeast (IsBrokenAt ClockLength cards) (clock_fault_at o)
  from_least cards None h = λ rule card s. h.1 card s.1
  from_least cards (Some m) h = ((refl, stands h.0), λ rule card s. by rule card s.0 (h.2 card s.1))
    where
      stands : (◌≡◌ {A = Option ℕ} None (Some m)) ⊎ IsAmong m cards → IsAmong m cards
      stands (inl e) = absurd (cc)
      stands (inr s) = s

      by : (rule : Rule) (card : ℕ) → rule ≡ ClockLength → m ≤ card → (m < card) ⊎ ((m ≡ card) × (rule_number ClockLength ≤ rule_number rule))
      by rule card e le = cases (split m card le)
        where
          split : (m card : ℕ) → m ≤ card → (m < card) ⊎ (m ≡ card)
          split m card le = grind arith

          cases : (m < card) ⊎ (m ≡ card) → (m < card) ⊎ ((m ≡ card) × (rule_number ClockLength ≤ rule_number rule))
          cases (inl lt) = inl lt
          cases (inr same) = inr (same, same_rule rule e)

  pub clocks_tell : (asserts : List AssertSpec) → TellsLeast (IsBrokenAt ClockLength (all_clocks (map (assertion_tree pool) asserts))) (clock_fault asserts)
  clocks_tell asserts =
      subst (λ cards. TellsLeast (IsBrokenAt ClockLength cards) (clock_fault asserts)) (sym (all_are asserts))
      (from_least (ill_cards (parts_of_first asserts) asserts) (least_ill (parts_of_first asserts) asserts None) (least_is (parts_of_first asserts) asserts None))
