-- Texts put one behind another.
use Rattle.std.proofs.Common.{◌≡◌, ◌≤◌, ℕ, ◌+◌, ◌-◌, List, ◌++◌, Bool, false, ap, ◌∙◌, sym, append_assoc, rules, arith}
use Rattle.std.specs.Prelude.{zero, suc, ◌==◌, cond, codes}
use Rattle.deck_made.specs.Made.{last_step, loop_cards, made_deck, three_digits, unit_cards}

pub three : (t a b c : List ℕ) → t ++ a ++ b ++ c ≡ t ++ (a ++ b ++ c)
three t a b c = ap (λ x. x ++ c) (append_assoc t a b) ∙ append_assoc t (a ++ b) c

pub five : (t a b c d e : List ℕ) → t ++ a ++ b ++ c ++ d ++ e ≡ t ++ (a ++ b ++ c ++ d ++ e)
five t a b c d e =
    ap (λ x. x ++ d ++ e) (three t a b c) ∙ ap (λ x. x ++ e) (append_assoc t (a ++ b ++ c) d) ∙ append_assoc t (a ++ b ++ c ++ d) e

-- a card on which the loop of a later unit ends
pub later_step : (t u v w d : List ℕ) (n : ℕ) → ¬ n ≡ 1 → d ≡ three_digits (n - 1)
    → u ≡ t ++ codes "   20 CALL U" → v ≡ u ++ d → w ≡ v ++ codes "(N)\n" → w ≡ t ++ last_step n
later_step t u v w d n other digits first second third =
    let same : last_step n ≡ codes "   20 CALL U" ++ three_digits (n - 1) ++ codes "(N)\n" = cond_false (n == 1) _ _ (search rules) in
    third ∙ ap (λ x. x ++ codes "(N)\n") (second ∙ ap (λ x. x ++ d) first) ∙ three t (codes "   20 CALL U") d (codes "(N)\n")
    ∙ ap (λ x. t ++ (codes "   20 CALL U" ++ x ++ codes "(N)\n")) digits ∙ ap (λ x. t ++ x) (sym same)
  where
    cond_false : (b : Bool) (x y : List ℕ) → b ≡ false → cond b x y ≡ y
    cond_false b x y h = ap (λ c. cond c x y) h

-- the cards of a unit
pub unit_put : (t u v w x y d : List ℕ) (n : ℕ) → d ≡ three_digits n
    → u ≡ t ++ codes "      SUBROUTINE U" → v ≡ u ++ d → w ≡ v ++ loop_cards → x ≡ w ++ last_step n → y ≡ x ++ codes "      RETURN\n      END\n"
    → y ≡ t ++ unit_cards n
unit_put t u v w x y d n digits first second third fourth fifth =
    fifth ∙ ap (λ s. s ++ codes "      RETURN\n      END\n") (fourth ∙ ap (λ s. s ++ last_step n) (third ∙ ap (λ s. s ++ loop_cards) (second ∙ ap (λ s. s ++ d) first)))
    ∙ five t (codes "      SUBROUTINE U") d loop_cards (last_step n) (codes "      RETURN\n      END\n")
    ∙ ap (λ s. t ++ (codes "      SUBROUTINE U" ++ s ++ loop_cards ++ last_step n ++ codes "      RETURN\n      END\n")) digits

-- one unit more
pub one_more : (n : ℕ) (text text' : List ℕ) → 1 ≤ n → text ≡ made_deck (n - 1) → text' ≡ text ++ unit_cards n
    → (1 ≤ n + 1) × (text' ≡ made_deck (n + 1 - 1))
one_more zero text text' h before here = absurd (search rules)
one_more (suc n) text text' h before here =
    let less : suc n - 1 ≡ n = omega arith in
    let same : suc n + 1 - 1 ≡ suc n = omega arith in
    (omega arith, here ∙ ap (λ s. s ++ unit_cards (suc n)) (before ∙ ap made_deck less) ∙ ap made_deck (sym same))
