-- Cards in order, and the rule that is told at each.
use Rattle.std.proofs.Common.{◌≡◌, ℕ, ◌<◌, ◌≤◌, List, [], ◌∷◌, ◌++◌, ◌⊎◌, inl, inr, refl, ap, subst, ◌∙◌, arith}
use Rattle.std.specs.Prelude.{Option, Some, None, ⊤}
use Rattle.fort_syntax.specs.CardRules.{fault_or}
use Rattle.fort_syntax.specs.FirstFaults.{IsAtMost}
use Rattle.fort_syntax.specs.Rules.{rule_number}
use Rattle.fort_syntax.specs.UnitRules.{fault_before}
use Rattle.fort_syntax.specs.declared.refusal.Fault.{Fault}
use Rattle.fort_syntax.specs.declared.rule.Rule.{Rule}

pub record Spot : Type 0 where
  pub card : ℕ
  pub told : Option Rule

abbrev pub spot : ℕ → Option Rule → Spot
spot card told = record { card = card; told = told }

abbrev pub first_spot : List Spot → Option Fault
first_spot [] = None
first_spot (s ∷ ss) = fault_or s.told s.card (first_spot ss)

-- cards ascend from above one
abbrev pub Above : ℕ → List Spot → Type 0
Above card [] = ⊤
Above card (s ∷ ss) = (card < s.card) × Above s.card ss

-- at a card a rule is told
abbrev pub IsIn : ℕ → Rule → List Spot → Type 0
IsIn card q [] = ⊥
IsIn card q (s ∷ ss) = ((s.card ≡ card) × (s.told ≡ Some q)) ⊎ IsIn card q ss

pub first_both : (xs ys : List Spot) → first_spot (xs ++ ys) ≡ fault_before (first_spot xs) (first_spot ys)
first_both [] ys = refl
first_both (s ∷ xs) ys = by (first_both xs ys) s.told
  where
    by : first_spot (xs ++ ys) ≡ fault_before (first_spot xs) (first_spot ys) → (o : Option Rule)
        → fault_or o s.card (first_spot (xs ++ ys)) ≡ fault_before (fault_or o s.card (first_spot xs)) (first_spot ys)
    by rest (Some r) = refl
    by rest None = rest

pub sound : (ss : List Spot) (f : Fault) → first_spot ss ≡ Some f → IsIn f.card f.rule ss
sound [] f h = absurd cc
sound (s ∷ ss) f h = by (sound ss f) s.told refl h
  where
    by : (first_spot ss ≡ Some f → IsIn f.card f.rule ss) → (o : Option Rule) → s.told ≡ o → fault_or o s.card (first_spot ss) ≡ Some f
        → IsIn f.card f.rule (s ∷ ss)
    by later (Some r) e g =
        let same : record { rule = r; card = s.card } ≡ f = cc in
        inl (ap (λ (x : Fault). x.card) same, e ∙ ap (λ (x : Fault). Some x.rule) same)
    by later None e g = inr (later g)

pub weaker : (c d : ℕ) (ss : List Spot) → c ≤ d → Above d ss → Above c ss
weaker c d [] h a = a
weaker c d (s ∷ ss) h a = (omega (arith, a.0), a.1)

pub above_in : (c : ℕ) (ss : List Spot) (card : ℕ) (q : Rule) → Above c ss → IsIn card q ss → c < card
above_in c [] card q a h = absurd h
above_in c (s ∷ ss) card q a (inl e) = let l : c < s.card = a.0 in let same : s.card ≡ card = e.0 in omega arith
above_in c (s ∷ ss) card q a (inr h) = let l : c < s.card = a.0 in let m : s.card < card = above_in s.card ss card q a.1 h in omega arith

-- what is told somewhere is told first, or something before it
pub least : (c : ℕ) (ss : List Spot) (card : ℕ) (q : Rule) → Above c ss → IsIn card q ss
    → (f : Fault) × (first_spot ss ≡ Some f) × IsAtMost f.rule f.card q card
least c [] card q a h = absurd h
least c (s ∷ ss) card q a h = by (least s.card ss card q a.1) s.told refl
  where
    here : (r : Rule) → s.told ≡ Some r → ((s.card ≡ card) × (s.told ≡ Some q)) ⊎ IsIn card q ss → IsAtMost r s.card q card
    here r e (inl m) =
        let same : r ≡ q = cc (m.1) in
        inr (m.0, subst (λ x. rule_number r ≤ rule_number x) same (omega arith))
    here r e (inr later) = inl (above_in s.card ss card q a.1 later)

    later_in : s.told ≡ None → ((s.card ≡ card) × (s.told ≡ Some q)) ⊎ IsIn card q ss → IsIn card q ss
    later_in e (inl m) = absurd (cc (m.1))
    later_in e (inr later) = later

    by : (IsIn card q ss → (f : Fault) × (first_spot ss ≡ Some f) × IsAtMost f.rule f.card q card) → (o : Option Rule) → s.told ≡ o
        → (f : Fault) × (fault_or o s.card (first_spot ss) ≡ Some f) × IsAtMost f.rule f.card q card
    by later (Some r) e = (record { rule = r; card = s.card }, refl, here r e h)
    by later None e = later (later_in e h)

pub in_first : (xs ys : List Spot) (card : ℕ) (q : Rule) → IsIn card q xs → IsIn card q (xs ++ ys)
in_first [] ys card q h = absurd h
in_first (s ∷ xs) ys card q (inl e) = inl e
in_first (s ∷ xs) ys card q (inr h) = inr (in_first xs ys card q h)

pub in_second : (xs ys : List Spot) (card : ℕ) (q : Rule) → IsIn card q ys → IsIn card q (xs ++ ys)
in_second [] ys card q h = h
in_second (s ∷ xs) ys card q h = inr (in_second xs ys card q h)

pub in_either : (xs ys : List Spot) (card : ℕ) (q : Rule) → IsIn card q (xs ++ ys) → IsIn card q xs ⊎ IsIn card q ys
in_either [] ys card q h = inr h
in_either (s ∷ xs) ys card q (inl e) = inl (inl e)
in_either (s ∷ xs) ys card q (inr h) = move (in_either xs ys card q h)
  where
    move : IsIn card q xs ⊎ IsIn card q ys → (((s.card ≡ card) × (s.told ≡ Some q)) ⊎ IsIn card q xs) ⊎ IsIn card q ys
    move (inl m) = inl (inr m)
    move (inr m) = inr m
