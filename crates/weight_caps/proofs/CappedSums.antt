-- Sums of capped numbers.
use Rattle.std.proofs.Common.{◌≡◌, ℕ, suc, ◌+◌, ◌<◌, ◌≤◌, ◌⊎◌, inl, inr, Bool, true, false, cond, List, [], ◌∷◌, ◌++◌, map, refl, sym, ap, ◌∙◌, arith}
use Rattle.std.specs.Prelude.{nat_lt, sum}
use Rattle.std.proofs.lemmas.List.Sums.{sum_by-append}
use Rattle.std.proofs.lemmas.Bool.Decides.{nat_tests}
use Rattle.formula.specs.Tree.{Tree, num, truth, symbol, old, apply, Row, none, more}
use Rattle.path_sizes.specs.Weights.{term_weight, row_weight}
use Rattle.weight_caps.specs.Capped.{capped}
use Rattle.weight_caps.specs.Laws.{CapTwice, CapSums, CapLists, CapTerms}

-- a number is below the cap, or capped
abbrev pub CapOf : ℕ → ℕ → Type 0
CapOf n c = ((n < 2000001) × (c ≡ n)) ⊎ ((2000001 ≤ n) × (c ≡ 2000001))

below : (n : ℕ) → nat_lt n 2000001 ≡ true → n < 2000001
below n e = grind (arith, nat_tests)

above : (n : ℕ) → nat_lt n 2000001 ≡ false → 2000001 ≤ n
above n e = grind (arith, nat_tests)

pub cap_of : (n : ℕ) → CapOf n (capped n)
cap_of n = by (nat_lt n 2000001) refl
  where
    by : (b : Bool) → nat_lt n 2000001 ≡ b → CapOf n (cond b n 2000001)
    by true e = inl (below n e, refl)
    by false e = inr (above n e, refl)

-- what tells the cap of a number is it
pub is_cap : (n c : ℕ) → CapOf n c → c ≡ capped n
is_cap n c (inl (k, e)) = by (cap_of n)
  where
    by : CapOf n (capped n) → c ≡ capped n
    by (inl (l, f)) = e ∙ sym f
    by (inr (l, f)) = absurd (omega arith)
is_cap n c (inr (k, e)) = by (cap_of n)
  where
    by : CapOf n (capped n) → c ≡ capped n
    by (inl (l, f)) = absurd (omega arith)
    by (inr (l, f)) = e ∙ sym f

pub cap_twice : CapTwice
cap_twice n = by (cap_of n)
  where
    by : CapOf n (capped n) → capped (capped n) ≡ capped n
    by (inl (l, e)) = ap capped e
    by (inr (l, e)) = ap capped e ∙ sym e

pub cap_sums : CapSums
cap_sums a b = by (capped a) (capped b) (cap_of a) (cap_of b)
  where
    by : (c d : ℕ) → CapOf a c → CapOf b d → capped (c + d) ≡ capped (a + b)
    by c d (inl (k, e)) (inl (l, f)) = λ i. capped (e i + f i)
    by c d (inl (k, e)) (inr (l, f)) = sym (is_cap (c + d) 2000001 (inr (omega arith, refl))) ∙ is_cap (a + b) 2000001 (inr (omega arith, refl))
    by c d (inr (k, e)) q = sym (is_cap (c + d) 2000001 (inr (omega arith, refl))) ∙ is_cap (a + b) 2000001 (inr (omega arith, refl))

-- the cap of a sum is that of a part with the cap of another
pub cap_first : (a b : ℕ) → capped (capped a + b) ≡ capped (a + b)
cap_first a b = sym (cap_sums (capped a) b) ∙ (ap (λ (c : ℕ). capped (c + capped b)) (cap_twice a) ∙ cap_sums a b)

pub cap_second : (a b : ℕ) → capped (a + capped b) ≡ capped (a + b)
cap_second a b = sym (cap_sums a (capped b)) ∙ (ap (λ (c : ℕ). capped (capped a + c)) (cap_twice b) ∙ cap_sums a b)

pub cap_next : (a : ℕ) → capped (suc (capped a)) ≡ capped (suc a)
cap_next a =
    let e : suc (capped a) ≡ capped a + 1 = omega arith in
    let f : a + 1 ≡ suc a = omega arith in
    ap capped e ∙ (cap_first a 1 ∙ ap capped f)

-- ---- lists

pub sum_more : (n : ℕ) (ns : List ℕ) → sum (n ∷ ns) ≡ n + sum ns
sum_more n ns = sum_by-append (λ (x : ℕ). x) (n ∷ []) ns ∙ (let e : 0 + n ≡ n = omega arith in ap (λ (k : ℕ). k + sum ns) e)

pub sum_append : (ms ns : List ℕ) → sum (ms ++ ns) ≡ sum ms + sum ns
sum_append ms ns = sum_by-append (λ (x : ℕ). x) ms ns

pub cap_lists : CapLists
cap_lists [] = refl
cap_lists (n ∷ ns) =
    ap capped (sum_more (capped n) (map capped ns))
    ∙ (cap_first n (sum (map capped ns))
    ∙ (sym (cap_second n (sum (map capped ns)))
    ∙ (ap (λ (k : ℕ). capped (n + k)) (cap_lists ns)
    ∙ (cap_second n (sum ns) ∙ sym (ap capped (sum_more n ns))))))

-- ---- terms

module _ (now past : List ℕ → ℕ) where
  abbrev now' : List ℕ → ℕ
  now' x = capped (now x)

  abbrev past' : List ℕ → ℕ
  past' x = capped (past x)

  mutual
    terms : (t : Tree) → capped (term_weight now' past' t) ≡ capped (term_weight now past t)
    terms (num z) = refl
    terms (truth b) = refl
    terms (symbol x) = cap_twice (now x)
    terms (old x) = cap_twice (past x)
    terms (apply f row) = sym (cap_next (row_weight now' past' row)) ∙ (ap (λ (k : ℕ). capped (suc k)) (rows row) ∙ cap_next (row_weight now past row))

    rows : (row : Row) → capped (row_weight now' past' row) ≡ capped (row_weight now past row)
    rows none = refl
    rows (more t row) =
        sym (cap_sums (term_weight now' past' t) (row_weight now' past' row))
        ∙ ((λ i. capped (terms t i + rows row i)) ∙ cap_sums (term_weight now past t) (row_weight now past row))

pub cap_terms : CapTerms
cap_terms now past t = terms now past t

pub capped_weights_are_weights : CapTwice × CapSums × CapLists × CapTerms
capped_weights_are_weights = (cap_twice, cap_sums, cap_lists, cap_terms)
