-- The symbol that a word spells.
use Rattle.std.proofs.Common.{◌≡◌, ℕ, zero, suc, ◌+◌, ◌-◌, ◌*◌, ◌≤◌, Bool, true, false, Option, Some, None, List, [], ◌∷◌, ◌++◌, codes, refl, sym, ap, ◌∙◌, subst, append_assoc, arith}
use Rattle.std.specs.Prelude.{◌==◌, if◌then◌else◌}
use Rattle.std.proofs.lemmas.Bool.Decides.{nat_tests}
use Rattle.std.specs.Cmp.Lexicographic.{same_text}
use Rattle.formula.specs.Atoms.{same_bytes}
use Rattle.fort_model.specs.Symbols.{Symbol, LeastInteger, GreatestInteger, AtEntry, AtStart, ByCall, counted_on, digits_back, backwards, numeral, word_of}
use Rattle.fort_laws.specs.ValidConditions.{WordsTellSymbols}

-- ---- texts from the end

append_nothing : (xs : List ℕ) → xs ++ [] ≡ xs
append_nothing [] = refl
append_nothing (x ∷ xs) = ap (λ (ys : List ℕ). x ∷ ys) (append_nothing xs)

backwards_append : (xs ys : List ℕ) → backwards (xs ++ ys) ≡ backwards ys ++ backwards xs
backwards_append [] ys = sym (append_nothing (backwards ys))
backwards_append (x ∷ xs) ys = ap (λ (zs : List ℕ). zs ++ x ∷ []) (backwards_append xs ys) ∙ append_assoc (backwards ys) (backwards xs) (x ∷ [])

backwards_twice : (xs : List ℕ) → backwards (backwards xs) ≡ xs
backwards_twice [] = refl
backwards_twice (x ∷ xs) = backwards_append (backwards xs) (x ∷ []) ∙ ap (λ (ys : List ℕ). x ∷ ys) (backwards_twice xs)

-- ---- digits

abbrev AreDigits : List ℕ → Type 0
AreDigits [] = Unit {0}
AreDigits (d ∷ ds) = ((48 ≤ d) × (d ≤ 57)) × AreDigits ds

-- the number of digits, the last one first
abbrev counted : List ℕ → ℕ
counted [] = 0
counted (d ∷ ds) = (d - 48) + 10 * counted ds

counted_one_more : (ds : List ℕ) → AreDigits ds → AreDigits (counted_on ds) × (counted (counted_on ds) ≡ suc (counted ds))
counted_one_more [] h = (((omega arith, omega arith), tt), refl)
counted_one_more (d ∷ ds) h = by_test (counted_one_more ds h.1) (d == 57) refl
  where
    nine : (d == 57) ≡ true → d ≡ 57
    nine e = grind (arith, nat_tests)

    less : (d == 57) ≡ false → d + 1 ≤ 57
    less e = let most : d ≤ 57 = h.0.1 in grind (arith, nat_tests)

    by_test : AreDigits (counted_on ds) × (counted (counted_on ds) ≡ suc (counted ds)) → (t : Bool) → (d == 57) ≡ t
        → AreDigits (if t then 48 ∷ counted_on ds else (d + 1) ∷ ds) × (counted (if t then 48 ∷ counted_on ds else (d + 1) ∷ ds) ≡ suc ((d - 48) + 10 * counted ds))
    by_test next true e = (((omega arith, omega arith), next.0), let k : d ≡ 57 = nine e in let n : counted (counted_on ds) ≡ suc (counted ds) = next.1 in omega arith)
    by_test next false e = let l : d + 1 ≤ 57 = less e in let m : 48 ≤ d = h.0.0 in (((omega arith, l), h.1), omega arith)

digits_back_count : (n : ℕ) → AreDigits (digits_back n) × (counted (digits_back n) ≡ n)
digits_back_count zero = (((omega arith, omega arith), tt), refl)
digits_back_count (suc n) =
    let before = digits_back_count n in
    let more = counted_one_more (digits_back n) before.0 in
    (more.0, more.1 ∙ ap suc before.1)

-- ---- the symbol of a word

-- what stands in front of the first dash, and behind it
abbrev with_first : ℕ → Option (List ℕ × List ℕ) → Option (List ℕ × List ℕ)
with_first b None = None
with_first b (Some p) = Some (b ∷ p.0, p.1)

abbrev parted : List ℕ → Option (List ℕ × List ℕ)
parted [] = None
parted (b ∷ rest) = if b == 45 then Some ([], rest) else with_first b (parted rest)

not_dash : (d : ℕ) → 48 ≤ d → (d == 45) ≡ false
not_dash d h = grind (arith, nat_tests)

unless : {A : Type 0} (b : Bool) (x y : A) → b ≡ false → (if b then x else y) ≡ y
unless false x y h = refl
unless true x y h = absurd cc

parted_digits : (ds rest : List ℕ) → AreDigits ds → parted (ds ++ 45 ∷ rest) ≡ Some (ds, rest)
parted_digits [] rest h = refl
parted_digits (d ∷ ds) rest h = unless (d == 45) _ _ (not_dash d h.0.0) ∙ ap (with_first d) (parted_digits ds rest h.1)

-- the symbol of a word, by what stands in front of the first dash from its end, and behind that
abbrev symbol_by : List ℕ → Option (List ℕ × List ℕ) → Symbol
symbol_by word None = if same_bytes word (codes "LEAST") then LeastInteger else GreatestInteger
symbol_by word (Some p) =
    if same_bytes p.0 (codes "NI") then AtEntry (backwards p.1)
    else if same_bytes p.0 (codes "TA") then AtStart (backwards p.1)
    else ByCall (backwards p.1) (counted p.0)

abbrev symbol_in : List ℕ → Symbol
symbol_in word = symbol_by word (parted (backwards word))

letter_apart : (c : ℕ) (ds cs : List ℕ) → 58 ≤ c → AreDigits ds → same_bytes ds (c ∷ cs) ≡ false
letter_apart c ds cs l h = by_test (same_bytes ds (c ∷ cs)) refl
  where
    no_letter : AreDigits (c ∷ cs) → ⊥
    no_letter k = let most : c ≤ 57 = k.0.1 in absurd (omega arith)

    by_test : (t : Bool) → same_bytes ds (c ∷ cs) ≡ t → same_bytes ds (c ∷ cs) ≡ false
    by_test false e = e
    by_test true e = absurd (no_letter (subst AreDigits (same_text ds (c ∷ cs) (sym e)) h))

entry_told : (x : List ℕ) → symbol_in (x ++ codes "-IN") ≡ AtEntry x
entry_told x =
    ap (λ (w : List ℕ). symbol_by (x ++ codes "-IN") (parted w)) (backwards_append x (codes "-IN")) ∙ ap AtEntry (backwards_twice x)

start_told : (x : List ℕ) → symbol_in (x ++ codes "-AT") ≡ AtStart x
start_told x =
    ap (λ (w : List ℕ). symbol_by (x ++ codes "-AT") (parted w)) (backwards_append x (codes "-AT")) ∙ ap AtStart (backwards_twice x)

call_told : (x : List ℕ) (k : ℕ) → symbol_in (x ++ codes "-" ++ numeral k) ≡ ByCall x k
call_told x k =
    let word = x ++ codes "-" ++ numeral k in
    let ds = digits_back k in
    let digits = digits_back_count k in
    let turned : backwards word ≡ ds ++ 45 ∷ backwards x =
    backwards_append (x ++ codes "-") (numeral k) ∙ ap (λ (ys : List ℕ). ys ++ backwards (x ++ codes "-")) (backwards_twice ds)
    ∙ ap (λ (ys : List ℕ). ds ++ ys) (backwards_append x (codes "-")) in
    ap (λ (w : List ℕ). symbol_by word (parted w)) turned
    ∙ ap (symbol_by word) (parted_digits ds (backwards x) digits.0)
    ∙ unless (same_bytes ds (codes "NI")) _ _ (letter_apart 78 ds (codes "I") (omega arith) digits.0)
    ∙ unless (same_bytes ds (codes "TA")) _ _ (letter_apart 84 ds (codes "A") (omega arith) digits.0)
    ∙ ap (λ (y : List ℕ). ByCall y (counted ds)) (backwards_twice x)
    ∙ ap (ByCall x) digits.1

symbol_told : (s : Symbol) → symbol_in (word_of s) ≡ s
symbol_told LeastInteger = refl
symbol_told GreatestInteger = refl
symbol_told (AtEntry x) = entry_told x
symbol_told (AtStart x) = start_told x
symbol_told (ByCall x k) = call_told x k

pub words_tell_symbols : WordsTellSymbols
words_tell_symbols values = record { words = λ w. values (symbol_in w); same = λ s. ap values (symbol_told s) }
