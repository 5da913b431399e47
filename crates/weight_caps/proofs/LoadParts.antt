-- What parts of a path do to loads.
use Rattle.std.proofs.Common.{◌≡◌, ℕ, suc, ◌+◌, List, [], ◌∷◌, ◌++◌, map, length, refl, sym, ap, ◌∙◌, arith}
use Rattle.std.specs.Prelude.{sum}
use Rattle.std.proofs.lemmas.List.{length-append}
use Rattle.path_sizes.specs.Weighed.{Weigh, ◌>>=◌, weighed, tested, all_tested}
use Rattle.weight_caps.specs.Capped.{capped}
use Rattle.weight_caps.specs.Laws.{Done, NothingIsCapped, Adding, Deciding, Testing, TestingAll, LoadsAreThoseOfParts}
use Rattle.weight_caps.specs.Loads.{with_added, with_decided, with_test, with_tests, behind, IsCapped, Weighs}
use Rattle.weight_caps.specs.declared.loads.Load.{Load}
use Rattle.weight_caps.proofs.CappedSums.{cap_sums, cap_first, cap_second, sum_append}

nothing_is_capped : NothingIsCapped
nothing_is_capped = refl

-- loads of equal sizes
abbrev load : ℕ → ℕ → ℕ → Load
load r c w = record { running = r; conditions = c; weight = w }

same_load : (r s c d v w : ℕ) → r ≡ s → c ≡ d → v ≡ w → load r c v ≡ load s d w
same_load r s c d v w e f g = λ i. record { running = e i; conditions = f i; weight = g i }

none_more : (n : ℕ) → n ≡ n + 0
none_more n = omega arith

-- ---- a running weight with a capped one

one_more : (n : ℕ) → n + 1 ≡ suc n
one_more n = omega arith

plus_next : (r n m : ℕ) → IsCapped n m → capped (capped r + capped (m + 1)) ≡ capped (r + suc n)
plus_next r n m e = cap_sums r (m + 1) ∙ (sym (cap_second r (m + 1)) ∙ (ap (λ (k : ℕ). capped (r + k)) next ∙ cap_second r (suc n)))
  where
    next : capped (m + 1) ≡ capped (suc n)
    next = ap (λ (k : ℕ). capped (k + 1)) e ∙ (cap_first n 1 ∙ ap capped (one_more n))

-- ---- parts

pub rests : {A B : Type 0} (R : A → B → Type 0) (l : Load) (a : A) (b : B) → R a b → Weighs R l (weighed a) l b
rests R l a b r exact e =
    (e ∙ same_load _ _ _ _ _ _ refl (ap capped (none_more exact.conditions)) (ap capped (none_more exact.weight)), r)

pub follows : {A B C D : Type 0} (R : A → B → Type 0) (S : C → D → Type 0) (old mid new : Load) (part : Weigh A) (next : A → Weigh C) (b : B) (d : D)
    → Weighs R old part mid b → ((a : A) → R a b → Weighs S mid (next a) new d) → Weighs S old (part >>= next) new d
follows R S old mid new part next b d h k exact e =
    let p = h exact e in
    let w = part exact.running in
    let q = k w.value p.1 (behind exact part) p.0 in
    let v = next w.value w.running in (
      q.0 ∙ same_load _ _ _ _ _ _ refl
          (ap capped (count exact.conditions (length w.weights) (length v.weights) (length (w.weights ++ v.weights)) (length-append w.weights v.weights)))
          (ap capped (count exact.weight (sum w.weights) (sum v.weights) (sum (w.weights ++ v.weights)) (sum_append w.weights v.weights))),
      q.1,
    )
  where
    count : (a b c s : ℕ) → s ≡ b + c → a + b + c ≡ a + s
    count a b c s e = omega arith

pub adds : Adding
adds l n m h exact e = (
  ap (λ (k : Load). with_added k m) e
      ∙ same_load _ _ _ _ _ _ (ap (λ (k : ℕ). capped (capped exact.running + k)) h ∙ cap_sums exact.running n) (ap capped (none_more exact.conditions)) (ap capped (none_more exact.weight)),
  tt,
)

pub decides : Deciding
decides l n m h exact e = (
  ap (λ (k : Load). with_decided k m) e
      ∙ same_load _ _ _ _ _ _ (plus_next exact.running n m h) (ap capped (none_more exact.conditions)) (ap capped (none_more exact.weight)),
  tt,
)

pub tests : Testing
tests l n m h exact e = (
  ap (λ (k : Load). with_test k m) e
      ∙ same_load _ _ _ _ _ _ (plus_next exact.running n m h) (cap_first exact.conditions 1)
      (ap (λ (k : ℕ). capped (capped exact.weight + k)) (plus_next exact.running n m h)
      ∙ (cap_sums exact.weight (exact.running + suc n)
      ∙ ap (λ (k : ℕ). capped (exact.weight + k)) (alone (exact.running + suc n)))),
  tt,
)
  where
    alone : (n : ℕ) → n ≡ 0 + n
    alone n = omega arith

pub tests_all : TestingAll
tests_all l [] ms e = by ms e
  where
    by : (ms : List ℕ) → ms ≡ [] → Weighs Done l (weighed tt) (with_tests l ms) tt
    by [] e = rests Done l tt tt tt
    by (m ∷ ms) e = absurd (cc)
tests_all l (n ∷ ns) ms e = λ exact h.
    let q = follows Done Done l (with_test l (capped n)) (with_tests l (capped n ∷ map capped ns)) (tested n) (λ a. all_tested ns) tt tt
    (tests l n (capped n) refl) (λ a r. tests_all (with_test l (capped n)) ns (map capped ns) refl) exact h in
    (ap (λ (xs : List ℕ). with_tests l xs) e ∙ q.0, tt)

pub loads_are_those_of_parts : LoadsAreThoseOfParts
loads_are_those_of_parts = (nothing_is_capped, adds, decides, tests, tests_all)
