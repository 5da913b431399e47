-- Uses of definitions mean their terms in one way only.
use Rattle.std.proofs.Common.{◌≡◌, ℕ, zero, suc, ◌<◌, ◌≤◌, Bool, true, false, ◌&&◌, if◌then◌else◌, List, Option, Some, None, refl, sym, ap, ◌∙◌, subst, arith, nat_eq, nat_lt, nat_le}
use Rattle.std.specs.Cmp.{first_so, second_so}
use Rattle.std.proofs.lemmas.Bool.{eqb-true, eqb-false, not-true}
use Rattle.std.proofs.lemmas.Bool.Decides.{nat_tests}
use Rattle.formula.specs.declared.function.Func.{Func}
use Rattle.formula.specs.declared.function.Func.TheVariants.{BuiltIn, Defined}
use Rattle.formula.specs.declared.value.Value.{Value}
use Rattle.formula.specs.Adding.{body_passes, is_known_use, is_other, first_is_one_less, counts_down, has_one, recurs_well}
use Rattle.formula.specs.TermTests.{use_passes, uses_pass, row_uses_pass}
use Rattle.formula.specs.Bounded.{chosen, function_at}
use Rattle.formula.specs.Tree.{Tree, num as number, truth, symbol, old, apply, Row, none, more}
use Rattle.formula.specs.Values.{num, count}
use Rattle.formula.specs.Worth.{Uses, Valuation, FunctionBody, plain, counting, Function, functions_of, worth_by, bound_to, nothing_known, first_of, used}
use Rattle.formula.specs.WorthLaws.{term_worth, IsMeaning, UsesMeanTheirTerms}
use Rattle.formula.proofs.UsesAgree.{uses_agree}
use Rattle.formula.proofs.OwnBody.{not_positive, positive, left_to_count}
use Rattle.formula.proofs.UsedFunctions.{AreSound, functions_sound, sound_at, uses_mean}

-- ---- two tests at once

module _ (p q : ℕ → Row → Bool) where
  use_both : (f : Func) (row : Row) → use_passes p f row ≡ true → use_passes q f row ≡ true → use_passes (λ j r. p j r && q j r) f row ≡ true
  use_both (BuiltIn f) row h g = refl
  use_both (Defined k) row h g = λ i. h i && g i

  mutual
    both_pass : (t : Tree) → uses_pass p t ≡ true → uses_pass q t ≡ true → uses_pass (λ j r. p j r && q j r) t ≡ true
    both_pass (number z) h g = refl
    both_pass (truth b) h g = refl
    both_pass (symbol s) h g = refl
    both_pass (old s) h g = refl
    both_pass (apply f row) h g =
        let here = use_both f row (first_so (use_passes p f row) (row_uses_pass p row) h) (first_so (use_passes q f row) (row_uses_pass q row) g) in
        let inside = row_both row (second_so (use_passes p f row) (row_uses_pass p row) h) (second_so (use_passes q f row) (row_uses_pass q row) g) in
        λ i. here i && inside i

    row_both : (row : Row) → row_uses_pass p row ≡ true → row_uses_pass q row ≡ true → row_uses_pass (λ j r. p j r && q j r) row ≡ true
    row_both none h g = refl
    row_both (more t rest) h g =
        let head = both_pass t (first_so (uses_pass p t) (row_uses_pass p rest) h) (first_so (uses_pass q t) (row_uses_pass q rest) g) in
        let tail = row_both rest (second_so (uses_pass p t) (row_uses_pass p rest) h) (second_so (uses_pass q t) (row_uses_pass q rest) g) in
        λ i. head i && tail i

-- ---- terms under two meanings that agree on earlier numbers

not_above : (j k : ℕ) → is_known_use k j none ≡ true → j ≤ k
not_above j k h = grind (arith, nat_tests, second_so (nat_lt 0 j) (nat_le j k) h)

module _ (a b : Uses) (k : ℕ) (below : (j : ℕ) (ws : List Value) → j < k → a j ws ≡ b j ws) where
  -- a number that is not above k, by whether it is k
  use_same : (test : Bool) (j : ℕ) (ws : List Value) → nat_eq j k ≡ test → j ≤ k → (test ≡ true → a k ws ≡ b k ws) → a j ws ≡ b j ws
  use_same true j ws e low own = subst (λ n. a n ws ≡ b n ws) (sym (eqb-true j k e)) (own refl)
  use_same false j ws e low own =
      let apart : j ≡ k → ⊥ = eqb-false j k e in
      below j ws (omega arith)

  others_same : (symbols : Valuation) (t : Tree) → uses_pass (is_known_use k) t ≡ true → uses_pass (is_other k) t ≡ true → worth_by a symbols nothing_known t ≡ worth_by b symbols nothing_known t
  others_same symbols t h g =
      uses_agree (λ j r. is_known_use k j r && is_other k j r) a b symbols nothing_known
      (λ j row e. use_same false j _ (not-true (nat_eq j k) (second_so (is_known_use k j row) (is_other k j row) e)) (not_above j k (first_so (is_known_use k j row) (is_other k j row) e)) (λ no. absurd (cc)))
      t (both_pass (is_known_use k) (is_other k) t h g)

  step_same : (params : List (List ℕ)) (vs : List Value) (n : ℕ) (t : Tree) → count (num (first_of vs)) ≡ suc n → ((ws : List Value) → count (num (first_of ws)) ≡ n → a k ws ≡ b k ws)
      → uses_pass (is_known_use k) t ≡ true → uses_pass (counts_down k params) t ≡ true → worth_by a (bound_to params vs) nothing_known t ≡ worth_by b (bound_to params vs) nothing_known t
  step_same params vs n t c own h g =
      uses_agree (λ j r. is_known_use k j r && counts_down k params j r) a b (bound_to params vs) nothing_known
      (λ j row e. use_same (nat_eq j k) j _ refl (not_above j k (first_so (is_known_use k j row) (counts_down k params j row) e))
      (λ same. own _ (left_to_count a params vs row n (sym (ap (λ (x : Bool). if x then first_is_one_less params row else true) same) ∙ second_so (is_known_use k j row) (counts_down k params j row) e) c)))
      t (both_pass (is_known_use k) (counts_down k params) t h g)

  term_same : (params : List (List ℕ)) (body : FunctionBody) (vs : List Value) (n : ℕ) → body_passes (uses_pass (is_known_use k)) body ≡ true → recurs_well k params body ≡ true → count (num (first_of vs)) ≡ n
      → ((ws : List Value) → suc (count (num (first_of ws))) ≡ n → a k ws ≡ b k ws)
      → worth_by a (bound_to params vs) nothing_known (chosen body vs) ≡ worth_by b (bound_to params vs) nothing_known (chosen body vs)
  term_same params (plain t) vs n h g c own = others_same (bound_to params vs) t h g
  term_same params (counting base step) vs zero h g c own =
      let tests = second_so (has_one params) (uses_pass (is_other k) base && uses_pass (counts_down k params) step) g in
      subst (λ (x : Bool). worth_by a (bound_to params vs) nothing_known (if x then base else step) ≡ worth_by b (bound_to params vs) nothing_known (if x then base else step)) (sym (not_positive (num (first_of vs)) c))
      (others_same (bound_to params vs) base (first_so (uses_pass (is_known_use k) base) (uses_pass (is_known_use k) step) h) (first_so (uses_pass (is_other k) base) (uses_pass (counts_down k params) step) tests))
  term_same params (counting base step) vs (suc n) h g c own =
      let tests = second_so (has_one params) (uses_pass (is_other k) base && uses_pass (counts_down k params) step) g in
      subst (λ (x : Bool). worth_by a (bound_to params vs) nothing_known (if x then base else step) ≡ worth_by b (bound_to params vs) nothing_known (if x then base else step)) (sym (positive (num (first_of vs)) n c))
      (step_same params vs n step c (λ ws e. own ws (ap suc e)) (second_so (uses_pass (is_known_use k) base) (uses_pass (is_known_use k) step) h) (second_so (uses_pass (is_other k) base) (uses_pass (counts_down k params) step) tests))

-- ---- two meanings

module _ (fs : List Function) (s : AreSound 1 fs) (a b : Uses) (mean_a : IsMeaning fs a) (mean_b : IsMeaning fs b) where
  -- a use of a function, by how many are left to count
  counted_same : (k : ℕ) (f : Function) → ((j : ℕ) (ws : List Value) → j < k → a j ws ≡ b j ws) → function_at fs k ≡ Some f → (n : ℕ) (vs : List Value) → count (num (first_of vs)) ≡ n → a k vs ≡ b k vs
  counted_same k f below e zero vs c =
      let sound = sound_at fs k f s e in
      mean_a k vs ∙ ap (λ found. term_worth a found vs) e
      ∙ term_same a b k below f.params f.body vs zero sound.known sound.recurs c (λ ws no. absurd (cc))
      ∙ sym (ap (λ found. term_worth b found vs) e) ∙ sym (mean_b k vs)
  counted_same k f below e (suc n) vs c =
      let sound = sound_at fs k f s e in
      mean_a k vs ∙ ap (λ found. term_worth a found vs) e
      ∙ term_same a b k below f.params f.body vs (suc n) sound.known sound.recurs c (λ ws one. counted_same k f below e n ws (cc))
      ∙ sym (ap (λ found. term_worth b found vs) e) ∙ sym (mean_b k vs)

  number_same : (k : ℕ) (found : Option Function) (vs : List Value) → ((j : ℕ) (ws : List Value) → j < k → a j ws ≡ b j ws) → function_at fs k ≡ found → a k vs ≡ b k vs
  number_same k None vs below e = mean_a k vs ∙ ap (λ found. term_worth a found vs) e ∙ sym (ap (λ found. term_worth b found vs) e) ∙ sym (mean_b k vs)
  number_same k (Some f) vs below e = counted_same k f below e (count (num (first_of vs))) vs refl

  below_same : (most j : ℕ) (ws : List Value) → j < most → a j ws ≡ b j ws
  below_same zero j ws h = absurd (omega arith)
  below_same (suc most) j ws h = number_same j (function_at fs j) ws (λ i us low. below_same most i us (omega arith)) refl

pub uses_mean_their_terms : UsesMeanTheirTerms
uses_mean_their_terms pool ds h =
    let fs = functions_of pool ds in
    let s = functions_sound pool ds h in
    (uses_mean fs s, λ other mean k vs. below_same fs s other (used fs) mean (uses_mean fs s) (suc k) k vs (omega arith))
