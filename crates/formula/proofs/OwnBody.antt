-- A definition that recurs well is worth its term, where its own uses in the term mean the same.
use Rattle.std.proofs.Common.{◌≡◌, ℕ, zero, suc, Bool, true, false, ◌&&◌, if◌then◌else◌, ℤ, pos, negsuc, ◌-ℤ◌, int_le, List, [], ◌∷◌, refl, sym, ap, ◌∙◌, true≢false, nat_eq, arith}
use Rattle.std.specs.Cmp.{first_so, second_so}
use Rattle.std.specs.Ordering.{int_eq}
use Rattle.std.proofs.lemmas.Bool.{eq-eqb, not-true}
use Rattle.std.proofs.lemmas.Bool.Decides.{Decides-int_eq, nat_tests}
use Rattle.std.proofs.lemmas.Int.{ints}
use Rattle.formula.specs.declared.function.BuiltIn.TheVariants.{Difference}
use Rattle.formula.specs.declared.function.Func.TheVariants.{BuiltIn}
use Rattle.formula.specs.declared.value.Value.{Value}
use Rattle.formula.specs.Adding.{is_other, is_one_less, first_is_one_less, counts_down, has_one, recurs_well}
use Rattle.formula.specs.TermTests.{uses_pass}
use Rattle.formula.specs.Atoms.{same_bytes}
use Rattle.formula.specs.Bounded.{chosen}
use Rattle.formula.specs.Tree.{Tree, num as number, symbol, apply, Row, none, more}
use Rattle.formula.specs.Values.{num, count}
use Rattle.formula.specs.Worth.{Uses, FunctionBody, plain, counting, worth_by, worths_by, bound_to, nothing_known, first_of, with_use, counted, body_worth}
use Rattle.formula.proofs.UsesAgree.{uses_agree}

-- ---- one function more

pub at_own : (k : ℕ) (called : List Value → Value) (uses : Uses) (vs : List Value) → with_use k called uses k vs ≡ called vs
at_own k called uses vs = ap (λ (t : Bool). if t then called vs else uses k vs) (eq-eqb k k refl)

pub at_other : (k j : ℕ) (called : List Value → Value) (uses : Uses) (vs : List Value) → nat_eq j k ≡ false → with_use k called uses j vs ≡ uses j vs
at_other k j called uses vs e = ap (λ (t : Bool). if t then called vs else uses j vs) e

-- ---- counting down by one

pub not_positive : (z : ℤ) → count z ≡ 0 → int_le z (pos 0) ≡ true
not_positive (pos zero) e = refl
not_positive (pos (suc n)) e = absurd (cc)
not_positive (negsuc n) e = refl

pub positive : (z : ℤ) (n : ℕ) → count z ≡ suc n → int_le z (pos 0) ≡ false
positive (pos zero) n e = absurd (cc)
positive (pos (suc m)) n e = grind (arith, nat_tests)
positive (negsuc m) n e = absurd (cc)

one_left : (z : ℤ) (n : ℕ) → count z ≡ suc n → count (z -ℤ pos 1) ≡ n
one_left (pos zero) n e = absurd (cc)
one_left (pos (suc m)) n e =
    let less : pos (suc m) -ℤ pos 1 ≡ pos m = omega (arith, ints) in
    ap count less ∙ cc
one_left (negsuc m) n e = absurd (cc)

module _ (uses : Uses) (p : List ℕ) (ps : List (List ℕ)) (v : Value) (vs : List Value) where
  own_value : (s : List ℕ) → same_bytes p s ≡ true → bound_to (p ∷ ps) (v ∷ vs) s ≡ v
  own_value s e = ap (λ (t : Bool). if t then v else bound_to ps vs s) e

  -- (ZDIFF p 1) is the first argument less 1
  less_by_one : (t : Tree) → is_one_less p t ≡ true → num (worth_by uses (bound_to (p ∷ ps) (v ∷ vs)) nothing_known t) ≡ num v -ℤ pos 1
  less_by_one (apply (BuiltIn Difference) (more (symbol s) (more (number z) none))) h =
      let name = own_value s (first_so (same_bytes p s) (int_eq z (pos 1)) h) in
      let one = (Decides-int_eq z (pos 1)).0 (second_so (same_bytes p s) (int_eq z (pos 1)) h) in
      λ i. num (name i) -ℤ one i
  less_by_one _ h = absurd (true≢false (sym h))

-- a use that counts down has one less left
pub left_to_count : (uses : Uses) (params : List (List ℕ)) (vs : List Value) (row : Row) (n : ℕ) → first_is_one_less params row ≡ true → count (num (first_of vs)) ≡ suc n
    → count (num (first_of (worths_by uses (bound_to params vs) nothing_known row))) ≡ n
left_to_count uses (p ∷ ps) (v ∷ vs) (more t rest) n h e = ap count (less_by_one uses p ps v vs t h) ∙ one_left (num v) n e
left_to_count uses (p ∷ ps) [] (more t rest) n h e = absurd (cc)
left_to_count _ _ _ _ _ h e = absurd (true≢false (sym h))

-- ---- the term of a body

where_it_is : (t : Bool) (x y z : Value) → (t ≡ true → x ≡ y) → (if t then x else z) ≡ (if t then y else z)
where_it_is true x y z e = e refl
where_it_is false x y z e = refl

module _ (uses : Uses) (k : ℕ) (params : List (List ℕ)) (vs : List Value) where
  -- a term that doesn't use the function
  others_used : (called : List Value → Value) (t : Tree) → uses_pass (is_other k) t ≡ true
      → worth_by uses (bound_to params vs) nothing_known t ≡ worth_by (with_use k called uses) (bound_to params vs) nothing_known t
  others_used called t h =
      uses_agree (is_other k) uses (with_use k called uses) (bound_to params vs) nothing_known (λ j row e. sym (at_other k j called uses _ (not-true (nat_eq j k) e))) t h

  step_used : (base step : Tree) (n : ℕ) → count (num (first_of vs)) ≡ suc n → uses_pass (counts_down k params) step ≡ true
      → counted uses k params base step (suc n) vs ≡ worth_by (with_use k (body_worth uses k params (counting base step)) uses) (bound_to params vs) nothing_known step
  step_used base step n e h =
      let left = with_use k (counted uses k params base step n) uses in
      let own = with_use k (body_worth uses k params (counting base step)) uses in
      uses_agree (counts_down k params) left own (bound_to params vs) nothing_known
      (λ j row passes. where_it_is (nat_eq j k) _ _ _
      (λ same. ap (λ l. counted uses k params base step l (worths_by left (bound_to params vs) nothing_known row))
      (sym (left_to_count left params vs row n (sym (ap (λ (t : Bool). if t then first_is_one_less params row else true) same) ∙ passes) e))))
      step h

  counting_used : (base step : Tree) (n : ℕ) → count (num (first_of vs)) ≡ n → recurs_well k params (counting base step) ≡ true
      → counted uses k params base step n vs
      ≡ worth_by (with_use k (body_worth uses k params (counting base step)) uses) (bound_to params vs) nothing_known (chosen (counting base step) vs)
  counting_used base step zero e h =
      let own = with_use k (body_worth uses k params (counting base step)) uses in
      let tests = second_so (has_one params) (uses_pass (is_other k) base && uses_pass (counts_down k params) step) h in
      others_used (body_worth uses k params (counting base step)) base (first_so (uses_pass (is_other k) base) (uses_pass (counts_down k params) step) tests)
      ∙ ap (λ (t : Bool). worth_by own (bound_to params vs) nothing_known (if t then base else step)) (sym (not_positive (num (first_of vs)) e))
  counting_used base step (suc n) e h =
      let own = with_use k (body_worth uses k params (counting base step)) uses in
      let tests = second_so (has_one params) (uses_pass (is_other k) base && uses_pass (counts_down k params) step) h in
      step_used base step n e (second_so (uses_pass (is_other k) base) (uses_pass (counts_down k params) step) tests)
      ∙ ap (λ (t : Bool). worth_by own (bound_to params vs) nothing_known (if t then base else step)) (sym (positive (num (first_of vs)) n e))

  -- what a body makes of arguments is the worth of its term for them
  pub own_worth : (body : FunctionBody) → recurs_well k params body ≡ true
      → body_worth uses k params body vs ≡ worth_by (with_use k (body_worth uses k params body) uses) (bound_to params vs) nothing_known (chosen body vs)
  own_worth (plain t) h = others_used (body_worth uses k params (plain t)) t h
  own_worth (counting base step) h = counting_used base step (count (num (first_of vs))) refl h
