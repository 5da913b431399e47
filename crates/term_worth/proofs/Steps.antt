-- What each job leaves to be done.
use Rattle.std.proofs.Common.{◌≡◌, ℕ, ◌+◌, ◌-◌, ◌≤◌, Bool, true, false, if◌then◌else◌, List, [], ◌∷◌, ◌++◌, length, take, drop, refl, sym, ap, ◌∙◌, arith, append_assoc, length-append}
use Rattle.formula.specs.declared.function.BuiltIn.TheVariants.{If}
use Rattle.formula.specs.declared.function.Func.{Func}
use Rattle.formula.specs.declared.function.Func.TheVariants.{BuiltIn}
use Rattle.formula.specs.declared.value.Value.{Value}
use Rattle.formula.specs.Bounded.{Outcome, got, beyond, spent, and_then, Calls, function_bounded, bounded_by, arguments_bounded_by}
use Rattle.term_worth.specs.Machine.{Job, eval, branch, combine, leave, newest, all_but, finish, size, tree_row_size, cost}
use Rattle.formula.specs.Tree.{Tree, num, truth, symbol, old, apply, Row, none, more, row_count}
use Rattle.formula.specs.Values.{holds}
use Rattle.formula.specs.Worth.{Valuation, first_of, nothing_known}

-- ---- the newest values

append_none : {A : Type 0} (xs : List A) → xs ≡ xs ++ []
append_none [] = refl
append_none (x ∷ xs) = ap (λ l. x ∷ l) (append_none xs)

drop_to : {A : Type 0} (xs ys : List A) → drop (length xs) (xs ++ ys) ≡ ys
drop_to [] ys = refl
drop_to (x ∷ xs) ys = drop_to xs ys

take_to : {A : Type 0} (xs ys : List A) → take (length xs) (xs ++ ys) ≡ xs
take_to [] ys = refl
take_to (x ∷ xs) ys = ap (λ l. x ∷ l) (take_to xs ys)

others : {A : Type 0} (xs ys : List A) → length (xs ++ ys) - length ys ≡ length xs
others xs ys = simp length-append (omega arith)

pub newest-append : {A : Type 0} (n : ℕ) (xs ys : List A) → length ys ≡ n → newest n (xs ++ ys) ≡ ys
newest-append n xs ys e = ap (λ k. drop (length (xs ++ ys) - k) (xs ++ ys)) (sym e) ∙ ap (λ k. drop k (xs ++ ys)) (others xs ys) ∙ drop_to xs ys

pub all_but-append : {A : Type 0} (n : ℕ) (xs ys : List A) → length ys ≡ n → all_but n (xs ++ ys) ≡ xs
all_but-append n xs ys e = ap (λ k. take (length (xs ++ ys) - k) (xs ++ ys)) (sym e) ∙ ap (λ k. take k (xs ++ ys)) (others xs ys) ∙ take_to xs ys

-- ---- outcomes

pub then_then : {A B C : Type 0} (o : Outcome A) (f : A → ℕ → Outcome B) (g : B → ℕ → Outcome C) → and_then (and_then o f) g ≡ and_then o (λ v m. and_then (f v m) g)
then_then (got v n) f g = refl
then_then beyond f g = refl
then_then spent f g = refl

-- what follows may be replaced
pub then_same : {A B : Type 0} (o : Outcome A) (f g : A → ℕ → Outcome B) → ((v : A) (m : ℕ) → f v m ≡ g v m) → and_then o f ≡ and_then o g
then_same (got v n) f g h = h v n
then_same beyond f g h = refl
then_same spent f g h = refl

pub then_got : {A : Type 0} (o : Outcome A) → and_then o (λ v m. got v m) ≡ o
then_got (got v n) = refl
then_got beyond = refl
then_got spent = refl

-- a value before others
one_more : {A B : Type 0} (o : Outcome A) (r : ℕ → Outcome (List A)) (f g : List A → ℕ → Outcome B)
    → ((v : A) (m : ℕ) → and_then (r m) (λ vs k. f (v ∷ vs) k) ≡ and_then (r m) (λ vs k. g (v ∷ vs) k))
    → and_then (and_then o (λ v m. and_then (r m) (λ vs k. got (v ∷ vs) k))) f ≡ and_then (and_then o (λ v m. and_then (r m) (λ vs k. got (v ∷ vs) k))) g
one_more (got v m) r f g h = then_then (r m) (λ vs k. got (v ∷ vs) k) f ∙ h v m ∙ sym (then_then (r m) (λ vs k. got (v ∷ vs) k) g)
one_more beyond r f g h = refl
one_more spent r f g h = refl

-- ---- a function that is taken apart

-- IF with its three arguments
abbrev pub is_branch : Func → Row → Bool
is_branch (BuiltIn If) (more c (more a (more b none))) = true
is_branch f row = false

-- the jobs of some arguments
abbrev pub evals : Row → List Job
evals none = []
evals (more t rest) = eval t ∷ evals rest

module _ (calls : Calls) where
  apart : (s e : Valuation) (f : Func) (row : Row) (n : ℕ) → is_branch f row ≡ false → bounded_by calls s e (apply f row) n ≡ and_then (arguments_bounded_by calls s e row n) (function_bounded calls f)
  apart s e (BuiltIn If) (more c (more a (more b none))) n h = absurd (cc)
  apart s e f row n h = refl

  -- the arguments of a row are as many as its terms
  counted : {B : Type 0} (s e : Valuation) (row : Row) (n : ℕ) (f g : List Value → ℕ → Outcome B) → ((vs : List Value) (m : ℕ) → length vs ≡ row_count row → f vs m ≡ g vs m)
      → and_then (arguments_bounded_by calls s e row n) f ≡ and_then (arguments_bounded_by calls s e row n) g
  counted s e none n f g h = h [] n refl
  counted s e (more t rest) n f g h =
      one_more (bounded_by calls s e t n) (arguments_bounded_by calls s e rest) f g
      (λ v m. counted s e rest m (λ vs k. f (v ∷ vs) k) (λ vs k. g (v ∷ vs) k) (λ vs k same. h (v ∷ vs) k (omega arith)))

  module _ (s : Valuation) where
    -- arguments, from the left
    finish-rows : (row : Row) (rest : List Job) (vs : List Value) (n : ℕ)
        → finish calls s (evals row ++ rest) vs n ≡ and_then (arguments_bounded_by calls s nothing_known row n) (λ ws m. finish calls s rest (vs ++ ws) m)
    finish-rows none rest vs n = ap (λ l. finish calls s rest l n) (append_none vs)
    finish-rows (more t row) rest vs n =
        then_same (bounded_by calls s nothing_known t n) _ (λ v m. and_then (arguments_bounded_by calls s nothing_known row m) (λ ws k. finish calls s rest (vs ++ v ∷ ws) k))
        (λ v m. finish-rows row rest (vs ++ v ∷ []) m
        ∙ then_same (arguments_bounded_by calls s nothing_known row m) _ (λ ws k. finish calls s rest (vs ++ v ∷ ws) k) (λ ws k. ap (λ l. finish calls s rest l k) (append_assoc vs (v ∷ []) ws)))
        ∙ then_same (bounded_by calls s nothing_known t n) (λ v m. and_then (arguments_bounded_by calls s nothing_known row m) (λ ws k. finish calls s rest (vs ++ v ∷ ws) k))
        (λ v m. and_then (and_then (arguments_bounded_by calls s nothing_known row m) (λ ws k. got (v ∷ ws) k)) (λ ws k. finish calls s rest (vs ++ ws) k))
        (λ v m. sym (then_then (arguments_bounded_by calls s nothing_known row m) (λ ws k. got (v ∷ ws) k) (λ ws k. finish calls s rest (vs ++ ws) k)))
        ∙ sym (then_then (bounded_by calls s nothing_known t n) (λ v m. and_then (arguments_bounded_by calls s nothing_known row m) (λ ws k. got (v ∷ ws) k))
        (λ ws m. finish calls s rest (vs ++ ws) m))

    -- the arguments, and then the function
    pub finish-apply : (f : Func) (row : Row) (rest : List Job) (vs : List Value) (n : ℕ) → is_branch f row ≡ false
        → finish calls s (evals row ++ combine f (row_count row) ∷ rest) vs n ≡ finish calls s (eval (apply f row) ∷ rest) vs n
    finish-apply f row rest vs n h =
        let last = λ (v : Value) (m : ℕ). finish calls s rest (vs ++ v ∷ []) m in
        finish-rows row (combine f (row_count row) ∷ rest) vs n
        ∙ counted s nothing_known row n (λ ws m. finish calls s (combine f (row_count row) ∷ rest) (vs ++ ws) m) (λ ws m. and_then (function_bounded calls f ws m) last)
        (λ ws m same. λ i. and_then (function_bounded calls f (newest-append (row_count row) vs ws same i) m) (λ v k. finish calls s rest (all_but-append (row_count row) vs ws same i ++ v ∷ []) k))
        ∙ sym (then_then (arguments_bounded_by calls s nothing_known row n) (function_bounded calls f) last)
        ∙ ap (λ o. and_then o last) (sym (apart s nothing_known f row n h))

    -- the condition, and then one of two terms
    pub finish-branch : (c a b : Tree) (rest : List Job) (vs : List Value) (n : ℕ)
        → finish calls s (eval c ∷ branch a b ∷ rest) vs n ≡ finish calls s (eval (apply (BuiltIn If) (more c (more a (more b none)))) ∷ rest) vs n
    finish-branch c a b rest vs n =
        let last = λ (v : Value) (m : ℕ). finish calls s rest (vs ++ v ∷ []) m in
        let chosen = λ (v : Value) (m : ℕ). if holds v then bounded_by calls s nothing_known a m else bounded_by calls s nothing_known b m in
        then_same (bounded_by calls s nothing_known c n) _ (λ v m. and_then (chosen v m) last)
        (λ v m. λ i. and_then (chosen (first_of (newest-append 1 vs (v ∷ []) refl i)) m) (λ w k. finish calls s rest (all_but-append 1 vs (v ∷ []) refl i ++ w ∷ []) k))
        ∙ sym (then_then (bounded_by calls s nothing_known c n) chosen last)

-- ---- less work

pub cost-append : (js ks : List Job) → cost (js ++ ks) ≡ cost js + cost ks
cost-append [] ks = omega arith
cost-append (eval t ∷ js) ks = let h = cost-append js ks in omega arith
cost-append (branch a b ∷ js) ks = let h = cost-append js ks in omega arith
cost-append (combine f c ∷ js) ks = let h = cost-append js ks in omega arith
cost-append (leave s ∷ js) ks = let h = cost-append js ks in omega arith

pub cost-evals : (row : Row) → cost (evals row) ≡ tree_row_size row
cost-evals none = refl
cost-evals (more t row) = let h = cost-evals row in omega arith

pub size_pos : (t : Tree) → 1 ≤ size t
size_pos (num z) = omega arith
size_pos (truth b) = omega arith
size_pos (symbol s) = omega arith
size_pos (old s) = omega arith
size_pos (apply f row) = omega arith
