-- The text of a token gives it back, whatever follows that does not go on with it.
use Rattle.std.proofs.Common.{◌≡◌, ℕ, suc, ◌≤◌, Bool, true, false, Some, None, List, [], ◌∷◌, ◌++◌, length, refl, sym, ap, ◌∙◌, arith}
use Rattle.std.specs.Prelude.{◌==◌, if◌then◌else◌, nat_lt}
use Rattle.std.specs.List.{list_all}
use Rattle.std.proofs.Math.Seq.{take-append_seam, drop-append_seam}
use Rattle.std.proofs.lemmas.Bool.Decides.{nat_tests}
use Rattle.formula.specs.Atoms.{is_digit, is_name_byte, is_digits, is_long, spelled, starts, is_name}
use Rattle.fort_syntax.specs.Spelled.{constant, label}
use Rattle.stmt_parse.proofs.ExpressionsAnswers.{both_true}
use Rattle.stmt_parse.specs.Tokens.{run_length, name_of_length, name_at, constant_of_length, constant_at, label_of_length, label_at}

-- what a test chooses
pub when_true : {A : Type 0} (b : Bool) (x y : A) → b ≡ true → (if b then x else y) ≡ x
when_true true x y h = refl
when_true false x y h = absurd cc

pub when_false : {A : Type 0} (b : Bool) (x y : A) → b ≡ false → (if b then x else y) ≡ y
when_false false x y h = refl
when_false true x y h = absurd cc

run_all : (p : ℕ → Bool) (x r : List ℕ) → list_all p x ≡ true → starts p r ≡ false → run_length p (x ++ r) ≡ length x
run_all p [] [] h k = refl
run_all p [] (b ∷ r) h k = when_false (p b) _ _ k
run_all p (b ∷ x) r h k = let q = both_true (p b) _ h in when_true (p b) _ _ q.0 ∙ ap suc (run_all p x r q.1 k)

pub name_read : (x r : List ℕ) → is_name x ≡ true → starts is_name_byte r ≡ false → name_at (x ++ r) ≡ Some (x, r)
unfolding name_at
name_read x r h k =
    let all : list_all is_name_byte x ≡ true = (both_true _ _ (both_true _ _ h).0).1 in
    ap (λ n. name_of_length n (x ++ r)) (run_all is_name_byte x r all k)
    ∙ (λ i. if is_name (take-append_seam x r i) then Some (take-append_seam x r i, drop-append_seam x r i) else None)
    ∙ when_true (is_name x) _ _ h

pub constant_read : (n : ℕ) (x r : List ℕ) → constant n x → starts is_digit r ≡ false
    → constant_at (x ++ r) ≡ Some (n, r)
unfolding constant_at
constant_read n x r h k =
    let all : list_all is_digit x ≡ true = (both_true _ _ h.0).1 in
    ap (λ m. constant_of_length m (x ++ r)) (run_all is_digit x r all k)
    ∙ (λ i. if is_digits (take-append_seam x r i) then (if is_long (take-append_seam x r i) then None else Some (spelled (take-append_seam x r i), drop-append_seam x r i)) else None)
    ∙ when_true (is_digits x) _ _ h.0
    ∙ when_false (is_long x) _ _ h.1
    ∙ ap (λ m. Some (m, r)) (sym h.2)

not_zero : (n : ℕ) → 1 ≤ n → (n == 0) ≡ false
not_zero n h = grind (arith, nat_tests)

not_more : (n : ℕ) → n ≤ 5 → nat_lt 5 n ≡ false
not_more n h = grind (arith, nat_tests)

pub label_read : (n : ℕ) (x r : List ℕ) → label n x → starts is_digit r ≡ false → label_at (x ++ r) ≡ Some (n, r)
unfolding label_at
label_read n x r h k =
    let all : list_all is_digit x ≡ true = (both_true _ _ h.0).1 in
    let some : (spelled x == 0) ≡ false = ap (λ m. m == 0) (sym h.2) ∙ not_zero n h.3 in
    ap (λ m. label_of_length m (x ++ r)) (run_all is_digit x r all k)
    ∙ (λ i. if is_digits (take-append_seam x r i) then (if nat_lt 5 (length x) then None else (if spelled (take-append_seam x r i) == 0 then None else Some (spelled (take-append_seam x r i), drop-append_seam x r i))) else None)
    ∙ when_true (is_digits x) _ _ h.0
    ∙ when_false (nat_lt 5 (length x)) _ _ (not_more (length x) h.1)
    ∙ when_false (spelled x == 0) _ _ some
    ∙ ap (λ m. Some (m, r)) (sym h.2)
