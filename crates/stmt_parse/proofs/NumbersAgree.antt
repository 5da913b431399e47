-- Names and numbers are written as they are spelled.
use Rattle.std.proofs.Common.{◌≡◌, ℕ, zero, suc, ◌+◌, ◌-◌, ◌*◌, ◌/◌, ◌%◌, ◌^◌, ◌<◌, ◌≤◌, Bool, true, false, Some, List, [], ◌∷◌, ◌++◌, length, take, refl, sym, ap, ◌∙◌, subst, append_assoc, arith}
use Rattle.std.specs.Prelude.{◌&&◌, nat_le, nat_lt, if◌then◌else◌}
use Rattle.std.specs.List.{list_all}
use Rattle.std.proofs.Math.Seq.{take-length}
use Rattle.std.proofs.Math.Nat.{pow-suc, mod-add-div}
use Rattle.std.proofs.lemmas.List.{append-nil, length-append}
use Rattle.std.proofs.lemmas.Option.{same_Some}
use Rattle.std.proofs.lemmas.Bool.Decides.{nat_tests}
use Rattle.formula.specs.Atoms.{is_digit, is_digits, spelled_from, spelled, starts, without_zeros, is_name}
use Rattle.formula.proofs.Digits.{Spells, figures_all, figures_short, figures_spell}
use Rattle.fort_syntax.specs.Spelled.{Texts, name, constant, label, exponent}
use Rattle.stmt_parse.specs.Tokens.{◌>>=◌}
use Rattle.stmt_parse.specs.Writing.{Writer, put, given, write_name, write_digits, write_constant, write_label, write_exponent}
use Rattle.stmt_parse.proofs.ExpressionsAnswers.{both_true, when_passed}
use Rattle.stmt_parse.proofs.Labels.{short_not_long, few_below}
use Rattle.stmt_parse.proofs.PartsParsed.{and_true}
use Rattle.stmt_parse.proofs.PlainRead.{all_joined}
use Rattle.stmt_parse.proofs.TokensRead.{when_true, when_false}
use Rattle.stmt_parse.proofs.WritersAgree.{is_bracket, brackets, Agrees, put_agrees, given_agrees, same_agrees}

pub name_agrees : (x : List ℕ) → Agrees (name x) (write_name x)
name_agrees x = same_agrees (λ t h. (h.1, h.0)) (λ t h. (h.1, h.0))
    (given_agrees (is_name x) (is_name x ≡ true) (λ h. h) (λ h. h) (put_agrees x))

-- ---- digits

-- the digits of a number, in at most so many places
digits : ℕ → ℕ → List ℕ
digits zero n = []
digits (suc k) n = (if nat_lt n 10 then [] else digits k (n / 10)) ++ (48 + n % 10) ∷ []

written : (b : Bool) (t ds last : List ℕ) (o : Writer) → o t ≡ Some (t ++ ds)
    → ((if b then Some t else o t) >>= put last) ≡ Some (t ++ ((if b then [] else ds) ++ last))
written true t ds last o h = refl
written false t ds last o h = ap (λ x. x >>= put last) h ∙ ap Some (append_assoc t ds last)

digits_written : (k n : ℕ) (t : List ℕ) → write_digits k n t ≡ Some (t ++ digits k n)
unfolding write_digits digits
digits_written zero n t = ap Some (sym (append-nil t))
digits_written (suc k) n t = written (nat_lt n 10) t (digits k (n / 10)) ((48 + n % 10) ∷ []) (write_digits k (n / 10))
    (digits_written k (n / 10) t)

last_digit : (n : ℕ) → is_digit (48 + n % 10) ≡ true
last_digit n = let small : n % 10 < 10 = omega arith in grind (arith, nat_tests)

or_empty : (b : Bool) (ds : List ℕ) (p : ℕ → Bool) → list_all p ds ≡ true → list_all p (if b then [] else ds) ≡ true
or_empty true ds p h = refl
or_empty false ds p h = h

digits_all : (k n : ℕ) → list_all is_digit (digits k n) ≡ true
unfolding digits
digits_all zero n = refl
digits_all (suc k) n =
    all_joined is_digit (if nat_lt n 10 then []
    else digits k (n / 10)) ((48 + n % 10) ∷ [])
    (or_empty (nat_lt n 10) (digits k (n / 10)) is_digit (digits_all k (n / 10)))
    (and_true (is_digit (48 + n % 10)) true (last_digit n) refl)

some_digit : (xs : List ℕ) (b : ℕ) → list_all is_digit (xs ++ b ∷ []) ≡ true → is_digits (xs ++ b ∷ []) ≡ true
some_digit [] b h = and_true (is_digit b) _ (both_true (is_digit b) _ h).0 h
some_digit (x ∷ xs) b h = and_true (is_digit x) _ (both_true (is_digit x) _ h).0 h

digits_are : (k n : ℕ) → is_digits (digits (suc k) n) ≡ true
unfolding digits
digits_are k n = some_digit (if nat_lt n 10 then [] else digits k (n / 10)) (48 + n % 10) (digits_all (suc k) n)

no_longer : (b : Bool) (ds : List ℕ) (k : ℕ) → length ds ≤ k → length (if b then [] else ds) ≤ k
no_longer true ds k h = omega arith
no_longer false ds k h = h

digits_few : (k n : ℕ) → length (digits k n) ≤ k
unfolding digits
digits_few zero n = omega arith
digits_few (suc k) n =
    let size = length-append (if nat_lt n 10 then [] else digits k (n / 10)) ((48 + n % 10) ∷ []) in
    let most = no_longer (nat_lt n 10) (digits k (n / 10)) k (digits_few k (n / 10)) in
    omega arith

spelled_from-append : (n : ℕ) (xs ys : List ℕ) → spelled_from n (xs ++ ys) ≡ spelled_from (spelled_from n xs) ys
spelled_from-append n [] ys = refl
spelled_from-append n (x ∷ xs) ys = spelled_from-append (n * 10 + (x - 48)) xs ys

spelled_or : (b : Bool) (k n : ℕ) → nat_lt n 10 ≡ b → (nat_lt n 10 ≡ false → spelled (digits k (n / 10)) ≡ n / 10)
    → spelled (if b then [] else digits k (n / 10)) ≡ n / 10
spelled_or true k n h same =
    let small : n < 10 = grind (arith, nat_tests) in
    let parts = mod-add-div n 10 in
    let none : 0 ≡ n / 10 = omega arith in
    none
spelled_or false k n h same = same h

digits_spell : (k n : ℕ) → n < 10 ^ k → spelled (digits k n) ≡ n
unfolding digits
digits_spell zero n h = let one : 10 ^ 0 ≡ 1 = refl in let none : 0 ≡ n = omega arith in none
digits_spell (suc k) n h =
    let power = pow-suc 10 k in
    let parts = mod-add-div n 10 in
    let front = spelled_or (nat_lt n 10) k n refl (λ _. digits_spell k (n / 10) (omega arith)) in
    spelled_from-append 0 (if nat_lt n 10 then [] else digits k (n / 10)) ((48 + n % 10) ∷ [])
    ∙ ap (λ m. m * 10 + (48 + n % 10 - 48)) front
    ∙ (let whole : n / 10 * 10 + (48 + n % 10 - 48) ≡ n = omega arith in whole)

-- ---- what is spelled

no_bracket : (b : ℕ) → is_digit b ≡ true → is_bracket b ≡ false
no_bracket b h = grind (arith, nat_tests)

digits_bare : (x : List ℕ) → list_all is_digit x ≡ true → brackets x ≡ []
digits_bare [] h = refl
digits_bare (b ∷ x) h =
    let p = both_true (is_digit b) _ h in
    when_false (is_bracket b) _ _ (no_bracket b p.0) ∙ digits_bare x p.1

digit_most : (b : ℕ) → is_digit b ≡ true → b - 48 ≤ 9
digit_most b h = grind (arith, nat_tests)

-- fewer than a power of ten
digits_below : (ds : List ℕ) (n m : ℕ) → list_all is_digit ds ≡ true → n < m → spelled_from n ds < m * 10 ^ length ds
digits_below [] n m h lt = let one : m * 10 ^ 0 ≡ m = omega arith in let most : n < m * 10 ^ 0 = omega arith in most
digits_below (b ∷ ds) n m h lt =
    let p = both_true (is_digit b) _ h in
    let digit : b - 48 ≤ 9 = digit_most b p.0 in
    let rest = digits_below ds (n * 10 + (b - 48)) (m * 10) p.1 (omega arith) in
    let power : m * 10 ^ suc (length ds) ≡ m * (10 ^ length ds * 10) = ap (λ q. m * q) (pow-suc 10 (length ds)) in
    let same : m * 10 * 10 ^ length ds ≡ m * (10 ^ length ds * 10) = omega arith in
    omega arith

constant_small : (n : ℕ) (x : List ℕ) → constant n x → n < 10 ^ 18
constant_small n x h =
    let figures = without_zeros x in
    let all = figures_all x figures refl h.0 in
    let small = digits_below figures 0 1 all (omega arith) in
    let whole : take (length figures) figures ≡ figures = take-length figures in
    let spells : Spells figures (length figures) (spelled (take (length figures) figures)) =
    record { so_far = refl; small = subst (λ y. spelled y < 10 ^ length figures) (sym whole) (omega arith) } in
    let p = figures_spell x figures (spelled (take (length figures) figures)) refl
    (figures_short x figures refl h.1) spells in
    subst (λ m. m < 10 ^ 18) (sym (h.2 ∙ sym p.0)) p.1

-- ---- numbers

-- a number is written in so many digits where a test holds
digits_agree : (j n : ℕ) (b : Bool) (P : Texts) → (b ≡ true → P (digits (suc j) n))
    → ((x : List ℕ) → P x → (b ≡ true) × (list_all is_digit x ≡ true))
    → Agrees P (given b (write_digits (suc j) n))
digits_agree j n b P to from = record {
  sound = λ t c h.
      let q = when_passed b (write_digits (suc j) n t) c h in
      (digits (suc j) n, sym (same_Some (t ++ digits (suc j) n) c (sym (digits_written (suc j) n t) ∙ q.1)), to q.0);
  complete = λ t x h.
      let q = from x h in (
        digits (suc j) n,
        when_true b _ _ q.0 ∙ digits_written (suc j) n t,
        digits_bare x q.1
            ∙ sym (digits_bare (digits (suc j) n) (digits_all (suc j) n)),
      );
}

is_below : (n m : ℕ) → nat_lt n m ≡ true → n < m
is_below n m h = grind (arith, nat_tests)

shows_below : (n m : ℕ) → n < m → nat_lt n m ≡ true
shows_below n m h = grind (arith, nat_tests)

pub constant_agrees : (n : ℕ) → Agrees (constant n) (write_constant n)
constant_agrees n = digits_agree 17 n (nat_lt n (10 ^ 18)) (constant n)
    (λ h. (
      digits_are 17 n,
      short_not_long (digits 18 n) (digits_few 18 n),
      sym
          (digits_spell 18 n (is_below n (10 ^ 18) h)),
    ))
    (λ x h. (shows_below n (10 ^ 18) (constant_small n x h), (both_true (starts is_digit x) _ h.0).1))

is_least : (n : ℕ) → nat_le 1 n ≡ true → 1 ≤ n
is_least n h = grind (arith, nat_tests)

shows_least : (n : ℕ) → 1 ≤ n → nat_le 1 n ≡ true
shows_least n h = grind (arith, nat_tests)

label_digits : (n : ℕ) → (nat_le 1 n && nat_lt n (10 ^ 5)) ≡ true → label n (digits 5 n)
label_digits n h =
    let p = both_true (nat_le 1 n) (nat_lt n (10 ^ 5)) h in
    (digits_are 4 n, digits_few 5 n, sym (digits_spell 5 n (is_below n (10 ^ 5) p.1)), is_least n p.0)

label_small : (n : ℕ) (x : List ℕ) → label n x
    → ((nat_le 1 n && nat_lt n (10 ^ 5)) ≡ true) × (list_all is_digit x ≡ true)
label_small n x h = (
  and_true (nat_le 1 n) (nat_lt n (10 ^ 5)) (shows_least n h.3)
      (shows_below n (10 ^ 5) (subst (λ m. m < 10 ^ 5) (sym h.2) (few_below x h.0 h.1))),
  (both_true (starts is_digit x) _ h.0).1,
)

pub label_agrees : (n : ℕ) → Agrees (label n) (write_label n)
label_agrees n = digits_agree 4 n (nat_le 1 n && nat_lt n (10 ^ 5)) (label n) (label_digits n) (label_small n)

at_most_nine : (n : ℕ) → nat_le n 9 ≡ true → n ≤ 9
at_most_nine n h = grind (arith, nat_tests)

shows_nine : (n : ℕ) → n ≤ 9 → nat_le n 9 ≡ true
shows_nine n h = grind (arith, nat_tests)

shows_one_to_nine : (n : ℕ) → (1 ≤ n) × (n ≤ 9) → (nat_le 1 n && nat_le n 9) ≡ true
shows_one_to_nine n h = and_true (nat_le 1 n) (nat_le n 9) (shows_least n h.0) (shows_nine n h.1)

from_one_to_nine : (n : ℕ) → (nat_le 1 n && nat_le n 9) ≡ true → (1 ≤ n) × (n ≤ 9)
from_one_to_nine n h = let p = both_true (nat_le 1 n) (nat_le n 9) h in (is_least n p.0, at_most_nine n p.1)

pub exponent_agrees : (n : ℕ) → Agrees (exponent n) (write_exponent n)
exponent_agrees n = same_agrees (λ x h. (h.0.0, h.0.1, h.1)) (λ x h. ((h.0, h.1), h.2))
    (given_agrees (nat_le 1 n && nat_le n 9) ((1 ≤ n) × (n ≤ 9)) (from_one_to_nine n) (shows_one_to_nine n)
    (put_agrees ((48 + n) ∷ [])))
