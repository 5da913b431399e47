-- The token that is read is spelled by the text before what is left.
use Rattle.std.proofs.Common.{◌≡◌, ℕ, zero, suc, ◌≤◌, false, List, [], ◌∷◌, length, take, drop, refl, sym, subst, arith}
use Rattle.std.specs.Prelude.{◌==◌, nat_lt}
use Rattle.std.proofs.lemmas.List.{take-append-drop}
use Rattle.std.proofs.lemmas.Option.{same_Some}
use Rattle.std.proofs.lemmas.Bool.Decides.{nat_tests}
use Rattle.formula.specs.Atoms.{is_digit, is_digits, spelled}
use Rattle.fort_syntax.specs.Spelled.{name, constant, label}
use Rattle.stmt_parse.specs.Tokens.{run_length, name_at, constant_at, label_at}
use Rattle.stmt_parse.proofs.ExpressionsAnswers.{Begun, when_passed, when_refused}
use Rattle.stmt_parse.proofs.ExpressionsTokens.{name_spelled, constant_spelled}
use Rattle.stmt_parse.proofs.Readings.{IsSound}

pub name_begun : IsSound name_at name
name_begun t z h = let p = name_spelled t z.0 z.1 h in (z.0, p.0, (refl, p.1))

pub constant_begun : IsSound constant_at constant
constant_begun t z h = constant_spelled t z.0 z.1 h

few : (n : ℕ) (t : List ℕ) → length (take n t) ≤ n
few zero t = omega arith
few (suc n) [] = omega arith
few (suc n) (b ∷ t) = let h = few n t in omega arith

not_over : (n : ℕ) → nat_lt 5 n ≡ false → n ≤ 5
not_over n h = grind (arith, nat_tests)

some_left : (n : ℕ) → (n == 0) ≡ false → 1 ≤ n
some_left n h = grind (arith, nat_tests)

pub label_begun : IsSound label_at label
unfolding label_at
label_begun t z h =
    let n = run_length is_digit t in
    let p = when_passed (is_digits (take n t)) _ z h in
    let q = when_refused (nat_lt 5 n) _ z p.1 in
    let o = when_refused (spelled (take n t) == 0) _ z q.1 in
    let least = few n t in
    let most = not_over n q.0 in
    subst (λ y. Begun (label y.0) t y.1) (same_Some (spelled (take n t), drop n t) z o.1) (
      take n t,
      sym (take-append-drop n t),
      (p.0, (let e : length (take n t) ≤ 5 = omega arith in e), refl, some_left (spelled (take n t)) o.0),
    )
