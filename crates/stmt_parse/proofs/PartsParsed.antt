-- How the reading of an expression is put together from that of its parts.
use Rattle.std.proofs.Common.{◌≡◌, ℕ, suc, ◌+◌, ◌-◌, ◌≤◌, Bool, true, false, Some, None, List, ◌++◌, length, ap, ◌∙◌, append_assoc, arith}
use Rattle.std.specs.Prelude.{◌&&◌, nat_le}
use Rattle.std.proofs.lemmas.List.{length-append}
use Rattle.std.proofs.lemmas.Bool.Decides.{nat_tests}
use Rattle.fort_syntax.specs.declared.expr.Expr.{Expr, Power}
use Rattle.fort_syntax.specs.Spelled.{binding}
use Rattle.stmt_parse.specs.declared.joint.Joint.{Joint}
use Rattle.stmt_parse.specs.Tokens.{◌>>=◌, power_at, joint_at, strength, left_strength, right_strength}
use Rattle.stmt_parse.specs.Parsing.{joined, front, takes, takes_power, at_power, at_joint, climb, parse}
use Rattle.stmt_parse.proofs.Rounds.{climb_next}
use Rattle.stmt_parse.proofs.Climbing.{continues, climb_stops}
use Rattle.stmt_parse.proofs.TokensRead.{when_true}

-- the text of the expression was read, and what follows is climbed with the rounds left
pub record Reached (f k : ℕ) (e : Expr) (t r : List ℕ) : Type 0 where
  pub left : ℕ
  pub enough : f ≤ left + length t
  pub same : parse (suc f) k (t ++ r) ≡ climb (parse f) left k e r

pub at_least : (m n : ℕ) → m ≤ n → nat_le m n ≡ true
at_least m n h = grind (arith, nat_tests)

pub and_true : (x y : Bool) → x ≡ true → y ≡ true → (x && y) ≡ true
and_true true y h k = k
and_true false y h k = absurd cc

-- an expression whose first part is the whole of it
pub first_part : (f k : ℕ) (e : Expr) (t r : List ℕ) → front (parse f) f k (t ++ r) ≡ Some (e, r) → Reached f k e t r
first_part f k e t r h =
    record { left = f; enough = omega arith; same = ap (λ x. x >>= λ y. climb (parse f) f k y.0 y.1) h }

-- nothing follows that binds tightly enough
pub whole_part : (f k : ℕ) (e : Expr) (t r : List ℕ) → Reached f k e t r → length t + 1 ≤ f → continues k r ≡ false
    → parse (suc f) k (t ++ r) ≡ Some (e, r)
whole_part f k e t r a room h = let enough = a.enough in a.same ∙ climb_stops (parse f) a.left k e r (omega arith) h

-- an operator and its right part
pub joined_parts : (f k : ℕ) (a b : Expr) (o : Joint) (sign ta tb r : List ℕ)
    → joint_at (sign ++ (tb ++ r)) ≡ Some (o, tb ++ r) → power_at (sign ++ (tb ++ r)) ≡ None → 1 ≤ length sign
    → k ≤ strength o → left_strength o ≤ binding a → length ta + 1 ≤ f
    → Reached f k a ta (sign ++ (tb ++ r)) → parse f (right_strength o) (tb ++ r) ≡ Some (b, r)
    → Reached f k (joined o a b) (ta ++ (sign ++ tb)) r
joined_parts f k a b o sign ta tb r found none some tight apart room first second =
    let all : List ℕ = sign ++ (tb ++ r) in
    let regroup : (ta ++ (sign ++ tb)) ++ r ≡ ta ++ (sign ++ (tb ++ r)) =
    append_assoc ta (sign ++ tb) r ∙ ap (λ x. ta ++ x) (append_assoc sign tb r) in
    let enough = first.enough in
    let size : length (ta ++ (sign ++ tb)) ≡ length ta + (length sign + length tb) =
    length-append ta (sign ++ tb) ∙ ap (λ n. length ta + n) (length-append sign tb) in
    let taken : takes k a o ≡ true =
    and_true _ _ (at_least k (strength o) tight) (at_least (left_strength o) (binding a) apart) in
    record {
      left = first.left - 1;
      enough = omega arith;
      same =
          ap (parse (suc f) k) regroup
          ∙ first.same
          ∙ climb_next (parse f) first.left k a (sign ++ (tb ++ r)) (omega arith)
          ∙ ap (at_power (climb (parse f) (first.left - 1) k) (parse f) k a (sign ++ (tb ++ r))) none
          ∙ ap (at_joint (climb (parse f) (first.left - 1) k) (parse f) k a (sign ++ (tb ++ r))) found
          ∙ when_true (takes k a o) _ _ taken
          ∙ ap (λ x. x >>= λ right. climb (parse f) (first.left - 1) k (joined o a right.0) right.1) second;
    }

-- a power
pub power_part : (f k : ℕ) (a : Expr) (n : ℕ) (sign ta r : List ℕ)
    → power_at (sign ++ r) ≡ Some (n, r) → 1 ≤ length sign → k ≤ 6 → 7 ≤ binding a → length ta + 1 ≤ f
    → Reached f k a ta (sign ++ r) → Reached f k (Power a n) (ta ++ sign) r
power_part f k a n sign ta r found some tight apart room first =
    let enough = first.enough in
    let size : length (ta ++ sign) ≡ length ta + length sign = length-append ta sign in
    let taken : takes_power k a ≡ true = and_true _ _ (at_least k 6 tight) (at_least 7 (binding a) apart) in
    record {
      left = first.left - 1;
      enough = omega arith;
      same =
          ap (parse (suc f) k) (append_assoc ta sign r)
          ∙ first.same
          ∙ climb_next (parse f) first.left k a (sign ++ r) (omega arith)
          ∙ ap (at_power (climb (parse f) (first.left - 1) k) (parse f) k a (sign ++ r)) found
          ∙ when_true (takes_power k a) _ _ taken;
    }
