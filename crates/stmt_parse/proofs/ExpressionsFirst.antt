-- The first byte of an expression, and what an operator before it is read as.
use Rattle.std.proofs.Common.{◌≡◌, ℕ, ◌+◌, ◌-◌, ◌≤◌, Bool, true, false, Some, None, List, [], ◌∷◌, ◌++◌, get_or, codes, refl, ap, ◌∙◌, arith}
use Rattle.std.specs.Prelude.{◌==◌, ◌&&◌, not, nat_le}
use Rattle.std.proofs.lemmas.Bool.Decides.{nat_tests}
use Rattle.formula.specs.Atoms.{is_digit, is_letter, starts}
use Rattle.fort_syntax.specs.Misspelled.{begins}
use Rattle.fort_syntax.specs.Spelled.{expression}
use Rattle.fort_syntax.specs.TreePatterns.{only}
use Rattle.fort_syntax.specs.declared.dialect.BinOp.TheVariants.{Add, Sub, Mul, Div}
use Rattle.fort_syntax.specs.declared.dialect.RelOp.TheVariants.{Lt, Le, Eq, Ne, Ge, Gt}
use Rattle.fort_syntax.specs.declared.expr.Expr.{Expr}
use Rattle.fort_syntax.specs.declared.expr.Expr.TheVariants.{Const, Truth, Var, Apply', Paren', Pos', Neg', Power', Bin', Rel', Not', And', Or'}
use Rattle.stmt_parse.specs.declared.joint.Joint.{Joint}
use Rattle.stmt_parse.specs.declared.joint.Joint.TheVariants as joint
use Rattle.stmt_parse.specs.Tokens.{power_at, joint_at}
use Rattle.stmt_parse.proofs.ExpressionsAnswers.{both_true, untrue}
use Rattle.stmt_parse.proofs.ExpressionsTokens.{sign_text}
use Rattle.stmt_parse.proofs.Climbing.{first_false, operator_found, relation_found, and_found, or_found}
use Rattle.stmt_parse.proofs.PartsParsed.{and_true}
use Rattle.stmt_parse.proofs.TokensRead.{when_true, when_false}

-- another byte than `*`
abbrev pub is_no_star : ℕ → Bool
is_no_star b = not (42 == b)

letter_no_star : (b : ℕ) → is_letter b ≡ true → is_no_star b ≡ true
letter_no_star b h = grind (arith, nat_tests)

digit_no_star : (b : ℕ) → is_digit b ≡ true → is_no_star b ≡ true
digit_no_star b h = grind (arith, nat_tests)

-- so begins a text that begins so
pub starts_longer : (p : ℕ → Bool) (x y : List ℕ) → starts p x ≡ true → starts p (x ++ y) ≡ true
starts_longer p [] y h = absurd (let bad : false ≡ true = h in cc)
starts_longer p (b ∷ x) y h = h

begun_so_far : (t x y : List ℕ) → t ≡ x ++ y → starts is_no_star x ≡ true → starts is_no_star t ≡ true
begun_so_far t x y same h = ap (starts is_no_star) same ∙ starts_longer is_no_star x y h

spelled_by : (t s : List ℕ) → t ≡ s → starts is_no_star s ≡ true → starts is_no_star t ≡ true
spelled_by t s same h = ap (starts is_no_star) same ∙ h

of_letter : (x : List ℕ) → starts is_letter x ≡ true → starts is_no_star x ≡ true
of_letter [] h = absurd (let bad : false ≡ true = h in cc)
of_letter (b ∷ x) h = letter_no_star b h

of_digit : (x : List ℕ) → starts is_digit x ≡ true → starts is_no_star x ≡ true
of_digit [] h = absurd (let bad : false ≡ true = h in cc)
of_digit (b ∷ x) h = digit_no_star b h

-- no expression begins with `*`
pub first_byte : (e : Expr) (x : List ℕ) → expression e x → starts is_no_star x ≡ true
first_byte (Const n) x h = of_digit x (both_true _ _ h.0).0
first_byte (Truth true) x h = spelled_by x (codes ".TRUE.") h refl
first_byte (Truth false) x h = spelled_by x (codes ".FALSE.") h refl
first_byte (Var name) x h = spelled_by x name h.0 (of_letter name (both_true _ _ (both_true _ _ h.1).0).0)
first_byte (Apply' name m args) x h =
    begun_so_far x h.0 h.1 h.2 (spelled_by h.0 name h.3.0 (of_letter name (both_true _ _ (both_true _ _ h.3.1).0).0))
first_byte (Paren' m (only a)) x h = begun_so_far x h.0 h.1 h.2 (spelled_by h.0 (codes "(") h.3 refl)
first_byte (Pos' m (only a)) x h = begun_so_far x h.0 h.1 h.2 (spelled_by h.0 (codes "+") h.3 refl)
first_byte (Neg' m (only a)) x h = begun_so_far x h.0 h.1 h.2 (spelled_by h.0 (codes "-") h.3 refl)
first_byte (Power' m (only a) n) x h = begun_so_far x h.0 h.1 h.2 (first_byte a h.0 h.3.1)
first_byte (Bin' o m (only a) n (only b)) x h = begun_so_far x h.0 h.1 h.2 (first_byte a h.0 h.3.1)
first_byte (Rel' o m (only a) n (only b)) x h = begun_so_far x h.0 h.1 h.2 (first_byte a h.0 h.3.1)
first_byte (Not' m (only a)) x h = begun_so_far x h.0 h.1 h.2 (spelled_by h.0 (codes ".NOT.") h.3 refl)
first_byte (And' m (only a) n (only b)) x h = begun_so_far x h.0 h.1 h.2 (first_byte a h.0 h.3.1)
first_byte (Or' m (only a) n (only b)) x h = begun_so_far x h.0 h.1 h.2 (first_byte a h.0 h.3)

-- ---- operators

-- a product before an expression is no power
pub no_power : (o : Joint) (t : List ℕ) → starts is_no_star t ≡ true → power_at (sign_text o ++ t) ≡ None
no_power joint.Or t h = refl
no_power joint.And t h = refl
no_power (joint.Rel Lt) t h = refl
no_power (joint.Rel Le) t h = refl
no_power (joint.Rel Eq) t h = refl
no_power (joint.Rel Ne) t h = refl
no_power (joint.Rel Ge) t h = refl
no_power (joint.Rel Gt) t h = refl
no_power (joint.Bin Add) t h = refl
no_power (joint.Bin Sub) t h = refl
no_power (joint.Bin Div) t h = refl
no_power (joint.Bin Mul) [] h = absurd (let bad : false ≡ true = h in cc)
no_power (joint.Bin Mul) (b ∷ t) h =
    when_false
    (begins (codes "**") (42 ∷ b ∷ t) && nat_le 49 (get_or (42 ∷ b ∷ t) 2 0) && nat_le (get_or (42 ∷ b ∷ t) 2 0) 57) _ _
    (first_false _ _ (first_false _ _ (first_false (42 == b) _ (untrue _ h))))

-- each operator is found where its sign stands
pub joint_found : (o : Joint) (t : List ℕ) → joint_at (sign_text o ++ t) ≡ Some (o, t)
joint_found joint.Or t = or_found t
joint_found joint.And t = and_found t
joint_found (joint.Rel o) t = relation_found o t
joint_found (joint.Bin o) t = operator_found o t

-- `**` and an exponent are found as a power
digit_fits : (n : ℕ) → 1 ≤ n → n ≤ 9 → (nat_le 49 (48 + n) ≡ true) × (nat_le (48 + n) 57 ≡ true) × (48 + n - 48 ≡ n)
digit_fits n low high = (grind (arith, nat_tests), grind (arith, nat_tests), omega arith)

pub power_found : (n : ℕ) (r : List ℕ) → 1 ≤ n → n ≤ 9 → power_at (42 ∷ 42 ∷ (48 + n) ∷ r) ≡ Some (n, r)
power_found n r low high =
    let d = digit_fits n low high in
    when_true _ _ _ (and_true (nat_le 49 (48 + n)) _ d.0 d.1) ∙ ap (λ m. Some (m, r)) d.2
