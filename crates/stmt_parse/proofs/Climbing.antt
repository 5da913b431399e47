-- What follows an expression, and where climbing stops.
use Rattle.std.proofs.Common.{◌≡◌, ℕ, zero, suc, ◌<◌, Bool, true, false, Some, None, List, ◌++◌, codes, refl, arith}
use Rattle.std.specs.Prelude.{◌&&◌, nat_le}
use Rattle.fort_syntax.specs.declared.dialect.BinOp.{BinOp}
use Rattle.fort_syntax.specs.declared.dialect.BinOp.TheVariants.{Add, Sub, Mul, Div}
use Rattle.fort_syntax.specs.declared.dialect.RelOp.{RelOp}
use Rattle.fort_syntax.specs.declared.dialect.RelOp.TheVariants.{Lt, Le, Eq, Ne, Ge, Gt}
use Rattle.fort_syntax.specs.declared.expr.Expr.{Expr}
use Rattle.fort_syntax.specs.Spelled.{operator, relation}
use Rattle.stmt_parse.specs.declared.joint.Joint.{Joint}
use Rattle.stmt_parse.specs.declared.joint.Joint.TheVariants as joint
use Rattle.stmt_parse.specs.Tokens.{Reading, power_at, joint_at, strength}
use Rattle.stmt_parse.specs.Parsing.{Inner, at_power, at_joint, climb}
use Rattle.stmt_parse.proofs.TokensRead.{when_false}

-- an operator that binds at least so tightly is what was found
abbrev pub joint_continues : ℕ → Reading Joint → Bool
joint_continues k None = false
joint_continues k (Some o) = nat_le k (strength o.0)

abbrev pub found_continues : ℕ → Reading ℕ → Reading Joint → Bool
found_continues k (Some p) o = nat_le k 6
found_continues k None o = joint_continues k o

-- an operator that binds at least so tightly begins the text
abbrev pub continues : ℕ → List ℕ → Bool
continues k t = found_continues k (power_at t) (joint_at t)

pub first_false : (x y : Bool) → x ≡ false → (x && y) ≡ false
first_false false y h = refl
first_false true y h = absurd cc

stops_at_joint : (next : Expr → List ℕ → Reading Expr) (inner : Inner) (k : ℕ) (e : Expr) (t : List ℕ) (o : Reading Joint)
    → joint_continues k o ≡ false → at_joint next inner k e t o ≡ Some (e, t)
stops_at_joint next inner k e t None h = refl
stops_at_joint next inner k e t (Some o) h = when_false _ _ _ (first_false (nat_le k (strength o.0)) _ h)

stops_at : (next : Expr → List ℕ → Reading Expr) (inner : Inner) (k : ℕ) (e : Expr) (t : List ℕ) (p : Reading ℕ)
    → found_continues k p (joint_at t) ≡ false → at_power next inner k e t p ≡ Some (e, t)
stops_at next inner k e t None h = stops_at_joint next inner k e t (joint_at t) h
stops_at next inner k e t (Some p) h = when_false _ _ _ (first_false (nat_le k 6) _ h)

-- nothing that binds tightly enough follows: the expression is whole
pub climb_stops : (inner : Inner) (n k : ℕ) (e : Expr) (t : List ℕ) → 0 < n → continues k t ≡ false → climb inner n k e t ≡ Some (e, t)
climb_stops inner zero k e t lt h = absurd (omega arith)
climb_stops inner (suc n) k e t lt h = stops_at (climb inner n k) inner k e t (power_at t) h

-- each operator is found where its sign stands
pub operator_found : (o : BinOp) (t : List ℕ) → joint_at (operator o ++ t) ≡ Some (joint.Bin o, t)
operator_found Add t = refl
operator_found Sub t = refl
operator_found Mul t = refl
operator_found Div t = refl

pub relation_found : (o : RelOp) (t : List ℕ) → joint_at (relation o ++ t) ≡ Some (joint.Rel o, t)
relation_found Lt t = refl
relation_found Le t = refl
relation_found Eq t = refl
relation_found Ne t = refl
relation_found Ge t = refl
relation_found Gt t = refl

pub and_found : (t : List ℕ) → joint_at (codes ".AND." ++ t) ≡ Some (joint.And, t)
and_found t = refl

pub or_found : (t : List ℕ) → joint_at (codes ".OR." ++ t) ≡ Some (joint.Or, t)
or_found t = refl
