-- The expression that begins a text. Operators are climbed: a part is read, and then each operator behind it that
-- binds tightly enough takes it as its left part. Numbers of rounds bound every way down.
use Rattle.std.specs.Prelude.{ℕ, zero, suc, ◌≡◌, ◌&&◌, nat_le, Bool, true, false, if◌then◌else◌, Option, Some, None, Result, Ok, Err, List, [], ◌∷◌, ◌++◌, drop, codes}
use Rattle.formula.specs.Atoms.{is_digit, starts}
use Rattle.fort_syntax.specs.declared.name.Name.{Name}
use Rattle.fort_syntax.specs.declared.expr.Expr.{Expr, Const, Truth, Var, Apply, Paren, Pos, Neg, Power, Bin, Rel, Not, And, Or}
use Rattle.fort_syntax.specs.Spelled.{binding}
use Rattle.fort_syntax.specs.Misspelled.{begins}
use Rattle.stmt_parse.specs.declared.joint.Joint.{Joint}
use Rattle.stmt_parse.specs.declared.joint.Joint.TheVariants as joint
use Rattle.stmt_parse.specs.declared.lack.Lack.{Lack}
use Rattle.stmt_parse.specs.declared.lack.Lack.TheVariants.{Spelling, Memory}
use Rattle.stmt_parse.specs.Tokens.{Reading, ◌>>=◌, after, name_at, constant_at, power_at, joint_at, strength, left_strength, right_strength}

-- ---- what code answers

-- an error is that nothing is read, unless memory ran out
abbrev pub Fails : {Y : Type 0} → Lack → Option Y → Type 0
Fails Memory read = Unit {0}
Fails Spelling read = read ≡ None

-- an answer, seen by view, is what is read
abbrev pub Gives : {X Y : Type 0} → (X → Y) → Result X Lack → Option Y → Type 0
Gives view (Ok x) read = read ≡ Some (view x)
Gives view (Err e) read = Fails e read

-- ---- expressions

-- what reads an expression that is bound at least so tightly
abbrev pub Inner : Type 0
Inner = ℕ → List ℕ → Reading Expr

-- the expression of an operator
abbrev pub joined : Joint → Expr → Expr → Expr
joined joint.Or a b = Or a b
joined joint.And a b = And a b
joined (joint.Rel o) a b = Rel o a b
joined (joint.Bin o) a b = Bin o a b

-- further arguments, each behind a comma
abbrev pub more_arguments : Inner → ℕ → List Expr → List ℕ → Reading (List Expr)
more_arguments inner zero es t = None
more_arguments inner (suc n) es t =
    if begins (codes ",") t then (do
      e ← inner 0 (drop 1 t)
      more_arguments inner n (es ++ e.0 ∷ []) e.1)
    else Some (es, t)

abbrev pub arguments : Inner → ℕ → List ℕ → Reading (List Expr)
arguments inner n t = do
  e ← inner 0 t
  more_arguments inner n (e.0 ∷ []) e.1

-- what stands between an opening bracket, which was read, and its closing one
abbrev pub bracketed_arguments : Inner → ℕ → List ℕ → Reading (List Expr)
bracketed_arguments inner n t = do
  es ← arguments inner n t
  rest ← after (codes ")") es.1
  Some (es.0, rest)

-- a name, with arguments where a bracket follows
abbrev pub named : Inner → ℕ → Name → List ℕ → Reading Expr
named inner n x t =
    if begins (codes "(") t then (do
      es ← bracketed_arguments inner n (drop 1 t)
      Some (Apply x es.0, es.1))
    else Some (Var x, t)

-- an expression in brackets, the first of which was read
abbrev pub bracket : Inner → List ℕ → Reading Expr
bracket inner t = do
  e ← inner 0 t
  rest ← after (codes ")") e.1
  Some (Paren e.0, rest)

-- what needs no operator
abbrev pub primary : Inner → ℕ → List ℕ → Reading Expr
primary inner n t =
    if begins (codes ".TRUE.") t then Some (Truth true, drop 6 t)
    else if begins (codes ".FALSE.") t then Some (Truth false, drop 7 t)
    else if begins (codes "(") t then bracket inner (drop 1 t)
    else if starts is_digit t then (do
      c ← constant_at t
      Some (Const c.0, c.1))
    else (do
      x ← name_at t
      named inner n x.0 x.1)

-- a sign or .NOT. and its part
abbrev pub signed : (Expr → Expr) → Reading Expr → Reading Expr
signed sign read = do
  e ← read
  Some (sign e.0, e.1)

-- an expression up to its first operator between two parts
abbrev pub front : Inner → ℕ → ℕ → List ℕ → Reading Expr
front inner n k t =
    if begins (codes ".NOT.") t then (if nat_le k 2 then signed Not (inner 3 (drop 5 t)) else None)
    else if begins (codes "+") t then (if nat_le k 4 then signed Pos (inner 5 (drop 1 t)) else None)
    else if begins (codes "-") t then (if nat_le k 4 then signed Neg (inner 5 (drop 1 t)) else None)
    else primary inner n t

-- the operator binds tightly enough, and what stands before it is bound tightly enough
abbrev pub takes : ℕ → Expr → Joint → Bool
takes k e o = nat_le k (strength o) && nat_le (left_strength o) (binding e)

-- a power may stand behind what needs no operator
abbrev pub takes_power : ℕ → Expr → Bool
takes_power k e = nat_le k 6 && nat_le 7 (binding e)

-- an operator and its right part behind an expression, or neither; `next` goes on behind them
abbrev pub at_joint : (Expr → List ℕ → Reading Expr) → Inner → ℕ → Expr → List ℕ → Reading Joint → Reading Expr
at_joint next inner k e t None = Some (e, t)
at_joint next inner k e t (Some o) =
    if takes k e o.0 then (do
      right ← inner (right_strength o.0) o.1
      next (joined o.0 e right.0) right.1)
    else Some (e, t)

-- a power behind an expression, or an operator
abbrev pub at_power : (Expr → List ℕ → Reading Expr) → Inner → ℕ → Expr → List ℕ → Reading ℕ → Reading Expr
at_power next inner k e t (Some p) = if takes_power k e then next (Power e p.0) p.1 else Some (e, t)
at_power next inner k e t None = at_joint next inner k e t (joint_at t)

-- what stands behind an expression
abbrev pub climb : Inner → ℕ → ℕ → Expr → List ℕ → Reading Expr
climb inner zero k e t = None
climb inner (suc n) k e t = at_power (climb inner n k) inner k e t (power_at t)

-- an expression that is bound at least so tightly
abbrev pub parse : ℕ → ℕ → List ℕ → Reading Expr
parse zero k t = None
parse (suc f) k t = do
  e ← front (parse f) f k t
  climb (parse f) f k e.0 e.1
