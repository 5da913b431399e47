-- The grammar of expressions: which texts, without blanks and in upper case, spell an expression.
use Rattle.std.specs.Prelude.{ℕ, ◌+◌, ◌≡◌, ◌≤◌, Bool, true, false, List, [], ◌∷◌, ◌++◌, length, codes}
use mathlib.Core.Former.{Count}
use Rattle.formula.specs.Atoms.{is_digits, is_long, spelled, is_name}
use Rattle.fort_syntax.specs.declared.name.Name.{Name}
use Rattle.fort_syntax.specs.declared.dialect.BinOp.{BinOp}
use Rattle.fort_syntax.specs.declared.dialect.BinOp.TheVariants.{Add, Sub, Mul, Div}
use Rattle.fort_syntax.specs.declared.dialect.RelOp.{RelOp}
use Rattle.fort_syntax.specs.declared.dialect.RelOp.TheVariants.{Lt, Le, Eq, Ne, Ge, Gt}
use Rattle.fort_syntax.specs.declared.expr.Expr.{Expr, Row_of-Expr, end_of-Expr, more_of-Expr}
use Rattle.fort_syntax.specs.declared.expr.Expr.TheVariants.{Const, Truth, Var, Apply', Paren', Pos', Neg', Power', Bin', Rel', Not', And', Or'}

infixr 1 ◌⨾◌
-- ---- texts

-- which texts spell something
abbrev pub Texts : Type 1
Texts = List ℕ → Type 0

-- no text
abbrev pub nothing : Texts
nothing t = ⊥

-- this text alone
abbrev pub just : List ℕ → Texts
just s t = t ≡ s

-- a text of the first, and behind it one of the second
abbrev pub ◌⨾◌ : Texts → Texts → Texts
◌⨾◌ P Q t = (first : List ℕ) × (rest : List ℕ) × (t ≡ first ++ rest) × P first × Q rest

-- in brackets
abbrev pub bracketed : Texts → Texts
bracketed P = just (codes "(") ⨾ P ⨾ just (codes ")")

-- ---- names and numbers

abbrev pub name : Name → Texts
name x t = (t ≡ x) × (is_name x ≡ true)

-- digits, at most 18 of them behind leading zeros
abbrev pub constant : ℕ → Texts
constant n t = (is_digits t ≡ true) × (is_long t ≡ false) × (n ≡ spelled t)

-- one to five digits that are not all zero
abbrev pub label : ℕ → Texts
label n t = (is_digits t ≡ true) × (length t ≤ 5) × (n ≡ spelled t) × (1 ≤ n)

-- a digit from 1 to 9
abbrev pub exponent : ℕ → Texts
exponent n t = (1 ≤ n) × (n ≤ 9) × (t ≡ (48 + n) ∷ [])

-- ---- operators

abbrev pub operator : BinOp → List ℕ
operator Add = codes "+"
operator Sub = codes "-"
operator Mul = codes "*"
operator Div = codes "/"

abbrev pub relation : RelOp → List ℕ
relation Lt = codes ".LT."
relation Le = codes ".LE."
relation Eq = codes ".EQ."
relation Ne = codes ".NE."
relation Ge = codes ".GE."
relation Gt = codes ".GT."

abbrev pub truth : Bool → List ℕ
truth true = codes ".TRUE."
truth false = codes ".FALSE."

-- how tightly operators bind: `+` and `-` less than `*` and `/`
abbrev pub tightness : BinOp → ℕ
tightness Add = 4
tightness Sub = 4
tightness Mul = 5
tightness Div = 5

-- how tightly an expression is bound: .OR. binds loosest, then .AND., .NOT., relations, signs with `+` and `-`,
-- `*` with `/`, `**`, and last what needs no operator
abbrev pub binding : Expr → ℕ
binding (Or' _ _ _ _) = 0
binding (And' _ _ _ _) = 1
binding (Not' _ _) = 2
binding (Rel' _ _ _ _ _) = 3
binding (Pos' _ _) = 4
binding (Neg' _ _) = 4
binding (Bin' o _ _ _ _) = tightness o
binding (Power' _ _ _) = 6
binding (Const _) = 7
binding (Truth _) = 7
binding (Var _) = 7
binding (Apply' _ _ _) = 7
binding (Paren' _ _) = 7

-- texts of an expression that is bound at least so tightly
abbrev pub bound : ℕ → Expr → Texts → Texts
bound k e P t = (k ≤ binding e) × P t

-- ---- expressions

-- An expression has the joined texts of its parts and signs. A part that is bound more loosely than its place
-- allows stands in brackets alone: operators of one tightness group from the left, a relation has no relation
-- as a part, a sign covers the first term of a sum, and `**` has no `**` as base.
abbrev mutual
  pub expression : Expr → Texts
  expression (Const n) = constant n
  expression (Truth b) = just (truth b)
  expression (Var x) = name x
  expression (Apply' x _ args) = name x ⨾ bracketed (arguments args)
  expression (Paren' _ (more_of-Expr e end_of-Expr)) = bracketed (expression e)
  expression (Pos' _ (more_of-Expr e end_of-Expr)) = just (codes "+") ⨾ bound 5 e (expression e)
  expression (Neg' _ (more_of-Expr e end_of-Expr)) = just (codes "-") ⨾ bound 5 e (expression e)
  expression (Power' _ (more_of-Expr e end_of-Expr) n) = bound 7 e (expression e) ⨾ just (codes "**") ⨾ exponent n
  expression (Bin' o _ (more_of-Expr a end_of-Expr) _ (more_of-Expr b end_of-Expr)) =
      bound (tightness o) a (expression a) ⨾ just (operator o) ⨾ bound (tightness o + 1) b (expression b)
  expression (Rel' o _ (more_of-Expr a end_of-Expr) _ (more_of-Expr b end_of-Expr)) =
      bound 4 a (expression a) ⨾ just (relation o) ⨾ bound 4 b (expression b)
  expression (Not' _ (more_of-Expr e end_of-Expr)) = just (codes ".NOT.") ⨾ bound 3 e (expression e)
  expression (And' _ (more_of-Expr a end_of-Expr) _ (more_of-Expr b end_of-Expr)) =
      bound 1 a (expression a) ⨾ just (codes ".AND.") ⨾ bound 2 b (expression b)
  expression (Or' _ (more_of-Expr a end_of-Expr) _ (more_of-Expr b end_of-Expr)) =
      expression a ⨾ just (codes ".OR.") ⨾ bound 1 b (expression b)

  -- one or more expressions, with commas between them
  pub arguments : {m : Count} → Row_of-Expr m → Texts
  arguments end_of-Expr = nothing
  arguments (more_of-Expr e es) = expression e ⨾ more_arguments es

  pub more_arguments : {m : Count} → Row_of-Expr m → Texts
  more_arguments end_of-Expr = just []
  more_arguments (more_of-Expr e es) = just (codes ",") ⨾ expression e ⨾ more_arguments es
