-- Texts of an expression that was put together from parts with their texts.
use Rattle.std.proofs.Common.{◌≡◌, ℕ, ◌≤◌, true, List, [], ◌++◌, codes, refl, sym, ap, subst, append-nil, arith}
use Rattle.formula.specs.Atoms.{is_name}
use Rattle.fort_syntax.specs.TreePatterns.{row_of}
use Rattle.fort_syntax.specs.Grammar.{left_side}
use Rattle.fort_syntax.specs.Spelled.{Texts, just, ◌⨾◌, bracketed, binding, bound, expression, arguments}
use Rattle.fort_syntax.specs.declared.dialect.BinOp.TheVariants.{Add, Sub, Mul, Div}
use Rattle.fort_syntax.specs.declared.name.Name.{Name}
use Rattle.fort_syntax.specs.declared.expr.Expr.{Expr, Var, Apply, Paren, Pos, Neg, Not}
use Rattle.stmt_parse.specs.declared.joint.Joint.{Joint}
use Rattle.stmt_parse.specs.declared.joint.Joint.TheVariants as joint
use Rattle.stmt_parse.specs.Tokens.{strength, left_strength, right_strength}
use Rattle.stmt_parse.specs.Parsing.{joined}
use Rattle.stmt_parse.proofs.ExpressionsTokens.{sign_text}
use Rattle.stmt_parse.proofs.ExpressionsViews.{paren_tree, pos_tree, neg_tree, not_tree, bin_tree, rel_tree, and_tree, or_tree, apply_text}

-- ---- operators

-- parts with an operator between them
pub joined_spelled : (o : Joint) (a b : Expr) → (x : List ℕ)
    → (bound (left_strength o) a (expression a) ⨾ just (sign_text o) ⨾ bound (right_strength o) b (expression b)) x
    → expression (joined o a b) x
joined_spelled joint.Or a b x h = subst (λ e. expression e x) (sym (or_tree a b)) (h.0, h.1, h.2, h.3.1, h.4)
joined_spelled joint.And a b x h = subst (λ e. expression e x) (sym (and_tree a b)) h
joined_spelled (joint.Rel o) a b x h = subst (λ e. expression e x) (sym (rel_tree o a b)) h
joined_spelled (joint.Bin o) a b x h = subst (λ e. expression e x) (sym (bin_tree o a b)) h

-- it is bound as tightly as the operator binds
pub joined_binding : (o : Joint) (a b : Expr) → binding (joined o a b) ≡ strength o
joined_binding joint.Or a b = ap binding (or_tree a b)
joined_binding joint.And a b = ap binding (and_tree a b)
joined_binding (joint.Rel o) a b = ap binding (rel_tree o a b)
joined_binding (joint.Bin o) a b = ap binding (bin_tree o a b)

-- ---- what needs no operator

-- the text spells an expression that needs no operator
abbrev pub Operand : Expr → Texts
Operand e x = (7 ≤ binding e) × expression e x

-- behind a name: both the left side of an assignment and an expression
abbrev pub Behind : Name → Expr → Texts
Behind x e y = left_side e (x ++ y) × Operand e (x ++ y)

-- arguments in brackets, or nothing, behind a name
pub apply_behind : (x : Name) (es : List Expr) → is_name x ≡ true → (y : List ℕ) → bracketed (arguments (row_of es)) y
    → Behind x (Apply x es) y
apply_behind x es good y h =
    let form : expression (Apply x es) (x ++ y) = apply_text x es (x ++ y) (x, y, refl, (refl, good), h) in
    (form, (omega arith, form))

pub var_behind : (x : Name) → is_name x ≡ true → Behind x (Var x) []
var_behind x good =
    let form : expression (Var x) (x ++ []) = (append-nil x, good) in
    (form, (omega arith, form))

-- brackets
pub paren_operand : (e : Expr) (x : List ℕ) → bracketed (expression e) x → Operand (Paren e) x
paren_operand e x h = subst (λ z. Operand z x) (sym (paren_tree e)) (omega arith, h)

-- ---- signs and .NOT.

pub not_form : (e : Expr) (x : List ℕ) → (just (codes ".NOT.") ⨾ bound 3 e (expression e)) x
    → (2 ≤ binding (Not e)) × expression (Not e) x
not_form e x h = subst (λ z. (2 ≤ binding z) × expression z x) (sym (not_tree e)) (omega arith, h)

pub pos_form : (e : Expr) (x : List ℕ) → (just (codes "+") ⨾ bound 5 e (expression e)) x
    → (4 ≤ binding (Pos e)) × expression (Pos e) x
pos_form e x h = subst (λ z. (4 ≤ binding z) × expression z x) (sym (pos_tree e)) (omega arith, h)

pub neg_form : (e : Expr) (x : List ℕ) → (just (codes "-") ⨾ bound 5 e (expression e)) x
    → (4 ≤ binding (Neg e)) × expression (Neg e) x
neg_form e x h = subst (λ z. (4 ≤ binding z) × expression z x) (sym (neg_tree e)) (omega arith, h)

-- right parts can be bound as tightly as they must be
pub right_most : (o : Joint) → right_strength o ≤ 7
right_most joint.Or = omega arith
right_most joint.And = omega arith
right_most (joint.Rel o) = omega arith
right_most (joint.Bin Add) = omega arith
right_most (joint.Bin Sub) = omega arith
right_most (joint.Bin Mul) = omega arith
right_most (joint.Bin Div) = omega arith
