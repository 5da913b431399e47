-- What expressions and statements are to be by their types and forms, in a unit that says what its
-- names are: this is asked of a deck's statements, and of the units made of them.
use Rattle.std.specs.Prelude.{◌&&◌, ◌||◌, not, Bool, true, false, cond, List, Option, Some, None}
use Rattle.std.specs.List.{list_all}
use Rattle.fort_syntax.specs.TreePatterns.{only, carried, listed}
use Rattle.fort_syntax.specs.Scopes.{Scope, same_option, is_array, is_intrinsic, is_integer_scalar}
use Rattle.fort_syntax.specs.Uses.{all_parts}
use Rattle.fort_syntax.specs.declared.name.Name.{Name}
use Rattle.fort_syntax.specs.declared.dialect.BinOp.{BinOp}
use Rattle.fort_syntax.specs.declared.dialect.BinOp.TheVariants.{Add, Sub, Mul, Div}
use Rattle.fort_syntax.specs.declared.dialect.Sort.{Sort}
use Rattle.fort_syntax.specs.declared.dialect.Sort.TheVariants.{Integer, Logical}
use Rattle.fort_syntax.specs.declared.expr.Expr.{Expr}
use Rattle.fort_syntax.specs.declared.expr.Expr.TheVariants.{Const, Truth, Var, Apply', Paren', Pos', Neg', Power', Bin', Rel', Not', And', Or'}
use Rattle.fort_syntax.specs.declared.stmt.Param.{Param}
use Rattle.fort_syntax.specs.declared.stmt.Param.TheVariants.{Fixed, Named}
use Rattle.fort_syntax.specs.declared.stmt.Stmt.{Stmt}
use Rattle.fort_syntax.specs.declared.stmt.Stmt.TheVariants.{Assign, Computed, ArithIf, LogicalIf', Do, BlockIf, ElseIf}

-- the type of a name before a bracket; an intrinsic function gives an integer, however its name is typed
abbrev pub type_applied : Scope → Name → Option Sort
type_applied scope f = cond (is_intrinsic scope f) (Some Integer) (scope.sort f)

-- the type of an expression, by its form and its names
abbrev pub type_of : Scope → Expr → Option Sort
type_of scope (Const n) = Some Integer
type_of scope (Truth b) = Some Logical
type_of scope (Var x) = scope.sort x
type_of scope (Apply' f _ args) = type_applied scope f
type_of scope (Paren' _ (only a)) = type_of scope a
type_of scope (Pos' _ a) = Some Integer
type_of scope (Neg' _ a) = Some Integer
type_of scope (Power' _ a n) = Some Integer
type_of scope (Bin' o _ a _ b) = Some Integer
type_of scope (Rel' o _ a _ b) = Some Logical
type_of scope (Not' _ a) = Some Logical
type_of scope (And' _ a _ b) = Some Logical
type_of scope (Or' _ a _ b) = Some Logical

abbrev pub gives_integer : Scope → Expr → Bool
gives_integer scope e = same_option (type_of scope e) (Some Integer)

abbrev pub gives_logical : Scope → Expr → Bool
gives_logical scope e = same_option (type_of scope e) (Some Logical)

-- subscripts and the arguments of intrinsic functions are integers; those of other functions may have any type
abbrev pub are_fit_arguments : Scope → Name → List Expr → Bool
are_fit_arguments scope f args = not (is_array scope f || is_intrinsic scope f) || list_all (gives_integer scope) args

-- the operands of an expression's own operator have the types that it demands
abbrev pub has_fit_operands : Scope → Expr → Bool
has_fit_operands scope (Apply' f _ args) = are_fit_arguments scope f (listed args)
has_fit_operands scope (Pos' _ (only a)) = gives_integer scope a
has_fit_operands scope (Neg' _ (only a)) = gives_integer scope a
has_fit_operands scope (Power' _ (only a) n) = gives_integer scope a
has_fit_operands scope (Bin' o _ (only a) _ (only b)) = gives_integer scope a && gives_integer scope b
has_fit_operands scope (Rel' o _ (only a) _ (only b)) = gives_integer scope a && gives_integer scope b
has_fit_operands scope (Not' _ (only a)) = gives_logical scope a
has_fit_operands scope (And' _ (only a) _ (only b)) = gives_logical scope a && gives_logical scope b
has_fit_operands scope (Or' _ (only a) _ (only b)) = gives_logical scope a && gives_logical scope b
has_fit_operands scope _ = true

abbrev pub is_fit_param : Scope → Param → Bool
is_fit_param scope (Fixed n) = true
is_fit_param scope (Named x) = is_integer_scalar scope x

abbrev pub is_fit_step : Scope → Option Param → Bool
is_fit_step scope None = true
is_fit_step scope (Some p) = is_fit_param scope p

-- the expressions and names that are a statement's own have the types that it demands
abbrev pub has_fit_places : Scope → Stmt → Bool
has_fit_places scope (Assign left right) = same_option (type_of scope left) (type_of scope right)
has_fit_places scope (Computed labels x) = is_integer_scalar scope x
has_fit_places scope (ArithIf e l m n) = gives_integer scope e
has_fit_places scope (LogicalIf' e _ (carried s)) = gives_logical scope e && has_fit_places scope s
has_fit_places scope (Do label x first last step) =
    is_integer_scalar scope x && is_fit_param scope first && is_fit_param scope last && is_fit_step scope step
has_fit_places scope (BlockIf e) = gives_logical scope e
has_fit_places scope (ElseIf e) = gives_logical scope e
has_fit_places scope _ = true

-- all that a statement holds has the type that its place demands
abbrev pub is_well_typed : Scope → Stmt → Bool
is_well_typed scope s = has_fit_places scope s && list_all (has_fit_operands scope) (all_parts s)

-- ---- subscripts

abbrev pub is_scalar_name : Scope → Expr → Bool
is_scalar_name scope (Var x) = not (is_array scope x)
is_scalar_name scope _ = false

abbrev pub is_constant : Expr → Bool
is_constant (Const n) = true
is_constant _ = false

abbrev pub is_sum_or_difference : BinOp → Bool
is_sum_or_difference Add = true
is_sum_or_difference Sub = true
is_sum_or_difference Mul = false
is_sum_or_difference Div = false

abbrev pub is_product : BinOp → Bool
is_product Mul = true
is_product _ = false

-- v or c*v
abbrev pub is_multiple : Scope → Expr → Bool
is_multiple scope (Bin' o _ (only a) _ (only b)) = is_product o && is_constant a && is_scalar_name scope b
is_multiple scope e = is_scalar_name scope e

-- c*v+k, c*v-k, c*v, v+k, v-k, v or k, for constants c and k and a scalar v
abbrev pub is_plain_subscript : Scope → Expr → Bool
is_plain_subscript scope (Const n) = true
is_plain_subscript scope (Bin' o m (only a) n (only b)) =
    is_multiple scope (Bin' o m (only a) n (only b)) || (is_sum_or_difference o && is_multiple scope a && is_constant b)
is_plain_subscript scope e = is_scalar_name scope e

-- an expression is no element, or has plain subscripts alone
abbrev pub has_plain_subscripts : Scope → Expr → Bool
has_plain_subscripts scope (Apply' f _ args) = not (is_array scope f) || list_all (is_plain_subscript scope) (listed args)
has_plain_subscripts scope _ = true

abbrev pub all_plain_subscripts : Scope → Stmt → Bool
all_plain_subscripts scope s = list_all (has_plain_subscripts scope) (all_parts s)
