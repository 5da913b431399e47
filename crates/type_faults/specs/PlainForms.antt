-- The forms of subscripts, by the operator and the operands.
use Rattle.std.specs.Prelude.{◌&&◌, ◌||◌, not, Bool, List}
use Rattle.std.specs.List.{list_all}
use Rattle.fort_syntax.specs.Scopes.{Scope, is_array}
use Rattle.fort_syntax.specs.TypeRules.{is_scalar_name, is_constant, is_sum_or_difference, is_product, is_multiple, is_plain_subscript}
use Rattle.fort_syntax.specs.declared.dialect.BinOp.{BinOp}
use Rattle.fort_syntax.specs.declared.expr.Expr.{Expr}
use Rattle.fort_syntax.specs.declared.name.Name.{Name}

abbrev pub multiple : Scope → BinOp → Expr → Expr → Bool
multiple scope o a b = is_product o && is_constant a && is_scalar_name scope b

abbrev pub plain : Scope → BinOp → Expr → Expr → Bool
plain scope o a b = multiple scope o a b || (is_sum_or_difference o && is_multiple scope a && is_constant b)

abbrev pub are_plain_arguments : Scope → Name → List Expr → Bool
are_plain_arguments scope f args = not (is_array scope f) || list_all (is_plain_subscript scope) args
