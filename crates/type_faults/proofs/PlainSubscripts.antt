-- The forms of subscripts.
use Rattle.std.proofs.Common.{◌≡◌, List, refl, ap}
use Rattle.fort_syntax.specs.Scopes.{Scope}
use Rattle.fort_syntax.specs.TypeRules.{is_multiple, is_plain_subscript, has_plain_subscripts}
use Rattle.fort_syntax.specs.declared.dialect.BinOp.{BinOp}
use Rattle.fort_syntax.specs.declared.expr.Expr.{Expr}
use Rattle.fort_syntax.specs.declared.expr.Expr.TheViews as view
use Rattle.fort_syntax.specs.declared.name.Name.{Name}
use Rattle.type_faults.specs.PlainForms.{multiple, plain, are_plain_arguments}
use Rattle.stmt_names.proofs.Rows.{listed_is}

pub multiple_bin : (scope : Scope) (o : BinOp) (a b : Expr) → is_multiple scope (view.Bin o a b) ≡ multiple scope o a b
unfolding Rattle.fort_syntax.specs.declared.expr.Expr.TheBlock.hidden-the_row-Expr-0 Rattle.fort_syntax.specs.declared.expr.Expr.TheBlock.hidden-the_row-Expr-1 denote.Hole.Carrier.hidden
multiple_bin scope o a b = refl

pub plain_bin : (scope : Scope) (o : BinOp) (a b : Expr) → is_plain_subscript scope (view.Bin o a b) ≡ plain scope o a b
unfolding Rattle.fort_syntax.specs.declared.expr.Expr.TheBlock.hidden-the_row-Expr-0 Rattle.fort_syntax.specs.declared.expr.Expr.TheBlock.hidden-the_row-Expr-1 denote.Hole.Carrier.hidden
plain_bin scope o a b = refl

pub plain_apply : (scope : Scope) (f : Name) (args : List Expr) → has_plain_subscripts scope (view.Apply f args) ≡ are_plain_arguments scope f args
plain_apply scope f args = ap (are_plain_arguments scope f) (listed_is args)
