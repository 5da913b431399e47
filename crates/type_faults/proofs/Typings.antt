-- The types of expressions, by their forms.
use Rattle.std.proofs.Common.{◌≡◌, ℕ, List, refl, ap}
use Rattle.std.specs.Prelude.{◌&&◌}
use Rattle.fort_syntax.specs.Scopes.{Scope}
use Rattle.fort_syntax.specs.TypeRules.{type_of, gives_integer, gives_logical, are_fit_arguments, has_fit_operands}
use Rattle.fort_syntax.specs.declared.name.Name.{Name}
use Rattle.fort_syntax.specs.declared.dialect.BinOp.{BinOp}
use Rattle.fort_syntax.specs.declared.dialect.RelOp.{RelOp}
use Rattle.fort_syntax.specs.declared.expr.Expr.{Expr}
use Rattle.fort_syntax.specs.declared.expr.Expr.TheViews as view
use Rattle.stmt_names.proofs.Rows.{listed_is}

pub type_paren : (scope : Scope) (a : Expr) → type_of scope (view.Paren a) ≡ type_of scope a
unfolding Rattle.fort_syntax.specs.declared.expr.Expr.TheBlock.hidden-the_row-Expr-0 Rattle.fort_syntax.specs.declared.expr.Expr.TheBlock.hidden-the_row-Expr-1 denote.Hole.Carrier.hidden
type_paren scope a = refl

pub fit_apply : (scope : Scope) (f : Name) (args : List Expr) → has_fit_operands scope (view.Apply f args) ≡ are_fit_arguments scope f args
fit_apply scope f args = ap (are_fit_arguments scope f) (listed_is args)

pub fit_pos : (scope : Scope) (a : Expr) → has_fit_operands scope (view.Pos a) ≡ gives_integer scope a
unfolding Rattle.fort_syntax.specs.declared.expr.Expr.TheBlock.hidden-the_row-Expr-0 Rattle.fort_syntax.specs.declared.expr.Expr.TheBlock.hidden-the_row-Expr-1 denote.Hole.Carrier.hidden
fit_pos scope a = refl

pub fit_neg : (scope : Scope) (a : Expr) → has_fit_operands scope (view.Neg a) ≡ gives_integer scope a
unfolding Rattle.fort_syntax.specs.declared.expr.Expr.TheBlock.hidden-the_row-Expr-0 Rattle.fort_syntax.specs.declared.expr.Expr.TheBlock.hidden-the_row-Expr-1 denote.Hole.Carrier.hidden
fit_neg scope a = refl

pub fit_not : (scope : Scope) (a : Expr) → has_fit_operands scope (view.Not a) ≡ gives_logical scope a
unfolding Rattle.fort_syntax.specs.declared.expr.Expr.TheBlock.hidden-the_row-Expr-0 Rattle.fort_syntax.specs.declared.expr.Expr.TheBlock.hidden-the_row-Expr-1 denote.Hole.Carrier.hidden
fit_not scope a = refl

pub fit_power : (scope : Scope) (a : Expr) (n : ℕ) → has_fit_operands scope (view.Power a n) ≡ gives_integer scope a
unfolding Rattle.fort_syntax.specs.declared.expr.Expr.TheBlock.hidden-the_row-Expr-0 Rattle.fort_syntax.specs.declared.expr.Expr.TheBlock.hidden-the_row-Expr-1 denote.Hole.Carrier.hidden
fit_power scope a n = refl

pub fit_bin : (scope : Scope) (o : BinOp) (a b : Expr) → has_fit_operands scope (view.Bin o a b) ≡ (gives_integer scope a && gives_integer scope b)
unfolding Rattle.fort_syntax.specs.declared.expr.Expr.TheBlock.hidden-the_row-Expr-0 Rattle.fort_syntax.specs.declared.expr.Expr.TheBlock.hidden-the_row-Expr-1 denote.Hole.Carrier.hidden
fit_bin scope o a b = refl

pub fit_rel : (scope : Scope) (o : RelOp) (a b : Expr) → has_fit_operands scope (view.Rel o a b) ≡ (gives_integer scope a && gives_integer scope b)
unfolding Rattle.fort_syntax.specs.declared.expr.Expr.TheBlock.hidden-the_row-Expr-0 Rattle.fort_syntax.specs.declared.expr.Expr.TheBlock.hidden-the_row-Expr-1 denote.Hole.Carrier.hidden
fit_rel scope o a b = refl

pub fit_and : (scope : Scope) (a b : Expr) → has_fit_operands scope (view.And a b) ≡ (gives_logical scope a && gives_logical scope b)
unfolding Rattle.fort_syntax.specs.declared.expr.Expr.TheBlock.hidden-the_row-Expr-0 Rattle.fort_syntax.specs.declared.expr.Expr.TheBlock.hidden-the_row-Expr-1 denote.Hole.Carrier.hidden
fit_and scope a b = refl

pub fit_or : (scope : Scope) (a b : Expr) → has_fit_operands scope (view.Or a b) ≡ (gives_logical scope a && gives_logical scope b)
unfolding Rattle.fort_syntax.specs.declared.expr.Expr.TheBlock.hidden-the_row-Expr-0 Rattle.fort_syntax.specs.declared.expr.Expr.TheBlock.hidden-the_row-Expr-1 denote.Hole.Carrier.hidden
fit_or scope a b = refl
