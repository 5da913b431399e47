-- The names in what stands in brackets behind another, as a list.
use Rattle.std.proofs.Common.{◌≡◌, List, ◌∷◌, ◌++◌, ℕ, refl, ap, ◌∙◌, sym, append_assoc}
use Rattle.std.specs.Prelude.{flat_map}
use Rattle.fort_syntax.specs.declared.name.Name.{Name}
use Rattle.fort_syntax.specs.declared.expr.Expr.{Expr, Row_of-Expr, end_of-Expr, more_of-Expr, items-the_row-Expr, items_hidden-the_row-Expr-0}
use Rattle.fort_syntax.specs.declared.expr.Expr.TheViews as view
use Rattle.fort_syntax.specs.declared.dialect.BinOp.{BinOp}
use Rattle.fort_syntax.specs.declared.dialect.RelOp.{RelOp}
use Rattle.fort_syntax.specs.declared.expr.Expr.TheBlock.{hidden-the_row-Expr-0}
use Rattle.call_tests.specs.Mentioned.{names_in, names_in_row}

names_in_items : {m : _} (row : Row_of-Expr m) → names_in_row row ≡ flat_map names_in (items-the_row-Expr _ row)
names_in_items end_of-Expr = refl
names_in_items (more_of-Expr e rest) = ap (λ names. names_in e ++ names) (names_in_items rest)

row_names : (args : List Expr) → names_in_row (hidden-the_row-Expr-0 args) ≡ flat_map names_in args
row_names args = names_in_items (hidden-the_row-Expr-0 args) ∙ ap (flat_map names_in) (items_hidden-the_row-Expr-0 args)

pub in_apply : (f : Name) (args : List Expr) → names_in (view.Apply f args) ≡ f ∷ flat_map names_in args
in_apply f args = ap (λ (names : List Name). f ∷ names) (row_names args)

pub in_paren : (a : Expr) → names_in (view.Paren a) ≡ names_in a
unfolding Rattle.fort_syntax.specs.declared.expr.Expr.TheBlock.hidden-the_row-Expr-0 Rattle.fort_syntax.specs.declared.expr.Expr.TheBlock.hidden-the_row-Expr-1 denote.Hole.Carrier.hidden
in_paren a = refl

pub in_pos : (a : Expr) → names_in (view.Pos a) ≡ names_in a
unfolding Rattle.fort_syntax.specs.declared.expr.Expr.TheBlock.hidden-the_row-Expr-0 Rattle.fort_syntax.specs.declared.expr.Expr.TheBlock.hidden-the_row-Expr-1 denote.Hole.Carrier.hidden
in_pos a = refl

pub in_neg : (a : Expr) → names_in (view.Neg a) ≡ names_in a
unfolding Rattle.fort_syntax.specs.declared.expr.Expr.TheBlock.hidden-the_row-Expr-0 Rattle.fort_syntax.specs.declared.expr.Expr.TheBlock.hidden-the_row-Expr-1 denote.Hole.Carrier.hidden
in_neg a = refl

pub in_not : (a : Expr) → names_in (view.Not a) ≡ names_in a
unfolding Rattle.fort_syntax.specs.declared.expr.Expr.TheBlock.hidden-the_row-Expr-0 Rattle.fort_syntax.specs.declared.expr.Expr.TheBlock.hidden-the_row-Expr-1 denote.Hole.Carrier.hidden
in_not a = refl

pub in_power : (a : Expr) (n : ℕ) → names_in (view.Power a n) ≡ names_in a
unfolding Rattle.fort_syntax.specs.declared.expr.Expr.TheBlock.hidden-the_row-Expr-0 Rattle.fort_syntax.specs.declared.expr.Expr.TheBlock.hidden-the_row-Expr-1 denote.Hole.Carrier.hidden
in_power a n = refl

pub in_bin : (o : BinOp) (a b : Expr) → names_in (view.Bin o a b) ≡ names_in a ++ names_in b
unfolding Rattle.fort_syntax.specs.declared.expr.Expr.TheBlock.hidden-the_row-Expr-0 Rattle.fort_syntax.specs.declared.expr.Expr.TheBlock.hidden-the_row-Expr-1 denote.Hole.Carrier.hidden
in_bin o a b = refl

pub in_rel : (o : RelOp) (a b : Expr) → names_in (view.Rel o a b) ≡ names_in a ++ names_in b
unfolding Rattle.fort_syntax.specs.declared.expr.Expr.TheBlock.hidden-the_row-Expr-0 Rattle.fort_syntax.specs.declared.expr.Expr.TheBlock.hidden-the_row-Expr-1 denote.Hole.Carrier.hidden
in_rel o a b = refl

pub in_and : (a b : Expr) → names_in (view.And a b) ≡ names_in a ++ names_in b
unfolding Rattle.fort_syntax.specs.declared.expr.Expr.TheBlock.hidden-the_row-Expr-0 Rattle.fort_syntax.specs.declared.expr.Expr.TheBlock.hidden-the_row-Expr-1 denote.Hole.Carrier.hidden
in_and a b = refl

pub in_or : (a b : Expr) → names_in (view.Or a b) ≡ names_in a ++ names_in b
unfolding Rattle.fort_syntax.specs.declared.expr.Expr.TheBlock.hidden-the_row-Expr-0 Rattle.fort_syntax.specs.declared.expr.Expr.TheBlock.hidden-the_row-Expr-1 denote.Hole.Carrier.hidden
in_or a b = refl

-- two lists behind another one
pub ended : {X : Type 0} (old mid first second whole : List X) → mid ≡ old ++ first → whole ≡ first ++ second → mid ++ second ≡ old ++ whole
ended old mid first second whole m w = ap (λ xs. xs ++ second) m ∙ append_assoc old first second ∙ ap (λ xs. old ++ xs) (sym w)
