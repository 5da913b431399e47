-- What stands in the brackets behind a name, as a list.
use Rattle.std.proofs.Common.{◌≡◌, List, ◌∷◌, ◌++◌, ℕ, length, refl, ap, sym, ◌∙◌, append_assoc}
use Rattle.std.specs.Prelude.{flat_map}
use Rattle.fort_syntax.specs.TreePatterns.{listed}
use Rattle.fort_syntax.specs.Uses.{Use, applied, assigned_element, argument_of, read, occurrence, uses_in, uses_in_row, uses_on_left, uses_of}
use Rattle.fort_syntax.specs.declared.name.Name.{Name}
use Rattle.fort_syntax.specs.declared.expr.Expr.{Expr, Row_of-Expr, end_of-Expr, more_of-Expr, items-the_row-Expr, items_hidden-the_row-Expr-0}
use Rattle.fort_syntax.specs.declared.expr.Expr.TheViews as view
use Rattle.fort_syntax.specs.declared.stmt.Stmt.{Stmt}
use Rattle.fort_syntax.specs.declared.stmt.Stmt.TheViews as stmt
use Rattle.fort_syntax.specs.declared.dialect.BinOp.{BinOp}
use Rattle.fort_syntax.specs.declared.dialect.RelOp.{RelOp}
use Rattle.fort_syntax.specs.declared.expr.Expr.TheBlock.{hidden-the_row-Expr-0}

uses_in_items : (how : Use) {m : _} (row : Row_of-Expr m) → uses_in_row how row ≡ flat_map (uses_in how) (items-the_row-Expr _ row)
uses_in_items how end_of-Expr = refl
uses_in_items how (more_of-Expr e rest) = ap (λ uses. uses_in how e ++ uses) (uses_in_items how rest)

listed_items : {m : _} (row : Row_of-Expr m) → listed row ≡ items-the_row-Expr _ row
listed_items end_of-Expr = refl
listed_items (more_of-Expr e rest) = ap (λ es. e ∷ es) (listed_items rest)

pub listed_is : (args : List Expr) → listed (hidden-the_row-Expr-0 args) ≡ args
listed_is args = listed_items (hidden-the_row-Expr-0 args) ∙ items_hidden-the_row-Expr-0 args

row_uses : (how : Use) (args : List Expr) → uses_in_row how (hidden-the_row-Expr-0 args) ≡ flat_map (uses_in how) args
row_uses how args = uses_in_items how (hidden-the_row-Expr-0 args) ∙ ap (flat_map (uses_in how)) (items_hidden-the_row-Expr-0 args)

-- the names in what stands behind another
pub uses_in_apply : (how : Use) (f : Name) (args : List Expr)
    → uses_in how (view.Apply f args) ≡ occurrence f (applied (length args)) ∷ flat_map (uses_in (argument_of f)) args
uses_in_apply how f args = λ i. occurrence f (applied (length (listed_is args i))) ∷ row_uses (argument_of f) args i

pub uses_on_left_apply : (f : Name) (args : List Expr)
    → uses_on_left (view.Apply f args) ≡ occurrence f (assigned_element (length args)) ∷ flat_map (uses_in read) args
uses_on_left_apply f args = λ i. occurrence f (assigned_element (length (listed_is args i))) ∷ row_uses read args i

pub in_paren : (how : Use) (a : Expr) → uses_in how (view.Paren a) ≡ uses_in read a
unfolding Rattle.fort_syntax.specs.declared.expr.Expr.TheBlock.hidden-the_row-Expr-0 Rattle.fort_syntax.specs.declared.expr.Expr.TheBlock.hidden-the_row-Expr-1 denote.Hole.Carrier.hidden
in_paren how a = refl

pub in_pos : (how : Use) (a : Expr) → uses_in how (view.Pos a) ≡ uses_in read a
unfolding Rattle.fort_syntax.specs.declared.expr.Expr.TheBlock.hidden-the_row-Expr-0 Rattle.fort_syntax.specs.declared.expr.Expr.TheBlock.hidden-the_row-Expr-1 denote.Hole.Carrier.hidden
in_pos how a = refl

pub in_neg : (how : Use) (a : Expr) → uses_in how (view.Neg a) ≡ uses_in read a
unfolding Rattle.fort_syntax.specs.declared.expr.Expr.TheBlock.hidden-the_row-Expr-0 Rattle.fort_syntax.specs.declared.expr.Expr.TheBlock.hidden-the_row-Expr-1 denote.Hole.Carrier.hidden
in_neg how a = refl

pub in_not : (how : Use) (a : Expr) → uses_in how (view.Not a) ≡ uses_in read a
unfolding Rattle.fort_syntax.specs.declared.expr.Expr.TheBlock.hidden-the_row-Expr-0 Rattle.fort_syntax.specs.declared.expr.Expr.TheBlock.hidden-the_row-Expr-1 denote.Hole.Carrier.hidden
in_not how a = refl

pub in_power : (how : Use) (a : Expr) (n : ℕ) → uses_in how (view.Power a n) ≡ uses_in read a
unfolding Rattle.fort_syntax.specs.declared.expr.Expr.TheBlock.hidden-the_row-Expr-0 Rattle.fort_syntax.specs.declared.expr.Expr.TheBlock.hidden-the_row-Expr-1 denote.Hole.Carrier.hidden
in_power how a n = refl

pub in_bin : (how : Use) (o : BinOp) (a b : Expr) → uses_in how (view.Bin o a b) ≡ uses_in read a ++ uses_in read b
unfolding Rattle.fort_syntax.specs.declared.expr.Expr.TheBlock.hidden-the_row-Expr-0 Rattle.fort_syntax.specs.declared.expr.Expr.TheBlock.hidden-the_row-Expr-1 denote.Hole.Carrier.hidden
in_bin how o a b = refl

pub in_rel : (how : Use) (o : RelOp) (a b : Expr) → uses_in how (view.Rel o a b) ≡ uses_in read a ++ uses_in read b
unfolding Rattle.fort_syntax.specs.declared.expr.Expr.TheBlock.hidden-the_row-Expr-0 Rattle.fort_syntax.specs.declared.expr.Expr.TheBlock.hidden-the_row-Expr-1 denote.Hole.Carrier.hidden
in_rel how o a b = refl

pub in_and : (how : Use) (a b : Expr) → uses_in how (view.And a b) ≡ uses_in read a ++ uses_in read b
unfolding Rattle.fort_syntax.specs.declared.expr.Expr.TheBlock.hidden-the_row-Expr-0 Rattle.fort_syntax.specs.declared.expr.Expr.TheBlock.hidden-the_row-Expr-1 denote.Hole.Carrier.hidden
in_and how a b = refl

pub in_or : (how : Use) (a b : Expr) → uses_in how (view.Or a b) ≡ uses_in read a ++ uses_in read b
unfolding Rattle.fort_syntax.specs.declared.expr.Expr.TheBlock.hidden-the_row-Expr-0 Rattle.fort_syntax.specs.declared.expr.Expr.TheBlock.hidden-the_row-Expr-1 denote.Hole.Carrier.hidden
in_or how a b = refl

pub uses_of_carried : (e : Expr) (s : Stmt) → uses_of (stmt.LogicalIf e s) ≡ uses_in read e ++ uses_of s
unfolding Rattle.fort_syntax.specs.declared.stmt.Stmt.TheBlock.hidden-the_row-Stmt-0 denote.Hole.Carrier.hidden
uses_of_carried e s = refl

-- two lists behind another one
pub ended : {X : Type 0} (old mid first second whole : List X) → mid ≡ old ++ first → whole ≡ first ++ second → mid ++ second ≡ old ++ whole
ended old mid first second whole m w = ap (λ xs. xs ++ second) m ∙ append_assoc old first second ∙ ap (λ xs. old ++ xs) (sym w)
