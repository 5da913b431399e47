-- Expressions as readers make them and as trees: what an operator has in its places is a row of one.
use Rattle.std.proofs.Common.{◌≡◌, ℕ, List, [], ◌∷◌, codes, refl, sym, ap, subst, ◌∙◌}
use mathlib.Core.Former.{Count, this, arity}
use Rattle.edge_io.specs.formers.list.List.{the_former}
use Rattle.fort_syntax.specs.TreePatterns.{only, row_of}
use Rattle.fort_syntax.specs.Spelled.{just, ◌⨾◌, bracketed, name, expression, arguments, more_arguments}
use Rattle.fort_syntax.specs.declared.dialect.BinOp.{BinOp}
use Rattle.fort_syntax.specs.declared.dialect.RelOp.{RelOp}
use Rattle.fort_syntax.specs.declared.name.Name.{Name}
use Rattle.fort_syntax.specs.declared.expr.Expr.{Expr, Row_of-Expr, end_of-Expr, more_of-Expr, items-the_row-Expr, items_shown-the_row-Expr-0, items_hidden-the_row-Expr-0, roll-out-Expr, roll-Expr, out-Expr}
use Rattle.fort_syntax.specs.declared.expr.Expr.TheBlock.{hidden-the_row-Expr-0}
use Rattle.fort_syntax.specs.declared.expr.Expr.{Apply, Paren, Pos, Neg, Power, Bin, Rel, Not, And, Or}
use Rattle.fort_syntax.specs.declared.expr.Expr.TheVariants.{Apply', Paren', Pos', Neg', Power', Bin', Rel', Not', And', Or'}

-- ---- what stands in the places of operators

pub paren_tree : (e : Expr) → Paren e ≡ Paren' _ (only e)
unfolding Rattle.fort_syntax.specs.declared.expr.Expr.TheBlock.hidden-the_row-Expr-1 denote.Hole.Carrier.hidden
paren_tree e = refl

pub pos_tree : (e : Expr) → Pos e ≡ Pos' _ (only e)
unfolding Rattle.fort_syntax.specs.declared.expr.Expr.TheBlock.hidden-the_row-Expr-1 denote.Hole.Carrier.hidden
pos_tree e = refl

pub neg_tree : (e : Expr) → Neg e ≡ Neg' _ (only e)
unfolding Rattle.fort_syntax.specs.declared.expr.Expr.TheBlock.hidden-the_row-Expr-1 denote.Hole.Carrier.hidden
neg_tree e = refl

pub not_tree : (e : Expr) → Not e ≡ Not' _ (only e)
unfolding Rattle.fort_syntax.specs.declared.expr.Expr.TheBlock.hidden-the_row-Expr-1 denote.Hole.Carrier.hidden
not_tree e = refl

pub power_tree : (e : Expr) (n : ℕ) → Power e n ≡ Power' _ (only e) n
unfolding Rattle.fort_syntax.specs.declared.expr.Expr.TheBlock.hidden-the_row-Expr-1 denote.Hole.Carrier.hidden
power_tree e n = refl

pub bin_tree : (o : BinOp) (a b : Expr) → Bin o a b ≡ Bin' o _ (only a) _ (only b)
unfolding Rattle.fort_syntax.specs.declared.expr.Expr.TheBlock.hidden-the_row-Expr-1 denote.Hole.Carrier.hidden
bin_tree o a b = refl

pub rel_tree : (o : RelOp) (a b : Expr) → Rel o a b ≡ Rel' o _ (only a) _ (only b)
unfolding Rattle.fort_syntax.specs.declared.expr.Expr.TheBlock.hidden-the_row-Expr-1 denote.Hole.Carrier.hidden
rel_tree o a b = refl

pub and_tree : (a b : Expr) → And a b ≡ And' _ (only a) _ (only b)
unfolding Rattle.fort_syntax.specs.declared.expr.Expr.TheBlock.hidden-the_row-Expr-1 denote.Hole.Carrier.hidden
and_tree a b = refl

pub or_tree : (a b : Expr) → Or a b ≡ Or' _ (only a) _ (only b)
unfolding Rattle.fort_syntax.specs.declared.expr.Expr.TheBlock.hidden-the_row-Expr-1 denote.Hole.Carrier.hidden
or_tree a b = refl

-- ---- arguments

-- a row of listed expressions has them
pub items_of_row : (es : List Expr) → items-the_row-Expr _ (row_of es) ≡ es
items_of_row [] = refl
items_of_row (e ∷ es) = ap (λ xs. e ∷ xs) (items_of_row es)

-- arguments, listed or in a row
pub apply_row : (x : Name) (m : (the_former (this {0})).Shape) (row : Row_of-Expr (arity (the_former (this {0})) m))
    → Apply x (items-the_row-Expr _ row) ≡ Apply' x m row
unfolding roll-Expr out-Expr denote.Hole.Carrier.roll denote.Hole.Carrier.out
apply_row x m row = ap (Apply x) (sym (items_shown-the_row-Expr-0 m row)) ∙ roll-out-Expr (Apply' x m row)

-- a row and what it lists have the same texts
more_texts : {m : Count} (row : Row_of-Expr m) → more_arguments row ≡ more_arguments (row_of (items-the_row-Expr _ row))
more_texts end_of-Expr = refl
more_texts (more_of-Expr e row) = ap (λ P. just (codes ",") ⨾ expression e ⨾ P) (more_texts row)

argument_texts : {m : Count} (row : Row_of-Expr m) → arguments row ≡ arguments (row_of (items-the_row-Expr _ row))
argument_texts end_of-Expr = refl
argument_texts (more_of-Expr e row) = ap (λ P. expression e ⨾ P) (more_texts row)

-- the texts of a name with arguments
pub apply_text : (x : Name) (es : List Expr) (t : List ℕ) → (name x ⨾ bracketed (arguments (row_of es))) t
    → expression (Apply x es) t
apply_text x es t h =
    let same : arguments (row_of es) ≡ arguments (hidden-the_row-Expr-0 es) =
    ap (λ xs. arguments (row_of xs)) (sym (items_hidden-the_row-Expr-0 es)) ∙ sym (argument_texts (hidden-the_row-Expr-0 es)) in
    subst (λ P. (name x ⨾ bracketed P) t) same h
