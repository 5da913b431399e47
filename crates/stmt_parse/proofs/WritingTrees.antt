-- What is written of an expression, by its parts.
use Rattle.std.proofs.Common.{◌≡◌, ℕ, ◌+◌, true, Option, Some, Result, subst, List, codes, refl, sym, ap, ◌∙◌, arith}
use Rattle.std.specs.Prelude.{nat_le}
use Rattle.std.proofs.lemmas.Bool.Decides.{nat_tests}
use Rattle.fort_syntax.specs.declared.name.Name.{Name}
use Rattle.fort_syntax.specs.declared.dialect.BinOp.{BinOp}
use Rattle.fort_syntax.specs.declared.dialect.RelOp.{RelOp}
use mathlib.Core.Former.{Count}
use Rattle.fort_syntax.specs.declared.expr.Expr.{Row_of-Expr, end_of-Expr, more_of-Expr, items-the_row-Expr, items_hidden-the_row-Expr-0}
use Rattle.fort_syntax.specs.declared.expr.Expr.TheBlock.{hidden-the_row-Expr-0}
use Rattle.fort_syntax.specs.declared.expr.Expr.{Expr, Apply, Paren, Pos, Neg, Power, Bin, Rel, Not, And, Or}
use Rattle.fort_syntax.specs.Spelled.{binding, tightness, operator, relation}
use Rattle.stmt_parse.specs.Tokens.{◌>>=◌}
use Rattle.stmt_parse.specs.Writing.{Writer, put, ◌⊕◌, write_name, write_exponent, tight, write_expression, write_arguments, write_more_arguments, in_round, write_more, write_list, write_left}
use Rattle.stmt_parse.specs.declared.lack.Lack.{Lack}
use Rattle.stmt_parse.specs.declared.lack.Lack.TheVariants.{Spelling, Memory}
use Rattle.stmt_parse.specs.Parsing.{Fails}
use Rattle.stmt_parse.specs.Wrote.{Wrote}
use Rattle.stmt_parse.proofs.TokensRead.{when_true}
use Rattle.stmt_parse.proofs.ExpressionsViews.{paren_tree, pos_tree, neg_tree, not_tree, power_tree, bin_tree, rel_tree, and_tree, or_tree}

-- arguments in a row and in a list are written alike
more_row : {m : Count} (row : Row_of-Expr m) (t : List ℕ)
    → write_more_arguments row t ≡ write_more write_expression (items-the_row-Expr _ row) t
more_row end_of-Expr t = refl
more_row (more_of-Expr e row) t = λ i. (put (codes ",") ⊕ write_expression e ⊕ λ t. more_row row t i) t

list_row : {m : Count} (row : Row_of-Expr m) (t : List ℕ)
    → write_arguments row t ≡ write_list write_expression (items-the_row-Expr _ row) t
list_row end_of-Expr t = refl
list_row (more_of-Expr e row) t = λ i. (write_expression e ⊕ λ t. more_row row t i) t

arguments_written : (es : List Expr) (t : List ℕ)
    → write_arguments (hidden-the_row-Expr-0 es) t ≡ write_list write_expression es t
arguments_written es t = list_row (hidden-the_row-Expr-0 es) t
    ∙ ap (λ l. write_list write_expression l t) (items_hidden-the_row-Expr-0 es)

pub write_apply : (x : Name) (es : List Expr) (t : List ℕ)
    → write_expression (Apply x es) t ≡ (write_name x ⊕ in_round (write_list write_expression es)) t
write_apply x es t = λ i. (write_name x ⊕ put (codes "(") ⊕ (λ t. arguments_written es t i) ⊕ put (codes ")")) t

pub write_paren : (a : Expr) (t : List ℕ) → write_expression (Paren a) t ≡ in_round (write_expression a) t
write_paren a t = ap (λ e. write_expression e t) (paren_tree a)

pub write_pos : (a : Expr) (t : List ℕ)
    → write_expression (Pos a) t ≡ (put (codes "+") ⊕ tight 5 a (write_expression a)) t
write_pos a t = ap (λ e. write_expression e t) (pos_tree a)

pub write_neg : (a : Expr) (t : List ℕ)
    → write_expression (Neg a) t ≡ (put (codes "-") ⊕ tight 5 a (write_expression a)) t
write_neg a t = ap (λ e. write_expression e t) (neg_tree a)

pub write_not : (a : Expr) (t : List ℕ)
    → write_expression (Not a) t ≡ (put (codes ".NOT.") ⊕ tight 3 a (write_expression a)) t
write_not a t = ap (λ e. write_expression e t) (not_tree a)

pub write_pow : (a : Expr) (n : ℕ) (t : List ℕ)
    → write_expression (Power a n) t ≡ (tight 7 a (write_expression a) ⊕ put (codes "**") ⊕ write_exponent n) t
write_pow a n t = ap (λ e. write_expression e t) (power_tree a n)

pub write_bin : (o : BinOp) (a b : Expr) (t : List ℕ)
    → write_expression (Bin o a b) t ≡
    (tight (tightness o) a (write_expression a) ⊕ put (operator o) ⊕ tight (tightness o + 1) b (write_expression b)) t
write_bin o a b t = ap (λ e. write_expression e t) (bin_tree o a b)

pub write_rel : (o : RelOp) (a b : Expr) (t : List ℕ)
    → write_expression (Rel o a b) t ≡
    (tight 4 a (write_expression a) ⊕ put (relation o) ⊕ tight 4 b (write_expression b)) t
write_rel o a b t = ap (λ e. write_expression e t) (rel_tree o a b)

pub write_and : (a b : Expr) (t : List ℕ)
    → write_expression (And a b) t ≡
    (tight 1 a (write_expression a) ⊕ put (codes ".AND.") ⊕ tight 2 b (write_expression b)) t
write_and a b t = ap (λ e. write_expression e t) (and_tree a b)

least : (n : ℕ) → nat_le 0 n ≡ true
least n = grind (arith, nat_tests)

pub write_or : (a b : Expr) (t : List ℕ)
    → write_expression (Or a b) t ≡
    (tight 0 a (write_expression a) ⊕ put (codes ".OR.") ⊕ tight 1 b (write_expression b)) t
write_or a b t =
    ap (λ e. write_expression e t) (or_tree a b)
    ∙ ap (λ o. o >>= (put (codes ".OR.") ⊕ tight 1 b (write_expression b)))
    (sym (when_true (nat_le 0 (binding a)) _ _ (least (binding a))))

-- two parts with an operator between them, by what code has of them
pub joined_written : (e : Expr) (k m : ℕ) (s t : List ℕ) (a b c d : Expr) (p q : ℕ) (r : List ℕ)
    → write_expression e t ≡ (tight k a (write_expression a) ⊕ put s ⊕ tight m b (write_expression b)) t
    → p ≡ k → c ≡ a → r ≡ s → q ≡ m → d ≡ b
    → write_expression e t ≡ (tight p c (write_expression c) ⊕ put r ⊕ tight q d (write_expression d)) t
joined_written e k m s t a b c d p q r whole i1 i2 i3 i4 i5 =
    whole ∙ sym (λ i. (tight (i1 i) (i2 i) (write_expression (i2 i)) ⊕ put (i3 i) ⊕ tight (i4 i) (i5 i)
    (write_expression (i5 i))) t)

-- the first of two failed
pub first_fails : (l : Lack) (v w : Writer) (t : List ℕ) (o : Option (List ℕ)) → o ≡ (v ⊕ w) t → Fails l (v t)
    → Fails l o
first_fails Memory v w t o whole h = tt
first_fails Spelling v w t o whole h = whole ∙ ap (λ x. x >>= w) h

-- the first of two was written
pub then_wrote : {A : Type 0} (r : Result A Lack) (new mid t : List ℕ) (v w : Writer) (o : Option (List ℕ))
    → o ≡ (v ⊕ w) t → v t ≡ Some mid → Wrote r new (w mid)
    → Wrote r new o
then_wrote r new mid t v w o whole first h = subst (Wrote r new) (sym (whole ∙ ap (λ x. x >>= w) first)) h

-- an element on the left side
pub write_left_apply : (x : Name) (es : List Expr) (t : List ℕ)
    → write_left (Apply x es) t ≡ (write_name x ⊕ in_round (write_list write_expression es)) t
write_left_apply x es t = write_apply x es t
