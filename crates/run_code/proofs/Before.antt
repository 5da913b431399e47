-- Code stands before other code as it stands before none.
use Rattle.std.proofs.Common.{◌≡◌, ℕ, suc, ◌+◌, Bool, true, false, cond, List, ◌∷◌, ◌++◌, refl, ap, ◌∙◌}
use mathlib.Core.Former.{Count}
use Rattle.fort_syntax.specs.TreePatterns.{only}
use Rattle.fort_syntax.specs.Names.{Applied, Element, BuiltIn, Reference, applied, function}
use Rattle.fort_syntax.specs.declared.name.Name.{Name}
use Rattle.fort_syntax.specs.declared.expr.Expr.{Expr, Row_of-Expr, end_of-Expr, more_of-Expr}
use Rattle.fort_syntax.specs.declared.expr.Expr.TheVariants.{Const, Truth, Var, Apply', Paren', Pos', Neg', Power', Bin', Rel', Not', And', Or'}
use Rattle.fort_syntax.specs.declared.unit.Unit.{Unit as Routine}
use Rattle.fort_model.specs.Sites.{calls_in}
use Rattle.run_code.specs.Code.{Instr, value, negate, raise, operation, comparison, negation, skip_false, both, skip_true, either, array, built_in, refer, count, size, code_by, code, values_code, actuals_code, CodeStandsBefore}

read_before : (reads : Bool) (is js : List Instr) → cond reads (value ∷ (is ++ js)) (is ++ js) ≡ cond reads (value ∷ is) is ++ js
read_before true is js = refl
read_before false is js = refl

by_before : (units : List Routine) (reads : Bool) (k : ℕ) (f : Name) (a : Applied) (n : ℕ) (vs ws : List Instr → List Instr) (is js : List Instr)
    → ((is : List Instr) → vs (is ++ js) ≡ vs is ++ js) → ((is : List Instr) → ws (is ++ js) ≡ ws is ++ js)
    → code_by units reads k f a n vs ws (is ++ js) ≡ code_by units reads k f a n vs ws is ++ js
by_before units reads k f (Element dims) n vs ws is js p q =
    ap (λ ks. vs (array f dims n ∷ ks)) (read_before reads is js) ∙ p (array f dims n ∷ cond reads (value ∷ is) is)
by_before units reads k f (BuiltIn i) n vs ws is js p q = p (built_in i n ∷ is)
by_before units reads k f Reference n vs ws is js p q = q (refer (suc k) (function units f) n ∷ is)

module _ (u : Routine) (units : List Routine) where
  mutual
    before : (reads : Bool) (k : ℕ) (e : Expr) (is js : List Instr) → code u units reads k e (is ++ js) ≡ code u units reads k e is ++ js
    before reads k (Const c) is js = refl
    before reads k (Truth b) is js = refl
    before reads k (Var x) is js = refl
    before reads k (Apply' f _ args) is js =
        by_before units reads k f (applied u f) (count args) (values_code u units k args) (actuals_code u units (suc k) args) is js
        (λ is. values_before k args is js) (λ is. actuals_before (suc k) args is js)
    before reads k (Paren' _ (only a)) is js = before true k a is js
    before reads k (Pos' _ (only a)) is js = before true k a is js
    before reads k (Neg' _ (only a)) is js = before true k a (negate ∷ is) js
    before reads k (Power' _ (only a) n) is js = before true k a (raise n ∷ is) js
    before reads k (Bin' o _ (only a) _ (only b)) is js =
        ap (code u units true k a) (before true (k + calls_in u a) b (operation o ∷ is) js) ∙ before true k a (code u units true (k + calls_in u a) b (operation o ∷ is)) js
    before reads k (Rel' o _ (only a) _ (only b)) is js =
        ap (code u units true k a) (before true (k + calls_in u a) b (comparison o ∷ is) js) ∙ before true k a (code u units true (k + calls_in u a) b (comparison o ∷ is)) js
    before reads k (Not' _ (only a)) is js = before true k a (negation ∷ is) js
    before reads k (And' _ (only a) _ (only b)) is js =
        let c = skip_false (suc (size u true b)) in
        ap (λ ks. code u units true k a (c ∷ ks)) (before true (k + calls_in u a) b (both ∷ is) js) ∙ before true k a (c ∷ code u units true (k + calls_in u a) b (both ∷ is)) js
    before reads k (Or' _ (only a) _ (only b)) is js =
        let c = skip_true (suc (size u true b)) in
        ap (λ ks. code u units true k a (c ∷ ks)) (before true (k + calls_in u a) b (either ∷ is) js) ∙ before true k a (c ∷ code u units true (k + calls_in u a) b (either ∷ is)) js

    values_before : (k : ℕ) {m : Count} (es : Row_of-Expr m) (is js : List Instr) → values_code u units k es (is ++ js) ≡ values_code u units k es is ++ js
    values_before k end_of-Expr is js = refl
    values_before k (more_of-Expr e es) is js =
        ap (code u units true k e) (values_before (k + calls_in u e) es is js) ∙ before true k e (values_code u units (k + calls_in u e) es is) js

    actuals_before : (k : ℕ) {m : Count} (es : Row_of-Expr m) (is js : List Instr) → actuals_code u units k es (is ++ js) ≡ actuals_code u units k es is ++ js
    actuals_before k end_of-Expr is js = refl
    actuals_before k (more_of-Expr e es) is js =
        ap (code u units false k e) (actuals_before (k + calls_in u e) es is js) ∙ before false k e (actuals_code u units (k + calls_in u e) es is) js

pub code_stands_before : CodeStandsBefore
code_stands_before u units reads k e is js = before u units reads k e is js
