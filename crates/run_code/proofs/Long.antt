-- How long code is.
use Rattle.std.proofs.Common.{◌≡◌, ℕ, suc, ◌+◌, Bool, true, false, cond, List, ◌∷◌, length, arith}
use mathlib.Core.Former.{Count}
use Rattle.fort_syntax.specs.TreePatterns.{only}
use Rattle.fort_syntax.specs.Names.{Applied, Element, BuiltIn, Reference, applied, function}
use Rattle.fort_syntax.specs.declared.name.Name.{Name}
use Rattle.fort_syntax.specs.declared.expr.Expr.{Expr, Row_of-Expr, end_of-Expr, more_of-Expr}
use Rattle.fort_syntax.specs.declared.expr.Expr.TheVariants.{Const, Truth, Var, Apply', Paren', Pos', Neg', Power', Bin', Rel', Not', And', Or'}
use Rattle.fort_syntax.specs.declared.unit.Unit.{Unit as Routine}
use Rattle.fort_model.specs.Sites.{calls_in}
use Rattle.run_code.specs.Code.{Instr, value, negate, raise, operation, comparison, negation, skip_false, both, skip_true, either, array, built_in, refer, count, size_by, size, values_size, actuals_size, code_by, code, values_code, actuals_code, CodeIsSoLong}

read_long : (reads : Bool) (is : List Instr) → length (cond reads (value ∷ is) is) ≡ cond reads 1 0 + length is
read_long true is = omega arith
read_long false is = omega arith

by_long : (units : List Routine) (reads : Bool) (k : ℕ) (f : Name) (a : Applied) (n v w : ℕ) (vs ws : List Instr → List Instr) (is : List Instr)
    → ((is : List Instr) → length (vs is) ≡ v + length is) → ((is : List Instr) → length (ws is) ≡ w + length is)
    → length (code_by units reads k f a n vs ws is) ≡ size_by reads a v w + length is
by_long units reads k f (Element dims) n v w vs ws is p q =
    let js = array f dims n ∷ cond reads (value ∷ is) is in
    let a : length (vs js) ≡ v + length js = p js in
    let b : length (cond reads (value ∷ is) is) ≡ cond reads 1 0 + length is = read_long reads is in
    omega arith
by_long units reads k f (BuiltIn i) n v w vs ws is p q =
    let a : length (vs (built_in i n ∷ is)) ≡ v + length (built_in i n ∷ is) = p (built_in i n ∷ is) in
    omega arith
by_long units reads k f Reference n v w vs ws is p q =
    let a : length (ws (refer (suc k) (function units f) n ∷ is)) ≡ w + length (refer (suc k) (function units f) n ∷ is) = q (refer (suc k) (function units f) n ∷ is) in
    omega arith

one_more : (x y l : ℕ) → x ≡ y + suc l → x ≡ suc y + l
one_more x y l h = omega arith

two : (x y z w l : ℕ) → x ≡ y + w → w ≡ z + suc l → x ≡ y + suc z + l
two x y z w l h g = omega arith

split : (x y z w l : ℕ) → x ≡ y + suc w → w ≡ z + suc l → x ≡ suc y + suc z + l
split x y z w l h g = omega arith

module _ (u : Routine) (units : List Routine) where
  mutual
    long : (reads : Bool) (k : ℕ) (e : Expr) (is : List Instr) → length (code u units reads k e is) ≡ size u reads e + length is
    long reads k (Const c) is = omega arith
    long reads k (Truth b) is = omega arith
    long reads k (Var x) is = omega arith
    long reads k (Apply' f _ args) is =
        by_long units reads k f (applied u f) (count args) (values_size u args) (actuals_size u args) (values_code u units k args) (actuals_code u units (suc k) args) is
        (λ is. values_long k args is) (λ is. actuals_long (suc k) args is)
    long reads k (Paren' _ (only a)) is = long true k a is
    long reads k (Pos' _ (only a)) is = long true k a is
    long reads k (Neg' _ (only a)) is = one_more _ (size u true a) (length is) (long true k a (negate ∷ is))
    long reads k (Power' _ (only a) n) is = one_more _ (size u true a) (length is) (long true k a (raise n ∷ is))
    long reads k (Bin' o _ (only a) _ (only b)) is =
        let js = code u units true (k + calls_in u a) b (operation o ∷ is) in
        two _ (size u true a) (size u true b) (length js) (length is) (long true k a js) (long true (k + calls_in u a) b (operation o ∷ is))
    long reads k (Rel' o _ (only a) _ (only b)) is =
        let js = code u units true (k + calls_in u a) b (comparison o ∷ is) in
        two _ (size u true a) (size u true b) (length js) (length is) (long true k a js) (long true (k + calls_in u a) b (comparison o ∷ is))
    long reads k (Not' _ (only a)) is = one_more _ (size u true a) (length is) (long true k a (negation ∷ is))
    long reads k (And' _ (only a) _ (only b)) is =
        let js = code u units true (k + calls_in u a) b (both ∷ is) in
        split _ (size u true a) (size u true b) (length js) (length is) (long true k a (skip_false (suc (size u true b)) ∷ js)) (long true (k + calls_in u a) b (both ∷ is))
    long reads k (Or' _ (only a) _ (only b)) is =
        let js = code u units true (k + calls_in u a) b (either ∷ is) in
        split _ (size u true a) (size u true b) (length js) (length is) (long true k a (skip_true (suc (size u true b)) ∷ js)) (long true (k + calls_in u a) b (either ∷ is))

    values_long : (k : ℕ) {m : Count} (es : Row_of-Expr m) (is : List Instr) → length (values_code u units k es is) ≡ values_size u es + length is
    values_long k end_of-Expr is = omega arith
    values_long k (more_of-Expr e es) is =
        let js = values_code u units (k + calls_in u e) es is in
        let h : length (code u units true k e js) ≡ size u true e + length js = long true k e js in
        let g : length js ≡ values_size u es + length is = values_long (k + calls_in u e) es is in
        omega arith

    actuals_long : (k : ℕ) {m : Count} (es : Row_of-Expr m) (is : List Instr) → length (actuals_code u units k es is) ≡ actuals_size u es + length is
    actuals_long k end_of-Expr is = omega arith
    actuals_long k (more_of-Expr e es) is =
        let js = actuals_code u units (k + calls_in u e) es is in
        let h : length (code u units false k e js) ≡ size u false e + length js = long false k e js in
        let g : length js ≡ actuals_size u es + length is = actuals_long (k + calls_in u e) es is in
        omega arith

pub code_is_so_long : CodeIsSoLong
code_is_so_long u units reads k e is = long u units reads k e is
