-- One pass over the expressions of a statement tests them all.
use Rattle.std.proofs.Common.{◌≡◌, ℕ, Bool, true, false, List, [], ◌∷◌, ◌++◌, refl, sym, ap, ◌∙◌}
use Rattle.std.specs.Prelude.{◌&&◌, not, cond, flat_map, Some, None}
use Rattle.std.specs.List.{list_all}
use Rattle.fort_syntax.specs.CardRules.{fault_or}
use Rattle.fort_syntax.specs.Scopes.{Scope}
use Rattle.fort_syntax.specs.OrderRules.{places_in, places_from, places}
use Rattle.fort_syntax.specs.TreePatterns.{only, carried}
use Rattle.fort_syntax.specs.TypeRules.{gives_logical, has_fit_operands, has_fit_places, has_plain_subscripts, all_plain_subscripts, is_well_typed}
use Rattle.fort_syntax.specs.UnitRules.{type_rules, fault_in_stage, fault_before}
use Rattle.fort_syntax.specs.Units.{Segment, scope_of}
use Rattle.fort_syntax.specs.Uses.{parts, parts_of_row, expressions}
use Rattle.fort_syntax.specs.declared.dialect.BinOp.{BinOp}
use Rattle.fort_syntax.specs.declared.dialect.Dialect.{Dialect}
use Rattle.fort_syntax.specs.declared.dialect.RelOp.{RelOp}
use Rattle.fort_syntax.specs.declared.name.Name.{Name}
use Rattle.fort_syntax.specs.declared.expr.Expr.{Expr, Row_of-Expr, end_of-Expr, more_of-Expr, items-the_row-Expr, items_hidden-the_row-Expr-0}
use Rattle.fort_syntax.specs.declared.expr.Expr.TheBlock.{hidden-the_row-Expr-0}
use Rattle.fort_syntax.specs.declared.expr.Expr.TheVariants.{Const, Truth, Var, Apply', Paren', Pos', Neg', Power', Bin', Rel', Not', And', Or'}
use Rattle.fort_syntax.specs.declared.expr.Expr.TheViews as view
use Rattle.fort_syntax.specs.declared.rule.Rule.TheVariants.{BadType}
use Rattle.fort_syntax.specs.declared.stmt.Stmt.{Stmt}
use Rattle.fort_syntax.specs.declared.stmt.Stmt.TheVariants as of
use Rattle.fort_syntax.specs.declared.stmt.Stmt.TheViews as stmt
use Rattle.fort_syntax.specs.declared.unit.Line.{Line}
use Rattle.type_faults.specs.declared.fitting.Check.TheVariants.{Operands, Subscripts}
use Rattle.type_faults.specs.Parts.{test_by, inner, holds, stmt_holds, type_scan, type_scans}
use Rattle.order_faults.proofs.OrderScans.{fault_in_both}

and_assoc : (a b c : Bool) → ((a && b) && c) ≡ (a && (b && c))
and_assoc true b c = refl
and_assoc false b c = refl

all_both : (test : Expr → Bool) (xs ys : List Expr) → list_all test (xs ++ ys) ≡ (list_all test xs && list_all test ys)
all_both test [] ys = refl
all_both test (x ∷ xs) ys = ap (λ b. test x && b) (all_both test xs ys) ∙ sym (and_assoc (test x) (list_all test xs) (list_all test ys))

parts_are : (test : Expr → Bool) (e : Expr) → holds test e ≡ (test e && list_all test (inner e))
parts_are test (Const n) = refl
parts_are test (Truth b) = refl
parts_are test (Var x) = refl
parts_are test (Apply' f m args) = refl
parts_are test (Paren' m (only a)) = refl
parts_are test (Pos' m (only a)) = refl
parts_are test (Neg' m (only a)) = refl
parts_are test (Power' m (only a) n) = refl
parts_are test (Bin' o m (only a) n (only b)) = refl
parts_are test (Rel' o m (only a) n (only b)) = refl
parts_are test (Not' m (only a)) = refl
parts_are test (And' m (only a) n (only b)) = refl
parts_are test (Or' m (only a) n (only b)) = refl

row_holds : (test : Expr → Bool) {m : _} (row : Row_of-Expr m) → list_all test (parts_of_row row) ≡ list_all (holds test) (items-the_row-Expr _ row)
row_holds test end_of-Expr = refl
row_holds test (more_of-Expr e rest) = all_both test (parts e) (parts_of_row rest) ∙ ap (λ b. holds test e && b) (row_holds test rest)

pub inner_apply : (test : Expr → Bool) (f : Name) (args : List Expr) → list_all test (inner (view.Apply f args)) ≡ list_all (holds test) args
inner_apply test f args = row_holds test (hidden-the_row-Expr-0 args) ∙ ap (list_all (holds test)) (items_hidden-the_row-Expr-0 args)

pub inner_paren : (test : Expr → Bool) (a : Expr) → list_all test (inner (view.Paren a)) ≡ holds test a
unfolding Rattle.fort_syntax.specs.declared.expr.Expr.TheBlock.hidden-the_row-Expr-0 Rattle.fort_syntax.specs.declared.expr.Expr.TheBlock.hidden-the_row-Expr-1 denote.Hole.Carrier.hidden
inner_paren test a = refl

pub inner_pos : (test : Expr → Bool) (a : Expr) → list_all test (inner (view.Pos a)) ≡ holds test a
unfolding Rattle.fort_syntax.specs.declared.expr.Expr.TheBlock.hidden-the_row-Expr-0 Rattle.fort_syntax.specs.declared.expr.Expr.TheBlock.hidden-the_row-Expr-1 denote.Hole.Carrier.hidden
inner_pos test a = refl

pub inner_neg : (test : Expr → Bool) (a : Expr) → list_all test (inner (view.Neg a)) ≡ holds test a
unfolding Rattle.fort_syntax.specs.declared.expr.Expr.TheBlock.hidden-the_row-Expr-0 Rattle.fort_syntax.specs.declared.expr.Expr.TheBlock.hidden-the_row-Expr-1 denote.Hole.Carrier.hidden
inner_neg test a = refl

pub inner_not : (test : Expr → Bool) (a : Expr) → list_all test (inner (view.Not a)) ≡ holds test a
unfolding Rattle.fort_syntax.specs.declared.expr.Expr.TheBlock.hidden-the_row-Expr-0 Rattle.fort_syntax.specs.declared.expr.Expr.TheBlock.hidden-the_row-Expr-1 denote.Hole.Carrier.hidden
inner_not test a = refl

pub inner_power : (test : Expr → Bool) (a : Expr) (n : ℕ) → list_all test (inner (view.Power a n)) ≡ holds test a
unfolding Rattle.fort_syntax.specs.declared.expr.Expr.TheBlock.hidden-the_row-Expr-0 Rattle.fort_syntax.specs.declared.expr.Expr.TheBlock.hidden-the_row-Expr-1 denote.Hole.Carrier.hidden
inner_power test a n = refl

pub inner_bin : (test : Expr → Bool) (o : BinOp) (a b : Expr) → list_all test (inner (view.Bin o a b)) ≡ (holds test a && holds test b)
unfolding Rattle.fort_syntax.specs.declared.expr.Expr.TheBlock.hidden-the_row-Expr-0 Rattle.fort_syntax.specs.declared.expr.Expr.TheBlock.hidden-the_row-Expr-1 denote.Hole.Carrier.hidden
inner_bin test o a b = all_both test (parts a) (parts b)

pub inner_rel : (test : Expr → Bool) (o : RelOp) (a b : Expr) → list_all test (inner (view.Rel o a b)) ≡ (holds test a && holds test b)
unfolding Rattle.fort_syntax.specs.declared.expr.Expr.TheBlock.hidden-the_row-Expr-0 Rattle.fort_syntax.specs.declared.expr.Expr.TheBlock.hidden-the_row-Expr-1 denote.Hole.Carrier.hidden
inner_rel test o a b = all_both test (parts a) (parts b)

pub inner_and : (test : Expr → Bool) (a b : Expr) → list_all test (inner (view.And a b)) ≡ (holds test a && holds test b)
unfolding Rattle.fort_syntax.specs.declared.expr.Expr.TheBlock.hidden-the_row-Expr-0 Rattle.fort_syntax.specs.declared.expr.Expr.TheBlock.hidden-the_row-Expr-1 denote.Hole.Carrier.hidden
inner_and test a b = all_both test (parts a) (parts b)

pub inner_or : (test : Expr → Bool) (a b : Expr) → list_all test (inner (view.Or a b)) ≡ (holds test a && holds test b)
unfolding Rattle.fort_syntax.specs.declared.expr.Expr.TheBlock.hidden-the_row-Expr-0 Rattle.fort_syntax.specs.declared.expr.Expr.TheBlock.hidden-the_row-Expr-1 denote.Hole.Carrier.hidden
inner_or test a b = all_both test (parts a) (parts b)

-- what was well before, here, and in what is inside
pub one_inside : (test : Expr → Bool) (e : Expr) (ok here inside result : Bool) → here ≡ (ok && test e) → list_all test (inner e) ≡ inside
    → result ≡ (here && inside) → result ≡ (ok && holds test e)
one_inside test e ok here inside result h i r =
    r ∙ (λ j. h j && sym i j) ∙ and_assoc ok (test e) (list_all test (inner e)) ∙ ap (λ b. ok && b) (sym (parts_are test e))

pub two_inside : (test : Expr → Bool) (e : Expr) (ok here x y first result : Bool) → here ≡ (ok && test e) → list_all test (inner e) ≡ (x && y)
    → first ≡ (here && x) → result ≡ (first && y) → result ≡ (ok && holds test e)
two_inside test e ok here x y first result h i f r =
    one_inside test e ok here (x && y) result h i (r ∙ ap (λ b. b && y) f ∙ and_assoc here x y)

and_true : (a : Bool) → (a && true) ≡ a
and_true true = refl
and_true false = refl

pub held_by_if : (test : Expr → Bool) (e : Expr) (s : Stmt) → stmt_holds test (stmt.LogicalIf e s) ≡ (holds test e && stmt_holds test s)
unfolding Rattle.fort_syntax.specs.declared.stmt.Stmt.TheBlock.hidden-the_row-Stmt-0 denote.Hole.Carrier.hidden
held_by_if test e s = refl

pub places_by_if : (scope : Scope) (e : Expr) (s : Stmt) → has_fit_places scope (stmt.LogicalIf e s) ≡ (gives_logical scope e && has_fit_places scope s)
unfolding Rattle.fort_syntax.specs.declared.stmt.Stmt.TheBlock.hidden-the_row-Stmt-0 denote.Hole.Carrier.hidden
places_by_if scope e s = refl

parts_all : (test : Expr → Bool) (es : List Expr) → list_all test (flat_map parts es) ≡ list_all (holds test) es
parts_all test [] = refl
parts_all test (e ∷ es) = all_both test (parts e) (flat_map parts es) ∙ ap (λ b. holds test e && b) (parts_all test es)

pub stmt_held : (test : Expr → Bool) (s : Stmt) → stmt_holds test s ≡ list_all (holds test) (expressions s)
stmt_held test (of.Assign left right) = ap (λ b. holds test left && b) (sym (and_true (holds test right)))
stmt_held test (of.ArithIf e l m n) = sym (and_true (holds test e))
stmt_held test (of.LogicalIf' e _ (carried s)) = ap (λ b. holds test e && b) (stmt_held test s)
stmt_held test (of.Call f args) = refl
stmt_held test (of.BlockIf e) = sym (and_true (holds test e))
stmt_held test (of.ElseIf e) = sym (and_true (holds test e))
stmt_held test (of.Subroutine f ds) = refl
stmt_held test (of.Function sort f ds) = refl
stmt_held test (of.Declare sort items) = refl
stmt_held test (of.Dimension items) = refl
stmt_held test (of.Common groups) = refl
stmt_held test (of.GoTo l) = refl
stmt_held test (of.Computed ls x) = refl
stmt_held test (of.Do l x a b c) = refl
stmt_held test of.Continue = refl
stmt_held test of.Return = refl
stmt_held test of.End = refl
stmt_held test of.Else = refl
stmt_held test of.EndIf = refl

pub well_typed : (scope : Scope) (s : Stmt) → (has_fit_places scope s && stmt_holds (test_by Operands scope) s) ≡ is_well_typed scope s
well_typed scope s =
    ap (λ b. has_fit_places scope s && b) (stmt_held (has_fit_operands scope) s ∙ sym (parts_all (has_fit_operands scope) (expressions s)))

pub all_plain : (scope : Scope) (s : Stmt) → stmt_holds (test_by Subscripts scope) s ≡ all_plain_subscripts scope s
all_plain scope s = stmt_held (has_plain_subscripts scope) s ∙ sym (parts_all (has_plain_subscripts scope) (expressions s))

scanned : (dialect : Dialect) (earlier : List Segment) (unit before lines : List Line)
    → fault_in_stage type_rules (places_in dialect earlier unit before lines) ≡ type_scan (scope_of unit) lines
scanned dialect earlier unit before [] = refl
scanned dialect earlier unit before (line ∷ lines) =
    ap (fault_or (cond (not (is_well_typed (scope_of unit) line.stmt)) (Some BadType) None) line.card)
    (scanned dialect earlier unit (before ++ line ∷ []) lines)

scanned_units : (dialect : Dialect) (earlier units : List Segment) → fault_in_stage type_rules (places_from dialect earlier units) ≡ type_scans units
scanned_units dialect earlier [] = refl
scanned_units dialect earlier (unit ∷ units) =
    fault_in_both type_rules (places_in dialect earlier unit [] unit) (places_from dialect (earlier ++ unit ∷ []) units)
    ∙ ap (λ f. fault_before f (fault_in_stage type_rules (places_from dialect (earlier ++ unit ∷ []) units))) (scanned dialect earlier unit [] unit)
    ∙ ap (fault_before (type_scan (scope_of unit) unit)) (scanned_units dialect (earlier ++ unit ∷ []) units)

-- the first fault of a deck is found unit by unit
pub types_found : (dialect : Dialect) (units : List Segment) → fault_in_stage type_rules (places dialect units) ≡ type_scans units
types_found dialect units = scanned_units dialect [] units
