-- The pushed instructions of expressions by their forms.
use Rattle.std.proofs.Common.{◌≡◌, ℕ, suc, ◌+◌, Bool, true, false, List, [], ◌∷◌, ◌++◌, length, refl, ap, ◌∙◌, arith}
use Rattle.fort_syntax.specs.Names.{applied}
use Rattle.fort_syntax.specs.declared.name.Name.{Name}
use Rattle.fort_syntax.specs.declared.expr.Expr.{Expr, Row_of-Expr, end_of-Expr, more_of-Expr, items-the_row-Expr, items_hidden-the_row-Expr-0}
use Rattle.fort_syntax.specs.declared.expr.Expr.TheViews as view
use Rattle.fort_syntax.specs.declared.expr.Expr.TheBlock.{hidden-the_row-Expr-0}
use Rattle.fort_syntax.specs.declared.dialect.BinOp.{BinOp}
use Rattle.fort_syntax.specs.declared.dialect.RelOp.{RelOp}
use Rattle.fort_syntax.specs.declared.unit.Unit.{Unit as Routine}
use Rattle.fort_model.specs.Calls.{CallSite, callee_of, sites_in}
use Rattle.run_code.specs.Code.{count}
use Rattle.run_shapes.specs.Coded.{calls_coded}
use Rattle.run_shapes.specs.declared.instr.Instr.TheVariants.{Negate, Raise, Operation, Comparison, Negation, SkipFalse, Both, SkipTrue, Either}
use Rattle.run_coding.specs.Pushed.{actuals_listed, actuals_pushed, applied_pushed, pushed, values_listed, values_pushed}

-- ---- calls that are listed one behind the other

pub listed_long : (units : List Routine) (k : ℕ) (sites : List CallSite) → length (calls_coded units k sites) ≡ length sites
listed_long units k [] = refl
listed_long units k (s ∷ ss) = ap suc (listed_long units (suc k) ss)

none_more : (k : ℕ) → k ≡ k + 0
none_more k = omega arith

next_number : (k n : ℕ) → suc k + n ≡ k + suc n
next_number k n = omega arith

pub listed_both : (units : List Routine) (k : ℕ) (xs ys : List CallSite) → calls_coded units k (xs ++ ys) ≡ calls_coded units k xs ++ calls_coded units (k + length xs) ys
listed_both units k [] ys = ap (λ n. calls_coded units n ys) (none_more k)
listed_both units k (x ∷ xs) ys =
    ap (λ cs. record { number = k; callee = callee_of units x; actuals = length x.actuals } ∷ cs)
    (listed_both units (suc k) xs ys ∙ ap (λ n. calls_coded units (suc k) xs ++ calls_coded units n ys) (next_number k (length xs)))

-- ---- rows and lists

values_items : (u : Routine) (names : List Name) (k : ℕ) {m : _} (row : Row_of-Expr m) → values_pushed u names k row ≡ values_listed u names k (items-the_row-Expr _ row)
values_items u names k end_of-Expr = refl
values_items u names k (more_of-Expr e rest) = ap (λ is. pushed u names true k e ++ is) (values_items u names (k + length (sites_in u e)) rest)

actuals_items : (u : Routine) (names : List Name) (k : ℕ) {m : _} (row : Row_of-Expr m) → actuals_pushed u names k row ≡ actuals_listed u names k (items-the_row-Expr _ row)
actuals_items u names k end_of-Expr = refl
actuals_items u names k (more_of-Expr e rest) = ap (λ is. pushed u names false k e ++ is) (actuals_items u names (k + length (sites_in u e)) rest)

count_items : {m : _} (row : Row_of-Expr m) → count row ≡ length (items-the_row-Expr _ row)
count_items end_of-Expr = refl
count_items (more_of-Expr e rest) = ap suc (count_items rest)

pub in_apply : (u : Routine) (names : List Name) (reads : Bool) (k : ℕ) (f : Name) (args : List Expr)
    → pushed u names reads k (view.Apply f args) ≡ applied_pushed names reads k f (applied u f) (length args) (values_listed u names k args) (actuals_listed u names (suc k) args)
in_apply u names reads k f args =
    λ i. applied_pushed names reads k f (applied u f)
    ((count_items (hidden-the_row-Expr-0 args) ∙ ap length (items_hidden-the_row-Expr-0 args)) i)
    ((values_items u names k (hidden-the_row-Expr-0 args) ∙ ap (values_listed u names k) (items_hidden-the_row-Expr-0 args)) i)
    ((actuals_items u names (suc k) (hidden-the_row-Expr-0 args) ∙ ap (actuals_listed u names (suc k)) (items_hidden-the_row-Expr-0 args)) i)

pub in_paren : (u : Routine) (names : List Name) (reads : Bool) (k : ℕ) (a : Expr) → pushed u names reads k (view.Paren a) ≡ pushed u names true k a
unfolding Rattle.fort_syntax.specs.declared.expr.Expr.TheBlock.hidden-the_row-Expr-0 Rattle.fort_syntax.specs.declared.expr.Expr.TheBlock.hidden-the_row-Expr-1 denote.Hole.Carrier.hidden
in_paren u names reads k a = refl

pub in_pos : (u : Routine) (names : List Name) (reads : Bool) (k : ℕ) (a : Expr) → pushed u names reads k (view.Pos a) ≡ pushed u names true k a
unfolding Rattle.fort_syntax.specs.declared.expr.Expr.TheBlock.hidden-the_row-Expr-0 Rattle.fort_syntax.specs.declared.expr.Expr.TheBlock.hidden-the_row-Expr-1 denote.Hole.Carrier.hidden
in_pos u names reads k a = refl

pub in_neg : (u : Routine) (names : List Name) (reads : Bool) (k : ℕ) (a : Expr) → pushed u names reads k (view.Neg a) ≡ pushed u names true k a ++ Negate ∷ []
unfolding Rattle.fort_syntax.specs.declared.expr.Expr.TheBlock.hidden-the_row-Expr-0 Rattle.fort_syntax.specs.declared.expr.Expr.TheBlock.hidden-the_row-Expr-1 denote.Hole.Carrier.hidden
in_neg u names reads k a = refl

pub in_not : (u : Routine) (names : List Name) (reads : Bool) (k : ℕ) (a : Expr) → pushed u names reads k (view.Not a) ≡ pushed u names true k a ++ Negation ∷ []
unfolding Rattle.fort_syntax.specs.declared.expr.Expr.TheBlock.hidden-the_row-Expr-0 Rattle.fort_syntax.specs.declared.expr.Expr.TheBlock.hidden-the_row-Expr-1 denote.Hole.Carrier.hidden
in_not u names reads k a = refl

pub in_power : (u : Routine) (names : List Name) (reads : Bool) (k : ℕ) (a : Expr) (n : ℕ) → pushed u names reads k (view.Power a n) ≡ pushed u names true k a ++ Raise n ∷ []
unfolding Rattle.fort_syntax.specs.declared.expr.Expr.TheBlock.hidden-the_row-Expr-0 Rattle.fort_syntax.specs.declared.expr.Expr.TheBlock.hidden-the_row-Expr-1 denote.Hole.Carrier.hidden
in_power u names reads k a n = refl

pub in_bin : (u : Routine) (names : List Name) (reads : Bool) (k : ℕ) (o : BinOp) (a b : Expr) → pushed u names reads k (view.Bin o a b) ≡ pushed u names true k a ++ (pushed u names true (k + length (sites_in u a)) b ++ Operation o ∷ [])
unfolding Rattle.fort_syntax.specs.declared.expr.Expr.TheBlock.hidden-the_row-Expr-0 Rattle.fort_syntax.specs.declared.expr.Expr.TheBlock.hidden-the_row-Expr-1 denote.Hole.Carrier.hidden
in_bin u names reads k o a b = refl

pub in_rel : (u : Routine) (names : List Name) (reads : Bool) (k : ℕ) (o : RelOp) (a b : Expr) → pushed u names reads k (view.Rel o a b) ≡ pushed u names true k a ++ (pushed u names true (k + length (sites_in u a)) b ++ Comparison o ∷ [])
unfolding Rattle.fort_syntax.specs.declared.expr.Expr.TheBlock.hidden-the_row-Expr-0 Rattle.fort_syntax.specs.declared.expr.Expr.TheBlock.hidden-the_row-Expr-1 denote.Hole.Carrier.hidden
in_rel u names reads k o a b = refl

pub in_and : (u : Routine) (names : List Name) (reads : Bool) (k : ℕ) (a b : Expr) → pushed u names reads k (view.And a b) ≡ pushed u names true k a ++ (SkipFalse (suc (length (pushed u names true (k + length (sites_in u a)) b))) ∷ (pushed u names true (k + length (sites_in u a)) b ++ Both ∷ []))
unfolding Rattle.fort_syntax.specs.declared.expr.Expr.TheBlock.hidden-the_row-Expr-0 Rattle.fort_syntax.specs.declared.expr.Expr.TheBlock.hidden-the_row-Expr-1 denote.Hole.Carrier.hidden
in_and u names reads k a b = refl

pub in_or : (u : Routine) (names : List Name) (reads : Bool) (k : ℕ) (a b : Expr) → pushed u names reads k (view.Or a b) ≡ pushed u names true k a ++ (SkipTrue (suc (length (pushed u names true (k + length (sites_in u a)) b))) ∷ (pushed u names true (k + length (sites_in u a)) b ++ Either ∷ []))
unfolding Rattle.fort_syntax.specs.declared.expr.Expr.TheBlock.hidden-the_row-Expr-0 Rattle.fort_syntax.specs.declared.expr.Expr.TheBlock.hidden-the_row-Expr-1 denote.Hole.Carrier.hidden
in_or u names reads k a b = refl
