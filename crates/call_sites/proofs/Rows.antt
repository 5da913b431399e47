-- The calls in what stands in the brackets behind a name.
use Rattle.std.proofs.Common.{◌≡◌, List, [], ◌∷◌, ◌++◌, ℕ, refl, ap, sym, ◌∙◌, append_assoc}
use Rattle.std.specs.Prelude.{Bool, flat_map, false}
use Rattle.fort_model.specs.Calls.{CallSite, own_site, sites_in, sites_in_row, sites_of}
use Rattle.fort_syntax.specs.Names.{applied}
use Rattle.fort_syntax.specs.TreePatterns.{listed, row_of}
use Rattle.fort_syntax.specs.declared.name.Name.{Name}
use Rattle.fort_syntax.specs.declared.expr.Expr.{Expr, Row_of-Expr, end_of-Expr, more_of-Expr, items-the_row-Expr, items_hidden-the_row-Expr-0}
use Rattle.fort_syntax.specs.declared.expr.Expr.TheViews as view
use Rattle.fort_syntax.specs.declared.stmt.Stmt.{Stmt}
use Rattle.fort_syntax.specs.declared.stmt.Stmt.TheVariants.{Call}
use Rattle.fort_syntax.specs.declared.stmt.Stmt.TheViews as stmt
use Rattle.fort_syntax.specs.declared.dialect.BinOp.{BinOp}
use Rattle.fort_syntax.specs.declared.dialect.RelOp.{RelOp}
use Rattle.fort_syntax.specs.declared.unit.Unit.{Unit as Routine}
use Rattle.fort_syntax.specs.declared.expr.Expr.TheBlock.{hidden-the_row-Expr-0}

-- a call
abbrev pub call_site : Bool → Name → List Expr → CallSite
call_site reference callee actuals = record { reference = reference; callee = callee; actuals = actuals }

sites_in_items : (u : Routine) {m : _} (row : Row_of-Expr m) → sites_in_row u row ≡ flat_map (sites_in u) (items-the_row-Expr _ row)
sites_in_items u end_of-Expr = refl
sites_in_items u (more_of-Expr e rest) = ap (λ sites. sites_in u e ++ sites) (sites_in_items u rest)

listed_items : {m : _} (row : Row_of-Expr m) → listed row ≡ items-the_row-Expr _ row
listed_items end_of-Expr = refl
listed_items (more_of-Expr e rest) = ap (λ es. e ∷ es) (listed_items rest)

listed_is : (args : List Expr) → listed (hidden-the_row-Expr-0 args) ≡ args
listed_is args = listed_items (hidden-the_row-Expr-0 args) ∙ items_hidden-the_row-Expr-0 args

row_sites : (u : Routine) (args : List Expr) → sites_in_row u (hidden-the_row-Expr-0 args) ≡ flat_map (sites_in u) args
row_sites u args = sites_in_items u (hidden-the_row-Expr-0 args) ∙ ap (flat_map (sites_in u)) (items_hidden-the_row-Expr-0 args)

pub in_apply : (u : Routine) (f : Name) (args : List Expr)
    → sites_in u (view.Apply f args) ≡ own_site (applied u f) f args ++ flat_map (sites_in u) args
in_apply u f args = λ i. own_site (applied u f) f (listed_is args i) ++ row_sites u args i

-- the actuals of a CALL
called_row : (u : Routine) (args : List Expr) → sites_in_row u (row_of args) ≡ flat_map (sites_in u) args
called_row u [] = refl
called_row u (e ∷ es) = ap (λ sites. sites_in u e ++ sites) (called_row u es)

pub in_call : (u : Routine) (f : Name) (args : List Expr)
    → sites_of u (Call f args) ≡ record { reference = false; callee = f; actuals = args } ∷ flat_map (sites_in u) args
in_call u f args = λ i. record { reference = false; callee = f; actuals = args } ∷ called_row u args i

pub in_paren : (u : Routine) (a : Expr) → sites_in u (view.Paren a) ≡ sites_in u a
unfolding Rattle.fort_syntax.specs.declared.expr.Expr.TheBlock.hidden-the_row-Expr-0 Rattle.fort_syntax.specs.declared.expr.Expr.TheBlock.hidden-the_row-Expr-1 denote.Hole.Carrier.hidden
in_paren u a = refl

pub in_pos : (u : Routine) (a : Expr) → sites_in u (view.Pos a) ≡ sites_in u a
unfolding Rattle.fort_syntax.specs.declared.expr.Expr.TheBlock.hidden-the_row-Expr-0 Rattle.fort_syntax.specs.declared.expr.Expr.TheBlock.hidden-the_row-Expr-1 denote.Hole.Carrier.hidden
in_pos u a = refl

pub in_neg : (u : Routine) (a : Expr) → sites_in u (view.Neg a) ≡ sites_in u a
unfolding Rattle.fort_syntax.specs.declared.expr.Expr.TheBlock.hidden-the_row-Expr-0 Rattle.fort_syntax.specs.declared.expr.Expr.TheBlock.hidden-the_row-Expr-1 denote.Hole.Carrier.hidden
in_neg u a = refl

pub in_not : (u : Routine) (a : Expr) → sites_in u (view.Not a) ≡ sites_in u a
unfolding Rattle.fort_syntax.specs.declared.expr.Expr.TheBlock.hidden-the_row-Expr-0 Rattle.fort_syntax.specs.declared.expr.Expr.TheBlock.hidden-the_row-Expr-1 denote.Hole.Carrier.hidden
in_not u a = refl

pub in_power : (u : Routine) (a : Expr) (n : ℕ) → sites_in u (view.Power a n) ≡ sites_in u a
unfolding Rattle.fort_syntax.specs.declared.expr.Expr.TheBlock.hidden-the_row-Expr-0 Rattle.fort_syntax.specs.declared.expr.Expr.TheBlock.hidden-the_row-Expr-1 denote.Hole.Carrier.hidden
in_power u a n = refl

pub in_bin : (u : Routine) (o : BinOp) (a b : Expr) → sites_in u (view.Bin o a b) ≡ sites_in u a ++ sites_in u b
unfolding Rattle.fort_syntax.specs.declared.expr.Expr.TheBlock.hidden-the_row-Expr-0 Rattle.fort_syntax.specs.declared.expr.Expr.TheBlock.hidden-the_row-Expr-1 denote.Hole.Carrier.hidden
in_bin u o a b = refl

pub in_rel : (u : Routine) (o : RelOp) (a b : Expr) → sites_in u (view.Rel o a b) ≡ sites_in u a ++ sites_in u b
unfolding Rattle.fort_syntax.specs.declared.expr.Expr.TheBlock.hidden-the_row-Expr-0 Rattle.fort_syntax.specs.declared.expr.Expr.TheBlock.hidden-the_row-Expr-1 denote.Hole.Carrier.hidden
in_rel u o a b = refl

pub in_and : (u : Routine) (a b : Expr) → sites_in u (view.And a b) ≡ sites_in u a ++ sites_in u b
unfolding Rattle.fort_syntax.specs.declared.expr.Expr.TheBlock.hidden-the_row-Expr-0 Rattle.fort_syntax.specs.declared.expr.Expr.TheBlock.hidden-the_row-Expr-1 denote.Hole.Carrier.hidden
in_and u a b = refl

pub in_or : (u : Routine) (a b : Expr) → sites_in u (view.Or a b) ≡ sites_in u a ++ sites_in u b
unfolding Rattle.fort_syntax.specs.declared.expr.Expr.TheBlock.hidden-the_row-Expr-0 Rattle.fort_syntax.specs.declared.expr.Expr.TheBlock.hidden-the_row-Expr-1 denote.Hole.Carrier.hidden
in_or u a b = refl

pub in_carried : (u : Routine) (e : Expr) (s : Stmt) → sites_of u (stmt.LogicalIf e s) ≡ sites_in u e ++ sites_of u s
unfolding Rattle.fort_syntax.specs.declared.stmt.Stmt.TheBlock.hidden-the_row-Stmt-0 denote.Hole.Carrier.hidden
in_carried u e s = refl

-- two lists behind another one
pub ended : {X : Type 0} (old mid first second whole : List X) → mid ≡ old ++ first → whole ≡ first ++ second → mid ++ second ≡ old ++ whole
ended old mid first second whole m w = ap (λ xs. xs ++ second) m ∙ append_assoc old first second ∙ ap (λ xs. old ++ xs) (sym w)
