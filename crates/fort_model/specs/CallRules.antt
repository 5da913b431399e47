-- The rules on calls: whether a call in a unit breaks one.
use Rattle.std.specs.Prelude.{ℕ, suc, ◌==◌, Bool, true, false, not, ◌&&◌, ◌||◌, List, [], ◌∷◌, ◌++◌, Option, Some, None, slice_get}
use Rattle.std.specs.List.{list_any, filter}
use Rattle.formula.specs.Atoms.{same_bytes, is_among}
use Rattle.fort_syntax.specs.Names.{has_common, commons}
use Rattle.fort_syntax.specs.declared.name.Name.{Name}
use Rattle.fort_syntax.specs.declared.expr.Expr.{Expr}
use Rattle.fort_syntax.specs.declared.expr.Expr.TheVariants.{Var}
use Rattle.fort_syntax.specs.declared.stmt.BlockName.{BlockName}
use Rattle.fort_syntax.specs.declared.stmt.BlockName.TheVariants.{Named}
use Rattle.fort_syntax.specs.declared.stmt.Stmt.{Stmt}
use Rattle.fort_syntax.specs.declared.unit.Unit.{Unit as Routine}
use Rattle.fort_model.specs.Arguments.{mentions, actuals_fit, reference_fits}
use Rattle.fort_model.specs.Calls.{CallSite, sites_of, callee_of}
use Rattle.fort_model.specs.Program.{Program, is_smashed}
use Rattle.fort_model.specs.Smashes.{set_by}

abbrev pub in_unit : Option Routine → (Routine → Bool) → Bool
in_unit None test = false
in_unit (Some g) test = test g

-- a test of a call by the called unit and its number; where there is none it says no
abbrev pub of_unit : Program → Option ℕ → (ℕ → Routine → Bool) → Bool
of_unit p None test = false
of_unit p (Some j) test = in_unit (slice_get p.units j) (test j)

-- ---- 38: a call of no unit

abbrev pub is_nobody : Option ℕ → Bool
is_nobody None = true
is_nobody (Some j) = false

-- ---- 40: actuals that don't match

abbrev pub mismatches : Routine → CallSite → ℕ → Routine → Bool
mismatches u site j g = not (actuals_fit u g site.actuals) || not (reference_fits u g site.reference)

-- ---- 41 to 43: smashed dummies and COMMON entities

abbrev pub is_bare_name : Expr → Bool
is_bare_name (Var x) = true
is_bare_name _ = false

-- the actual of some smashed dummy passes a test, with its number, counted from 0
abbrev pub some_smashed : (Name → Bool) → (ℕ → Expr → Bool) → ℕ → List Name → List Expr → Bool
some_smashed smashed test n [] es = false
some_smashed smashed test n (d ∷ ds) [] = false
some_smashed smashed test n (d ∷ ds) (e ∷ es) = (smashed d && test n e) || some_smashed smashed test (suc n) ds es

-- a name stands in another actual than that of number n
abbrev pub stands_elsewhere : ℕ → Name → ℕ → List Expr → Bool
stands_elsewhere n x k [] = false
stands_elsewhere n x k (e ∷ es) = (not (k == n) && mentions e x) || stands_elsewhere n x (suc k) es

abbrev pub bare_elsewhere : List Expr → ℕ → Expr → Bool
bare_elsewhere all n (Var x) = stands_elsewhere n x 0 all
bare_elsewhere all n _ = false

-- the actual of a smashed dummy is no bare name
abbrev pub passes_no_name : Program → CallSite → ℕ → Routine → Bool
passes_no_name p site j g = some_smashed (is_smashed p j) (λ n e. not (is_bare_name e)) 0 g.dummies site.actuals

-- the actual of a smashed dummy stands in another actual too
abbrev pub passes_twice : Program → CallSite → ℕ → Routine → Bool
passes_twice p site j g = some_smashed (is_smashed p j) (bare_elsewhere site.actuals) 0 g.dummies site.actuals

abbrev pub is_bare_common : Routine → Routine → Expr → Bool
is_bare_common u g (Var x) = has_common u x && has_common g x
is_bare_common u g _ = false

-- the COMMON entities of both units that the called one smashes
abbrev pub smashed_commons : Program → Routine → ℕ → Routine → List Name
smashed_commons p u j g = filter (λ x. has_common g x && is_smashed p j x) (commons u)

-- an actual contains a COMMON entity that the called unit smashes, or that of a smashed dummy is one that the unit has too
abbrev pub passes_common : Program → Routine → CallSite → ℕ → Routine → Bool
passes_common p u site j g =
    list_any (λ x. list_any (λ e. mentions e x) site.actuals) (smashed_commons p u j g)
    || some_smashed (is_smashed p j) (λ n e. is_bare_common u g e) 0 g.dummies site.actuals

-- ---- 44: COMMON blocks

abbrev pub same_block : BlockName → BlockName → Bool
same_block (Named x) (Named y) = same_bytes x y
same_block (Named x) _ = false
same_block _ (Named y) = false
same_block _ _ = true

abbrev pub declares : Routine → BlockName → Bool
declares u b = list_any (λ group. same_block group.block b) u.blocks

-- the called unit declares a block that the caller does not
abbrev pub lacks_block : Routine → ℕ → Routine → Bool
lacks_block u j g = list_any (λ group. not (declares u group.block)) g.blocks

-- ---- what a statement smashes

abbrev pub bare_name : Bool → Expr → List Name
bare_name true (Var x) = x ∷ []
bare_name _ _ = []

abbrev pub bare_names : (Name → Bool) → List Name → List Expr → List Name
bare_names smashed [] es = []
bare_names smashed (d ∷ ds) [] = []
bare_names smashed (d ∷ ds) (e ∷ es) = bare_name (smashed d) e ++ bare_names smashed ds es

abbrev pub smashed_at : Program → Routine → CallSite → Name → ℕ → Routine → Bool
smashed_at p u site x j g = is_among x (bare_names (is_smashed p j) g.dummies site.actuals) || is_among x
    (smashed_commons p u j g)

-- a statement sets a name, or a call in it smashes the name
abbrev pub stmt_smashes : Program → Routine → Stmt → Name → Bool
stmt_smashes p u s x = is_among x (set_by s) || list_any (λ site. of_unit p (callee_of p.units site)
    (smashed_at p u site x)) (sites_of u s)

-- ---- the calls of a statement

-- some call of a statement breaks a rule on the unit that it is of
abbrev pub some_call : Program → Routine → Stmt → (CallSite → ℕ → Routine → Bool) → Bool
some_call p u s breaks = list_any (λ site. of_unit p (callee_of p.units site) (breaks site)) (sites_of u s)
