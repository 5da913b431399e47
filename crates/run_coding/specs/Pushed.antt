-- The instructions of an expression, as they are pushed.
use Rattle.std.specs.Prelude.{ℕ, suc, ◌+◌, Bool, true, false, cond, List, [], ◌∷◌, ◌++◌, length, unwrap_or, codes}
use mathlib.Core.Former.{Count}
use Rattle.formula.specs.Atoms.{same_bytes}
use Rattle.fort_syntax.specs.TreePatterns.{only}
use Rattle.fort_syntax.specs.Names.{Applied, applied}
use Rattle.fort_syntax.specs.Names as names_of
use Rattle.fort_syntax.specs.declared.name.Name.{Name}
use Rattle.fort_syntax.specs.declared.expr.Expr.{Expr, Row_of-Expr, end_of-Expr, more_of-Expr}
use Rattle.fort_syntax.specs.declared.expr.Expr.TheVariants as expr
use Rattle.fort_syntax.specs.declared.unit.Unit.{Unit as Routine}
use Rattle.fort_model.specs.Calls.{sites_in}
use Rattle.name_tables.specs.Tables.{first_of}
use Rattle.run_code.specs.Code as code
use Rattle.run_shapes.specs.declared.instr.Function.{Function}
use Rattle.run_shapes.specs.declared.instr.Function.TheVariants.{Absolute, Modulo, Greatest, Least}
use Rattle.run_shapes.specs.declared.instr.Instr.{Instr}
use Rattle.run_shapes.specs.declared.instr.Instr.TheVariants.{Number, Truth, Place, Load, Value, Negate, Raise, Operation, Comparison, Negation}
use Rattle.run_shapes.specs.declared.instr.Instr.TheVariants.{SkipFalse, Both, SkipTrue, Either, Array, BuiltIn, Refer}
use Rattle.run_slots.specs.Slotted.{slotted}

-- the first slot at which a name stands; 0 where it stands at none
abbrev pub slot_in : List Name → Name → ℕ
slot_in names x = unwrap_or (first_of (slotted names 0) x) 0

abbrev pub function_of : Name → Function
function_of f =
    cond (same_bytes f (codes "IABS")) Absolute
    (cond (same_bytes f (codes "MOD")) Modulo
    (cond (same_bytes f (codes "MAX0")) Greatest Least))

-- a name is read or only taken
abbrev pub name_pushed : List Name → Bool → Name → Instr
name_pushed names true x = Load (slot_in names x)
name_pushed names false x = Place (slot_in names x)

-- what stands behind the values in the brackets behind a name that is no call
abbrev pub closing : List Name → Bool → Name → Applied → ℕ → List Instr
closing names reads f (names_of.Element dims) n = Array (slot_in names f) n ∷ cond reads (Value ∷ []) []
closing names reads f (names_of.BuiltIn i) n = BuiltIn (function_of f) n ∷ []
closing names reads f names_of.Reference n = []

-- the instructions of an element, an intrinsic function or a call, by those of its arguments; a call stands at
-- a place of the table
abbrev pub applied_pushed : List Name → Bool → ℕ → Name → Applied → ℕ → List Instr → List Instr → List Instr
applied_pushed names reads place f (names_of.Element dims) n vs ws = vs ++ closing names reads f (names_of.Element dims) n
applied_pushed names reads place f (names_of.BuiltIn i) n vs ws = vs ++ closing names reads f (names_of.BuiltIn i) n
applied_pushed names reads place f names_of.Reference n vs ws = ws ++ Refer place ∷ []

-- the instructions of an expression, which is read for its value or only taken, with k calls before it
abbrev mutual
  pub pushed : Routine → List Name → Bool → ℕ → Expr → List Instr
  pushed u names reads k (expr.Const c) = Number c ∷ []
  pushed u names reads k (expr.Truth b) = Truth b ∷ []
  pushed u names reads k (expr.Var x) = name_pushed names reads x ∷ []
  pushed u names reads k (expr.Apply' f _ args) =
      applied_pushed names reads k f (applied u f) (code.count args) (values_pushed u names k args)
      (actuals_pushed u names (suc k) args)
  pushed u names reads k (expr.Paren' _ (only a)) = pushed u names true k a
  pushed u names reads k (expr.Pos' _ (only a)) = pushed u names true k a
  pushed u names reads k (expr.Neg' _ (only a)) = pushed u names true k a ++ Negate ∷ []
  pushed u names reads k (expr.Power' _ (only a) n) = pushed u names true k a ++ Raise n ∷ []
  pushed u names reads k (expr.Bin' o _ (only a) _ (only b)) =
      pushed u names true k a ++ (pushed u names true (k + length (sites_in u a)) b ++ Operation o ∷ [])
  pushed u names reads k (expr.Rel' o _ (only a) _ (only b)) =
      pushed u names true k a ++ (pushed u names true (k + length (sites_in u a)) b ++ Comparison o ∷ [])
  pushed u names reads k (expr.Not' _ (only a)) = pushed u names true k a ++ Negation ∷ []
  pushed u names reads k (expr.And' _ (only a) _ (only b)) =
      let right = pushed u names true (k + length (sites_in u a)) b in
      pushed u names true k a ++ (SkipFalse (suc (length right)) ∷ (right ++ Both ∷ []))
  pushed u names reads k (expr.Or' _ (only a) _ (only b)) =
      let right = pushed u names true (k + length (sites_in u a)) b in
      pushed u names true k a ++ (SkipTrue (suc (length right)) ∷ (right ++ Either ∷ []))

  pub values_pushed : Routine → List Name → ℕ → {m : Count} → Row_of-Expr m → List Instr
  values_pushed u names k end_of-Expr = []
  values_pushed u names k (more_of-Expr e es) = pushed u names true k e ++ values_pushed u names (k + length (sites_in u e)) es

  pub actuals_pushed : Routine → List Name → ℕ → {m : Count} → Row_of-Expr m → List Instr
  actuals_pushed u names k end_of-Expr = []
  actuals_pushed u names k (more_of-Expr e es) = pushed u names false k e ++ actuals_pushed u names (k + length (sites_in u e)) es

-- the same for lists of expressions
abbrev pub values_listed : Routine → List Name → ℕ → List Expr → List Instr
values_listed u names k [] = []
values_listed u names k (e ∷ es) = pushed u names true k e ++ values_listed u names (k + length (sites_in u e)) es

abbrev pub actuals_listed : Routine → List Name → ℕ → List Expr → List Instr
actuals_listed u names k [] = []
actuals_listed u names k (e ∷ es) = pushed u names false k e ++ actuals_listed u names (k + length (sites_in u e)) es
