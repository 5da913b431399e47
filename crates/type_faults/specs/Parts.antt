-- Tests of all expressions in a statement.
use Rattle.std.specs.Prelude.{◌&&◌, not, Bool, true, cond, List, [], ◌∷◌, ◌++◌, Option, Some, None}
use Rattle.std.specs.List.{list_all}
use Rattle.fort_syntax.specs.CardRules.{fault_or}
use Rattle.fort_syntax.specs.Scopes.{Scope}
use Rattle.fort_syntax.specs.TreePatterns.{only, carried}
use Rattle.fort_syntax.specs.TypeRules.{has_fit_operands, has_plain_subscripts, is_well_typed}
use Rattle.fort_syntax.specs.UnitRules.{fault_before}
use Rattle.fort_syntax.specs.Units.{Segment, scope_of}
use Rattle.fort_syntax.specs.Uses.{parts, parts_of_row}
use Rattle.fort_syntax.specs.declared.expr.Expr.{Expr}
use Rattle.fort_syntax.specs.declared.expr.Expr.TheVariants.{Const, Truth, Var, Apply', Paren', Pos', Neg', Power', Bin', Rel', Not', And', Or'}
use Rattle.fort_syntax.specs.declared.refusal.Fault.{Fault}
use Rattle.fort_syntax.specs.declared.rule.Rule.TheVariants.{BadType}
use Rattle.fort_syntax.specs.declared.stmt.Stmt.{Stmt}
use Rattle.fort_syntax.specs.declared.stmt.Stmt.TheVariants.{Assign, ArithIf, LogicalIf', Call, BlockIf, ElseIf}
use Rattle.fort_syntax.specs.declared.unit.Line.{Line}
use Rattle.type_faults.specs.declared.fitting.Check.{Check}
use Rattle.type_faults.specs.declared.fitting.Check.TheVariants.{Operands, Subscripts}

abbrev pub test_by : Check → Scope → Expr → Bool
test_by Operands scope e = has_fit_operands scope e
test_by Subscripts scope e = has_plain_subscripts scope e

-- the expressions in an expression but itself
abbrev pub inner : Expr → List Expr
inner (Const n) = []
inner (Truth b) = []
inner (Var x) = []
inner (Apply' f m args) = parts_of_row args
inner (Paren' m (only a)) = parts a
inner (Pos' m (only a)) = parts a
inner (Neg' m (only a)) = parts a
inner (Power' m (only a) n) = parts a
inner (Bin' o m (only a) n (only b)) = parts a ++ parts b
inner (Rel' o m (only a) n (only b)) = parts a ++ parts b
inner (Not' m (only a)) = parts a
inner (And' m (only a) n (only b)) = parts a ++ parts b
inner (Or' m (only a) n (only b)) = parts a ++ parts b

-- a test holds of an expression and of all expressions in it
abbrev pub holds : (Expr → Bool) → Expr → Bool
holds test e = list_all test (parts e)

-- a test holds of all expressions in a statement
abbrev pub stmt_holds : (Expr → Bool) → Stmt → Bool
stmt_holds test (Assign left right) = holds test left && holds test right
stmt_holds test (ArithIf e l m n) = holds test e
stmt_holds test (LogicalIf' e _ (carried s)) = holds test e && stmt_holds test s
stmt_holds test (Call f args) = list_all (holds test) args
stmt_holds test (BlockIf e) = holds test e
stmt_holds test (ElseIf e) = holds test e
stmt_holds test _ = true

-- the first fault of statements by the rule on types
abbrev pub type_scan : Scope → List Line → Option Fault
type_scan scope [] = None
type_scan scope (line ∷ lines) =
    fault_or (cond (not (is_well_typed scope line.stmt)) (Some BadType) None) line.card (type_scan scope lines)

abbrev pub type_scans : List Segment → Option Fault
type_scans [] = None
type_scans (unit ∷ units) = fault_before (type_scan (scope_of unit) unit) (type_scans units)
