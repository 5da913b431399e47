-- The rule on smashed names that is told of each head and each statement.
use Rattle.std.specs.Prelude.{ℕ, Bool, Option, Some, None}
use Rattle.fort_syntax.specs.declared.refusal.Fault.{Fault}
use Rattle.fort_syntax.specs.declared.rule.Rule.{Rule}
use Rattle.fort_syntax.specs.declared.rule.Rule.TheVariants.{SmashedNotName, SmashedTwice, SmashedCommon, FunctionSmashes, DimensionSmashed}
use Rattle.fort_syntax.specs.declared.stmt.Stmt.{Stmt}
use Rattle.fort_syntax.specs.declared.unit.Unit.{Unit as Routine}
use Rattle.fort_model.specs.CallRules.{of_unit, some_call, passes_no_name, passes_twice, passes_common}
use Rattle.fort_model.specs.Calls.{CallSite, callee_of}
use Rattle.fort_model.specs.Program.{Program}
use Rattle.fort_model.specs.Rules.{function_smashes, dim_smashed}
use Rattle.stage_faults.specs.Scans.{first_of_two, first_of_three, first_in_unit, first_in_units}

-- a call breaks 41, 42, or 43
abbrev pub is_no_name : Program → CallSite → Bool
is_no_name p site = of_unit p (callee_of p.units site) (passes_no_name p site)

abbrev pub is_twice : Program → CallSite → Bool
is_twice p site = of_unit p (callee_of p.units site) (passes_twice p site)

abbrev pub is_common : Program → Routine → CallSite → Bool
is_common p u site = of_unit p (callee_of p.units site) (passes_common p u site)

abbrev pub told_of_call : Bool → Bool → Bool → Option Rule
told_of_call no_name twice common = first_of_three SmashedNotName SmashedTwice SmashedCommon no_name twice common

-- the first of 41 to 43 that some call of a statement breaks
abbrev pub stmt_rule : Program → Routine → Stmt → Option Rule
stmt_rule p u s = told_of_call (some_call p u s (passes_no_name p)) (some_call p u s (passes_twice p))
    (some_call p u s (passes_common p u))

-- the first of 45 and 49 that a unit breaks
abbrev pub head_rule : Program → ℕ → Routine → Option Rule
head_rule p i u = first_of_two FunctionSmashes DimensionSmashed (function_smashes p i u) (dim_smashed p i u)

-- the first fault of the unit of a number, where there is one
abbrev pub fault_if_any : Program → ℕ → Option Routine → Option Fault
fault_if_any p i None = None
fault_if_any p i (Some u) = first_in_unit (head_rule p i u) (stmt_rule p u) u

-- the first fault of a program in what its calls smash
abbrev pub first_smash_fault : Program → Option Fault
first_smash_fault p = first_in_units (head_rule p) (stmt_rule p) 0 p.units
