-- The first fault of a stage that is judged at the heads and at the statements of units, in their order.
use Rattle.std.specs.Prelude.{ℕ, ◌+◌, ◌≤◌, Bool, cond, List, [], ◌∷◌, Option, Some, None}
use Rattle.fort_syntax.specs.CardRules.{fault_or}
use Rattle.fort_syntax.specs.Rules.{rule_number}
use Rattle.fort_syntax.specs.UnitRules.{fault_before}
use Rattle.fort_syntax.specs.declared.refusal.Fault.{Fault}
use Rattle.fort_syntax.specs.declared.rule.Rule.{Rule}
use Rattle.fort_syntax.specs.declared.stmt.Stmt.{Stmt}
use Rattle.fort_syntax.specs.declared.unit.Line.{Line}
use Rattle.fort_syntax.specs.declared.unit.Unit.{Unit as Routine}

-- the first fault of statements, by the rule that is told of each
abbrev pub first_at_lines : (Stmt → Option Rule) → List Line → Option Fault
first_at_lines at [] = None
first_at_lines at (line ∷ lines) = fault_or (at line.stmt) line.card (first_at_lines at lines)

-- the first fault of a unit, by the rule that is told of its head, and of each of its statements
abbrev pub first_in_unit : Option Rule → (Stmt → Option Rule) → Routine → Option Fault
first_in_unit head at u = fault_or head u.head (first_at_lines at u.lines)

-- the first fault of units, the first of which has the number i
abbrev pub first_in_units : (ℕ → Routine → Option Rule) → (Routine → Stmt → Option Rule) → ℕ → List Routine → Option Fault
first_in_units head at i [] = None
first_in_units head at i (u ∷ us) = fault_before (first_in_unit (head i u) (at u) u) (first_in_units head at (i + 1) us)

-- a rule is told, and its number is at most that of another one
abbrev pub IsUpTo : Option Rule → Rule → Type 0
IsUpTo None rule = ⊥
IsUpTo (Some told) rule = rule_number told ≤ rule_number rule

-- the first of two rules, and of three, that is broken
abbrev pub first_of_two : (a b : Rule) (x y : Bool) → Option Rule
first_of_two a b x y = cond x (Some a) (cond y (Some b) None)

abbrev pub first_of_three : (a b c : Rule) (x y z : Bool) → Option Rule
first_of_three a b c x y z = cond x (Some a) (first_of_two b c y z)
