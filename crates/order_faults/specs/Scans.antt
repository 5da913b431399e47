-- What one pass over the statements of a unit finds.
use Rattle.std.specs.Prelude.{ℕ, suc, ◌&&◌, ◌||◌, not, Bool, true, false, cond, List, [], ◌∷◌, Option, Some, None}
use Rattle.fort_syntax.specs.CardRules.{fault_or}
use Rattle.fort_syntax.specs.UnitRules.{fault_before}
use Rattle.fort_syntax.specs.Units.{Segment, class_of, is_heading, is_declaring, is_performing, is_ending}
use Rattle.fort_syntax.specs.OrderRules.{is_empty}
use Rattle.fort_syntax.specs.declared.class.Class.{Class}
use Rattle.fort_syntax.specs.declared.class.Class.TheVariants.{Heading, Declaring, Performing, Ending}
use Rattle.fort_syntax.specs.declared.refusal.Fault.{Fault}
use Rattle.fort_syntax.specs.declared.rule.Rule.{Rule}
use Rattle.fort_syntax.specs.declared.rule.Rule.TheVariants.{StatementOrder, NoHead, NoEnd}
use Rattle.fort_syntax.specs.declared.unit.Line.{Line}

abbrev pub size_with : Class → ℕ → ℕ
size_with Ending rest = 1
size_with Heading rest = suc rest
size_with Declaring rest = suc rest
size_with Performing rest = suc rest

-- how many statements stand up to the first END, with it, or in all where there is none
abbrev pub unit_size : List Line → ℕ
unit_size [] = 0
unit_size (line ∷ lines) = size_with (class_of line.stmt) (unit_size lines)

-- the first of the rules on the order of statements that a statement breaks, by what it is, whether it is
-- the first of its unit, whether an executable statement stands before it, and whether it is the last
abbrev pub order_rule : Class → Bool → Bool → Bool → Option Rule
order_rule class first performed last =
    cond ((is_heading class && not first) || (is_declaring class && performed)) (Some StatementOrder)
    (cond (first && not (is_heading class)) (Some NoHead)
    (cond (last && not (is_ending class)) (Some NoEnd) None))

-- the first fault of statements by these rules, behind others of their unit
abbrev pub order_scan : Bool → Bool → List Line → Option Fault
order_scan first performed [] = None
order_scan first performed (line ∷ lines) =
    fault_or (order_rule (class_of line.stmt) first performed (is_empty lines)) line.card
    (order_scan false (performed || is_performing (class_of line.stmt)) lines)

-- the first fault of units by these rules
abbrev pub order_scans : List Segment → Option Fault
order_scans [] = None
order_scans (unit ∷ units) = fault_before (order_scan true false unit) (order_scans units)
