-- The sooner of two faults, and the first fault of a unit by one rule.
use Rattle.std.specs.Prelude.{ℕ, suc, ◌==◌, ◌&&◌, ◌||◌, nat_lt, nat_le, Bool, cond, List, [], ◌∷◌, Option, Some, None}
use Rattle.fort_syntax.specs.Rules.{rule_number}
use Rattle.fort_syntax.specs.declared.refusal.Fault.{Fault}
use Rattle.fort_syntax.specs.declared.rule.Rule.{Rule}
use Rattle.fort_syntax.specs.declared.stmt.Stmt.{Stmt}
use Rattle.fort_syntax.specs.declared.unit.Line.{Line}

-- a fault stands before another, or is it: its card is less, or it is the same and its number is at most the other's
abbrev pub comes_first : Fault → Fault → Bool
comes_first f g = nat_lt f.card g.card || ((f.card == g.card) && nat_le (rule_number f.rule) (rule_number g.rule))

abbrev pub sooner : Option Fault → Option Fault → Option Fault
sooner None other = other
sooner (Some f) None = Some f
sooner (Some f) (Some g) = cond (comes_first f g) (Some f) (Some g)

abbrev pub fault_at : Rule → ℕ → Fault
fault_at rule card = record { rule = rule; card = card }

-- the first statement that passes a test of its point breaks a rule; the first of these statements stands at the point pc
abbrev pub first_at : Rule → (ℕ → Stmt → Bool) → ℕ → List Line → Option Fault
first_at rule test pc [] = None
first_at rule test pc (line ∷ lines) = cond (test pc line.stmt) (Some (fault_at rule line.card))
    (first_at rule test (suc pc) lines)
