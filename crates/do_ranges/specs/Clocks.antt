-- Clocks by the notes that were read.
use Rattle.std.specs.Prelude.{ℕ, min, ◌==◌, ◌||◌, not, nat_lt, Bool, cond, List, [], ◌∷◌, length, Option, Some, None}
use Rattle.fort_syntax.specs.declared.refusal.Fault.{Fault}
use Rattle.fort_syntax.specs.declared.rule.Rule.TheVariants.{ClockLength}
use Rattle.fort_notes.specs.declared.notes.AssertSpec.{AssertSpec}
use Rattle.unit_faults.specs.Sooner.{fault_at}

-- a clock is ill where another number of parts is wanted
abbrev pub is_ill_clock : ℕ → AssertSpec → Bool
is_ill_clock parts a = (length a.clock == 0) || (nat_lt 4 (length a.clock) || not (length a.clock == parts))

-- the lesser of a card and one that there may be
abbrev pub lesser : Option ℕ → ℕ → ℕ
lesser None card = card
lesser (Some best) card = min best card

-- the least card of the ASSERTs with ill clocks, and one from before
abbrev pub least_ill : ℕ → List AssertSpec → Option ℕ → Option ℕ
least_ill parts [] best = best
least_ill parts (a ∷ rest) best = least_ill parts rest (cond (is_ill_clock parts a) (Some (lesser best a.card)) best)

abbrev pub parts_of_first : List AssertSpec → ℕ
parts_of_first [] = 0
parts_of_first (a ∷ rest) = length a.clock

abbrev pub clock_fault_at : Option ℕ → Option Fault
clock_fault_at None = None
clock_fault_at (Some card) = Some (fault_at ClockLength card)

abbrev pub clock_fault : List AssertSpec → Option Fault
clock_fault asserts = clock_fault_at (least_ill (parts_of_first asserts) asserts None)
