-- What one instruction does: where the flow goes on, with which stack and storage. It takes no step.
use Rattle.std.specs.Prelude.{ℕ, suc, ◌≡◌, true, false, cond, not, ◌&&◌, ◌||◌, ℤ, neg_ℤ, pos, ◌+ℤ◌, ◌-ℤ◌, int_le, int_lt, List, [], ◌∷◌, length, drop, Option, Some, None}
use Rattle.formula.specs.Values.{count, is_between}
use Rattle.formula.specs.declared.value.Cell.{Cell}
use Rattle.formula.specs.declared.value.Cell.TheVariants.{Int, Logical}
use Rattle.fort_syntax.specs.Names.{unit_at, is_function}
use Rattle.fort_syntax.specs.declared.name.Name.{Name}
use Rattle.fort_syntax.specs.declared.condition.Kind.{Kind}
use Rattle.fort_syntax.specs.declared.condition.Kind.TheVariants.{ChoiceCheck, LoopCheck}
use Rattle.fort_syntax.specs.declared.dialect.Dialect.{Dialect}
use Rattle.fort_syntax.specs.declared.dialect.Dialect.TheVariants.{Common, SeventySeven}
use Rattle.fort_syntax.specs.declared.unit.Unit.{Unit as Routine}
use Rattle.fort_model.specs.Cells.{num, holds, same, compares}
use Rattle.fort_model.specs.Storage.{Storage, store}
use Rattle.fort_model.specs.Outcome.{Outcome, Ended, Erred, Running, Act, ◌>>=◌, ◌>>◌, check, step}
use Rattle.fort_model.specs.Passing.{Taken, Cells, Fresh, Passed, passed, Caller, call_unit}
use Rattle.fort_model.specs.Evaluate.{Scene, read, value_of, ranged, constant, operate, power, intrinsic_value, element}
use Rattle.fort_model.specs.Perform.{variable, step_value, parameter, left_with, tests, assign, result}
use Rattle.fort_model.specs.Flow.{Loop, chosen, through}
use Rattle.run_code.specs.Code.{Instr, number, one, truth, place, load, value, negate, raise, operation, comparison, negation, skip_false, both, skip_true, either, array, built_in, refer, forget, assigned, test_loops, jump, turn, signs, ways, choose, begin_do, result_of, stop, top, below, cells_of, first_of, second_of, third_of, newest, under, led_to, exec}

-- Where an instruction leads.
pub data Move : Type 0 where
  -- on with code, a stack and storage
  on : List Instr → List Taken → Storage → Move
  -- on to a point
  to_point : ℕ → List Taken → Storage → Move
  -- to a carried statement, which takes a step
  to_carried : List Instr → List Taken → Storage → Move
  -- to tests of DOs, at a card, before the flow goes on at a point
  to_tests : ℕ → ℕ → List Loop → List Taken → Storage → Move
  -- to the call of a number, of a unit, with so many actuals, which stand at the top of the stack; and the code behind it
  to_call : ℕ → Routine → ℕ → List Instr → List Taken → Storage → Move
  -- an error, at a card
  to_error : Kind → ℕ → Storage → Move
  -- what never ends
  to_nothing : Storage → Move

-- the actuals of the call of a number, of which so many stand at the top of the stack, as they are passed
abbrev pub passed_on : Scene → ℕ → ℕ → List Taken → List Passed
passed_on s k m xs = passed (s.processor.copies s.unit.name k) 1 (newest m xs [])

-- what a move comes to with a stock of steps
abbrev pub goes_by : {A : Type 0} → Scene → Caller → ℕ → (ℕ → List Taken → Act A) → Move → ℕ → Outcome A
goes_by s run card next (on is xs st) n = exec s run card next is 0 xs st n
goes_by s run card next (to_point q xs st) n = next q xs st n
goes_by s run card next (to_carried is xs st) n = (step >> exec s run card next is 0 xs) st n
goes_by s run card next (to_tests c q ds xs st) n = (tests s c ds >>= (λ cs. led_to (through q ds cs) (λ p. next p xs))) st n
goes_by s run card next (to_call k g m is xs st) n = (call_unit run s.environment g (passed_on s k m xs) >>=
    (λ v. exec s run card next is 0 (Fresh v ∷ under m xs))) st n
goes_by s run card next (to_error kind c st) n = Erred kind c st
goes_by s run card next (to_nothing st) n = Running st

-- on from what a part without steps came to
abbrev pub settled : {B : Type 0} → Outcome B → (B → Storage → Move) → Move
settled (Ended b st n) then = then b st
settled (Erred kind c st) then = to_error kind c st
settled (Running st) then = to_nothing st

-- on to a point, where there is one
abbrev pub to_chosen : Option ℕ → List Taken → Storage → Move
to_chosen None xs st = to_nothing st
to_chosen (Some q) xs st = to_point q xs st

-- to the call of a unit, where there is one
abbrev pub calling : ℕ → Option Routine → ℕ → List Instr → List Taken → Storage → Move
calling k None m is xs st = to_nothing st
calling k (Some g) m is xs st = to_call k g m is xs st

-- a computed GO TO by a number; without 77 it must count a label
abbrev pub choosing : Dialect → ℕ → List ℕ → ℤ → List Instr → List Taken → Storage → Move
choosing Common card qs i is xs st = settled (check ChoiceCheck card (is_between (pos 1) (pos (length qs)) i) st 0)
    (λ _ st. to_chosen (chosen qs (count i)) xs st)
choosing SeventySeven card qs i is xs st = cond (is_between (pos 1) (pos (length qs)) i)
    (to_chosen (chosen qs (count i)) xs st) (on is xs st)

-- the beginning of a DO
abbrev pub beginning : Dialect → Scene → ℕ → Name → ℕ → ℤ → ℤ → ℤ → List Instr → List Taken → Storage → Move
beginning Common s card x q m1 m2 m3 is xs st =
    settled (check LoopCheck card (int_le (pos 1) m1 && (int_le m1 m2 && int_le (pos 1) m3)) st 0)
    (λ _ st. to_point q xs (store st (s.environment x).first (Int m1)))
beginning SeventySeven s card x q m1 m2 m3 is xs st =
    settled (check LoopCheck card (int_le (pos 1) m3) st 0)
    (λ _ st.
    settled (ranged s.processor card (m2 -ℤ m1) st 0)
    (λ _ st.
    settled (ranged s.processor card (m2 -ℤ m1 +ℤ m3) st 0)
    (λ _ st.
    cond (int_le m1 m2) (to_point q xs (store st (s.environment x).first (Int m1)))
    (on is xs (store st (s.environment x).first (Int m1))))))

-- what an instruction at a card does, before other code, on a stack and storage
abbrev pub moved : Scene → ℕ → Instr → List Instr → List Taken → Storage → Move
moved s card (number c) is xs st = settled (constant s.processor card c st 0) (λ v st. on is (Fresh v ∷ xs) st)
moved s card one is xs st = on is (Fresh (Int (pos 1)) ∷ xs) st
moved s card (truth b) is xs st = on is (Fresh (Logical b) ∷ xs) st
moved s card (place x) is xs st = on is (Cells (s.environment x) ∷ xs) st
moved s card (load x) is xs st = settled (read card (s.environment x).first st 0) (λ v st. on is (Fresh v ∷ xs) st)
moved s card value is xs st = settled (value_of card (top xs) st 0) (λ v st. on is (Fresh v ∷ below xs) st)
moved s card negate is xs st = settled (ranged s.processor card (neg_ℤ (num (first_of xs))) st 0)
    (λ v st. on is (Fresh v ∷ below xs) st)
moved s card (raise n) is xs st = settled (power s.processor card (num (first_of xs)) n st 0)
    (λ v st. on is (Fresh v ∷ below xs) st)
moved s card (operation o) is xs st = settled (operate s.processor card o (second_of xs) (first_of xs) st 0)
    (λ v st. on is (Fresh v ∷ below (below xs)) st)
moved s card (comparison o) is xs st = on is (Fresh (Logical (compares o (second_of xs) (first_of xs))) ∷ below (below xs)) st
moved s card negation is xs st = on is (Fresh (Logical (not (holds (first_of xs)))) ∷ below xs) st
moved s card (skip_false k) is xs st = cond (s.processor.lazy && not (holds (first_of xs)))
    (on (drop k is) (Fresh (Logical false) ∷ below xs) st) (on is xs st)
moved s card both is xs st = on is (Fresh (Logical (holds (second_of xs) && holds (first_of xs))) ∷ below (below xs)) st
moved s card (skip_true k) is xs st = cond (s.processor.lazy && holds (first_of xs))
    (on (drop k is) (Fresh (Logical true) ∷ below xs) st) (on is xs st)
moved s card either is xs st = on is (Fresh (Logical (holds (second_of xs) || holds (first_of xs))) ∷ below (below xs)) st
moved s card (array f dims n) is xs st = settled (element s.environment card (s.environment f) dims
    (cells_of (newest n xs [])) st 0) (λ x st. on is (x ∷ under n xs) st)
moved s card (built_in i n) is xs st = settled (intrinsic_value s.processor card i (cells_of (newest n xs [])) st 0)
    (λ v st. on is (Fresh v ∷ under n xs) st)
moved s card (refer k callee n) is xs st = calling k (unit_at s.units callee) n is xs st
moved s card forget is xs st = on is (below xs) st
moved s card assigned is xs st = settled (assign (top xs) (second_of xs) st 0) (λ _ st. on is (below (below xs)) st)
moved s card (test_loops c q ds) is xs st = to_tests c q ds xs st
moved s card (jump q) is xs st = to_point q xs st
moved s card turn is xs st = cond (holds (first_of xs)) (to_carried (drop 1 is) (below xs) st) (on is (below xs) st)
moved s card (signs l m r) is xs st = to_point (cond (int_lt (num (first_of xs)) (pos 0)) l
    (cond (same (first_of xs) (Int (pos 0))) m r)) (below xs) st
moved s card (ways q r) is xs st = to_point (cond (holds (first_of xs)) q r) (below xs) st
moved s card (choose qs) is xs st = choosing s.processor.dialect card qs (num (first_of xs)) is (below xs) st
moved s card (begin_do x q) is xs st =
    beginning s.processor.dialect s card x q (num (third_of xs)) (num (second_of xs)) (num (first_of xs)) is
    (below (below (below xs))) st
moved s card result_of is xs st = settled (result s card (is_function s.unit) st 0) (λ _ st. on is xs st)
moved s card stop is xs st = to_nothing st

-- what the test of a DO at a card does behind its step, with other DOs to be tested before the flow goes on at a point
abbrev pub tested : Scene → ℕ → Loop → ℕ → List Loop → List Taken → Storage → Move
tested s card d q ds xs st =
    settled (variable s card d.variable st 0)
    (λ i st.
    settled (step_value s card d.step st 0)
    (λ by st.
    settled (ranged s.processor card (num i +ℤ num by) st 0)
    (λ sum st.
    settled (parameter s card d.last st 0)
    (λ last st.
    cond (int_le (num sum) (num last))
    (to_point (suc d.at) xs (store st (s.environment d.variable).first sum))
    (to_tests card q ds xs (store st (s.environment d.variable).first (left_with s.processor.dialect sum)))))))

-- an instruction does just that
abbrev pub MovesAreExact : Type 0
MovesAreExact =
    (s : Scene) (run : Caller) (card : ℕ) (next : ℕ → List Taken → Act Cell) (c : Instr) (is : List Instr)
    (xs : List Taken) (st : Storage) (n : ℕ)
    → exec s run card next (c ∷ is) 0 xs st n ≡ goes_by s run card next (moved s card c is xs st) n

-- without a step a test would need one; with one it does just that
abbrev pub TestsAreExact : Type 0
TestsAreExact =
    (s : Scene) (run : Caller) (card c q : ℕ) (next : ℕ → List Taken → Act Cell) (d : Loop) (ds : List Loop)
    (xs : List Taken) (st : Storage)
    → (goes_by s run card next (to_tests c q (d ∷ ds) xs st) 0 ≡ Running st)
    × ((n : ℕ) → goes_by s run card next (to_tests c q (d ∷ ds) xs st) (suc n) ≡ goes_by s run card next
    (tested s c d q ds xs st) n)
