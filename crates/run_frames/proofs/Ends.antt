-- There is an end of work.
use Rattle.std.proofs.Common.{◌≡◌, ℕ, suc, ◌+◌, ◌-◌, ◌<◌, ◌≤◌, Bool, true, false, cond, not, ◌&&◌, List, [], ◌∷◌, length, drop, Option, Some, None, slice_get, arith}
use Rattle.std.specs.Prelude.{is_some, ℤ, pos, neg_ℤ, ◌+ℤ◌, ◌-ℤ◌, int_le}
use Rattle.formula.specs.Values.{count, is_between}
use Rattle.fort_syntax.specs.Names.{is_function}
use Rattle.fort_syntax.specs.declared.name.Name.{Name}
use Rattle.fort_syntax.specs.declared.condition.Kind.TheVariants.{ChoiceCheck, LoopCheck}
use Rattle.fort_model.specs.Cells.{num, holds}
use Rattle.fort_model.specs.Flow.{chosen}
use Rattle.fort_model.specs.Evaluate.{Scene, read, value_of, ranged, constant, operate, power, intrinsic_value, element}
use Rattle.fort_model.specs.Perform.{assign, result}
use Rattle.run_code.specs.Code.{top, below, cells_of, first_of, second_of, third_of, newest, under}
use Rattle.std.proofs.lemmas.List.{length-drop}
use Rattle.formula.specs.declared.value.Cell.TheVariants.{Int, Logical}
use Rattle.fort_syntax.specs.Names.{unit_at}
use Rattle.fort_syntax.specs.declared.dialect.Dialect.{Dialect}
use Rattle.fort_syntax.specs.declared.dialect.Dialect.TheVariants.{Common, SeventySeven}
use Rattle.fort_syntax.specs.declared.unit.Line.{Line}
use Rattle.fort_syntax.specs.declared.unit.Unit.{Unit as Routine}
use Rattle.fort_model.specs.Storage.{Storage, store}
use Rattle.fort_model.specs.Processor.{Processor}
use Rattle.fort_model.specs.Outcome.{Outcome, Ended, Erred, Running, check}
use Rattle.fort_model.specs.Passing.{Taken, Fresh}
use Rattle.run_code.specs.Code.{Instr, number, one, truth, place, load, value, negate, raise, operation, comparison, negation, skip_false, both, skip_true, either, array, built_in, refer, forget, assigned, test_loops, jump, turn, signs, ways, choose, begin_do, result_of, stop}
use Rattle.run_moves.specs.Moves.{Move, on, to_point, to_carried, to_tests, to_call, to_error, to_nothing, settled, to_chosen, calling, choosing, beginning, moved}
use Rattle.run_frames.specs.Frames.{Frame, Waiting, scene_at}
use Rattle.run_frames.specs.Configs.{Config, entering, between, inside, carried, testing, ended, erred, nowhere, placed, left, left_at, worked, waits, is_over, weight_of, weight, WorkEnds}

-- a move goes on with at most so many instructions
abbrev IsShort : ℕ → Move → Type 0
IsShort m (on is xs st) = length is ≤ m
IsShort m (to_point q xs st) = Unit {0}
IsShort m (to_carried is xs st) = length is ≤ m
IsShort m (to_tests c q ds xs st) = Unit {0}
IsShort m (to_call k g a is xs st) = length is ≤ m
IsShort m (to_error kind c st) = Unit {0}
IsShort m (to_nothing st) = Unit {0}

short : {B : Type 0} (m : ℕ) (o : Outcome B) (then : B → Storage → Move) → ((b : B) (st : Storage) → IsShort m (then b st)) → IsShort m (settled o then)
short m (Ended b st n) then h = h b st
short m (Erred kind c st) then h = tt
short m (Running st) then h = tt

dropped : (k : ℕ) (is : List Instr) → length (drop k is) ≤ length is
dropped k is = let l : length (drop k is) ≡ length is - k = length-drop k is in omega arith

all : (is : List Instr) → length is ≤ length is
all is = omega arith

one_of_two : (m : ℕ) (b : Bool) (first second : Move) → IsShort m first → IsShort m second → IsShort m (cond b first second)
one_of_two m true first second h g = h
one_of_two m false first second h g = g

chosen_short : (m : ℕ) (o : Option ℕ) (xs : List Taken) (st : Storage) → IsShort m (to_chosen o xs st)
chosen_short m None xs st = tt
chosen_short m (Some q) xs st = tt

calling_short : (o : Option Routine) (k m : ℕ) (is : List Instr) (xs : List Taken) (st : Storage) → IsShort (length is) (calling k o m is xs st)
calling_short None k m is xs st = tt
calling_short (Some g) k m is xs st = all is

choosing_short : (d : Dialect) (card : ℕ) (qs : List ℕ) (i : ℤ) (is : List Instr) (xs : List Taken) (st : Storage) → IsShort (length is) (choosing d card qs i is xs st)
choosing_short Common card qs i is xs st =
    short (length is) (check ChoiceCheck card (is_between (pos 1) (pos (length qs)) i) st 0) (λ _ st. to_chosen (chosen qs (count i)) xs st) (λ _ st. chosen_short (length is) (chosen qs (count i)) xs st)
choosing_short SeventySeven card qs i is xs st =
    one_of_two (length is) (is_between (pos 1) (pos (length qs)) i) (to_chosen (chosen qs (count i)) xs st) (on is xs st) (chosen_short (length is) (chosen qs (count i)) xs st) (all is)

beginning_short : (d : Dialect) (s : Scene) (card : ℕ) (x : Name) (q : ℕ) (m1 m2 m3 : ℤ) (is : List Instr) (xs : List Taken) (st : Storage)
    → IsShort (length is) (beginning d s card x q m1 m2 m3 is xs st)
beginning_short Common s card x q m1 m2 m3 is xs st =
    short (length is) (check LoopCheck card (int_le (pos 1) m1 && (int_le m1 m2 && int_le (pos 1) m3)) st 0) (λ _ st. to_point q xs (store st (s.environment x).first (Int m1))) (λ _ st. tt)
beginning_short SeventySeven s card x q m1 m2 m3 is xs st =
    let last = λ (st : Storage). cond (int_le m1 m2) (to_point q xs (store st (s.environment x).first (Int m1))) (on is xs (store st (s.environment x).first (Int m1))) in
    let third = λ (st : Storage). settled (ranged s.processor card (m2 -ℤ m1 +ℤ m3) st 0) (λ _ st. last st) in
    let second = λ (st : Storage). settled (ranged s.processor card (m2 -ℤ m1) st 0) (λ _ st. third st) in
    short (length is) (check LoopCheck card (int_le (pos 1) m3) st 0) (λ _ st. second st)
    (λ _ st.
    short (length is) (ranged s.processor card (m2 -ℤ m1) st 0) (λ _ st. third st)
    (λ _ st.
    short (length is) (ranged s.processor card (m2 -ℤ m1 +ℤ m3) st 0) (λ _ st. last st)
    (λ _ st. one_of_two (length is) (int_le m1 m2) (to_point q xs (store st (s.environment x).first (Int m1))) (on is xs (store st (s.environment x).first (Int m1))) tt (all is))))

moved_short : (s : Scene) (card : ℕ) (c : Instr) (is : List Instr) (xs : List Taken) (st : Storage) → IsShort (length is) (moved s card c is xs st)
moved_short s card (number c) is xs st = short (length is) (constant s.processor card c st 0) (λ v st. on is (Fresh v ∷ xs) st) (λ v st. all is)
moved_short s card one is xs st = all is
moved_short s card (truth b) is xs st = all is
moved_short s card (place x) is xs st = all is
moved_short s card (load x) is xs st = short (length is) (read card (s.environment x).first st 0) (λ v st. on is (Fresh v ∷ xs) st) (λ v st. all is)
moved_short s card value is xs st = short (length is) (value_of card (top xs) st 0) (λ v st. on is (Fresh v ∷ below xs) st) (λ v st. all is)
moved_short s card negate is xs st = short (length is) (ranged s.processor card (neg_ℤ (num (first_of xs))) st 0) (λ v st. on is (Fresh v ∷ below xs) st) (λ v st. all is)
moved_short s card (raise m) is xs st = short (length is) (power s.processor card (num (first_of xs)) m st 0) (λ v st. on is (Fresh v ∷ below xs) st) (λ v st. all is)
moved_short s card (operation o) is xs st = short (length is) (operate s.processor card o (second_of xs) (first_of xs) st 0) (λ v st. on is (Fresh v ∷ below (below xs)) st) (λ v st. all is)
moved_short s card (comparison o) is xs st = all is
moved_short s card negation is xs st = all is
moved_short s card (skip_false k) is xs st = one_of_two (length is) (s.processor.lazy && not (holds (first_of xs))) (on (drop k is) (Fresh (Logical false) ∷ below xs) st) (on is xs st) (dropped k is) (all is)
moved_short s card both is xs st = all is
moved_short s card (skip_true k) is xs st = one_of_two (length is) (s.processor.lazy && holds (first_of xs)) (on (drop k is) (Fresh (Logical true) ∷ below xs) st) (on is xs st) (dropped k is) (all is)
moved_short s card either is xs st = all is
moved_short s card (array f dims m) is xs st =
    short (length is) (element s.environment card (s.environment f) dims (cells_of (newest m xs [])) st 0) (λ x st. on is (x ∷ under m xs) st) (λ x st. all is)
moved_short s card (built_in i m) is xs st = short (length is) (intrinsic_value s.processor card i (cells_of (newest m xs [])) st 0) (λ v st. on is (Fresh v ∷ under m xs) st) (λ v st. all is)
moved_short s card (refer k callee m) is xs st = calling_short (unit_at s.units callee) k m is xs st
moved_short s card forget is xs st = all is
moved_short s card assigned is xs st = short (length is) (assign (top xs) (second_of xs) st 0) (λ _ st. on is (below (below xs)) st) (λ _ st. all is)
moved_short s card (test_loops c q ds) is xs st = tt
moved_short s card (jump q) is xs st = tt
moved_short s card turn is xs st = one_of_two (length is) (holds (first_of xs)) (to_carried (drop 1 is) (below xs) st) (on is (below xs) st) (dropped 1 is) (all is)
moved_short s card (signs l m r) is xs st = tt
moved_short s card (ways q r) is xs st = tt
moved_short s card (choose qs) is xs st = choosing_short s.processor.dialect card qs (num (first_of xs)) is (below xs) st
moved_short s card (begin_do x q) is xs st = beginning_short s.processor.dialect s card x q (num (third_of xs)) (num (second_of xs)) (num (first_of xs)) is (below (below (below xs))) st
moved_short s card result_of is xs st = short (length is) (result s card (is_function s.unit) st 0) (λ _ st. on is xs st) (λ _ st. all is)
moved_short s card stop is xs st = tt

module _ (p : Processor) (units : List Routine) where
  placed_less : (f : Frame) (card : ℕ) (ws : List Waiting) (m : ℕ) (move : Move) → IsShort m move → weight (placed p units f card ws move).0 < suc m + 2 + weight_of ws
  placed_less f card ws m (on is xs st) h = omega arith
  placed_less f card ws m (to_point q xs st) h = omega arith
  placed_less f card ws m (to_carried is xs st) h = omega arith
  placed_less f card ws m (to_tests c q ds xs st) h = omega arith
  placed_less f card ws m (to_call k g a is xs st) h = omega arith
  placed_less f card ws m (to_error kind c st) h = omega arith
  placed_less f card ws m (to_nothing st) h = omega arith

  left_less : (f : Frame) (ws : List Waiting) (xs : List Taken) (st : Storage) → weight (left p units f ws xs st).0 < 1 + weight_of ws
  left_less f [] xs st = omega arith
  left_less f (w ∷ ws) xs st = omega arith

  at_point : (f : Frame) (q : ℕ) (ws : List Waiting) (xs : List Taken) (st : Storage) (o : Option Line) → is_some o ≡ false → weight (left_at p units o f q ws xs st).0 < 1 + weight_of ws
  at_point f q ws xs st None h = left_less f ws xs st
  at_point f q ws xs st (Some line) h = absurd (cc)

  pub ends : (c : Config) (st : Storage) → waits c ≡ false → is_over c ≡ false → weight (worked p units c st).0 < weight c
  ends (entering g env ws xs) st h g' = absurd (cc)
  ends (between f q ws xs) st h g = at_point f q ws xs st (slice_get f.unit.lines q) h
  ends (inside f card [] ws xs) st h g = omega arith
  ends (inside f card (c ∷ is) ws xs) st h g = placed_less f card ws (length is) (moved (scene_at p units f) card c is xs st) (moved_short (scene_at p units f) card c is xs st)
  ends (carried f card is ws xs) st h g = absurd (cc)
  ends (testing f c q [] ws xs) st h g = omega arith
  ends (testing f c q (d ∷ ds) ws xs) st h g = absurd (cc)
  ends (ended v) st h g = absurd (cc)
  ends (erred kind c) st h g = absurd (cc)
  ends nowhere st h g = absurd (cc)

pub work_ends : WorkEnds
work_ends p units c st h g = ends p units c st h g
