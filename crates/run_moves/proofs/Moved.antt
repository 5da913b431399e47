-- What one instruction does is exact.
use Rattle.std.proofs.Common.{◌≡◌, ℕ, zero, suc, Bool, true, false, cond, not, ◌&&◌, List, [], ◌∷◌, length, drop, Option, Some, None, refl, ap, ◌∙◌}
use Rattle.std.specs.Prelude.{ℤ, neg_ℤ, pos, ◌+ℤ◌, ◌-ℤ◌, int_le}
use Rattle.formula.specs.Values as values_of
use Rattle.formula.specs.Values.{is_between}
use Rattle.formula.specs.declared.value.Cell.{Cell}
use Rattle.formula.specs.declared.value.Cell.TheVariants.{Int, Logical}
use Rattle.fort_syntax.specs.Names.{unit_at, is_function}
use Rattle.fort_syntax.specs.declared.name.Name.{Name}
use Rattle.fort_syntax.specs.declared.condition.Kind.TheVariants.{ChoiceCheck, LoopCheck}
use Rattle.fort_syntax.specs.declared.dialect.Dialect.{Dialect}
use Rattle.fort_syntax.specs.declared.dialect.Dialect.TheVariants.{Common, SeventySeven}
use Rattle.fort_syntax.specs.declared.unit.Unit.{Unit as Routine}
use Rattle.fort_model.specs.Cells.{num, holds}
use Rattle.fort_model.specs.Storage.{Storage, store}
use Rattle.fort_model.specs.Outcome.{Outcome, Ended, Erred, Running, Act, and_then, ◌>>=◌, ◌>>◌, check, give, step}
use Rattle.fort_model.specs.Passing.{Taken, Fresh, Caller, call}
use Rattle.fort_model.specs.Evaluate.{Scene, read, value_of, ranged, constant, operate, power, intrinsic_value, element}
use Rattle.fort_model.specs.Perform.{variable, step_value, parameter, set_variable, left_with, tests, assign, result}
use Rattle.fort_model.specs.Flow.{Loop, chosen, through}
use Rattle.run_code.specs.Code.{Instr, number, one, truth, place, load, value, negate, raise, operation, comparison, negation, skip_false, both, skip_true, either, array, built_in, refer, forget, assigned, test_loops, jump, turn, signs, ways, choose, begin_do, result_of, stop, top, below, cells_of, first_of, second_of, third_of, newest, under, led_to, chooses, begins, exec}
use Rattle.run_code.proofs.Coded.{assoc}
use Rattle.run_moves.specs.Moves.{Move, on, to_point, to_carried, to_tests, passed_on, goes_by, settled, to_chosen, calling, choosing, beginning, moved, tested, MovesAreExact, TestsAreExact}
use Rattle.run_moves.proofs.Silent.{stocked, Silent, silent_check, silent_read, silent_value, silent_ranged, silent_constant, silent_operate, silent_power, silent_intrinsic, silent_element, silent_assign, silent_variable, silent_parameter, silent_step, silent_result}

module _ {A : Type 0} (s : Scene) (run : Caller) (card : ℕ) (next : ℕ → List Taken → Act A) where
  abbrev does : List Instr → ℕ → List Taken → Act A
  does = exec s run card next

  abbrev by : Move → ℕ → Outcome A
  by = goes_by s run card next

  -- to skip is to begin later
  pub later : (is : List Instr) (k : ℕ) (xs : List Taken) → does is k xs ≡ does (drop k is) 0 xs
  later [] zero xs = refl
  later [] (suc k) xs = refl
  later (c ∷ is) zero xs = refl
  later (c ∷ is) (suc k) xs = later is k xs

  came : {B : Type 0} (o : Outcome B) (n : ℕ) (f : B → Act A) (then : B → Storage → Move) → ((b : B) (st : Storage) → f b st n ≡ by (then b st) n)
      → and_then (stocked n o) f ≡ by (settled o then) n
  came (Ended b st k) n f then h = h b st
  came (Erred kind c st) n f then h = refl
  came (Running st) n f then h = refl

  -- on from a part without steps
  settles : {B : Type 0} (act : Act B) → Silent act → (st : Storage) (n : ℕ) (f : B → Act A) (then : B → Storage → Move) → ((b : B) (st : Storage) → f b st n ≡ by (then b st) n)
      → and_then (act st n) f ≡ by (settled (act st 0) then) n
  settles act h st n f then g = ap (λ o. and_then o f) (h st n) ∙ came (act st 0) n f then g

  skips : (b : Bool) (k : ℕ) (is : List Instr) (xs ys : List Taken) (st : Storage) (n : ℕ)
      → cond b (does is k xs) (does is 0 ys) st n ≡ by (cond b (on (drop k is) xs st) (on is ys st)) n
  skips true k is xs ys st n = ap (λ (x : Act A). x st n) (later is k xs)
  skips false k is xs ys st n = refl

  turns : (b : Bool) (is : List Instr) (xs : List Taken) (st : Storage) (n : ℕ)
      → cond b (λ st n. and_then (step st n) (λ _. does is 1 xs)) (does is 0 xs) st n ≡ by (cond b (to_carried (drop 1 is) xs st) (on is xs st)) n
  turns true is xs st n = ap (λ (x : Act A). and_then (step st n) (λ _. x)) (later is 1 xs)
  turns false is xs st n = refl

  chosen_on : (o : Option ℕ) (xs : List Taken) (st : Storage) (n : ℕ) → led_to o (λ q. next q xs) st n ≡ by (to_chosen o xs st) n
  chosen_on None xs st n = refl
  chosen_on (Some q) xs st n = refl

  chosen_or_on : (b : Bool) (o : Option ℕ) (is : List Instr) (xs : List Taken) (st : Storage) (n : ℕ)
      → cond b (led_to o (λ q. next q xs)) (does is 0 xs) st n ≡ by (cond b (to_chosen o xs st) (on is xs st)) n
  chosen_or_on true o is xs st n = chosen_on o xs st n
  chosen_or_on false o is xs st n = refl

  choices : (d : Dialect) (qs : List ℕ) (z : ℤ) (is : List Instr) (xs : List Taken) (st : Storage) (n : ℕ)
      → chooses d card qs z (λ q. next q xs) (does is 0 xs) st n ≡ by (choosing d card qs z is xs st) n
  choices Common qs z is xs st n =
      settles (check ChoiceCheck card (is_between (pos 1) (pos (length qs)) z)) (silent_check ChoiceCheck card (is_between (pos 1) (pos (length qs)) z)) st n _ _
      (λ _ st. chosen_on (chosen qs (values_of.count z)) xs st n)
  choices SeventySeven qs z is xs st n = chosen_or_on (is_between (pos 1) (pos (length qs)) z) (chosen qs (values_of.count z)) is xs st n

  point_or_on : (b : Bool) (q : ℕ) (is : List Instr) (xs : List Taken) (st : Storage) (n : ℕ) → cond b (next q xs) (does is 0 xs) st n ≡ by (cond b (to_point q xs st) (on is xs st)) n
  point_or_on true q is xs st n = refl
  point_or_on false q is xs st n = refl

  starts : (d : Dialect) (x : Name) (q : ℕ) (m1 m2 m3 : ℤ) (is : List Instr) (xs : List Taken) (st : Storage) (n : ℕ)
      → begins d s card x m1 m2 m3 (next q xs) (does is 0 xs) st n ≡ by (beginning d s card x q m1 m2 m3 is xs st) n
  starts Common x q m1 m2 m3 is xs st n =
      let b = int_le (pos 1) m1 && (int_le m1 m2 && int_le (pos 1) m3) in
      settles (check LoopCheck card b) (silent_check LoopCheck card b) st n (λ _. set_variable s x (Int m1) >> next q xs) (λ _ st. to_point q xs (store st (s.environment x).first (Int m1))) (λ _ st. refl)
  starts SeventySeven x q m1 m2 m3 is xs st n =
      settles (check LoopCheck card (int_le (pos 1) m3)) (silent_check LoopCheck card (int_le (pos 1) m3)) st n _ _
      (λ _ st.
      settles (ranged s.processor card (m2 -ℤ m1)) (silent_ranged s.processor card (m2 -ℤ m1)) st n _ _
      (λ _ st.
      settles (ranged s.processor card (m2 -ℤ m1 +ℤ m3)) (silent_ranged s.processor card (m2 -ℤ m1 +ℤ m3)) st n _ _
      (λ _ st. point_or_on (int_le m1 m2) q is xs (store st (s.environment x).first (Int m1)) n)))

  calls : (o : Option Routine) (k m : ℕ) (is : List Instr) (xs : List Taken) (st : Storage) (n : ℕ)
      → and_then (call run s.environment o (passed_on s k m xs) st n) (λ v. does is 0 (Fresh v ∷ under m xs)) ≡ by (calling k o m is xs st) n
  calls None k m is xs st n = refl
  calls (Some g) k m is xs st n = refl

  pub moves : (c : Instr) (is : List Instr) (xs : List Taken) (st : Storage) (n : ℕ) → does (c ∷ is) 0 xs st n ≡ by (moved s card c is xs st) n
  moves (number c) is xs st n = settles (constant s.processor card c) (silent_constant s.processor card c) st n _ _ (λ v st. refl)
  moves one is xs st n = refl
  moves (truth b) is xs st n = refl
  moves (place x) is xs st n = refl
  moves (load x) is xs st n = settles (read card (s.environment x).first) (silent_read card (s.environment x).first) st n _ _ (λ v st. refl)
  moves value is xs st n = settles (value_of card (top xs)) (silent_value card (top xs)) st n _ _ (λ v st. refl)
  moves negate is xs st n = settles (ranged s.processor card (neg_ℤ (num (first_of xs)))) (silent_ranged s.processor card (neg_ℤ (num (first_of xs)))) st n _ _ (λ v st. refl)
  moves (raise m) is xs st n = settles (power s.processor card (num (first_of xs)) m) (silent_power s.processor card (num (first_of xs)) m) st n _ _ (λ v st. refl)
  moves (operation o) is xs st n = settles (operate s.processor card o (second_of xs) (first_of xs)) (silent_operate s.processor card o (second_of xs) (first_of xs)) st n _ _ (λ v st. refl)
  moves (comparison o) is xs st n = refl
  moves negation is xs st n = refl
  moves (skip_false k) is xs st n = skips (s.processor.lazy && not (holds (first_of xs))) k is (Fresh (Logical false) ∷ below xs) xs st n
  moves both is xs st n = refl
  moves (skip_true k) is xs st n = skips (s.processor.lazy && holds (first_of xs)) k is (Fresh (Logical true) ∷ below xs) xs st n
  moves either is xs st n = refl
  moves (array f dims m) is xs st n =
      settles (element s.environment card (s.environment f) dims (cells_of (newest m xs []))) (silent_element s.environment card (s.environment f) dims (cells_of (newest m xs []))) st n _ _ (λ x st. refl)
  moves (built_in i m) is xs st n =
      settles (intrinsic_value s.processor card i (cells_of (newest m xs []))) (silent_intrinsic s.processor card i (cells_of (newest m xs []))) st n _ _ (λ v st. refl)
  moves (refer k callee m) is xs st n = calls (unit_at s.units callee) k m is xs st n
  moves forget is xs st n = refl
  moves assigned is xs st n = settles (assign (top xs) (second_of xs)) (silent_assign (top xs) (second_of xs)) st n _ _ (λ _ st. refl)
  moves (test_loops c q ds) is xs st n = refl
  moves (jump q) is xs st n = refl
  moves turn is xs st n = turns (holds (first_of xs)) is (below xs) st n
  moves (signs l m r) is xs st n = refl
  moves (ways q r) is xs st n = refl
  moves (choose qs) is xs st n = choices s.processor.dialect qs (num (first_of xs)) is (below xs) st n
  moves (begin_do x q) is xs st n = starts s.processor.dialect x q (num (third_of xs)) (num (second_of xs)) (num (first_of xs)) is (below (below (below xs))) st n
  moves result_of is xs st n = settles (result s card (is_function s.unit)) (silent_result s card (is_function s.unit)) st n _ _ (λ _ st. refl)
  moves stop is xs st n = refl

  -- ---- tests of DOs

  abbrev led : ℕ → List Loop → List Taken → List ℕ → Act A
  led q ds xs cs = led_to (through q ds cs) (λ p. next p xs)

  round_or_left : (c : ℕ) (d : Loop) (q : ℕ) (ds : List Loop) (xs : List Taken) (b : Bool) (sum : Cell) (st : Storage) (n : ℕ)
      → and_then (cond b (set_variable s d.variable sum >> give (1 ∷ [])) (set_variable s d.variable (left_with s.processor.dialect sum) >> (tests s c ds >>= (λ cs. give (2 ∷ cs)))) st n) (led q (d ∷ ds) xs)
      ≡ by (cond b (to_point (suc d.at) xs (store st (s.environment d.variable).first sum)) (to_tests c q ds xs (store st (s.environment d.variable).first (left_with s.processor.dialect sum)))) n
  round_or_left c d q ds xs true sum st n = refl
  round_or_left c d q ds xs false sum st n = assoc (tests s c ds (store st (s.environment d.variable).first (left_with s.processor.dialect sum)) n) _ _

  pub tests_once : (c : ℕ) (d : Loop) (q : ℕ) (ds : List Loop) (xs : List Taken) (st : Storage) (n : ℕ)
      → by (to_tests c q (d ∷ ds) xs st) (suc n) ≡ by (tested s c d q ds xs st) n
  tests_once c d q ds xs st n =
      assoc (variable s c d.variable st n) _ _
      ∙ settles (variable s c d.variable) (silent_variable s c d.variable) st n _ _
      (λ i st.
      assoc (step_value s c d.step st n) _ _
      ∙ settles (step_value s c d.step) (silent_step s c d.step) st n _ _
      (λ by st.
      assoc (ranged s.processor c (num i +ℤ num by) st n) _ _
      ∙ settles (ranged s.processor c (num i +ℤ num by)) (silent_ranged s.processor c (num i +ℤ num by)) st n _ _
      (λ sum st.
      assoc (parameter s c d.last st n) _ _
      ∙ settles (parameter s c d.last) (silent_parameter s c d.last) st n _ _ (λ last st. round_or_left c d q ds xs (int_le (num sum) (num last)) sum st n))))

pub moves_are_exact : MovesAreExact
moves_are_exact s run card next c is xs st n = moves s run card next c is xs st n

pub tests_are_exact : TestsAreExact
tests_are_exact s run card c q next d ds xs st = (refl, λ n. tests_once s run card next c d q ds xs st n)
