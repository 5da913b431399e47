-- Conditions and walks of small decks side by side: for some values, which conditions are false, and where the walk fails.
use Rattle.std.specs.Prelude.{◌≡◌, ℕ, suc, Bool, true, cond, List, [], ◌∷◌, replicate, codes, pos, neg_ℤ}
use Rattle.std.specs.List.{list_all}
use Rattle.fort_syntax.specs.Conditions.{ConditionTree}
use Rattle.formula.specs.declared.value.Cell.TheVariants as cell
use Rattle.formula.specs.declared.value.Value.{Value}
use Rattle.formula.specs.declared.value.Value.TheVariants.{Int, Logical, Cells}
use Rattle.formula.specs.Worth.{Valuation, assigned, nothing_known, is_true_under, is_false_under}
use Rattle.fort_syntax.specs.declared.unit.Unit.{Unit as Routine}
use Rattle.fort_model.specs.Events.{Verdict, Good, Fails, Off, verdict}
use Rattle.fort_model.specs.Program.{Program}
use Rattle.fort_model.specs.Paths.{Path}
use Rattle.fort_model.specs.Conditions.{conditions_of, walked}
use Rattle.fort_model.specs.Rows.{inc, adjustable}
use Rattle.fort_model.specs.WalkRows.{inc_program, the_path}
use Rattle.fort_model.specs.CheckRows.{loop, loop_program, from_assert}
use Rattle.fort_model.specs.ConditionRows.{adjustable_program}
use Rattle.fort_model.specs.VerdictRows.{int_value}

-- the processor has the integers of 16 bits, and some words have values
abbrev pub words : List (List ℕ × Value) → Valuation
words more = assigned ((codes "LEAST", Int (neg_ℤ (pos 32768))) ∷ (codes "GREATEST", Int (pos 32767)) ∷ more)

-- the numbers, from k on, of the conditions that pass a test
abbrev pub numbers_of : (ConditionTree → Bool) → ℕ → List ConditionTree → List ℕ
numbers_of test k [] = []
numbers_of test k (c ∷ cs) =
    let rest = numbers_of test (suc k) cs in
    cond (test c) (k ∷ rest) rest

abbrev pub is_reached : Valuation → ConditionTree → Bool
is_reached values c = list_all (is_true_under [] values nothing_known) c.hyps

abbrev pub is_false : Valuation → ConditionTree → Bool
is_false values c = is_false_under [] values nothing_known c.hyps c.goal

-- along a path of the one unit of a program: the conditions whose hypotheses are true, those that are false, and what the
-- walk comes to
abbrev pub compared : Program → Routine → Path → List (List ℕ × Value) → List ℕ × List ℕ × Verdict
compared p u path values =
    let cs = conditions_of p ((path ∷ []) ∷ []) in (
      numbers_of (is_reached (words values)) 1 cs,
      numbers_of (is_false (words values)) 1 cs,
      verdict
          (walked p 0 u (words values) path),
    )

-- ---- one is added to I

abbrev pub inc_for : Value → List ℕ × List ℕ × Verdict
inc_for i = compared inc_program inc (the_path ([] ∷ [] ∷ [])) ((codes "I-IN", i) ∷ [])

abbrev pub ExactForInc : Type 0
ExactForInc =
    (inc_for (int_value 5) ≡ (1 ∷ 2 ∷ 3 ∷ [], [], Good))
    × (inc_for (int_value 100) ≡ ([], [], Off 0))
    × (inc_for (Logical true) ≡ ([], [], Off 0))

-- ---- a round of a loop, which began with I at the ASSERT

abbrev pub round_for : Value → Value → List ℕ × List ℕ × Verdict
round_for i n = compared loop_program loop (from_assert 1 ([] ∷ (1 ∷ []) ∷ [])) ((codes "I-AT", i) ∷ (codes "N-IN", n) ∷ [])

abbrev pub way_out_for : Value → Value → List ℕ × List ℕ × Verdict
way_out_for i n = compared loop_program loop (from_assert 1 ([] ∷ (2 ∷ []) ∷ [] ∷ [])) ((codes "I-AT", i) ∷ (codes "N-IN", n) ∷ [])

-- the last round goes another way behind four checks
abbrev pub ExactForLoop : Type 0
ExactForLoop =
    (round_for (int_value 3) (int_value 5) ≡ (1 ∷ 2 ∷ 3 ∷ 4 ∷ 5 ∷ 6 ∷ 7 ∷ 8 ∷ 9 ∷ [], [], Good))
    × (round_for (int_value 4) (int_value 5) ≡ (1 ∷ 2 ∷ 3 ∷ 4 ∷ [], [], Off 4))
    × (way_out_for (int_value 4) (int_value 5) ≡ (1 ∷ 2 ∷ 3 ∷ 4 ∷ 5 ∷ [], [], Good))
    × (round_for (int_value 5) (int_value 5) ≡ ([], [], Off 0))

-- ---- A(1,N) = 7, where A has the dimensions M and N

abbrev pub adjustable_for : Value → ℕ → ℕ → List ℕ × List ℕ × Verdict
adjustable_for a m n =
    compared adjustable_program adjustable (the_path ([] ∷ [] ∷ []))
    ((codes "A-IN", a) ∷ (codes "M-IN", int_value m) ∷ (codes "N-IN", int_value n) ∷ [])

abbrev pub six_cells : Value
six_cells = Cells (replicate 6 cell.Undefined)

-- OUTPUT says that the fourth element is the number of elements, and it is 7; an array of another size goes off
abbrev pub ExactForAdjustable : Type 0
ExactForAdjustable =
    (adjustable_for six_cells 3 2 ≡ (1 ∷ 2 ∷ 3 ∷ 4 ∷ [], 4 ∷ [], Fails 4))
    × (adjustable_for (Cells (replicate 7 cell.Undefined)) 3 2 ≡ ([], [], Off 0))
    × (adjustable_for six_cells 6 1 ≡ (1 ∷ 2 ∷ 3 ∷ 4 ∷ [], 4 ∷ [], Fails 4))
