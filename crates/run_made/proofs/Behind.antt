-- How the flow goes on behind statements.
use Rattle.std.proofs.Common.{◌≡◌, ◌≤◌, ◌<◌, ℕ, zero, suc, Bool, true, false, cond, List, [], ◌∷◌, drop, length, get_or, Option, Some, None, slice_get, refl, sym, ap, ◌∙◌, arith}
use Rattle.std.specs.Prelude.{◌==◌}
use Rattle.fort_syntax.specs.declared.name.Name.{Name}
use Rattle.fort_syntax.specs.declared.stmt.Param.{Param}
use Rattle.fort_syntax.specs.declared.stmt.Stmt.{Stmt}
use Rattle.fort_syntax.specs.declared.stmt.Stmt.TheVariants.{Do}
use Rattle.fort_syntax.specs.declared.unit.Line.{Line}
use Rattle.fort_syntax.specs.declared.unit.Unit.{Unit as Routine}
use Rattle.fort_model.specs.Flow.{target}
use Rattle.fort_model.specs.Perform.{card_in}
use Rattle.loop_tables.specs.Loops.{last_of}
use Rattle.run_code.specs.Code as code
use Rattle.run_shapes.specs.Seen.{loops_of, out_of, seen}
use Rattle.run_shapes.specs.declared.slots.Slots.{Slots}
use Rattle.run_shapes.specs.declared.tests.Test.{Test}
use Rattle.run_shapes.specs.declared.tests.Test.TheVariants as test
use Rattle.run_shapes.specs.declared.unit_code.CallCode.{CallCode}
use Rattle.run_doing.specs.Here.{TellsTests}
use Rattle.run_doing.specs.declared.table.TestTable.{TestTable}
use Rattle.run_known.specs.Known.{IsOver}
use Rattle.run_made.specs.Made.{behind_at, behind_by, over_at}

pub drop_at : {A : Type 0} (xs : List A) (i : ℕ) (x : A) → slice_get xs i ≡ Some x → drop i xs ≡ x ∷ drop (suc i) xs
drop_at [] i x e = absurd cc
drop_at (y ∷ ys) zero x e = let same : y ≡ x = cc in ap (λ z. z ∷ ys) same
drop_at (y ∷ ys) (suc i) x e = drop_at ys i x e

-- a label stands at a point, or at the end
pub target_within : (lines : List Line) (label : ℕ) → target lines label ≤ length lines
target_within [] label = omega arith
target_within (line ∷ lines) label = by (line.label == label) (target_within lines label)
  where
    by : (b : Bool) → target lines label ≤ length lines → cond b 0 (suc (target lines label)) ≤ suc (length lines)
    by true h = omega arith
    by false h = omega arith

module _ (u : Routine) (slots : Slots) (table : TestTable) (calls : List CallCode) (targets : List ℕ) (told : TellsTests u slots table) where
  abbrev tests : List Test
  tests = table.tests.items

  seen_by : (card place : ℕ) (o : Option Test) → slice_get tests place ≡ o
      → seen slots tests calls targets (behind_by card place o) ≡ code.test_loops card (out_of (drop place tests)) (loops_of slots (drop place tests))
  seen_by card place None e = refl
  seen_by card place (Some (test.Loop round)) e = refl
  seen_by card place (Some (test.Out point)) e =
      let there = sym (drop_at tests place (test.Out point) e) in
      λ i. code.test_loops card (out_of (there i)) (loops_of slots (there i))

  pub behind_seen : (card pc : ℕ) → pc < length u.lines → seen slots tests calls targets (behind_at table card pc) ≡ code.behind_code u card pc
  behind_seen card pc h =
      let place = get_or table.behind.items pc 0 in
      let t = told.behind pc (omega arith) in
      seen_by card place (slice_get tests place) refl ∙ (λ i. code.test_loops card (t.out i) (t.loops i))

  over_do : (pc : ℕ) (line : Line) (s : Stmt) (label : ℕ) (x : Name) (first last : Param) (step : Option Param) → slice_get u.lines pc ≡ Some line → line.stmt ≡ s
      → s ≡ Do label x first last step → seen slots tests calls targets (over_at u table pc s) ≡ code.over_code u (target u.lines label) pc
  over_do pc line s label x first last step there is e =
      let q = target u.lines label in
      let t = told.over pc line q there (ap (last_of u.lines) (is ∙ e)) (target_within u.lines label) in
      ap (λ s. seen slots tests calls targets (over_at u table pc s)) e
      ∙ (λ i. code.test_loops (card_in (slice_get u.lines q)) (t.out i) (t.loops i))

  pub over_seen : (pc : ℕ) (line : Line) → slice_get u.lines pc ≡ Some line → IsOver u pc (seen slots tests calls targets (over_at u table pc line.stmt)) line.stmt
  over_seen pc line there label x first last step e = over_do pc line line.stmt label x first last step there refl e
