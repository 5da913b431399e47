-- How a DO begins in the model.
use Rattle.std.proofs.Common.{◌≡◌, ℕ, Bool, true, false, cond, ◌&&◌, List, ℤ, ◌+ℤ◌, ◌-ℤ◌, refl, ap, ◌∙◌}
use Rattle.std.specs.Prelude.{pos, int_le, Ok, Err}
use Rattle.formula.specs.Values.{is_between}
use Rattle.formula.specs.declared.value.Cell.TheVariants.{Int}
use Rattle.fort_syntax.specs.declared.condition.Kind.TheVariants.{LoopCheck, RangeCheck}
use Rattle.fort_syntax.specs.declared.dialect.Dialect.TheVariants.{Common, SeventySeven}
use Rattle.fort_model.specs.Outcome.{◌>>◌, check, give}
use Rattle.fort_model.specs.Passing.{Taken}
use Rattle.fort_model.specs.Processor.{Processor}
use Rattle.fort_model.specs.Storage.{Storage, store}
use Rattle.run_code.specs.Code.{Instr}
use Rattle.run_moves.specs.Moves.{on, to_point, settled, beginning}
use Rattle.run_intrinsics.specs.Loops.{StartsAreExact, begun_move}

module _ (card place q : ℕ) (m1 : ℤ) (is : List Instr) (xs : List Taken) (st : Storage) where
  entered : (t : Bool) → settled (check LoopCheck card t st 0) (λ _ s. to_point q xs (store s place (Int m1))) ≡ begun_move (cond t (Ok true) (Err LoopCheck)) card place q m1 is xs st
  entered true = refl
  entered false = refl

  led : (t : Bool) → cond t (to_point q xs (store st place (Int m1))) (on is xs (store st place (Int m1))) ≡ begun_move (Ok t) card place q m1 is xs st
  led true = refl
  led false = refl

  counts : (a b c d : Bool) (y z : ℤ)
      → settled (check LoopCheck card a st 0)
      (λ _ s.
      settled ((check RangeCheck card b >> give (Int y)) s 0)
      (λ _ s.
      settled ((check RangeCheck card c >> give (Int z)) s 0) (λ _ s. cond d (to_point q xs (store s place (Int m1))) (on is xs (store s place (Int m1))))))
      ≡ begun_move (cond a (cond b (cond c (Ok d) (Err RangeCheck)) (Err RangeCheck)) (Err LoopCheck)) card place q m1 is xs st
  counts false b c d y z = refl
  counts true false c d y z = refl
  counts true true false d y z = refl
  counts true true true d y z = led d

pub exact : StartsAreExact
exact b m Common s card x q m1 m2 m3 is xs st e = entered card (s.environment x).first q m1 is xs st (int_le (pos 1) m1 && (int_le m1 m2 && int_le (pos 1) m3))
exact b m SeventySeven s card x q m1 m2 m3 is xs st e =
    ap (λ (p : Processor). beginning SeventySeven (record s { processor = p }) card x q m1 m2 m3 is xs st) e
    ∙ counts card (s.environment x).first q m1 is xs st (int_le (pos 1) m3) (is_between b.least b.greatest (m2 -ℤ m1)) (is_between b.least b.greatest (m2 -ℤ m1 +ℤ m3)) (int_le m1 m2) (m2 -ℤ m1) (m2 -ℤ m1 +ℤ m3)
