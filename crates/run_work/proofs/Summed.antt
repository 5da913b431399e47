-- Instructions of the assignment of a sum do together what each does.
use Rattle.std.proofs.Common.{◌≡◌, ℕ, ◌+◌, ◌<◌, ◌≤◌, ◌^◌, true, List, ◌∷◌, Option, Some, None, slice_get, refl, sym, ap, ◌∙◌, subst, arith}
use Rattle.std.specs.Prelude.{Result, Ok, Err, unwrap_or}
use Rattle.formula.specs.declared.value.Cell.{Cell}
use Rattle.fort_syntax.specs.declared.condition.Kind.{Kind}
use Rattle.fort_model.specs.Storage.{store}
use Rattle.fort_model.specs.declared.bounds.Bounds.{Bounds}
use Rattle.fort_syntax.specs.declared.dialect.BinOp.{BinOp}
use Rattle.fort_syntax.specs.declared.dialect.BinOp.TheVariants as op
use Rattle.run_held.specs.Sums.{constant_to, operated_to}
use Rattle.run_shapes.specs.declared.instr.Instr.{Instr}
use Rattle.run_shapes.specs.declared.instr.Instr.TheVariants as instr
use Rattle.run_shapes.specs.declared.unit_code.UnitCode.{UnitCode}
use Rattle.run_state.specs.Deeds.{extent_at, with_cells}
use Rattle.run_state.specs.declared.machine.Item.{Item}
use Rattle.run_state.specs.declared.machine.Item.TheVariants.{Cells, Fresh}
use Rattle.run_state.specs.declared.machine.Setting.{Setting}
use Rattle.run_state.specs.declared.machine.Stage.TheVariants as stage
use Rattle.run_state.specs.declared.machine.State.{State}
use Rattle.run_elements.specs.Elements.{answered, read_to}
use Rattle.run_work.specs.AtOnce.{MayAct, assigned_at, is_assignment, made_of, operand_to, plain_to, slot_of, sum_to, value_of}
use Rattle.run_work.specs.Obeying.{obeyed}
use Rattle.run_work.specs.Ways.{CanWork}
use Rattle.run_work.specs.declared.program.Program.{Program}
use Rattle.run_work.proofs.Units.{works_then}
use Rattle.run_work.proofs.Obeyed.{IsActed, does_its_work}

-- a state at an instruction with these items taken
abbrev pub at : ℕ → List Item → State → State
at k vs m = record m { frame = record m.frame { place = k }; values = record m.values { items = vs } }

value_is : (r : Result Cell Kind) (c : Cell) → value_of r ≡ Some c → r ≡ Ok c
value_is (Ok v) c e = ap (λ o. Ok (unwrap_or o c)) e
value_is (Err kind) c e = absurd (cc)

-- an operand puts its value behind the others
pushed : (p : Program) (unit : UnitCode) (m : State) (c : Cell) (k : ℕ) (vs : List Item) (i : Instr) → operand_to p.setting.now i m ≡ Some c
    → obeyed p unit i (at k vs m) ≡ at k (Fresh c ∷ vs) m
pushed p unit m c j vs (instr.Number n) e = ap (λ r. answered 0 r (at j vs m)) (value_is (constant_to p.setting.now.bounds n) c e)
pushed p unit m c j vs instr.One e = absurd (cc)
pushed p unit m c j vs (instr.Truth b) e = absurd (cc)
pushed p unit m c j vs (instr.Place slot) e = absurd (cc)
pushed p unit m c j vs (instr.Load slot) e = ap (λ r. answered 0 r (at j vs m)) (value_is (read_to m.cells.items (extent_at m slot).first) c e)
pushed p unit m c j vs instr.Value e = absurd (cc)
pushed p unit m c j vs instr.Negate e = absurd (cc)
pushed p unit m c j vs (instr.Raise n) e = absurd (cc)
pushed p unit m c j vs (instr.Operation o) e = absurd (cc)
pushed p unit m c j vs (instr.Comparison o) e = absurd (cc)
pushed p unit m c j vs instr.Negation e = absurd (cc)
pushed p unit m c j vs (instr.SkipFalse k) e = absurd (cc)
pushed p unit m c j vs instr.Both e = absurd (cc)
pushed p unit m c j vs (instr.SkipTrue k) e = absurd (cc)
pushed p unit m c j vs instr.Either e = absurd (cc)
pushed p unit m c j vs (instr.BuiltIn f n) e = absurd (cc)
pushed p unit m c j vs instr.Forget e = absurd (cc)
pushed p unit m c j vs instr.Assigned e = absurd (cc)
pushed p unit m c j vs (instr.Array slot n) e = absurd (cc)
pushed p unit m c j vs (instr.Tests card place) e = absurd (cc)
pushed p unit m c j vs (instr.Jump q) e = absurd (cc)
pushed p unit m c j vs instr.Turn e = absurd (cc)
pushed p unit m c j vs (instr.Signs place) e = absurd (cc)
pushed p unit m c j vs (instr.Ways q r) e = absurd (cc)
pushed p unit m c j vs (instr.Choose place n) e = absurd (cc)
pushed p unit m c j vs (instr.BeginDo slot q) e = absurd (cc)
pushed p unit m c j vs instr.ResultOf e = absurd (cc)
pushed p unit m c j vs instr.Stop e = absurd (cc)
pushed p unit m c j vs (instr.Refer place) e = absurd (cc)
pushed p unit m c j vs (instr.Go card q) e = absurd (cc)

-- what a sum is made of
record IsSum (s : Setting) (a b i : Instr) (m : State) (c : Cell) : Type 0 where
  sign : BinOp
  left : Cell
  right : Cell
  is : i ≡ instr.Operation sign
  left_is : operand_to s a m ≡ Some left
  right_is : operand_to s b m ≡ Some right
  made : operated_to s.bounds sign left right ≡ Ok c

plain_is : (b : Bounds) (sign : BinOp) (v w c : Cell) → plain_to b sign v w ≡ Some c → operated_to b sign v w ≡ Ok c
plain_is b op.Add v w c e = value_is (operated_to b op.Add v w) c e
plain_is b op.Sub v w c e = value_is (operated_to b op.Sub v w) c e
plain_is b op.Mul v w c e = absurd (cc)
plain_is b op.Div v w c e = absurd (cc)

sum_by : (s : Setting) (a b : Instr) (m : State) (c : Cell) (sign : BinOp) (v w : Option Cell) → operand_to s a m ≡ v → operand_to s b m ≡ w
    → made_of s.bounds sign v w ≡ Some c → IsSum s a b (instr.Operation sign) m c
sum_by s a b m c sign (Some v) (Some w) av bw e =
    record { sign = sign; left = v; right = w; is = refl; left_is = av; right_is = bw; made = plain_is s.bounds sign v w c e }
sum_by s a b m c sign (Some v) None av bw e = absurd (cc)
sum_by s a b m c sign None w av bw e = absurd (cc)

sum_is : (s : Setting) (a b : Instr) (m : State) (c : Cell) (i : Instr) → sum_to s a b i m ≡ Some c → IsSum s a b i m c
sum_is s x y m c (instr.Number n) e = absurd (cc)
sum_is s x y m c instr.One e = absurd (cc)
sum_is s x y m c (instr.Truth b) e = absurd (cc)
sum_is s x y m c (instr.Place slot) e = absurd (cc)
sum_is s x y m c (instr.Load slot) e = absurd (cc)
sum_is s x y m c instr.Value e = absurd (cc)
sum_is s x y m c instr.Negate e = absurd (cc)
sum_is s x y m c (instr.Raise n) e = absurd (cc)
sum_is s x y m c (instr.Operation o) e = sum_by s x y m c o (operand_to s x m) (operand_to s y m) refl refl e
sum_is s x y m c (instr.Comparison o) e = absurd (cc)
sum_is s x y m c instr.Negation e = absurd (cc)
sum_is s x y m c (instr.SkipFalse k) e = absurd (cc)
sum_is s x y m c instr.Both e = absurd (cc)
sum_is s x y m c (instr.SkipTrue k) e = absurd (cc)
sum_is s x y m c instr.Either e = absurd (cc)
sum_is s x y m c (instr.BuiltIn f n) e = absurd (cc)
sum_is s x y m c instr.Forget e = absurd (cc)
sum_is s x y m c instr.Assigned e = absurd (cc)
sum_is s x y m c (instr.Array slot n) e = absurd (cc)
sum_is s x y m c (instr.Tests card place) e = absurd (cc)
sum_is s x y m c (instr.Jump q) e = absurd (cc)
sum_is s x y m c instr.Turn e = absurd (cc)
sum_is s x y m c (instr.Signs place) e = absurd (cc)
sum_is s x y m c (instr.Ways q r) e = absurd (cc)
sum_is s x y m c (instr.Choose place n) e = absurd (cc)
sum_is s x y m c (instr.BeginDo slot q) e = absurd (cc)
sum_is s x y m c instr.ResultOf e = absurd (cc)
sum_is s x y m c instr.Stop e = absurd (cc)
sum_is s x y m c (instr.Refer place) e = absurd (cc)
sum_is s x y m c (instr.Go card q) e = absurd (cc)

slot_is : (slot : ℕ) (i : Instr) → slot_of i ≡ Some slot → i ≡ instr.Place slot
slot_is j (instr.Number n) e = absurd (cc)
slot_is j instr.One e = absurd (cc)
slot_is j (instr.Truth b) e = absurd (cc)
slot_is j (instr.Place slot) e = ap (λ o. instr.Place (unwrap_or o j)) e
slot_is j (instr.Load slot) e = absurd (cc)
slot_is j instr.Value e = absurd (cc)
slot_is j instr.Negate e = absurd (cc)
slot_is j (instr.Raise n) e = absurd (cc)
slot_is j (instr.Operation o) e = absurd (cc)
slot_is j (instr.Comparison o) e = absurd (cc)
slot_is j instr.Negation e = absurd (cc)
slot_is j (instr.SkipFalse k) e = absurd (cc)
slot_is j instr.Both e = absurd (cc)
slot_is j (instr.SkipTrue k) e = absurd (cc)
slot_is j instr.Either e = absurd (cc)
slot_is j (instr.BuiltIn f n) e = absurd (cc)
slot_is j instr.Forget e = absurd (cc)
slot_is j instr.Assigned e = absurd (cc)
slot_is j (instr.Array slot n) e = absurd (cc)
slot_is j (instr.Tests card place) e = absurd (cc)
slot_is j (instr.Jump q) e = absurd (cc)
slot_is j instr.Turn e = absurd (cc)
slot_is j (instr.Signs place) e = absurd (cc)
slot_is j (instr.Ways q r) e = absurd (cc)
slot_is j (instr.Choose place n) e = absurd (cc)
slot_is j (instr.BeginDo slot q) e = absurd (cc)
slot_is j instr.ResultOf e = absurd (cc)
slot_is j instr.Stop e = absurd (cc)
slot_is j (instr.Refer place) e = absurd (cc)
slot_is j (instr.Go card q) e = absurd (cc)

assignment_is : (i : Instr) → is_assignment i ≡ true → i ≡ instr.Assigned
assignment_is (instr.Number n) e = absurd (cc)
assignment_is instr.One e = absurd (cc)
assignment_is (instr.Truth b) e = absurd (cc)
assignment_is (instr.Place slot) e = absurd (cc)
assignment_is (instr.Load slot) e = absurd (cc)
assignment_is instr.Value e = absurd (cc)
assignment_is instr.Negate e = absurd (cc)
assignment_is (instr.Raise n) e = absurd (cc)
assignment_is (instr.Operation o) e = absurd (cc)
assignment_is (instr.Comparison o) e = absurd (cc)
assignment_is instr.Negation e = absurd (cc)
assignment_is (instr.SkipFalse k) e = absurd (cc)
assignment_is instr.Both e = absurd (cc)
assignment_is (instr.SkipTrue k) e = absurd (cc)
assignment_is instr.Either e = absurd (cc)
assignment_is (instr.BuiltIn f n) e = absurd (cc)
assignment_is instr.Forget e = absurd (cc)
assignment_is instr.Assigned e = refl
assignment_is (instr.Array slot n) e = absurd (cc)
assignment_is (instr.Tests card place) e = absurd (cc)
assignment_is (instr.Jump q) e = absurd (cc)
assignment_is instr.Turn e = absurd (cc)
assignment_is (instr.Signs place) e = absurd (cc)
assignment_is (instr.Ways q r) e = absurd (cc)
assignment_is (instr.Choose place n) e = absurd (cc)
assignment_is (instr.BeginDo slot q) e = absurd (cc)
assignment_is instr.ResultOf e = absurd (cc)
assignment_is instr.Stop e = absurd (cc)
assignment_is (instr.Refer place) e = absurd (cc)
assignment_is (instr.Go card q) e = absurd (cc)

-- work that stays and work that stays
acted_then : (p : Program) (a b c : State) → IsActed p a b → b.frame.unit ≡ a.frame.unit → IsActed p b c → IsActed p a c
acted_then p a b c ab same bc = ((works_then p.code.now p.setting.now a b c ab.0.0 bc.0.0, bc.0.1), λ e. bc.1 e ∙ same)

module _ (p : Program) (m : State) (can : CanWork p m) (e : m.stage ≡ stage.Inside) (near : m.frame.stop < 2 ^ 64) (unit : UnitCode)
    (there : slice_get p.code.now.units m.frame.unit ≡ Some unit) where
  -- an instruction is done where a state is at it with some items taken
  one_done : (k : ℕ) (vs ws : List Item) (i : Instr) → CanWork p (at k vs m) → k < m.frame.stop → slice_get unit.instrs k ≡ Some i
      → obeyed p unit i (at (k + 1) vs m) ≡ at (k + 1) ws m → IsActed p (at k vs m) (at (k + 1) ws m)
  one_done k vs ws i now within stands so = subst (IsActed p (at k vs m)) so (does_its_work p (at k vs m) now e within near i unit there stands)

  last_done : (k slot : ℕ) (c : Cell) (vs : List Item) → CanWork p (at k (Cells (extent_at m slot) ∷ Fresh c ∷ vs) m) → k < m.frame.stop → slice_get unit.instrs k ≡ Some instr.Assigned
      → IsActed p (at k (Cells (extent_at m slot) ∷ Fresh c ∷ vs) m) (with_cells (store m.cells.items (extent_at m slot).first c) (at (k + 1) vs m))
  last_done k slot c vs now within stands = does_its_work p (at k (Cells (extent_at m slot) ∷ Fresh c ∷ vs) m) now e within near instr.Assigned unit there stands

  module _ (a b i t s : Instr) (k slot : ℕ) (c : Cell) (at_place : m.frame.place ≡ k) (within : k + 5 ≤ m.frame.stop)
      (one : slice_get unit.instrs k ≡ Some a) (two : slice_get unit.instrs (k + 1) ≡ Some b) (three : slice_get unit.instrs (k + 2) ≡ Some i)
      (four : slice_get unit.instrs (k + 3) ≡ Some t) (five : slice_get unit.instrs (k + 4) ≡ Some s) (slot_told : slot_of t ≡ Some slot)
      (assigns : is_assignment s ≡ true) (sums : sum_to p.setting.now a b i m ≡ Some c) where
    abbrev vs : List Item
    vs = m.values.items

    abbrev is_sum : IsSum p.setting.now a b i m c
    is_sum = sum_is p.setting.now a b m c i sums

    abbrev left : Cell
    left = is_sum.left

    abbrev right : Cell
    right = is_sum.right

    here : at k vs m ≡ m
    here = ap (λ k. at k vs m) (sym at_place)

    first_done : IsActed p (at k vs m) (at (k + 1) (Fresh left ∷ vs) m)
    first_done = one_done k vs (Fresh left ∷ vs) a (subst (CanWork p) (sym here) can) (omega arith) one (pushed p unit m left (k + 1) vs a is_sum.left_is)

    second_done : IsActed p (at k vs m) (at (k + 2) (Fresh right ∷ Fresh left ∷ vs) m)
    second_done =
        let same : k + 1 + 1 ≡ k + 2 = omega arith in
        acted_then p (at k vs m) (at (k + 1) (Fresh left ∷ vs) m) (at (k + 2) (Fresh right ∷ Fresh left ∷ vs) m) first_done refl
        (subst (λ j. IsActed p (at (k + 1) (Fresh left ∷ vs) m) (at j (Fresh right ∷ Fresh left ∷ vs) m)) same
        (one_done (k + 1) (Fresh left ∷ vs) (Fresh right ∷ Fresh left ∷ vs) b first_done.0.1 (omega arith) two (pushed p unit m right (k + 1 + 1) (Fresh left ∷ vs) b is_sum.right_is)))

    added : obeyed p unit i (at (k + 2 + 1) (Fresh right ∷ Fresh left ∷ vs) m) ≡ at (k + 2 + 1) (Fresh c ∷ vs) m
    added =
        ap (λ j. obeyed p unit j (at (k + 2 + 1) (Fresh right ∷ Fresh left ∷ vs) m)) is_sum.is
        ∙ ap (λ r. answered 2 r (at (k + 2 + 1) (Fresh right ∷ Fresh left ∷ vs) m)) (operated_so is_sum.sign is_sum.made)
      where
        operated_so : (o : BinOp) → operated_to p.setting.now.bounds o left right ≡ Ok c → operated_to p.setting.now.bounds o left right ≡ Ok c
        operated_so o e = e

    third_done : IsActed p (at k vs m) (at (k + 3) (Fresh c ∷ vs) m)
    third_done =
        let same : k + 2 + 1 ≡ k + 3 = omega arith in
        acted_then p (at k vs m) (at (k + 2) (Fresh right ∷ Fresh left ∷ vs) m) (at (k + 3) (Fresh c ∷ vs) m) second_done refl
        (subst (λ j. IsActed p (at (k + 2) (Fresh right ∷ Fresh left ∷ vs) m) (at j (Fresh c ∷ vs) m)) same
        (one_done (k + 2) (Fresh right ∷ Fresh left ∷ vs) (Fresh c ∷ vs) i second_done.0.1 (omega arith) three added))

    fourth_done : IsActed p (at k vs m) (at (k + 4) (Cells (extent_at m slot) ∷ Fresh c ∷ vs) m)
    fourth_done =
        let same : k + 3 + 1 ≡ k + 4 = omega arith in
        acted_then p (at k vs m) (at (k + 3) (Fresh c ∷ vs) m) (at (k + 4) (Cells (extent_at m slot) ∷ Fresh c ∷ vs) m) third_done refl
        (subst (λ j. IsActed p (at (k + 3) (Fresh c ∷ vs) m) (at j (Cells (extent_at m slot) ∷ Fresh c ∷ vs) m)) same
        (one_done (k + 3) (Fresh c ∷ vs) (Cells (extent_at m slot) ∷ Fresh c ∷ vs) t third_done.0.1 (omega arith) four
        (ap (λ j. obeyed p unit j (at (k + 3 + 1) (Fresh c ∷ vs) m)) (slot_is slot t slot_told))))

    all_done : IsActed p (at k vs m) (assigned_at slot c (k + 5) m)
    all_done =
        let same : k + 4 + 1 ≡ k + 5 = omega arith in
        acted_then p (at k vs m) (at (k + 4) (Cells (extent_at m slot) ∷ Fresh c ∷ vs) m) (assigned_at slot c (k + 5) m) fourth_done refl
        (subst (λ j. IsActed p (at (k + 4) (Cells (extent_at m slot) ∷ Fresh c ∷ vs) m) (assigned_at slot c j m)) same
        (last_done (k + 4) slot c vs fourth_done.0.1 (omega arith) (five ∙ ap Some (assignment_is s assigns))))

    pub sum_assigned : MayAct true p m (assigned_at slot c (k + 5) m)
    sum_assigned =
        let done : IsActed p m (assigned_at slot c (k + 5) m) = subst (λ x. IsActed p x (assigned_at slot c (k + 5) m)) here all_done in
        (done.0.0, done.0.1, done.1)
