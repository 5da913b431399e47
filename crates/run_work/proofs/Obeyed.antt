-- Instructions do their work, and keep the room.
use Rattle.std.proofs.Common.{◌≡◌, ℕ, suc, ◌+◌, ◌*◌, ◌<◌, ◌≤◌, ◌^◌, Bool, true, [], length, Option, Some, None, slice_get, refl, sym, ap, ◌∙◌, subst, arith}
use Rattle.run_shapes.specs.Coded.{InstrHasSlots}
use Rattle.run_shapes.specs.declared.instr.Instr.{Instr}
use Rattle.run_shapes.specs.declared.instr.Instr.TheVariants as instr
use Rattle.run_shapes.specs.declared.unit_code.CallCode.{CallCode}
use Rattle.run_shapes.specs.declared.unit_code.Code.{Code}
use Rattle.run_shapes.specs.declared.unit_code.UnitCode.{UnitCode}
use Rattle.run_state.specs.Deeds.{advanced, gone_to, newest_in}
use Rattle.run_state.specs.Obeyed.{IsPlain}
use Rattle.run_state.specs.Rests.{Same, Works, weight, weight_of, weight_in}
use Rattle.run_state.specs.Shows.{unit_code, code_left}
use Rattle.run_state.specs.Settings.{copies_by}
use Rattle.run_state.specs.declared.machine.Setting.{Setting}
use Rattle.run_state.specs.declared.machine.Stage.TheVariants as stage
use Rattle.run_state.specs.declared.machine.State.{State}
use Rattle.run_state.proofs.Glue.{acts}
use Rattle.run_state.proofs.Weights.{one_taken, plain_less}
use Rattle.run_calls.specs.Calls.{called_at, called_of, referred, handed_all, put_off}
use Rattle.run_calls.proofs.Called.{obeys_refer}
use Rattle.run_calls.proofs.Closed.{handed_closed}
use Rattle.run_elements.specs.Elements.{did, is_element, IsReady}
use Rattle.run_elements.proofs.Obeying.{obeyed as element_obeyed}
use Rattle.run_elements.proofs.Plain.{plain}
use Rattle.run_ranks.specs.Needs.{rank_at}
use Rattle.run_ranks.proofs.Calling.{keeps as calls_keep}
use Rattle.run_ranks.proofs.Plain.{at_stage, keeps}
use Rattle.run_jumps.specs.Jumps.{led_by, is_jump}
use Rattle.run_jumps.proofs.Led.{obeyed as jump_obeyed}
use Rattle.run_jumps.proofs.Plain.{plain as jump_plain, left_plain}
use Rattle.run_jumps.proofs.Reached.{reached}
use Rattle.run_places.specs.Arrays.{did_array}
use Rattle.run_places.proofs.Obeying.{obeyed as array_obeyed}
use Rattle.run_places.proofs.Plain.{plain as array_plain}
use Rattle.run_work.specs.Obeying.{goes, obeyed}
use Rattle.run_work.specs.Ways.{CanWork, Stays}
use Rattle.run_work.specs.declared.program.Program.{Program}
use Rattle.run_work.proofs.Units.{unit_is, can_on, its_code}

-- work that keeps the room
abbrev pub IsDone : Program → State → State → Type 0
IsDone p old new = Works p.code.now p.setting.now old new × CanWork p new

-- so do instructions, which stay in their unit
abbrev pub IsActed : Program → State → State → Type 0
IsActed p old new = IsDone p old new × Stays old new

-- ---- calls

module _ (code : Code) (setting : Setting) (m : State) (e : m.stage ≡ stage.Inside) where
  called_less : (copies : ℕ → Bool) (k n unit : ℕ) → weight code (put_off k n unit (advanced m) (handed_all copies 1 (length m.cells.items) (newest_in n m.values.items []) (advanced m)))
      ≡ length (code_left (unit_code code m.frame.unit) (advanced m).frame) + 2 + weight_of code m.callers.items
  called_less copies k n unit =
      let here : length m.cells.items ≤ length m.cells.items = omega arith in
      ap (λ s. weight code (put_off k n unit (advanced m) s)) (handed_closed copies 1 (length m.cells.items) (newest_in n m.values.items []) (advanced m) here)

  whole : (i : Instr) → m.frame.place < m.frame.stop → slice_get (unit_code code m.frame.unit).instrs m.frame.place ≡ Some i
      → weight code m ≡ suc (length (code_left (unit_code code m.frame.unit) (advanced m).frame)) + 2 + weight_of code m.callers.items
  whole i within at =
      let a : weight code m ≡ length (code_left (unit_code code m.frame.unit) m.frame) + 2 + weight_of code m.callers.items = ap (λ s. weight_in code s m.frame m.callers.items) e in
      let b : length (code_left (unit_code code m.frame.unit) m.frame) ≡ suc (length (code_left (unit_code code m.frame.unit) (advanced m).frame)) = one_taken code m i within at in
      omega arith

  module _ (i : Instr) (within : m.frame.place < m.frame.stop) (at : slice_get (unit_code code m.frame.unit).instrs m.frame.place ≡ Some i) where
    lost_less : 0 < weight code m
    lost_less =
        let a : weight code m ≡ suc (length (code_left (unit_code code m.frame.unit) (advanced m).frame)) + 2 + weight_of code m.callers.items = whole i within at in
        omega arith

    called_at_less : (unit : UnitCode) (call : CallCode) (callee : ℕ) (o : Option UnitCode) → weight code (called_at setting unit call callee o (advanced m)) < weight code m
    called_at_less unit call callee None = lost_less
    called_at_less unit call callee (Some g) =
        let a : weight code m ≡ suc (length (code_left (unit_code code m.frame.unit) (advanced m).frame)) + 2 + weight_of code m.callers.items = whole i within at in
        let b : weight code (called_at setting unit call callee (Some g) (advanced m)) ≡ length (code_left (unit_code code m.frame.unit) (advanced m).frame) + 2 + weight_of code m.callers.items
        = called_less (copies_by setting.passing unit.name call.number) call.number call.actuals callee in
        omega arith

    called_of_less : (unit : UnitCode) (call : CallCode) (o : Option ℕ) → weight code (called_of code setting unit call o (advanced m)) < weight code m
    called_of_less unit call None = lost_less
    called_of_less unit call (Some callee) = called_at_less unit call callee (slice_get code.units callee)

    pub referred_less : (unit : UnitCode) (o : Option CallCode) → weight code (referred code setting unit o (advanced m)) < weight code m
    referred_less unit None = lost_less
    referred_less unit (Some call) = called_of_less unit call call.callee

called_stays : (setting : Setting) (m : State) (unit : UnitCode) (call : CallCode) (callee : ℕ) (o : Option UnitCode) → Stays m (called_at setting unit call callee o (advanced m))
called_stays setting m unit call callee None e = refl
called_stays setting m unit call callee (Some g) e = absurd (cc)

called_of_stays : (code : Code) (setting : Setting) (m : State) (unit : UnitCode) (call : CallCode) (o : Option ℕ) → Stays m (called_of code setting unit call o (advanced m))
called_of_stays code setting m unit call None e = refl
called_of_stays code setting m unit call (Some callee) e = called_stays setting m unit call callee (slice_get code.units callee) e

referred_stays : (code : Code) (setting : Setting) (m : State) (unit : UnitCode) (o : Option CallCode) → Stays m (referred code setting unit o (advanced m))
referred_stays code setting m unit None e = refl
referred_stays code setting m unit (Some call) e = called_of_stays code setting m unit call call.callee e

-- ---- each instruction

module _ (p : Program) (m : State) (can : CanWork p m) (e : m.stage ≡ stage.Inside) (within : m.frame.place < m.frame.stop) (near : m.frame.stop < 2 ^ 64) where
  few_cells : length m.cells.items < 2 ^ 64
  few_cells =
      let have = at_stage p.code.now p.ranks.now can.most m stage.Inside e can.room in
      let a : length m.cells.items ≤ m.frame.before + (rank_at p.ranks.now m.frame.unit).cells = have.1.some in
      let b : (rank_at p.ranks.now m.frame.unit).cells ≤ (rank_at p.ranks.now m.frame.unit).plain = can.ranked.plain m.frame.unit in
      let c : m.frame.before + ((rank_at p.ranks.now m.frame.unit).plain + (rank_at p.ranks.now m.frame.unit).copies * can.most) ≤ m.cells.room = have.1.all in
      let d : m.cells.room < 2 ^ 64 = have.0.small in
      omega arith

  module _ (i : Instr) (unit : UnitCode) (there : slice_get p.code.now.units m.frame.unit ≡ Some unit) (at : slice_get unit.instrs m.frame.place ≡ Some i) where
    same_unit : unit_code p.code.now m.frame.unit ≡ unit
    same_unit = unit_is p.code.now m.frame.unit unit there

    at_place : slice_get (unit_code p.code.now m.frame.unit).instrs m.frame.place ≡ Some i
    at_place = ap (λ (u : UnitCode). slice_get u.instrs m.frame.place) same_unit ∙ at

    ready : IsReady p.code.now i (advanced m)
    ready = record {
      inside = e;
      cells_near = few_cells;
      stop_near = near;
      place_near = omega arith;
      has_slots =
          subst (λ (u : UnitCode). InstrHasSlots (length u.slots.names) i) (sym same_unit)
          ((its_code p.code.now p.units.now can.coded m.frame.unit unit there).2.fitting.in_instrs m.frame.place i at);
    }

    done : (new : State) → Same p.code.now p.setting.now m new → IsPlain (advanced m) new → IsActed p m new
    done new same plain = (
      (
        record { same = same; less = plain_less p.code.now m new i e within at_place plain },
        can_on p m new can (keeps p.code.now p.ranks.now can.most m new can.room e within plain),
      ),
      λ in_it. plain.frame.unit,
    )

    by_element : is_element i ≡ true → IsActed p m (did p.setting.now i (advanced m))
    by_element is =
        done (did p.setting.now i (advanced m)) (acts p.code.now p.setting.now i m (did p.setting.now i (advanced m)) e within at_place (element_obeyed p.code.now p.setting.now i (advanced m) is ready))
        (plain p.code.now p.setting.now i (advanced m) ready)

    by_jump : is_jump i ≡ true → IsActed p m (led_by p.code.now p.setting.now i (advanced m))
    by_jump is =
        let new = led_by p.code.now p.setting.now i (advanced m) in
        done new (acts p.code.now p.setting.now i m new e within at_place (jump_obeyed p.code.now p.setting.now i (advanced m) is ready)) (jump_plain p.code.now p.setting.now i (advanced m) ready)

    jumps_so : is_jump i ≡ true → IsActed p m (goes p unit i (advanced m))
    jumps_so is = subst (λ u. IsActed p m (goes p u i (advanced m))) same_unit (by_jump is)

    by_array : (slot n : ℕ) → i ≡ instr.Array slot n → IsActed p m (did_array unit slot n (advanced m))
    by_array slot n is =
        let new = did_array (unit_code p.code.now m.frame.unit) slot n (advanced m) in
        let fit : IsReady p.code.now (instr.Array slot n) (advanced m) = subst (λ j. IsReady p.code.now j (advanced m)) is ready in
        subst (λ (u : UnitCode). IsActed p m (did_array u slot n (advanced m))) same_unit
        (done new (acts p.code.now p.setting.now (instr.Array slot n) m new e within (at_place ∙ ap Some is) (array_obeyed p.code.now p.setting.now slot n (advanced m) fit)) (array_plain p.code.now slot n (advanced m) fit))

    by_call : (place : ℕ) → i ≡ instr.Refer place → IsActed p m (referred p.code.now p.setting.now unit (slice_get unit.calls place) (advanced m))
    by_call place is =
        let new = referred p.code.now p.setting.now (unit_code p.code.now m.frame.unit) (slice_get (unit_code p.code.now m.frame.unit).calls place) (advanced m) in
        subst (λ (u : UnitCode). IsActed p m (referred p.code.now p.setting.now u (slice_get u.calls place) (advanced m))) same_unit (
          (
            record {
              same = acts p.code.now p.setting.now (instr.Refer place) m new e within (at_place ∙ ap Some is) (obeys_refer p.code.now p.setting.now place (advanced m) few_cells);
              less = referred_less p.code.now p.setting.now m e i within at_place (unit_code p.code.now m.frame.unit) (slice_get (unit_code p.code.now m.frame.unit).calls place);
            },
            can_on p m new can (calls_keep p.code.now p.setting.now p.ranks.now can.most place m (record { ranked = can.ranked; room = can.room }) e within),
          ),
          referred_stays p.code.now p.setting.now m (unit_code p.code.now m.frame.unit) (slice_get (unit_code p.code.now m.frame.unit).calls place),
        )

    by_point : (card q : ℕ) → i ≡ instr.Go card q → IsActed p m (gone_to q (advanced m))
    by_point card q is = done (gone_to q (advanced m)) (reached p.code.now p.setting.now card q m e within (at_place ∙ ap Some is)) (left_plain (advanced m) 0 q)

  -- an instruction does its work
  pub does_its_work : (i : Instr) (unit : UnitCode) → slice_get p.code.now.units m.frame.unit ≡ Some unit → slice_get unit.instrs m.frame.place ≡ Some i → IsActed p m (obeyed p unit i (advanced m))
  does_its_work (instr.Number n) unit there at = by_element (instr.Number n) unit there at refl
  does_its_work instr.One unit there at = by_element instr.One unit there at refl
  does_its_work (instr.Truth b) unit there at = by_element (instr.Truth b) unit there at refl
  does_its_work (instr.Place slot) unit there at = by_element (instr.Place slot) unit there at refl
  does_its_work (instr.Load slot) unit there at = by_element (instr.Load slot) unit there at refl
  does_its_work instr.Value unit there at = by_element instr.Value unit there at refl
  does_its_work instr.Negate unit there at = by_element instr.Negate unit there at refl
  does_its_work (instr.Raise n) unit there at = by_element (instr.Raise n) unit there at refl
  does_its_work (instr.Operation o) unit there at = by_element (instr.Operation o) unit there at refl
  does_its_work (instr.Comparison o) unit there at = by_element (instr.Comparison o) unit there at refl
  does_its_work instr.Negation unit there at = by_element instr.Negation unit there at refl
  does_its_work (instr.SkipFalse k) unit there at = by_element (instr.SkipFalse k) unit there at refl
  does_its_work instr.Both unit there at = by_element instr.Both unit there at refl
  does_its_work (instr.SkipTrue k) unit there at = by_element (instr.SkipTrue k) unit there at refl
  does_its_work instr.Either unit there at = by_element instr.Either unit there at refl
  does_its_work (instr.BuiltIn f n) unit there at = by_element (instr.BuiltIn f n) unit there at refl
  does_its_work instr.Forget unit there at = by_element instr.Forget unit there at refl
  does_its_work instr.Assigned unit there at = by_element instr.Assigned unit there at refl
  does_its_work (instr.Array slot n) unit there at = by_array (instr.Array slot n) unit there at slot n refl
  does_its_work (instr.Tests card place) unit there at = jumps_so (instr.Tests card place) unit there at refl
  does_its_work (instr.Jump q) unit there at = jumps_so (instr.Jump q) unit there at refl
  does_its_work instr.Turn unit there at = jumps_so instr.Turn unit there at refl
  does_its_work (instr.Signs place) unit there at = jumps_so (instr.Signs place) unit there at refl
  does_its_work (instr.Ways q r) unit there at = jumps_so (instr.Ways q r) unit there at refl
  does_its_work (instr.Choose place n) unit there at = jumps_so (instr.Choose place n) unit there at refl
  does_its_work (instr.BeginDo slot q) unit there at = jumps_so (instr.BeginDo slot q) unit there at refl
  does_its_work instr.ResultOf unit there at = jumps_so instr.ResultOf unit there at refl
  does_its_work instr.Stop unit there at = jumps_so instr.Stop unit there at refl
  does_its_work (instr.Refer place) unit there at = by_call (instr.Refer place) unit there at place refl
  does_its_work (instr.Go card q) unit there at = by_point (instr.Go card q) unit there at card q refl
