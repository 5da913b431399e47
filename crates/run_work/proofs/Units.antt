-- The unit that is run has its code, and a state that shows a run is at a unit that is there.
use Rattle.std.proofs.Common.{◌≡◌, true, ap, ◌∙◌, refl, sym, ℕ, zero, suc, ◌<◌, ◌≤◌, List, [], ◌∷◌, length, Option, Some, None, slice_get, arith}
use Rattle.std.proofs.lemmas.Option.{slice_get_within, get_or_from_slice_get}
use Rattle.fort_syntax.specs.declared.unit.Unit.{Unit as Routine}
use Rattle.fort_model.specs.Storage.{Storage}
use Rattle.run_frames.specs.Configs.{Config}
use Rattle.run_shapes.specs.Coded.{IsCodeOf, IsUnitCodeOf}
use Rattle.run_shapes.specs.declared.unit_code.Code.{Code}
use Rattle.run_shapes.specs.declared.unit_code.UnitCode.{UnitCode}
use Rattle.run_state.specs.Rests.{Works, weight}
use Rattle.run_state.specs.Shows.{no_unit, unit_code, World, IsWorldOf, Shows}
use Rattle.run_state.specs.declared.machine.Setting.{Setting}
use Rattle.run_state.specs.declared.machine.Stage.{Stage}
use Rattle.run_state.specs.declared.machine.Stage.TheVariants as stage
use Rattle.run_state.specs.declared.machine.State.{State}
use Rattle.run_state.proofs.Glue.{same_then, when_inside}
use Rattle.run_state.proofs.Slots.{unit_there}
use Rattle.run_state.proofs.Stages.{when_entering, when_between, when_carried, when_testing}
use Rattle.run_ranks.specs.Room.{HasRoom}
use Rattle.run_work.specs.Ways.{CanWork, Stays, is_inside}
use Rattle.run_work.specs.declared.program.Program.{Program}

-- a unit that is there is that of its number
pub unit_is : (code : Code) (i : ℕ) (unit : UnitCode) → slice_get code.units i ≡ Some unit → unit_code code i ≡ unit
unit_is code i unit at = get_or_from_slice_get code.units i unit no_unit at

-- with room a new state can go on, too
pub can_on : (p : Program) (old new : State) (can : CanWork p old) → HasRoom p.code.now p.ranks.now can.most new → CanWork p new
can_on p old new can room = record { coded = can.coded; ranked = can.ranked; sized = can.sized; most = can.most; room = room; own_within = can.own_within }

pub past : {X : Type 0} (xs : List X) (i : ℕ) → slice_get xs i ≡ None → length xs ≤ i
past [] i e = omega arith
past (x ∷ xs) zero e = absurd (cc)
past (x ∷ xs) (suc i) e = let h : length xs ≤ i = past xs i e in omega arith

-- code that is there is that of a unit
pub its_code : (code : Code) (units : List Routine) → IsCodeOf code.dialect units code → (i : ℕ) (unit : UnitCode) → slice_get code.units i ≡ Some unit
    → (u : Routine) × (slice_get units i ≡ Some u) × IsUnitCodeOf units code.commons u unit
its_code code units coded i unit at = by_cases (slice_get units i) refl
  where
    by_cases : (o : Option Routine) → slice_get units i ≡ o → (u : Routine) × (slice_get units i ≡ Some u) × IsUnitCodeOf units code.commons u unit
    by_cases (Some u) e = (u, e, coded.each i u unit e at)
    by_cases None e =
        let a : length units ≤ i = past units i e in
        let b : i < length code.units = slice_get_within code.units i unit at in
        let c : length code.units ≡ length units = coded.long in
        absurd (omega arith)

module _ (code : Code) (setting : Setting) (m : State) (missing : slice_get code.units m.frame.unit ≡ None) (w : World) (world : IsWorldOf code setting w) where
  -- without code no unit is there
  nothing : (u : Routine) → slice_get w.units m.frame.unit ≡ Some u → ⊥
  nothing u at = let there : slice_get code.units m.frame.unit ≡ Some (unit_code code m.frame.unit) = unit_there code.dialect w.units code world.coded m.frame.unit u at in let f = sym missing ∙ there in absurd (cc)

  module _ (A : Config → Storage → Type 0) where
    pub none_entering : m.stage ≡ stage.Entering → (c : Config) (st : Storage) → Shows w code m c st → A c st
    none_entering e = when_entering code w m A e (λ g env ws xs st s. absurd (nothing g s.unit_is))

    pub none_between : m.stage ≡ stage.Between → (c : Config) (st : Storage) → Shows w code m c st → A c st
    none_between e = when_between code w m A e (λ f q ws xs st q_is s. absurd (nothing f.unit s.frame_is.unit_is))

    pub none_carried : m.stage ≡ stage.Carried → (c : Config) (st : Storage) → Shows w code m c st → A c st
    none_carried e = when_carried code w m A e (λ f card is ws xs st s. absurd (nothing f.unit s.unit_shown.frame_is.unit_is))

    pub none_testing : m.stage ≡ stage.Testing → (c : Config) (st : Storage) → Shows w code m c st → A c st
    none_testing e = when_testing code w m A e (λ f card q ds ws xs st s. absurd (nothing f.unit s.unit_shown.frame_is.unit_is))

    pub none_inside : m.stage ≡ stage.Inside → (c : Config) (st : Storage) → Shows w code m c st → A c st
    none_inside e = when_inside code setting w m A e (λ f card is ws xs st s. absurd (nothing f.unit s.unit_shown.frame_is.unit_is))

-- ---- pieces of work, one after the other

-- a state that is within a statement
pub inside_is : (s : Stage) → is_inside s ≡ true → s ≡ stage.Inside
inside_is stage.Inside e = refl
inside_is stage.Entering e = absurd (cc)
inside_is stage.Between e = absurd (cc)
inside_is stage.Carried e = absurd (cc)
inside_is stage.Testing e = absurd (cc)
inside_is (stage.Ended v) e = absurd (cc)
inside_is (stage.Erred kind) e = absurd (cc)
inside_is stage.Nowhere e = absurd (cc)

pub works_then : (code : Code) (setting : Setting) (a b c : State) → Works code setting a b → Works code setting b c → Works code setting a c
works_then code setting a b c ab bc =
    let one : weight code b < weight code a = ab.less in
    let two : weight code c < weight code b = bc.less in
    record { same = same_then code setting a b c ab.same bc.same; less = omega arith }

-- what is run within a statement is still in the unit
pub unit_stays : (code : Code) (unit : UnitCode) (old new : State) → slice_get code.units old.frame.unit ≡ Some unit → Stays old new → new.stage ≡ stage.Inside → slice_get code.units new.frame.unit ≡ Some unit
unit_stays code unit old new at stays e = ap (slice_get code.units) (stays e) ∙ at
