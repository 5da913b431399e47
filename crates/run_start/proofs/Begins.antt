-- From the start of a unit to that of a name.
use Rattle.std.proofs.Common.{◌≡◌, ℕ, ◌≤◌, Bool, false, cond, Option, Some, None, List, slice_get, sym, ap, ◌∙◌, subst, length}
use Rattle.std.specs.Prelude.{Result, Ok, Err}
use Rattle.std.proofs.lemmas.Option.{slice_get_past}
use Rattle.fort_syntax.specs.declared.name.Name.{Name}
use Rattle.fort_syntax.specs.declared.unit.Unit.{Unit as Routine}
use Rattle.fort_notes.specs.declared.cases.Given.{Given}
use Rattle.run_state.specs.declared.machine.Setting.{Setting}
use Rattle.run_state.specs.declared.machine.State.{State}
use Rattle.run_start.specs.Places.{first_place, names_of_units}
use Rattle.run_start.specs.Started.{IsFirst, IsFirstOf, IsFirstState, IsRefusedBy, IsStartBy, refusal_in, refusal_of, routine_in, routine_named, shape_refusal}
use Rattle.run_start.specs.Starts.{is_unknown_in}
use Rattle.run_start.specs.declared.refusal.RunRefusal.{RunRefusal}
use Rattle.run_start.specs.declared.refusal.RunRefusal.TheVariants.{UnknownName}
use Rattle.run_start.specs.declared.runnable.Runnable.{Runnable}
use Rattle.run_start.proofs.Firsts.{units_placed}

-- a start by the same first refusal, with states of another kind
pub start_as : (first other : Option RunRefusal) (Is Are : State → Type 0) (r : Result State RunRefusal) → other ≡ first → ((m : State) → Is m → Are m) → IsStartBy first Is r → IsStartBy other Are r
start_as first other Is Are (Ok m) e f h = (e ∙ h.0, f m h.1)
start_as first other Is Are (Err r) e f h = subst (λ (o : Option RunRefusal). IsRefusedBy o r) (sym e) h

module _ (deck : Runnable) (setting : Setting) (given : List Given) where
  pub unit_started : (i : ℕ) (u : Routine) (r : Result State RunRefusal) → slice_get deck.units.now i ≡ Some u → is_unknown_in deck.units.now setting.passing (Some u) given ≡ false
      → IsStartBy (shape_refusal deck.units.now setting u given) (IsFirst deck.units.now deck.code.now deck.ranks.now setting u given) r
      → IsStartBy (refusal_in deck.units.now setting (slice_get deck.units.now i) given) (IsFirstOf deck setting i given) r
  unit_started i u r at known h =
      start_as (shape_refusal deck.units.now setting u given) (refusal_in deck.units.now setting (slice_get deck.units.now i) given) (IsFirst deck.units.now deck.code.now deck.ranks.now setting u given)
      (IsFirstOf deck setting i given) r
      (ap (λ (o : Option Routine). refusal_in deck.units.now setting o given) at ∙ ap (λ (b : Bool). cond b (Some UnknownName) (shape_refusal deck.units.now setting u given)) known)
      (λ m f. record { its = u; is_its = at; begun = f }) h

  module _ (unit : Name) where
    pub no_place : first_place (names_of_units deck.units.now) unit 0 ≡ None → refusal_of deck.units.now setting unit given ≡ Some UnknownName
    no_place e = ap (λ (o : Option ℕ). refusal_in deck.units.now setting (routine_in deck.units.now o) given) (units_placed deck.units.now unit 0 ∙ e)

    pub no_unit_there : (i : ℕ) → first_place (names_of_units deck.units.now) unit 0 ≡ Some i → length deck.units.now ≤ i → refusal_of deck.units.now setting unit given ≡ Some UnknownName
    no_unit_there i e h =
        ap (λ (o : Option ℕ). refusal_in deck.units.now setting (routine_in deck.units.now o) given) (units_placed deck.units.now unit 0 ∙ e)
        ∙ ap (λ (o : Option Routine). refusal_in deck.units.now setting o given) (slice_get_past deck.units.now i h)

    pub name_started : (i : ℕ) (r : Result State RunRefusal) → first_place (names_of_units deck.units.now) unit 0 ≡ Some i
        → IsStartBy (refusal_in deck.units.now setting (slice_get deck.units.now i) given) (IsFirstOf deck setting i given) r
        → IsStartBy (refusal_of deck.units.now setting unit given) (IsFirstState deck setting unit given) r
    name_started i r e h =
        let named : routine_named deck.units.now unit ≡ slice_get deck.units.now i = ap (routine_in deck.units.now) (units_placed deck.units.now unit 0 ∙ e) in
        start_as (refusal_in deck.units.now setting (slice_get deck.units.now i) given) (refusal_of deck.units.now setting unit given) (IsFirstOf deck setting i given) (IsFirstState deck setting unit given) r
        (ap (λ (o : Option Routine). refusal_in deck.units.now setting o given) named) (λ m f. record { routine = f.its; is_routine = named ∙ f.is_its; first = f.begun }) h
