-- Units of a program that is ready.
use Rattle.std.proofs.Common.{◌≡◌, ℕ, zero, suc, List, [], ◌∷◌, Option, Some, None, slice_get, refl, ap, ◌∙◌, subst}
use Rattle.fort_syntax.specs.WellFormed.{IsWellFormedUnit, AreWellFormedUnits}
use Rattle.fort_syntax.specs.declared.dialect.Dialect.{Dialect}
use Rattle.fort_syntax.specs.declared.rule.Rule.TheVariants.{BadLastOfDo}
use Rattle.fort_syntax.specs.declared.unit.Unit.{Unit as Routine}
use Rattle.fort_model.specs.Lists.{IsAmong}
use Rattle.fort_model.specs.Ranges.{has_bad_last}
use Rattle.fort_model.specs.Rules.{at_lines}
use Rattle.flowing_laws.proofs.Flowing.{unit_flows}
use Rattle.ready_flows.specs.Laws.{ReadyUnitsFlow, ReadyUnitsStand}

none_some : {X : Type 0} (a : X) → ◌≡◌ {A = Option X} None (Some a) → ⊥
none_some a e = cc

some_is : {X : Type 0} (a b : X) → ◌≡◌ {A = Option X} (Some a) (Some b) → a ≡ b
some_is a b e = cc

well_formed_at : (d : Dialect) (us : List Routine) (i : ℕ) (u : Routine) → AreWellFormedUnits d us → slice_get us i ≡ Some u → IsWellFormedUnit d u
well_formed_at d [] i u all e = absurd (none_some u e)
well_formed_at d (v ∷ us) zero u all e = subst (IsWellFormedUnit d) (some_is v u e) all.0
well_formed_at d (v ∷ us) (suc i) u all e = well_formed_at d us i u all.1 e

none_left : {X : Type 0} (xs : List X) → ((x : X) → IsAmong x xs → ⊥) → xs ≡ []
none_left [] h = refl
none_left (x ∷ xs) h = absurd (h x (zero, refl))

pub ready_unit : ReadyUnitsStand
ready_unit pool scene p i u ready is =
    well_formed_at p.dialect ready.deck.units i u ready.well_formed.units (ap (λ (us : List Routine). slice_get us i) ready.units ∙ is)

pub ready_flows : ReadyUnitsFlow
ready_flows pool scene p i u ready is =
    unit_flows p.dialect u (ready_unit pool scene p i u ready is)
    (none_left (at_lines u (has_bad_last u)) (λ card among. ready.ranges BadLastOfDo (zero, refl) i card (record { unit = u; is_unit = is; breaks = among })))
    (ready.few i u is)
