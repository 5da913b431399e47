-- What is told first is the least fault.
use Rattle.std.proofs.Common.{◌≡◌, ◌<◌, ◌⊎◌, ℕ, ◌+◌, ◌≤◌, inl, inr, refl, subst, arith}
use Rattle.std.specs.Prelude.{Option, Some, None, slice_get}
use Rattle.fort_syntax.specs.FirstFaults.{IsAtMost, TellsLeast}
use Rattle.fort_syntax.specs.Rules.{rule_number}
use Rattle.fort_syntax.specs.declared.refusal.Fault.{Fault}
use Rattle.fort_syntax.specs.declared.rule.Rule.{Rule}
use Rattle.fort_syntax.specs.declared.unit.Unit.{Unit as Routine}
use Rattle.fort_model.specs.Lists.{IsAmong}
use Rattle.fort_model.specs.Rules.{Breaks}
use Rattle.fort_model.specs.Stages.{IsBrokenOf}
use Rattle.stage_faults.specs.Scans.{first_in_units, IsUpTo}
use Rattle.stage_faults.specs.Laws.{IsToldIn, IsToldEarlier, StageFaultIsLeast, StageFaultIsFirst}
use Rattle.stage_faults.proofs.Spots.{first_spot, Above, IsIn, sound, least}
use Rattle.stage_faults.proofs.Units.{line_spots, unit_spots, all_spots, units_first, units_above, in_lines, of_lines, in_units, of_units}

stage_fault_is : StageFaultIsFirst
stage_fault_is p rules head at dialect w order tells = by (first_in_units head at 0 p.units) (units_first head at 0 p.units)
  where
    spots_above : Above 0 (all_spots head at 0 p.units)
    spots_above = units_above head at dialect p.units 0 0 w order

    upto : (o : Option Rule) (rule : Rule) → IsUpTo o rule → (q : Rule) × (o ≡ Some q) × (rule_number q ≤ rule_number rule)
    upto None rule h = absurd h
    upto (Some q) rule h = (q, refl, h)

    -- what is broken is told at its card, by a rule of at most its number
    told_in : (i : ℕ) (u : Routine) (rule : Rule) (card : ℕ) → IsToldIn (head i u) (at u) u rule card
        → (q : Rule) × IsIn card q (unit_spots (head i u) (at u) u) × (rule_number q ≤ rule_number rule)
    told_in i u rule card (inl m) =
        let found = upto (head i u) rule m.1 in
        (found.0, inl (m.0, found.1), found.2)
    told_in i u rule card (inr m) =
        let found = upto (at u m.0.stmt) rule m.3 in
        (found.0, inr (subst (λ (n : ℕ). IsIn n found.0 (line_spots (at u) u.lines)) m.2 (in_lines (at u) u.lines m.0 found.0 m.1 found.1)), found.2)

    at_most : (r : Rule) (n : ℕ) (q rule : Rule) (card : ℕ) → rule_number q ≤ rule_number rule → IsAtMost r n q card → IsAtMost r n rule card
    at_most r n q rule card h (inl l) = inl l
    at_most r n q rule card h (inr m) =
        let a : rule_number r ≤ rule_number q = m.1 in
        inr (m.0, omega arith)

    before : (r : Rule) (n : ℕ) (q : Rule) (m : ℕ) (rule : Rule) (card : ℕ) → m < card → IsAtMost r n q m → IsAtMost r n rule card
    before r n q m rule card h (inl l) = inl (omega arith)
    before r n q m rule card h (inr e) = let same : n ≡ m = e.0 in inl (omega arith)

    by_told : (i : ℕ) (u : Routine) (rule : Rule) (card : ℕ) → slice_get p.units i ≡ Some u
        → IsToldIn (head i u) (at u) u rule card ⊎ IsToldEarlier p head card
        → (f : Fault) × (first_spot (all_spots head at 0 p.units) ≡ Some f) × IsAtMost f.rule f.card rule card
    by_told i u rule card e (inl m) =
        let told = told_in i u rule card m in
        let zero_and : i ≡ 0 + i = omega arith in
        let found = least 0 (all_spots head at 0 p.units) card told.0 spots_above
        (in_units head at p.units 0 i u card told.0 e
        (subst (λ (n : ℕ). IsIn card told.0 (unit_spots (head n u) (at u) u)) zero_and told.1)) in
        (found.0, found.1, at_most found.0.rule found.0.card told.0 rule card told.2 found.2)
    by_told i u rule card e (inr m) =
        let j = m.0 in
        let v = m.1 in
        let zero_and : j ≡ 0 + j = omega arith in
        let found = least 0 (all_spots head at 0 p.units) v.head m.2 spots_above
        (in_units head at p.units 0 j v v.head m.2 m.3
        (subst (λ (n : ℕ). IsIn v.head m.2 (unit_spots (head n v) (at v) v)) zero_and (inl (refl, m.4)))) in
        (found.0, found.1, before found.0.rule found.0.card m.2 v.head rule card m.5 found.2)

    first_of : (rule : Rule) (card : ℕ) → IsBrokenOf p rules rule card
        → (f : Fault) × (first_spot (all_spots head at 0 p.units) ≡ Some f) × IsAtMost f.rule f.card rule card
    first_of rule card b =
        by_told b.unit b.broken.unit rule card b.broken.is_unit
        (tells.told b.unit b.broken.unit rule card b.broken.is_unit b.among b.broken.breaks)

    -- what is told at a card is broken there
    broken_in : (i : ℕ) (u : Routine) (q : Rule) (card : ℕ) → slice_get p.units i ≡ Some u → IsIn card q (unit_spots (head i u) (at u) u)
        → IsAmong q rules × Breaks p q i u card
    broken_in i u q card e (inl m) = subst (λ (n : ℕ). IsAmong q rules × Breaks p q i u n) m.0 (tells.of_heads i u q e m.1)
    broken_in i u q card e (inr m) =
        let found = of_lines (at u) u.lines card q m in
        subst (λ (n : ℕ). IsAmong q rules × Breaks p q i u n) found.2 (tells.of_statements i u found.0 q e found.1 found.3)

    broken : (q : Rule) (card : ℕ) → IsIn card q (all_spots head at 0 p.units) → IsBrokenOf p rules q card
    broken q card m =
        let found = of_units head at p.units 0 card q m in
        let b = broken_in found.0 found.1 q card found.2
        (subst (λ (n : ℕ). IsIn card q (unit_spots (head n found.1) (at found.1) found.1)) (let e : 0 + found.0 ≡ found.0 = omega arith in e) found.3) in
        record { among = b.0; unit = found.0; broken = record { unit = found.1; is_unit = found.2; breaks = b.1 } }

    by : (o : Option Fault) → first_spot (all_spots head at 0 p.units) ≡ o → TellsLeast (IsBrokenOf p rules) o
    by None e = λ rule card b. let found = first_of rule card b in absurd (cc (e, found.1))
    by (Some f) e = (
      broken f.rule f.card (sound (all_spots head at 0 p.units) f e),
      λ rule card b.
          let found = first_of rule card b in
          let same : found.0 ≡ f = cc (e, found.1) in
          subst (λ (x : Fault). IsAtMost x.rule x.card rule card) same found.2,
    )

pub stage_fault_is_first : StageFaultIsFirst
stage_fault_is_first = stage_fault_is

pub stage_fault_is_least : StageFaultIsLeast
stage_fault_is_least p rules head at dialect w order tells =
    stage_fault_is p rules head at dialect w order
    (record { of_heads = tells.of_heads; of_statements = tells.of_statements; told = λ i u rule card e m b. inl (tells.told i u rule card e m b) })
