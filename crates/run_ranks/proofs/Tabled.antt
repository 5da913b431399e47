-- Where there is a table of callees each call is of a unit.
use Rattle.std.proofs.Common.{◌≡◌, ℕ, zero, suc, ◌+◌, Bool, true, false, cond, List, [], ◌∷◌, map, Some, slice_get, refl, sym, ap, ◌∙◌, arith}
use Rattle.fort_syntax.specs.Names.{first_unit, function, subroutine}
use Rattle.fort_syntax.specs.declared.name.Name.{Name}
use Rattle.fort_syntax.specs.declared.unit.Unit.{Unit as Routine}
use Rattle.fort_model.specs.CallFacts.{are_callees, sites_of_unit, IsCalleesTable}
use Rattle.fort_model.specs.Calls.{CallSite, callee_of}
use Rattle.fort_model.specs.Lists.{IsAmong}
use Rattle.run_ranks.specs.Orders.{CallsAreOfUnits}

-- ---- the first unit of a kind is there

record IsThere (us : List Routine) (n i : ℕ) : Type 0 where
  place : ℕ
  routine : Routine
  counted : i ≡ n + place
  at : slice_get us place ≡ Some routine

found_or : (is : Routine → Bool) (u : Routine) (us : List Routine) (n i : ℕ) → (first_unit is us (suc n) ≡ Some i → IsThere us (suc n) i) → (b : Bool)
    → cond b (Some n) (first_unit is us (suc n)) ≡ Some i → IsThere (u ∷ us) n i
found_or is u us n i rec true e = let same : n ≡ i = cc in record { place = 0; routine = u; counted = omega arith; at = refl }
found_or is u us n i rec false e =
    let r : IsThere us (suc n) i = rec e in
    let c : i ≡ suc n + r.place = r.counted in
    record { place = suc r.place; routine = r.routine; counted = omega arith; at = r.at }

found : (is : Routine → Bool) (us : List Routine) (n i : ℕ) → first_unit is us n ≡ Some i → IsThere us n i
found is [] n i e = absurd (cc)
found is (u ∷ us) n i e = found_or is u us n i (found is us (suc n) i) (is u) e

from_start : (units : List Routine) (j : ℕ) → IsThere units 0 j → (g : Routine) × (slice_get units j ≡ Some g)
from_start units j r = let c : j ≡ 0 + r.place = r.counted in let same : r.place ≡ j = omega arith in (r.routine, ap (slice_get units) (sym same) ∙ r.at)

by_kind : (units : List Routine) (f : Name) (j : ℕ) (b : Bool) → cond b (function units f) (subroutine units f) ≡ Some j → (g : Routine) × (slice_get units j ≡ Some g)
by_kind units f j true e = from_start units j (found _ units 0 j e)
by_kind units f j false e = from_start units j (found _ units 0 j e)

-- ---- the table

in_row : (units : List Routine) (row : List ℕ) (sites : List CallSite) (k : ℕ) (s : CallSite) → map (λ j. Some j) row ≡ map (callee_of units) sites → slice_get sites k ≡ Some s
    → (j : ℕ) × (callee_of units s ≡ Some j)
in_row units [] [] k s e a = absurd (cc)
in_row units [] (t ∷ sites) k s e a = absurd (cc)
in_row units (j ∷ row) [] k s e a = absurd (cc)
in_row units (j ∷ row) (t ∷ sites) zero s e a = let head : Some j ≡ callee_of units t = cc in let same : t ≡ s = cc in (j, ap (callee_of units) (sym same) ∙ sym head)
in_row units (j ∷ row) (t ∷ sites) (suc k) s e a = let tail : map (λ j. Some j) row ≡ map (callee_of units) sites = cc in in_row units row sites k s tail a

in_table : (units us : List Routine) (rows : List (List ℕ)) (i : ℕ) (u : Routine) (s : CallSite) → are_callees units us rows → slice_get us i ≡ Some u → IsAmong s (sites_of_unit u)
    → (j : ℕ) × (callee_of units s ≡ Some j)
in_table units [] rows i u s t a m = absurd (cc)
in_table units (v ∷ us) [] i u s t a m = absurd t
in_table units (v ∷ us) (row ∷ rows) zero u s t a m =
    let same : v ≡ u = cc in
    let all : map (λ j. Some j) row ≡ map (callee_of units) (sites_of_unit u) = t.0 ∙ ap (λ (x : Routine). map (callee_of units) (sites_of_unit x)) same in
    in_row units row (sites_of_unit u) m.0 s all m.1
in_table units (v ∷ us) (row ∷ rows) (suc i) u s t a m = in_table units us rows i u s t.1 a m

pub of_units : (units : List Routine) (rows : List (List ℕ)) → IsCalleesTable units rows → CallsAreOfUnits units
of_units units rows table i u s at m =
    let j = in_table units units rows i u s table at m in
    let g = by_kind units s.callee j.0 s.reference j.1 in
    record { unit = j.0; routine = g.0; callee_is = j.1; is_there = g.1 }
