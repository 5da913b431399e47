-- The needs of units, in the order of calls, are enough for the code of units that can be run.
use Rattle.std.proofs.Common.{◌≡◌, ℕ, zero, suc, ◌+◌, ◌-◌, ◌<◌, ◌≤◌, List, [], ◌∷◌, length, Option, Some, None, slice_get, refl, sym, ap, ◌∙◌, subst, arith}
use Rattle.std.specs.Prelude.{get_or, sum, max}
use Rattle.std.proofs.Math.Nat.{le-max_left, le-max_right}
use Rattle.std.proofs.lemmas.List.{get_or_past}
use Rattle.std.proofs.lemmas.List.Sums.{sum_by-cons}
use Rattle.std.proofs.lemmas.Option.{slice_get_within}
use Rattle.fort_syntax.specs.declared.unit.Unit.{Unit as Routine}
use Rattle.fort_model.specs.CallFacts.{sites_of_unit}
use Rattle.fort_model.specs.CallOrder.{IsCallOrder}
use Rattle.run_shapes.specs.Coded.{calls_coded, IsCodeOf, IsUnitCodeOf}
use Rattle.run_shapes.specs.declared.unit_code.CallCode.{CallCode}
use Rattle.run_shapes.specs.declared.unit_code.Code.{Code}
use Rattle.run_shapes.specs.declared.unit_code.LineCode.{LineCode}
use Rattle.run_shapes.specs.declared.unit_code.UnitCode.{UnitCode}
use Rattle.run_state.specs.Shows.{no_unit, unit_code}
use Rattle.run_state.proofs.Slots.{unit_coded, unit_there}
use Rattle.run_ranks.specs.Needs.{no_rank, rank_at, IsRankedCall, IsRanked}
use Rattle.run_ranks.specs.Fitting.{StandsEarlier}
use Rattle.run_ranks.specs.Orders.{CallsAreOfUnits}
use Rattle.run_ranks.specs.Owns.{total_from, longest_from, own_rank, own_ranks}
use Rattle.run_ranks.specs.Raised.{all_raised, ranks_of}
use Rattle.run_ranks.specs.Runnable.{FitCalls}
use Rattle.run_ranks.specs.declared.ranks.Ranks.{Ranks}
use Rattle.run_ranks.specs.declared.ranks.UnitRank.{UnitRank}
use Rattle.run_ranks.proofs.Maxima.{HasItself, IsKept, Holds, all_kept, all_long, any_caller}
use Rattle.run_ranks.proofs.Ordered.{holds_code, order_once}

-- ---- numbers

summed : (q : ℕ) (ns : List ℕ) → total_from q ns ≡ q + sum ns
summed q [] = let z : q ≡ q + 0 = omega arith in z
summed q (n ∷ ns) =
    let s : sum (n ∷ ns) ≡ n + sum ns = sum_by-cons (λ x. x) n ns in
    let r : total_from (q + n) ns ≡ q + n + sum ns = summed (q + n) ns in
    r ∙ (let e : q + n + sum ns ≡ q + sum (n ∷ ns) = omega arith in e)

at_least : (q : ℕ) (ls : List LineCode) → q ≤ longest_from q ls
at_least q [] = omega arith
at_least q (l ∷ ls) =
    let a : q ≤ max q (l.stop - l.start) = le-max_left q (l.stop - l.start) in
    let b : max q (l.stop - l.start) ≤ longest_from (max q (l.stop - l.start)) ls = at_least (max q (l.stop - l.start)) ls in
    omega arith

as_long : (q : ℕ) (ls : List LineCode) (pc : ℕ) (l : LineCode) → slice_get ls pc ≡ Some l → l.stop - l.start ≤ longest_from q ls
as_long q [] pc l e = absurd (cc)
as_long q (x ∷ ls) zero l e =
    let same : x ≡ l = cc in
    let a : x.stop - x.start ≤ max q (x.stop - x.start) = le-max_right q (x.stop - x.start) in
    let b : max q (x.stop - x.start) ≤ longest_from (max q (x.stop - x.start)) ls = at_least (max q (x.stop - x.start)) ls in
    subst (λ (y : LineCode). y.stop - y.start ≤ longest_from (max q (x.stop - x.start)) ls) same (let r : x.stop - x.start ≤ longest_from (max q (x.stop - x.start)) ls = omega arith in r)
as_long q (x ∷ ls) (suc pc) l e = as_long (max q (x.stop - x.start)) ls pc l e

-- ---- units that are there, or not

past : {X : Type 0} (xs : List X) (i : ℕ) → slice_get xs i ≡ None → length xs ≤ i
past [] i e = omega arith
past (x ∷ xs) zero e = absurd (cc)
past (x ∷ xs) (suc i) e = let r : length xs ≤ i = past xs i e in omega arith

own_long : (us : List Routine) (cs : List UnitCode) → length cs ≡ length us → length (own_ranks us cs) ≡ length us
own_long [] cs l = refl
own_long (u ∷ us) [] l = absurd (omega arith)
own_long (u ∷ us) (c ∷ cs) l = ap suc (own_long us cs (let s : length cs ≡ length us = omega arith in s))

own_at : (us : List Routine) (cs : List UnitCode) (i : ℕ) (u : Routine) (c : UnitCode) → slice_get us i ≡ Some u → slice_get cs i ≡ Some c → get_or (own_ranks us cs) i no_rank ≡ own_rank u c
own_at [] cs i u c a b = absurd (cc)
own_at (v ∷ us) [] i u c a b = absurd (cc)
own_at (v ∷ us) (d ∷ cs) zero u c a b = let p : v ≡ u = cc in let q : d ≡ c = cc in ap (λ (z : Routine). own_rank z d) p ∙ ap (own_rank u) q
own_at (v ∷ us) (d ∷ cs) (suc i) u c a b = own_at us cs i u c a b

abbrev no_calls : List CallCode
no_calls = []

none_called : (k : ℕ) (call : CallCode) → slice_get no_calls k ≡ Some call → ⊥
none_called k call e = absurd (cc)

abbrev no_lines : List LineCode
no_lines = []

none_stated : (k : ℕ) (l : LineCode) → slice_get no_lines k ≡ Some l → ⊥
none_stated k l e = absurd (cc)

module _ (units : List Routine) (code : Code) (ranks : Ranks) where
  -- the unit of a number is there, with needs that keep its own; or there is none
  pub data IsAt (i : ℕ) : Type 0 where
    here : (u : Routine) → slice_get units i ≡ Some u → IsKept (own_rank u (unit_code code i)) (rank_at ranks i) → IsAt i
    beyond : slice_get units i ≡ None → rank_at ranks i ≡ no_rank → unit_code code i ≡ no_unit → IsAt i

module _ (units : List Routine) (code : Code) (order : List ℕ) (ranks : Ranks) (coded : IsCodeOf code.dialect units code) (are : ranks.units ≡ ranks_of units code order) where
  first_long : length (own_ranks units code.units) ≡ length units
  first_long = own_long units code.units coded.long

  pub ranks_long : length ranks.units ≡ length units
  ranks_long = ap (λ (rs : List UnitRank). length rs) are ∙ (all_long code.units order (own_ranks units code.units) ∙ first_long)

  kept_at : (i : ℕ) (u : Routine) → slice_get units i ≡ Some u → IsKept (own_rank u (unit_code code i)) (rank_at ranks i)
  kept_at i u e =
      subst (λ (r : UnitRank). IsKept r (rank_at ranks i)) (own_at units code.units i u (unit_code code i) e (unit_there code.dialect units code coded i u e))
      (subst (λ (rs : List UnitRank). IsKept (get_or (own_ranks units code.units) i no_rank) (get_or rs i no_rank)) (sym are) (all_kept code.units order (own_ranks units code.units) i no_rank))

  pub at_unit : (i : ℕ) → IsAt units code ranks i
  at_unit i = by_unit (slice_get units i) refl
    where
      by_unit : (o : Option Routine) → slice_get units i ≡ o → IsAt units code ranks i
      by_unit (Some u) e = here u e (kept_at i u e)
      by_unit None e =
          let l : length units ≤ i = past units i e in
          let a : length ranks.units ≡ length units = ranks_long in
          let b : length code.units ≡ length units = coded.long in
          beyond e (get_or_past ranks.units i no_rank (let r : length ranks.units ≤ i = omega arith in r)) (get_or_past code.units i no_unit (let r : length code.units ≤ i = omega arith in r))

  itself : (i : ℕ) → HasItself (rank_at ranks i)
  itself i = by (at_unit i)
    where
      by : IsAt units code ranks i → HasItself (rank_at ranks i)
      by (here u e k) = k.itself (record { values = omega arith; names = omega arith; plain = omega arith })
      by (beyond e r c) = subst HasItself (sym r) (record { values = omega arith; names = omega arith; plain = omega arith })

  long : (i pc : ℕ) (l : LineCode) → slice_get (unit_code code i).lines pc ≡ Some l → l.stop - l.start ≤ (rank_at ranks i).long
  long i pc l at = by (at_unit i)
    where
      by : IsAt units code ranks i → l.stop - l.start ≤ (rank_at ranks i).long
      by (here u e k) = subst (λ (n : ℕ). l.stop - l.start ≤ n) (sym k.long) (as_long 0 (unit_code code i).lines pc l at)
      by (beyond e r c) = absurd (none_stated pc l (ap (λ (x : UnitCode). slice_get x.lines pc) (sym c) ∙ at))

  own : (i : ℕ) → sum (rank_at ranks i).own ≡ (rank_at ranks i).cells
  own i = by (at_unit i)
    where
      by : IsAt units code ranks i → sum (rank_at ranks i).own ≡ (rank_at ranks i).cells
      by (here u e k) =
          let o : List ℕ = (own_rank u (unit_code code i)).own in
          let s : total_from 0 o ≡ 0 + sum o = summed 0 o in
          ap (λ (ns : List ℕ). sum ns) k.own ∙ ((let q : sum o ≡ total_from 0 o = omega arith in q) ∙ sym k.cells)
      by (beyond e r c) = subst (λ (x : UnitRank). sum x.own ≡ x.cells) (sym r) refl

  slots : (i : ℕ) → (unit_code code i).slots.dummies + length (rank_at ranks i).own + length (unit_code code i).shared ≡ (rank_at ranks i).slots
  slots i = by (at_unit i)
    where
      by : IsAt units code ranks i → (unit_code code i).slots.dummies + length (rank_at ranks i).own + length (unit_code code i).shared ≡ (rank_at ranks i).slots
      by (here u e k) = ap (λ (ns : List ℕ). (unit_code code i).slots.dummies + length ns + length (unit_code code i).shared) k.own ∙ sym k.slots
      by (beyond e r c) =
          subst (λ (x : UnitCode). x.slots.dummies + length (rank_at ranks i).own + length x.shared ≡ (rank_at ranks i).slots) (sym c)
          (subst (λ (x : UnitRank). 0 + length x.own + 0 ≡ x.slots) (sym r) refl)

  module _ (o : IsCallOrder units order) (there : CallsAreOfUnits units) (fit : FitCalls units) where
    called_by : (i k : ℕ) (call : CallCode) (u : Routine) → slice_get units i ≡ Some u → slice_get (unit_code code i).calls k ≡ Some call → IsRankedCall code ranks i call
    called_by i k call u e at =
        let told : slice_get (calls_coded units 1 (sites_of_unit u)) k ≡ Some call = ap (λ cs. slice_get cs k) (sym (unit_coded code.dialect units code coded i u e).calls_told) ∙ at in
        let s : StandsEarlier units order i call = holds_code units order o there i k u call e told in
        let g : IsUnitCodeOf units code.commons s.routine (unit_code code s.unit) = unit_coded code.dialect units code coded s.unit s.routine s.is_there in
        let l : length (own_ranks units code.units) ≡ length units = first_long in
        let hi : i < length units = slice_get_within units i u e in
        let hj : s.unit < length units = slice_get_within units s.unit s.routine s.is_there in
        let held : Holds (all_raised code.units (own_ranks units code.units) order) no_rank i s.unit (unit_code code s.unit).slots.dummies =
        any_caller code.units no_rank i s.unit k (unit_code code i) (unit_code code s.unit) call (unit_there code.dialect units code coded i u e)
        (unit_there code.dialect units code coded s.unit s.routine s.is_there) at s.callee_is order (own_ranks units code.units) (order_once units order o) s.earlier (omega arith) (omega arith) in
        let h : Holds ranks.units no_rank i s.unit (unit_code code s.unit).slots.dummies =
        subst (λ (rs : List UnitRank). Holds rs no_rank i s.unit (unit_code code s.unit).slots.dummies) (sym are) held in
        record {
          unit = s.unit;
          callee_is = s.callee_is;
          counted = (fit i s.unit k u s.routine call e s.is_there told s.callee_is).counted ∙ sym g.slotted.dummies_counted;
          holds = record { frames = h.frames; values = h.values; names = h.names; plain = h.plain; copies = h.copies };
        }

    calls : (i k : ℕ) (call : CallCode) → slice_get (unit_code code i).calls k ≡ Some call → IsRankedCall code ranks i call
    calls i k call at = by (at_unit i)
      where
        by : IsAt units code ranks i → IsRankedCall code ranks i call
        by (here u e kept) = called_by i k call u e at
        by (beyond e r c) = absurd (none_called k call (ap (λ (x : UnitCode). slice_get x.calls k) (sym c) ∙ at))

    pub ranked : IsRanked code ranks
    ranked = record {
      calls = calls;
      long = long;
      own = own;
      slots = slots;
      values = λ i. (itself i).values;
      names = λ i. (itself i).names;
      plain = λ i. (itself i).plain;
    }
