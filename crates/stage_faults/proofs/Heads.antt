-- The cards of heads ascend.
use Rattle.std.proofs.Common.{◌≡◌, ℕ, zero, suc, ◌+◌, ◌<◌, List, [], ◌∷◌, ap, arith}
use Rattle.std.specs.Prelude.{IsTrue, slice_get, Some, nat_lt}
use Rattle.fort_syntax.specs.DeckOrder.{stand_between, units_ascend_above}
use Rattle.fort_syntax.specs.WellFormed.{AreWellFormedUnits}
use Rattle.fort_syntax.specs.declared.dialect.Dialect.{Dialect}
use Rattle.fort_syntax.specs.declared.unit.Line.{Line}
use Rattle.fort_syntax.specs.declared.unit.Unit.{Unit as Routine}
use Rattle.stage_faults.specs.Laws.{HeadsAscend, HeadsAreAbove}
use Rattle.stage_faults.proofs.Units.{both, lt}

ends_above : (lines : List Line) (first last : ℕ) → IsTrue (stand_between first lines last) → first < last
ends_above [] first last h = lt first last h
ends_above (line ∷ lines) first last h =
    let p = both (nat_lt first line.card) (stand_between line.card lines last) h in
    let a : first < line.card = lt first line.card p.0 in
    let b : line.card < last = ends_above lines line.card last p.1 in
    omega arith

above : (units : List Routine) (dialect : Dialect) (card i : ℕ) (u : Routine) → AreWellFormedUnits dialect units
    → IsTrue (units_ascend_above card units) → slice_get units i ≡ Some u → card < u.head
above [] dialect card i u w h e = absurd cc
above (v ∷ units) dialect card zero u w h e =
    let same : v ≡ u = cc in
    let p = both (nat_lt card v.head) (units_ascend_above v.«end» units) h in
    let a : card < v.head = lt card v.head p.0 in
    let heads : v.head ≡ u.head = ap (λ (x : Routine). x.head) same in
    omega arith
above (v ∷ units) dialect card (suc i) u w h e =
    let p = both (nat_lt card v.head) (units_ascend_above v.«end» units) h in
    let a : card < v.head = lt card v.head p.0 in
    let b : v.head < v.«end» = ends_above v.lines v.head v.«end» w.0.cards in
    let c : v.«end» < u.head = above units dialect v.«end» i u w.1 p.1 e in
    omega arith

ascend : (units : List Routine) (dialect : Dialect) (card j i : ℕ) (v u : Routine) → AreWellFormedUnits dialect units
    → IsTrue (units_ascend_above card units) → slice_get units j ≡ Some v → slice_get units i ≡ Some u → j < i → v.head < u.head
ascend [] dialect card j i v u w h e f l = absurd cc
ascend (t ∷ units) dialect card j zero v u w h e f l = absurd (omega arith)
ascend (t ∷ units) dialect card zero (suc i) v u w h e f l =
    let same : t ≡ v = cc (e) in
    let p = both (nat_lt card t.head) (units_ascend_above t.«end» units) h in
    let b : t.head < t.«end» = ends_above t.lines t.head t.«end» w.0.cards in
    let c : t.«end» < u.head = above units dialect t.«end» i u w.1 p.1 f in
    let heads : t.head ≡ v.head = ap (λ (x : Routine). x.head) same in
    omega arith
ascend (t ∷ units) dialect card (suc j) (suc i) v u w h e f l =
    let p = both (nat_lt card t.head) (units_ascend_above t.«end» units) h in
    ascend units dialect t.«end» j i v u w.1 p.1 e f (omega arith)

pub heads_ascend : HeadsAscend
heads_ascend units dialect j i v u w h e f l = ascend units dialect 0 j i v u w h e f l

over : (units : List Routine) (dialect : Dialect) (card i : ℕ) (u : Routine) → AreWellFormedUnits dialect units
    → IsTrue (units_ascend_above card units) → slice_get units i ≡ Some u → card + i < u.head
over [] dialect card i u w h e = absurd cc
over (v ∷ units) dialect card zero u w h e =
    let same : v ≡ u = cc in
    let p = both (nat_lt card v.head) (units_ascend_above v.«end» units) h in
    let a : card < v.head = lt card v.head p.0 in
    let heads : v.head ≡ u.head = ap (λ (x : Routine). x.head) same in
    omega arith
over (v ∷ units) dialect card (suc i) u w h e =
    let p = both (nat_lt card v.head) (units_ascend_above v.«end» units) h in
    let a : card < v.head = lt card v.head p.0 in
    let b : v.head < v.«end» = ends_above v.lines v.head v.«end» w.0.cards in
    let c : v.«end» + i < u.head = over units dialect v.«end» i u w.1 p.1 e in
    omega arith

pub heads_are_above : HeadsAreAbove
heads_are_above units dialect i u w h e = let a : 0 + i < u.head = over units dialect 0 i u w h e in omega arith
