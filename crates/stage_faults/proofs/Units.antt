-- The heads and the statements of units as cards in order.
use Rattle.std.proofs.Common.{◌≡◌, ℕ, zero, suc, ◌+◌, ◌<◌, Bool, true, false, List, [], ◌∷◌, ◌++◌, ◌⊎◌, inl, inr, refl, ap, subst, ◌∙◌, arith, rules}
use Rattle.std.specs.Prelude.{Option, Some, IsTrue, slice_get, ◌&&◌, nat_lt}
use Rattle.fort_syntax.specs.CardRules.{fault_or}
use Rattle.fort_syntax.specs.DeckOrder.{stand_between, units_ascend_above}
use Rattle.fort_syntax.specs.UnitRules.{fault_before}
use Rattle.fort_syntax.specs.WellFormed.{AreWellFormedUnits}
use Rattle.fort_syntax.specs.declared.dialect.Dialect.{Dialect}
use Rattle.fort_syntax.specs.declared.rule.Rule.{Rule}
use Rattle.fort_syntax.specs.declared.stmt.Stmt.{Stmt}
use Rattle.fort_syntax.specs.declared.unit.Line.{Line}
use Rattle.fort_syntax.specs.declared.unit.Unit.{Unit as Routine}
use Rattle.fort_model.specs.Lists.{IsAmong}
use Rattle.stage_faults.specs.Scans.{first_at_lines, first_in_units}
use Rattle.stage_faults.proofs.Spots.{Spot, spot, first_spot, Above, IsIn, first_both, weaker, in_first, in_second, in_either}

abbrev pub line_spots : (Stmt → Option Rule) → List Line → List Spot
line_spots at [] = []
line_spots at (line ∷ lines) = spot line.card (at line.stmt) ∷ line_spots at lines

abbrev pub unit_spots : Option Rule → (Stmt → Option Rule) → Routine → List Spot
unit_spots head at u = spot u.head head ∷ line_spots at u.lines

abbrev pub all_spots : (ℕ → Routine → Option Rule) → (Routine → Stmt → Option Rule) → ℕ → List Routine → List Spot
all_spots head at i [] = []
all_spots head at i (u ∷ us) = unit_spots (head i u) (at u) u ++ all_spots head at (i + 1) us

-- ---- the first fault

lines_first : (at : Stmt → Option Rule) (lines : List Line) → first_spot (line_spots at lines) ≡ first_at_lines at lines
lines_first at [] = refl
lines_first at (line ∷ lines) = ap (fault_or (at line.stmt) line.card) (lines_first at lines)

pub units_first : (head : ℕ → Routine → Option Rule) (at : Routine → Stmt → Option Rule) (i : ℕ) (us : List Routine)
    → first_spot (all_spots head at i us) ≡ first_in_units head at i us
units_first head at i [] = refl
units_first head at i (u ∷ us) =
    first_both (unit_spots (head i u) (at u) u) (all_spots head at (i + 1) us)
    ∙ (λ k. fault_before (fault_or (head i u) u.head (lines_first (at u) u.lines k)) (units_first head at (i + 1) us k))

-- ---- the order of the cards

pub both : (a b : Bool) → IsTrue (a && b) → IsTrue a × IsTrue b
both true true h = (h, h)
both true false h = absurd (search rules)
both false b h = absurd (search rules)

pub lt : (a b : ℕ) → IsTrue (nat_lt a b) → a < b
lt a b h = grind (arith, h)

lines_above : (at : Stmt → Option Rule) (lines : List Line) (first last : ℕ) (rest : List Spot)
    → IsTrue (stand_between first lines last) → Above last rest → Above first (line_spots at lines ++ rest)
lines_above at [] first last rest h a = let l : first < last = lt first last h in weaker first last rest (omega arith) a
lines_above at (line ∷ lines) first last rest h a =
    let p = both (nat_lt first line.card) (stand_between line.card lines last) h in
    (lt first line.card p.0, lines_above at lines line.card last rest p.1 a)

pub units_above : (head : ℕ → Routine → Option Rule) (at : Routine → Stmt → Option Rule) (dialect : Dialect) (us : List Routine) (i card : ℕ)
    → AreWellFormedUnits dialect us → IsTrue (units_ascend_above card us) → Above card (all_spots head at i us)
units_above head at dialect [] i card w h = tt
units_above head at dialect (u ∷ us) i card w h =
    let p = both (nat_lt card u.head) (units_ascend_above u.«end» us) h in (
      lt card u.head p.0,
      lines_above (at u) u.lines u.head u.«end» (all_spots head at (i + 1) us) w.0.cards (units_above head at dialect us (i + 1) u.«end» w.1 p.1),
    )

-- ---- what is told where

pub in_lines : (at : Stmt → Option Rule) (lines : List Line) (line : Line) (q : Rule) → IsAmong line lines → at line.stmt ≡ Some q
    → IsIn line.card q (line_spots at lines)
in_lines at [] line q (k, e) h = absurd cc
in_lines at (l ∷ lines) line q (zero, e) h =
    let same : l ≡ line = cc in
    inl (ap (λ (x : Line). x.card) same, ap (λ (x : Line). at x.stmt) same ∙ h)
in_lines at (l ∷ lines) line q (suc k, e) h = inr (in_lines at lines line q (k, e) h)

pub of_lines : (at : Stmt → Option Rule) (lines : List Line) (card : ℕ) (q : Rule) → IsIn card q (line_spots at lines)
    → (line : Line) × IsAmong line lines × (line.card ≡ card) × (at line.stmt ≡ Some q)
of_lines at [] card q h = absurd h
of_lines at (l ∷ lines) card q (inl e) = (l, (zero, refl), e.0, e.1)
of_lines at (l ∷ lines) card q (inr h) =
    let found = of_lines at lines card q h in
    (found.0, (suc found.1.0, found.1.1), found.2, found.3)

pub in_units : (head : ℕ → Routine → Option Rule) (at : Routine → Stmt → Option Rule) (us : List Routine) (i k : ℕ) (u : Routine) (card : ℕ) (q : Rule)
    → slice_get us k ≡ Some u → IsIn card q (unit_spots (head (i + k) u) (at u) u) → IsIn card q (all_spots head at i us)
in_units head at [] i k u card q e h = absurd cc
in_units head at (v ∷ us) i zero u card q e h =
    let same : u ≡ v = cc in
    let at_i : i + 0 ≡ i = omega arith in
    in_first (unit_spots (head i v) (at v) v) (all_spots head at (i + 1) us) card q
    (subst (λ (x : Routine). IsIn card q (unit_spots (head i x) (at x) x)) same
    (subst (λ (n : ℕ). IsIn card q (unit_spots (head n u) (at u) u)) at_i h))
in_units head at (v ∷ us) i (suc k) u card q e h =
    let next : i + suc k ≡ (i + 1) + k = omega arith in
    in_second (unit_spots (head i v) (at v) v) (all_spots head at (i + 1) us) card q
    (in_units head at us (i + 1) k u card q e (subst (λ (n : ℕ). IsIn card q (unit_spots (head n u) (at u) u)) next h))

pub of_units : (head : ℕ → Routine → Option Rule) (at : Routine → Stmt → Option Rule) (us : List Routine) (i : ℕ) (card : ℕ) (q : Rule)
    → IsIn card q (all_spots head at i us) → (k : ℕ) × (u : Routine) × (slice_get us k ≡ Some u) × IsIn card q (unit_spots (head (i + k) u) (at u) u)
of_units head at [] i card q h = absurd h
of_units head at (v ∷ us) i card q h =
    by (of_units head at us (i + 1) card q) (in_either (unit_spots (head i v) (at v) v) (all_spots head at (i + 1) us) card q h)
  where
    by : (IsIn card q (all_spots head at (i + 1) us)
        → (k : ℕ) × (u : Routine) × (slice_get us k ≡ Some u) × IsIn card q (unit_spots (head ((i + 1) + k) u) (at u) u))
        → IsIn card q (unit_spots (head i v) (at v) v) ⊎ IsIn card q (all_spots head at (i + 1) us)
        → (k : ℕ) × (u : Routine) × (slice_get (v ∷ us) k ≡ Some u) × IsIn card q (unit_spots (head (i + k) u) (at u) u)
    by later (inl m) =
        let at_i : i ≡ i + 0 = omega arith in
        (zero, v, refl, subst (λ (n : ℕ). IsIn card q (unit_spots (head n v) (at v) v)) at_i m)
    by later (inr m) =
        let found = later m in
        let next : (i + 1) + found.0 ≡ i + suc found.0 = omega arith in
        (suc found.0, found.1, found.2, subst (λ (n : ℕ). IsIn card q (unit_spots (head n found.1) (at found.1) found.1)) next found.3)
