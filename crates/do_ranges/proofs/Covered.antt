-- What covers a point tells whether a jump enters a range, and whether one ends before another point.
use Rattle.std.proofs.Common.{◌≡◌, ℕ, zero, suc, ◌+◌, ◌<◌, ◌≤◌, ◌⊎◌, inl, inr, Bool, true, false, List, [], ◌∷◌, length, get_or, refl, sym, ap, subst, arith}
use Rattle.std.specs.Prelude.{◌&&◌, ◌||◌, not, nat_lt, nat_le}
use Rattle.std.proofs.Math.Logic.{⊎_elim}
use Rattle.std.proofs.lemmas.Bool.{cases_lt}
use Rattle.std.proofs.lemmas.Bool.Decides.{nat_tests}
use Rattle.range_cover.specs.Covers.{AreEnds, AreCovers}
use Rattle.range_cover.specs.declared.covering.Covers.{Covers}
use Rattle.fort_model.specs.Ranges.{Range, lies_in, enters, leaves}
use Rattle.do_ranges.specs.Ends.{range_behind, some_range}
use Rattle.do_ranges.proofs.Ending.{IsOfPoints}

-- ---- tests of ranges

pub bool_iff : (a b : Bool) → (a ≡ true → b ≡ true) → (b ≡ true → a ≡ true) → a ≡ b
bool_iff true true to back = refl
bool_iff false false to back = refl
bool_iff true false to back = sym (to refl)
bool_iff false true to back = back refl

either : (a b : Bool) → (a || b) ≡ true → (a ≡ true) ⊎ (b ≡ true)
either true b h = inl refl
either false b h = inr h

left_of : (a b : Bool) → a ≡ true → (a || b) ≡ true
left_of true b h = refl
left_of false b h = absurd (cc)

right_of : (a b : Bool) → b ≡ true → (a || b) ≡ true
right_of true b h = refl
right_of false b h = h

-- a range of some ends that passes a test
pub record Passing (test : Range → Bool) (b : ℕ) (ends : List ℕ) : Type 0 where
  pub place : ℕ
  pub small : place < length ends
  pub passes : test (range_behind (b + place) (get_or ends place 0)) ≡ true

plus_zero : (b : ℕ) → b ≡ b + 0
plus_zero b = omega arith

plus_suc : (b k : ℕ) → suc b + k ≡ b + suc k
plus_suc b k = omega arith

pub passing : (test : Range → Bool) (b : ℕ) (ends : List ℕ) → some_range test b ends ≡ true → Passing test b ends
passing test b [] h = absurd (cc)
passing test b (end ∷ ends) h = ⊎_elim
    (λ (e : test (range_behind b end) ≡ true).
    record { place = 0; small = omega arith; passes = subst (λ n. test (range_behind n end) ≡ true) (plus_zero b) e })
    (λ (e : some_range test (suc b) ends ≡ true).
    (let r = passing test (suc b) ends e in
    record { place = suc r.place; small = (let s = r.small in omega (arith, s)); passes = subst (λ n. test (range_behind n (get_or ends r.place 0)) ≡ true) (plus_suc b r.place) r.passes }))
    (either (test (range_behind b end)) (some_range test (suc b) ends) h)

passes_from : (test : Range → Bool) (b : ℕ) (ends : List ℕ) (k : ℕ) → k < length ends → test (range_behind (b + k) (get_or ends k 0)) ≡ true → some_range test b ends ≡ true
passes_from test b [] k lt h = absurd (omega arith)
passes_from test b (end ∷ ends) zero lt h =
    left_of (test (range_behind b end)) (some_range test (suc b) ends) (subst (λ n. test (range_behind n end) ≡ true) (sym (plus_zero b)) h)
passes_from test b (end ∷ ends) (suc k) lt h =
    right_of (test (range_behind b end)) (some_range test (suc b) ends)
    (passes_from test (suc b) ends k (omega (arith, lt)) (subst (λ n. test (range_behind n (get_or ends k 0)) ≡ true) (sym (plus_suc b k)) h))

none_plus : (k : ℕ) → 0 + k ≡ k
none_plus k = omega arith

first_passes : (test : Range → Bool) (ends : List ℕ) (r : Passing test 0 ends) → test (range_behind r.place (get_or ends r.place 0)) ≡ true
first_passes test ends r = subst (λ n. test (range_behind n (get_or ends r.place 0)) ≡ true) (none_plus r.place) r.passes

passes_at : (test : Range → Bool) (ends : List ℕ) (k : ℕ) → k < length ends → test (range_behind k (get_or ends k 0)) ≡ true → some_range test 0 ends ≡ true
passes_at test ends k lt h = passes_from test 0 ends k lt (subst (λ n. test (range_behind n (get_or ends k 0)) ≡ true) (sym (none_plus k)) h)

-- ---- numbers

both : (a b : Bool) → (a && b) ≡ true → (a ≡ true) × (b ≡ true)
both true b h = (refl, h)
both false b h = (cc, cc)

le_means : (a b : ℕ) → nat_le a b ≡ true → a ≤ b
le_means a b h = grind (arith, nat_tests)

lt_means : (a b : ℕ) → nat_lt a b ≡ true → a < b
lt_means a b h = grind (arith, nat_tests)

is_le : (a b : ℕ) → a ≤ b → nat_le a b ≡ true
is_le a b h = grind (arith, nat_tests)

is_lt : (a b : ℕ) → a < b → nat_lt a b ≡ true
is_lt a b h = grind (arith, nat_tests)

lies_means : (pc k e : ℕ) → (nat_le (suc k) pc && nat_le pc e) ≡ true → (k < pc) × (pc ≤ e)
lies_means pc k e h =
    let parts = both (nat_le (suc k) pc) (nat_le pc e) h in
    (le_means (suc k) pc parts.0, le_means pc e parts.1)

lies : (pc k e : ℕ) → k < pc → pc ≤ e → (nat_le (suc k) pc && nat_le pc e) ≡ true
lies pc k e a b = grind (arith, nat_tests)

not_true : (b : Bool) → not b ≡ true → b ≡ false
not_true true h = cc
not_true false h = refl

true_not : (b : Bool) → b ≡ false → not b ≡ true
true_not b h = ap not h

lies_not : (pc k e : ℕ) → (nat_le (suc k) pc && nat_le pc e) ≡ false → (pc ≤ k) ⊎ (e < pc)
lies_not pc k e h = by (cases_lt k pc) (cases_lt e pc)
  where
    never : k < pc → pc ≤ e → ⊥
    never a b = (let t = lies pc k e a b in cc)

    by : (k < pc) ⊎ (pc ≤ k) → (e < pc) ⊎ (pc ≤ e) → (pc ≤ k) ⊎ (e < pc)
    by (inr le) d = inl le
    by (inl lt) (inl after) = inr after
    by (inl lt) (inr up) = absurd (never lt up)

not_before : (pc k e : ℕ) → pc ≤ k → (nat_le (suc k) pc && nat_le pc e) ≡ false
not_before pc k e h = grind (arith, nat_tests)

not_behind : (pc k e : ℕ) → e < pc → (nat_le (suc k) pc && nat_le pc e) ≡ false
not_behind pc k e h = grind (arith, nat_tests)

empty_lies : (pc k e : ℕ) → e ≤ k → (nat_le (suc k) pc && nat_le pc e) ≡ false
empty_lies pc k e h = grind (arith, nat_tests)

pub enters_points : (from to : ℕ) → IsOfPoints (enters from to)
enters_points from to b end h = ap (λ x. x && not (lies_in from (range_behind b end))) (empty_lies to b end h)

pub leaves_points : (from to : ℕ) → IsOfPoints (leaves from to)
leaves_points from to b end h = ap (λ x. x && nat_lt end to) (empty_lies from b end h)

-- ---- what covers a point

and_true : (a b : Bool) → a ≡ true → b ≡ true → (a && b) ≡ true
and_true true b e h = h
and_true false b e h = cc

module _ (far : List ℕ) (c : Covers) (is : AreCovers far c) where
  enter_to : (from to : ℕ) → to < length far → Passing (enters from to) 0 far → (nat_lt from (get_or c.firsts.items to 0) || nat_lt (get_or c.lasts.items to 0) from) ≡ true
  enter_to from to inside r =
      let parts = both (lies_in to (range_behind r.place (get_or far r.place 0))) (not (lies_in from (range_behind r.place (get_or far r.place 0)))) (first_passes (enters from to) far r) in
      let within = lies_means to r.place (get_or far r.place 0) parts.0 in
      let a = (is.firsts to inside).last r.place within.0 within.1 in
      let b = (is.lasts to (omega (arith, inside))).first r.place within.0 within.1 in
      ⊎_elim
      (λ (x : from ≤ r.place). left_of (nat_lt from (get_or c.firsts.items to 0)) (nat_lt (get_or c.lasts.items to 0) from) (is_lt from (get_or c.firsts.items to 0) (omega (arith, x, a))))
      (λ (x : get_or far r.place 0 < from). right_of (nat_lt from (get_or c.firsts.items to 0)) (nat_lt (get_or c.lasts.items to 0) from) (is_lt (get_or c.lasts.items to 0) from (omega (arith, x, b))))
      (lies_not from r.place (get_or far r.place 0) (not_true (lies_in from (range_behind r.place (get_or far r.place 0))) parts.1))

  enter_inner : (from to : ℕ) → to < length far → (b : ℕ) → get_or c.firsts.items to 0 ≡ suc b → from ≤ b → some_range (enters from to) 0 far ≡ true
  enter_inner from to inside b e le =
      let i = is.firsts to inside in
      let up = i.covers b e in
      let small = i.small in
      let before : b < to = omega (arith, small, e) in
      let few : b < length far = omega (arith, before, inside) in
      passes_at (enters from to) far b few
      (and_true (lies_in to (range_behind b (get_or far b 0))) (not (lies_in from (range_behind b (get_or far b 0)))) (lies to b (get_or far b 0) before up)
      (true_not (lies_in from (range_behind b (get_or far b 0))) (not_before from b (get_or far b 0) le)))

  enter_sooner : (from to : ℕ) → from < length far → to < length far → get_or c.lasts.items to 0 < from → some_range (enters from to) 0 far ≡ true
  enter_sooner from to origin inside lt =
      let s = is.lasts to (omega (arith, inside)) in
      let r = s.covers (omega (arith, lt, origin)) in
      let low = s.low in
      let end = r.is_end in
      let before = r.before in
      let up : to ≤ get_or far r.begin 0 = omega (arith, low, end) in
      let past : get_or far r.begin 0 < from = omega (arith, end, lt) in
      let few : r.begin < length far = omega (arith, before, inside) in
      passes_at (enters from to) far r.begin few
      (and_true (lies_in to (range_behind r.begin (get_or far r.begin 0))) (not (lies_in from (range_behind r.begin (get_or far r.begin 0)))) (lies to r.begin (get_or far r.begin 0) before up)
      (true_not (lies_in from (range_behind r.begin (get_or far r.begin 0))) (not_behind from r.begin (get_or far r.begin 0) past)))

  positive : (n from : ℕ) → from < n → (b : ℕ) × (n ≡ suc b) × (from ≤ b)
  positive zero from lt = absurd (omega arith)
  positive (suc b) from lt = (b, refl, omega (arith, lt))

  pub enters_by : (from to : ℕ) → from < length far → to < length far
      → (nat_lt from (get_or c.firsts.items to 0) || nat_lt (get_or c.lasts.items to 0) from) ≡ some_range (enters from to) 0 far
  enters_by from to origin inside = bool_iff (nat_lt from (get_or c.firsts.items to 0) || nat_lt (get_or c.lasts.items to 0) from) (some_range (enters from to) 0 far)
      (λ h. ⊎_elim
      (λ (x : nat_lt from (get_or c.firsts.items to 0) ≡ true).
      (let n = positive (get_or c.firsts.items to 0) from (lt_means from (get_or c.firsts.items to 0) x) in enter_inner from to inside n.0 n.1 n.2))
      (λ (x : nat_lt (get_or c.lasts.items to 0) from ≡ true). enter_sooner from to origin inside (lt_means (get_or c.lasts.items to 0) from x))
      (either (nat_lt from (get_or c.firsts.items to 0)) (nat_lt (get_or c.lasts.items to 0) from) h))
      (λ h. enter_to from to inside (passing (enters from to) 0 far h))

  pub leaves_by : (from to : ℕ) → from < length far → to ≤ length far → nat_lt (get_or c.lasts.items from 0) to ≡ some_range (leaves from to) 0 far
  leaves_by from to origin inside = bool_iff (nat_lt (get_or c.lasts.items from 0) to) (some_range (leaves from to) 0 far)
      (λ h.
      (let lt = lt_means (get_or c.lasts.items from 0) to h in
      let s = is.lasts from (omega (arith, origin)) in
      let r = s.covers (omega (arith, lt, inside)) in
      let low = s.low in
      let end = r.is_end in
      let before = r.before in
      let up : from ≤ get_or far r.begin 0 = omega (arith, low, end) in
      let past : get_or far r.begin 0 < to = omega (arith, end, lt) in
      let few : r.begin < length far = omega (arith, before, origin) in
      passes_at (leaves from to) far r.begin few
      (and_true (lies_in from (range_behind r.begin (get_or far r.begin 0))) (nat_lt (get_or far r.begin 0) to) (lies from r.begin (get_or far r.begin 0) before up)
      (is_lt (get_or far r.begin 0) to past))))
      (λ h.
      (let r = passing (leaves from to) 0 far h in
      let parts = both (lies_in from (range_behind r.place (get_or far r.place 0))) (nat_lt (get_or far r.place 0) to) (first_passes (leaves from to) far r) in
      let within = lies_means from r.place (get_or far r.place 0) parts.0 in
      let a = (is.lasts from (omega (arith, origin))).first r.place within.0 within.1 in
      let b = lt_means (get_or far r.place 0) to parts.1 in
      is_lt (get_or c.lasts.items from 0) to (omega (arith, a, b))))

-- no range has a point behind all
pub enters_none : (far : List ℕ) → AreEnds far → (from to : ℕ) → length far ≤ to → some_range (enters from to) 0 far ≡ false
enters_none far ends from to beyond = by (some_range (enters from to) 0 far) refl
  where
    never : some_range (enters from to) 0 far ≡ true → ⊥
    never h =
        let r = passing (enters from to) 0 far h in
        let parts = both (lies_in to (range_behind r.place (get_or far r.place 0))) (not (lies_in from (range_behind r.place (get_or far r.place 0)))) (first_passes (enters from to) far r) in
        let within = lies_means to r.place (get_or far r.place 0) parts.0 in
        let less = ends r.place r.small in
        let up = within.1 in
        omega (arith, less, up, beyond)

    by : (b : Bool) → some_range (enters from to) 0 far ≡ b → some_range (enters from to) 0 far ≡ false
    by true h = absurd (never h)
    by false h = h
