-- Places of elements, without a greatest number, and what the model makes of them.
use Rattle.std.proofs.Common.{◌≡◌, ℕ, zero, suc, ◌+◌, ◌-◌, ◌*◌, ◌≤◌, ◌^◌, Bool, true, false, cond, nat_le, List, [], ◌∷◌, map, Option, Some, None, refl, sym, ap, ◌∙◌, subst, arith}
use Rattle.std.specs.Prelude.{ℤ, pos, negsuc, pred, ◌+ℤ◌, ◌-ℤ◌, ◌*ℤ◌, ⊤}
use Rattle.std.proofs.Math.IntN.{pos-+ℤ-pos, pos-*ℤ-pos}
use Rattle.formula.specs.Values.{count, is_between}
use Rattle.fort_syntax.specs.declared.condition.Kind.TheVariants.{SubscriptCheck}
use Rattle.fort_model.specs.Evaluate.{subscripts_in}
use Rattle.fort_model.specs.Outcome.{Outcome, Ended, Erred, Act, ◌>>◌, and_then, check, give}
use Rattle.fort_model.specs.Passing.{Taken, Cells}
use Rattle.fort_model.specs.Places.{place, place_from}
use Rattle.fort_model.specs.Storage.{Storage, Extent}
use Rattle.fort_laws.proofs.PlaceBounds.{IsIndex, index_of, one_less}
use Rattle.run_state.specs.Near.{far}
use Rattle.run_places.specs.Arrays.{first_place, on_from, place_to}
use Rattle.run_places.specs.declared.places.Place.{Place}

-- ---- the greatest number

far_sum : (a b : ℕ) → far (far a + b) ≡ far (a + b)
far_sum a b = grind arith

times_more : (a k : ℕ) → a ≤ a * suc k
times_more a k = grind arith

times_long : (m q k : ℕ) → m ≤ q → m ≤ q * suc k
times_long m q k h = let more : q ≤ q * suc k = times_more q k in omega arith

far_past : (a : ℕ) → 2 ^ 64 - 1 ≤ a → far a ≡ 2 ^ 64 - 1
far_past a h = grind arith

far_times : (q k : ℕ) → far (far q * k) ≡ far (q * k)
far_times q k = by_cases (nat_le q (2 ^ 64 - 1)) refl k
  where
    by_cases : (b : Bool) → nat_le q (2 ^ 64 - 1) ≡ b → (k : ℕ) → far (far q * k) ≡ far (q * k)
    by_cases true e k = ap (λ i. far (i * k)) (let here : far q ≡ q = grind arith in here)
    by_cases false e zero = ap far (let none : far q * 0 ≡ q * 0 = omega arith in none)
    by_cases false e (suc k) =
        let long : 2 ^ 64 - 1 ≤ q = grind arith in
        let last : 2 ^ 64 - 1 ≤ far q = grind arith in
        far_past (far q * suc k) (times_long (2 ^ 64 - 1) (far q) k last) ∙ sym (far_past (q * suc k) (times_long (2 ^ 64 - 1) q k long))

far_step : (o q k : ℕ) → far (far o + far q * k) ≡ far (o + q * k)
far_step o q k =
    far_sum o (far q * k)
    ∙ ap far (let turned : o + far q * k ≡ far q * k + o = omega arith in turned)
    ∙ sym (far_sum (far q * k) o)
    ∙ ap (λ i. far (i + o)) (far_times q k)
    ∙ far_sum (q * k) o
    ∙ ap far (let turned : q * k + o ≡ o + q * k = omega arith in turned)

pub far_both : (a b : ℕ) → far (far a + far b) ≡ far (a + b)
far_both a b = grind arith

-- ---- places of any size

abbrev pub exact_next : Place → ℤ → ℕ → Option Place
exact_next p s d = cond (is_between (pos 1) (pos d) s) (Some (record { offset = p.offset + p.stretch * pred (count s); stretch = p.stretch * d })) None

abbrev pub exactly : List ℤ → List ℕ → Place → Option Place
exactly [] ds p = Some p
exactly (s ∷ ss) [] p = Some p
exactly (s ∷ ss) (d ∷ ds) p = on_from (exact_next p s d) (exactly ss ds)

-- as the machine has it
abbrev pub shortened : Place → Place
shortened p = record { offset = far p.offset; stretch = far p.stretch }

abbrev pub short : Option Place → Option Place
short o = on_from o (λ p. Some (shortened p))

pub kept_short : (ss : List ℤ) (ds : List ℕ) (p : Place) → place_to ss ds (shortened p) ≡ short (exactly ss ds p)
kept_short [] ds p = refl
kept_short (s ∷ ss) [] p = refl
kept_short (s ∷ ss) (d ∷ ds) p =
    by_truth (is_between (pos 1) (pos d) s) (pred (count s))
    (kept_short ss ds (record { offset = p.offset + p.stretch * pred (count s); stretch = p.stretch * d }))
  where
    by_truth : (t : Bool) (k : ℕ) → place_to ss ds (shortened (record { offset = p.offset + p.stretch * k; stretch = p.stretch * d })) ≡ short (exactly ss ds (record { offset = p.offset + p.stretch * k; stretch = p.stretch * d }))
        → on_from (cond t (Some (record { offset = far (far p.offset + far p.stretch * k); stretch = far (far p.stretch * d) })) None) (place_to ss ds)
        ≡ short (on_from (cond t (Some (record { offset = p.offset + p.stretch * k; stretch = p.stretch * d })) None) (exactly ss ds))
    by_truth false k same = refl
    by_truth true k same =
        ap (λ i. place_to ss ds (record { offset = i; stretch = far (far p.stretch * d) })) (far_step p.offset p.stretch k)
        ∙ ap (λ i. place_to ss ds (record { offset = far (p.offset + p.stretch * k); stretch = i })) (far_times p.stretch d)
        ∙ same

-- ---- the model

no_subscript : (s : ℤ) (n : ℕ) → is_between (pos 1) (pos 0) s ≡ is_between (pos 1) (negsuc n) s
no_subscript (pos zero) n = refl
no_subscript (pos (suc k)) n = grind arith
no_subscript (negsuc k) n = refl

same_between : (s d : ℤ) → is_between (pos 1) (pos (count d)) s ≡ is_between (pos 1) d s
same_between s (pos n) = refl
same_between s (negsuc n) = no_subscript s n

-- whether each subscript is within its dimension
abbrev pub judged : Option Place → ℕ → Storage → Outcome (Unit {0})
judged None card st = Erred SubscriptCheck card st
judged (Some p) card st = Ended tt st 0

passes : (ss ds : List ℤ) (p : Place) (card : ℕ) (st : Storage) → subscripts_in card ss ds st 0 ≡ judged (exactly ss (map count ds) p) card st
passes [] ds p card st = refl
passes (s ∷ ss) [] p card st = refl
passes (s ∷ ss) (d ∷ ds) p card st =
    ap (λ t. (check SubscriptCheck card t >> subscripts_in card ss ds) st 0) (sym (same_between s d)) ∙ by_truth (is_between (pos 1) (pos (count d)) s) (pred (count s))
    (passes ss ds (record { offset = p.offset + p.stretch * pred (count s); stretch = p.stretch * count d }) card st)
  where
    by_truth : (t : Bool) (k : ℕ) → subscripts_in card ss ds st 0 ≡ judged (exactly ss (map count ds) (record { offset = p.offset + p.stretch * k; stretch = p.stretch * count d })) card st
        → (check SubscriptCheck card t >> subscripts_in card ss ds) st 0
        ≡ judged (on_from (cond t (Some (record { offset = p.offset + p.stretch * k; stretch = p.stretch * count d })) None) (exactly ss (map count ds))) card st
    by_truth false k same = refl
    by_truth true k same = same

-- the model's place is one more than the offset
abbrev LandsAt : Option Place → ℤ → Type 0
LandsAt None z = ⊤
LandsAt (Some p) z = z ≡ pos (suc p.offset)

lands : (ss ds : List ℤ) (o q : ℕ) → LandsAt (exactly ss (map count ds) (record { offset = o; stretch = q })) (place_from (pos (suc o)) (pos q) ss ds)
lands [] ds o q = refl
lands (s ∷ ss) [] o q = refl
lands (s ∷ ss) (d ∷ ds) o q = by_truth (λ b n. lands ss ds (o + q * b) (q * n)) (is_between (pos 1) (pos (count d)) s) refl
  where
    moved : (b n : ℕ) → LandsAt (exactly ss (map count ds) (record { offset = o + q * b; stretch = q * n })) (place_from (pos (suc (o + q * b))) (pos (q * n)) ss ds)
        → LandsAt (exactly ss (map count ds) (record { offset = o + q * b; stretch = q * n })) (place_from (pos (suc o) +ℤ pos q *ℤ (pos (suc b) -ℤ pos 1)) (pos q *ℤ pos n) ss ds)
    moved b n h =
        let e : pos (suc o) +ℤ pos q *ℤ (pos (suc b) -ℤ pos 1) ≡ pos (suc (o + q * b)) =
        ap (λ (z : ℤ). pos (suc o) +ℤ pos q *ℤ z) (one_less b) ∙ ap (λ (z : ℤ). pos (suc o) +ℤ z) (pos-*ℤ-pos q b) ∙ pos-+ℤ-pos (suc o) (q * b) ∙ ap pos (let same : suc o + q * b ≡ suc (o + q * b) = omega arith in same) in
        subst (λ (z : ℤ). LandsAt (exactly ss (map count ds) (record { offset = o + q * b; stretch = q * n })) (place_from z (pos q *ℤ pos n) ss ds)) (sym e)
        (subst (λ (y : ℤ). LandsAt (exactly ss (map count ds) (record { offset = o + q * b; stretch = q * n })) (place_from (pos (suc (o + q * b))) y ss ds)) (sym (pos-*ℤ-pos q n)) h)

    by_truth : ((b n : ℕ) → LandsAt (exactly ss (map count ds) (record { offset = o + q * b; stretch = q * n })) (place_from (pos (suc (o + q * b))) (pos (q * n)) ss ds))
        → (t : Bool) → is_between (pos 1) (pos (count d)) s ≡ t
        → LandsAt (on_from (cond t (Some (record { offset = o + q * pred (count s); stretch = q * count d })) None) (exactly ss (map count ds))) (place_from (pos (suc o) +ℤ pos q *ℤ (s -ℤ pos 1)) (pos q *ℤ d) ss ds)
    by_truth rest false e = tt
    by_truth rest true e =
        let i : IsIndex s d = index_of s d (sym (same_between s d) ∙ e) in
        subst (λ (y : ℤ). LandsAt (exactly ss (map count ds) (record { offset = o + q * pred (count y); stretch = q * count d })) (place_from (pos (suc o) +ℤ pos q *ℤ (y -ℤ pos 1)) (pos q *ℤ d) ss ds))
        (sym i.subscript)
        (subst (λ (y : ℤ). LandsAt (exactly ss (map count ds) (record { offset = o + q * i.before; stretch = q * count y })) (place_from (pos (suc o) +ℤ pos q *ℤ (pos (suc i.before) -ℤ pos 1)) (pos q *ℤ y) ss ds))
        (sym i.dimension)
        (moved i.before i.size (rest i.before i.size)))

lands_first : (ss ds : List ℤ) → LandsAt (exactly ss (map count ds) first_place) (place ss ds)
lands_first [] ds = refl
lands_first (s ∷ ss) [] = refl
lands_first (s ∷ ss) (d ∷ ds) = by_truth (is_between (pos 1) (pos (count d)) s) refl
  where
    by_truth : (t : Bool) → is_between (pos 1) (pos (count d)) s ≡ t
        → LandsAt (on_from (cond t (Some (record { offset = 0 + 1 * pred (count s); stretch = 1 * count d })) None) (exactly ss (map count ds))) (place_from s d ss ds)
    by_truth false e = tt
    by_truth true e =
        let i : IsIndex s d = index_of s d (sym (same_between s d) ∙ e) in
        subst (λ (y : ℤ). LandsAt (exactly ss (map count ds) (record { offset = 0 + 1 * pred (count y); stretch = 1 * count d })) (place_from y d ss ds)) (sym i.subscript)
        (subst (λ (y : ℤ). LandsAt (exactly ss (map count ds) (record { offset = 0 + 1 * i.before; stretch = 1 * count y })) (place_from (pos (suc i.before)) y ss ds)) (sym i.dimension)
        (subst (λ (k : ℕ). LandsAt (exactly ss (map count ds) (record { offset = k; stretch = 1 * i.size })) (place_from (pos (suc i.before)) (pos i.size) ss ds)) (let same : i.before ≡ 0 + 1 * i.before = omega arith in same)
        (subst (λ (k : ℕ). LandsAt (exactly ss (map count ds) (record { offset = i.before; stretch = k })) (place_from (pos (suc i.before)) (pos i.size) ss ds)) (let same : i.size ≡ 1 * i.size = omega arith in same)
        (lands ss ds i.before i.size))))

-- an element is taken so far behind the first of its array
abbrev pub taken_to : Option Place → Extent → ℕ → Storage → Outcome Taken
taken_to None array card st = Erred SubscriptCheck card st
taken_to (Some p) array card st = Ended (Cells (record { first = array.first + p.offset; size = 1 })) st 0

pub elements : (ss ds : List ℤ) (array : Extent) (card : ℕ) (st : Storage)
    → (subscripts_in card ss ds >> give (Cells (record { first = array.first + count (place ss ds -ℤ pos 1); size = 1 }))) st 0 ≡ taken_to (exactly ss (map count ds) first_place) array card st
elements ss ds array card st =
    by_place (exactly ss (map count ds) first_place) (subscripts_in card ss ds) (passes ss ds first_place card st) (place ss ds) (lands_first ss ds)
  where
    by_place : (o : Option Place) (act : Act (Unit {0})) → act st 0 ≡ judged o card st → (z : ℤ) → LandsAt o z
        → (act >> give (Cells (record { first = array.first + count (z -ℤ pos 1); size = 1 }))) st 0 ≡ taken_to o array card st
    by_place None act e z at = ap (λ (r : Outcome (Unit {0})). and_then r (λ _. give (Cells (record { first = array.first + count (z -ℤ pos 1); size = 1 })))) e
    by_place (Some p) act e z at =
        ap (λ (r : Outcome (Unit {0})). and_then r (λ _. give (Cells (record { first = array.first + count (z -ℤ pos 1); size = 1 })))) e
        ∙ ap (λ (y : ℤ). Ended (Cells (record { first = array.first + count (y -ℤ pos 1); size = 1 })) st 0) at
        ∙ ap (λ (y : ℤ). Ended (Cells (record { first = array.first + count y; size = 1 })) st 0) (one_less p.offset)
