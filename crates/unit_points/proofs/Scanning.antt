-- A scan of block IFs from behind finds what the flow is told to find.
use Rattle.std.proofs.Common.{◌≡◌, ℕ, zero, suc, pred, ◌+◌, ◌-◌, ◌<◌, ◌≤◌, ◌⊎◌, inl, inr, Bool, true, false, cond, List, [], ◌∷◌, length, drop, get_or, set, refl, sym, ap, ◌∙◌, subst, add-one, arith}
use Rattle.std.specs.Prelude.{nat_lt}
use Rattle.std.proofs.lemmas.Bool.Decides.{nat_tests}
use Rattle.std.proofs.Math.Seq.{drop-cons}
use Rattle.std.proofs.lemmas.List.{get_or-set_other, length-drop, drop-drop}
use Rattle.std.proofs.lemmas.Grind.{get_or-set_at, get_or_after_one}
use Rattle.std.proofs.lemmas.Bool.{cases_eq, cases_lt}
use Rattle.fort_syntax.specs.declared.unit.Line.{Line}
use Rattle.fort_syntax.specs.declared.unit.Unit.{Unit as Routine}
use Rattle.fort_model.specs.Flow.{Part, Opens, Branches, Closes, Plain, part_of, level_behind, is_branch, is_close, lines_before}
use Rattle.unit_points.specs.Turns.{first_from, AreFirst, AreFor}

pub within : (sought : Part → ℕ → Bool) (xs : List Line) (m : ℕ) → lines_before sought xs m ≤ length xs
within sought [] m = omega arith
within sought (line ∷ xs) m = by (sought (part_of line.stmt) m) (within sought xs (level_behind (part_of line.stmt) m))
  where
    by : (b : Bool) → lines_before sought xs (level_behind (part_of line.stmt) m) ≤ length xs
        → cond b 0 (suc (lines_before sought xs (level_behind (part_of line.stmt) m))) ≤ suc (length xs)
    by true rec = omega arith
    by false rec = omega (arith, rec)

module _ (sought : Part → ℕ → Bool) (outer : (p : Part) (n : ℕ) → sought p (suc n) ≡ false) where
  -- behind the END IF that ends a block IF the search goes on one level less
  abbrev past : List Line → ℕ → ℕ → ℕ
  past xs c l = cond (nat_lt c (length xs)) (suc c + lines_before sought (drop (suc c) xs) l) (length xs)

  further : (line : Line) (xs : List Line) (c l : ℕ) → suc (past xs c l) ≡ past (line ∷ xs) (suc c) l
  further line xs c l = grind (arith, nat_tests)

  none_here : (p : Part) (k l m : ℕ) → m ≡ k + suc l → sought p m ≡ false
  none_here p k l m e = (let same : m ≡ suc (k + l) = omega arith in subst (λ n. sought p n ≡ false) (sym same) (outer p (k + l)))

  abbrev Goes : List Line → Type 0
  Goes xs = (k l m : ℕ) → m ≡ k + suc l → lines_before sought xs m ≡ past xs (lines_before is_close xs k) l

  on : (line : Line) (xs : List Line) → Goes xs → (p : Part) (k l m j n : ℕ) → m ≡ k + suc l → n ≡ j + suc l
      → cond (sought p m) 0 (suc (lines_before sought xs n)) ≡ past (line ∷ xs) (suc (lines_before is_close xs j)) l
  on line xs rec p k l m j n e f =
      ap (λ b. cond b 0 (suc (lines_before sought xs n))) (none_here p k l m e) ∙ ap suc (rec j l n f) ∙ further line xs (lines_before is_close xs j) l

  first_past : (line : Line) (xs : List Line) (l : ℕ) → suc (lines_before sought xs l) ≡ past (line ∷ xs) 0 l
  first_past line xs l = grind (arith, nat_tests)

  step : (line : Line) (xs : List Line) → Goes xs → (p : Part) (k l m : ℕ) → m ≡ k + suc l
      → cond (sought p m) 0 (suc (lines_before sought xs (level_behind p m))) ≡ past (line ∷ xs) (cond (is_close p k) 0 (suc (lines_before is_close xs (level_behind p k)))) l
  step line xs rec Opens k l m e = on line xs rec Opens k l m (suc k) (suc m) e (omega arith)
  step line xs rec Branches k l m e = on line xs rec Branches k l m k m e e
  step line xs rec Plain k l m e = on line xs rec Plain k l m k m e e
  step line xs rec Closes (suc k) l m e = on line xs rec Closes (suc k) l m k (pred m) e (omega arith)
  step line xs rec Closes zero l m e =
      let same : m ≡ suc l = omega arith in
      ap (λ b. cond b 0 (suc (lines_before sought xs (pred m)))) (none_here Closes 0 l m e) ∙ ap (λ n. suc (lines_before sought xs (pred n))) same ∙ first_past line xs l

  deeper : (xs : List Line) → Goes xs
  deeper [] k l m e = refl
  deeper (line ∷ xs) k l m e = step line xs (deeper xs) (part_of line.stmt) k l m e

-- ---- one statement

at_line : (sought : Part → ℕ → Bool) (lines : List Line) (i : ℕ) (line : Line) → i < length lines → line ≡ get_or lines i line → (p : Part) → p ≡ part_of line.stmt
    → first_from sought lines i ≡ i + cond (sought p 0) 0 (suc (lines_before sought (drop (suc i) lines) (level_behind p 0)))
at_line sought lines i line lt e p same =
    ap (λ xs. i + lines_before sought xs 0) (drop-cons lines i line lt ∙ ap (λ x. x ∷ drop (suc i) lines) (sym e))
    ∙ ap (λ q. i + cond (sought q 0) 0 (suc (lines_before sought (drop (suc i) lines) (level_behind q 0)))) (sym same)

pub here : (sought : Part → ℕ → Bool) (lines : List Line) (i : ℕ) (line : Line) → i < length lines → line ≡ get_or lines i line → (p : Part) → p ≡ part_of line.stmt
    → sought p 0 ≡ true → first_from sought lines i ≡ i
here sought lines i line lt e p same found_it =
    at_line sought lines i line lt e p same ∙ ap (λ b. i + cond b 0 (suc (lines_before sought (drop (suc i) lines) (level_behind p 0)))) found_it ∙ plus i
  where
    plus : (i : ℕ) → i + 0 ≡ i
    plus i = omega arith

pub later : (sought : Part → ℕ → Bool) (lines : List Line) (i : ℕ) (line : Line) → i < length lines → line ≡ get_or lines i line → (p : Part) → p ≡ part_of line.stmt
    → sought p 0 ≡ false → level_behind p 0 ≡ 0 → first_from sought lines i ≡ first_from sought lines (suc i)
later sought lines i line lt e p same not_it level =
    at_line sought lines i line lt e p same ∙ ap (λ b. i + cond b 0 (suc (lines_before sought (drop (suc i) lines) (level_behind p 0)))) not_it
    ∙ ap (λ n. i + suc (lines_before sought (drop (suc i) lines) n)) level ∙ plus i (lines_before sought (drop (suc i) lines) 0)
  where
    plus : (i n : ℕ) → i + suc n ≡ suc i + n
    plus i n = omega arith

-- behind a block IF the search goes on behind its END IF
pub inner : (sought : Part → ℕ → Bool) (outer : (p : Part) (n : ℕ) → sought p (suc n) ≡ false) (lines : List Line) (i : ℕ) (line : Line)
    → i < length lines → line ≡ get_or lines i line → Opens ≡ part_of line.stmt → sought Opens 0 ≡ false
    → (e v : ℕ) → e ≡ first_from is_close lines (suc i) → (suc e ≤ length lines → v ≡ first_from sought lines (suc e)) → (e ≡ length lines → v ≡ length lines)
    → first_from sought lines i ≡ v
inner sought outer lines i line lt is same not_it e v end found past_all =
    at_line sought lines i line lt is Opens same ∙ ap (λ b. i + cond b 0 (suc (lines_before sought (drop (suc i) lines) 1))) not_it
    ∙ ap (λ n. i + suc n) (deeper sought outer (drop (suc i) lines) 0 0 1 refl)
    ∙ by (lines_before is_close (drop (suc i) lines) 0) end (within is_close (drop (suc i) lines) 0) (cases_lt (lines_before is_close (drop (suc i) lines) 0) (length (drop (suc i) lines)))
  where
    long : length (drop (suc i) lines) ≡ length lines - suc i
    long = length-drop (suc i) lines

    by : (c : ℕ) → e ≡ suc i + c → c ≤ length (drop (suc i) lines) → (c < length (drop (suc i) lines)) ⊎ (length (drop (suc i) lines) ≤ c)
        → i + suc (cond (nat_lt c (length (drop (suc i) lines))) (suc c + lines_before sought (drop (suc c) (drop (suc i) lines)) 0) (length (drop (suc i) lines))) ≡ v
    by c is_end small (inl before) =
        let found_it : nat_lt c (length (drop (suc i) lines)) ≡ true = grind (arith, nat_tests) in
        let point : suc i + suc c ≡ suc e = omega arith in
        let drops : drop (suc c) (drop (suc i) lines) ≡ drop (suc e) lines = drop-drop (suc c) (suc i) lines ∙ ap (λ n. drop n lines) point in
        let inside : suc e ≤ length lines = omega (arith, long) in
        let given = found inside in
        let counts : lines_before sought (drop (suc c) (drop (suc i) lines)) 0 ≡ lines_before sought (drop (suc e) lines) 0 = ap (λ xs. lines_before sought xs 0) drops in
        ap (λ b. i + suc (cond b (suc c + lines_before sought (drop (suc c) (drop (suc i) lines)) 0) (length (drop (suc i) lines)))) found_it
        ∙ (let sums : i + suc (suc c + lines_before sought (drop (suc c) (drop (suc i) lines)) 0) ≡ v = omega (arith, given, counts, is_end) in sums)
    by c is_end small (inr behind) =
        let not_it : nat_lt c (length (drop (suc i) lines)) ≡ false = grind (arith, nat_tests) in
        let whole : e ≡ length lines = omega (arith, long) in
        let given = past_all whole in
        ap (λ b. i + suc (cond b (suc c + lines_before sought (drop (suc c) (drop (suc i) lines)) 0) (length (drop (suc i) lines)))) not_it
        ∙ (let sums : i + suc (length (drop (suc i) lines)) ≡ v = omega (arith, long, given) in sums)

-- ---- lists of points

pub put : (sought : Part → ℕ → Bool) (lines : List Line) (at : ℕ) (xs : List ℕ) (v : ℕ) → length xs ≡ suc (length lines) → at < length lines
    → AreFirst sought lines (suc at) xs → v ≡ first_from sought lines at → AreFirst sought lines at (set xs at v)
put sought lines at xs v long lt first e k low high = by (cases_eq k at)
  where
    by : (k ≡ at) ⊎ (k ≡ at → ⊥) → get_or (set xs at v) k 0 ≡ first_from sought lines k
    by (inl same) =
        let inside : at < length xs = omega arith in
        get_or-set_at xs at k v 0 same inside ∙ e ∙ ap (λ n. first_from sought lines n) (sym same)
    by (inr other) =
        let above : suc at ≤ k = omega arith in
        get_or-set_other xs at k v 0 other ∙ first k above high

pub branch_outer : (p : Part) (n : ℕ) → is_branch p (suc n) ≡ false
branch_outer Opens n = refl
branch_outer Branches n = refl
branch_outer Closes n = refl
branch_outer Plain n = refl

pub close_outer : (p : Part) (n : ℕ) → is_close p (suc n) ≡ false
close_outer Opens n = refl
close_outer Branches n = refl
close_outer Closes n = refl
close_outer Plain n = refl

-- the value that a scan takes at a block IF
pub opened : (sought : Part → ℕ → Bool) (outer : (p : Part) (n : ℕ) → sought p (suc n) ≡ false) (lines : List Line) (at : ℕ) (line : Line) (xs ends : List ℕ) (v e : ℕ)
    → at < length lines → line ≡ get_or lines at line → Opens ≡ part_of line.stmt → sought Opens 0 ≡ false → length xs ≡ suc (length lines)
    → AreFirst sought lines (suc at) xs → AreFirst is_close lines (suc at) ends → e ≡ get_or ends (at + 1) 0
    → (e + 1 < length xs → v ≡ get_or xs (e + 1) 0) → (length xs ≡ e + 1 → v ≡ get_or xs e 0) → v ≡ first_from sought lines at
opened sought outer lines at line xs ends v e lt is same not_it long first first_end is_e inside past_all =
    sym (inner sought outer lines at line lt is same not_it e v end found whole)
  where
    end : e ≡ first_from is_close lines (suc at)
    end = is_e ∙ ap (λ n. get_or ends n 0) (add-one at) ∙ first_end (suc at) (omega arith) (omega arith)

    low : suc at ≤ e
    low = (let a = end in omega arith)

    found : suc e ≤ length lines → v ≡ first_from sought lines (suc e)
    found h =
        let l = low in
        inside (omega arith) ∙ ap (λ n. get_or xs n 0) (add-one e) ∙ first (suc e) (omega arith) h

    whole : e ≡ length lines → v ≡ length lines
    whole h =
        let l = low in
        let a = past_all (omega arith) in
        let b = first e l (omega arith) in
        let c = within sought (drop e lines) 0 in
        let d = length-drop e lines in
        (let done : v ≡ length lines = omega (arith, a, b, c, d) in done)

pub opened_in : (sought : Part → ℕ → Bool) (outer : (p : Part) (n : ℕ) → sought p (suc n) ≡ false) (lines : List Line) (at : ℕ) (line : Line) (xs ys ends : List ℕ) (v e : ℕ)
    → xs ≡ ys → at < length lines → line ≡ get_or lines at line → Opens ≡ part_of line.stmt → sought Opens 0 ≡ false → length ys ≡ suc (length lines)
    → AreFirst sought lines (suc at) ys → AreFirst is_close lines (suc at) ends → e ≡ get_or ends (at + 1) 0
    → (e + 1 < length xs → v ≡ get_or xs (e + 1) 0) → (length xs ≡ e + 1 → v ≡ get_or xs e 0) → v ≡ first_from sought lines at
opened_in sought outer lines at line xs ys ends v e same lt is opens not_it long first first_end is_e =
    subst (λ zs. (e + 1 < length zs → v ≡ get_or zs (e + 1) 0) → (length zs ≡ e + 1 → v ≡ get_or zs e 0) → v ≡ first_from sought lines at) (sym same)
    (opened sought outer lines at line ys ends v e lt is opens not_it long first first_end is_e)

-- what a scan has behind its first point
pub behind_first : (sought : Part → ℕ → Bool) (lines : List Line) (xs : List ℕ) → AreFirst sought lines 0 xs
    → (k : ℕ) → k < length lines → get_or (drop 1 xs) k 0 ≡ first_from sought lines (suc k)
behind_first sought lines xs first k lt = get_or_after_one xs k 0 ∙ ap (λ n. get_or xs n 0) (one k) ∙ first (suc k) (omega arith) (omega arith)
  where
    one : (k : ℕ) → 1 + k ≡ suc k
    one k = omega arith

pub turned : (u : Routine) (sought : Part → ℕ → Bool) (lines : List Line) (xs ys : List ℕ) → lines ≡ u.lines → ys ≡ drop 1 xs → length xs ≡ suc (length lines)
    → AreFirst sought lines 0 xs → AreFor u ys (λ k. first_from sought u.lines (suc k))
turned u sought lines xs ys same e long first = subst (λ ls. AreFor u ys (λ k. first_from sought ls (suc k))) same (record {
  long = (let a = ap length e in let b = length-drop 1 xs in let d = ap length same in omega (arith, a, b, d));
  each = λ k lt. ap (λ zs. get_or zs k 0) e ∙ behind_first sought lines xs first k (let d = ap length same in omega (arith, d, lt));
})
