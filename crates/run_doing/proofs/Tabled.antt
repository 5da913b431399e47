-- Where the tests of points stand in their table.
use Rattle.std.proofs.Common.{◌≡◌, ◌≢◌, ℕ, zero, suc, ◌+◌, ◌-◌, ◌<◌, ◌≤◌, List, [], ◌∷◌, ◌++◌, drop, length, get_or, slice_get, Option, Some, None, refl, sym, ap, ◌∙◌, subst, append_assoc, arith}
use Rattle.std.proofs.lemmas.List.{length-replicate, get_or_append_left}
use Rattle.std.proofs.Math.Seq.{get_or-append_seam}
use Rattle.fort_syntax.specs.declared.name.Name.{Name}
use Rattle.fort_syntax.specs.declared.unit.Line.{Line}
use Rattle.fort_syntax.specs.declared.unit.Unit.{Unit as Routine}
use Rattle.fort_model.specs.Flow.{Loop, loops_at}
use Rattle.loop_tables.specs.Loops.{last_of, with_line}
use Rattle.run_shapes.specs.declared.tests.Test.{Test}
use Rattle.run_shapes.specs.declared.tests.Test.TheVariants as test
use Rattle.run_doing.specs.Rounds.{overs, overs_to, piece_at, places_to, round_in, tests_in, tests_to}
use Rattle.run_doing.proofs.Descending.{Descend, descend_at, other_place, overs_long, own_place, rest_descends}
use Rattle.run_doing.proofs.Found.{Cut, all_stand, cut_at}

pub drop_first : {X : Type 0} (xs ys : List X) → drop (length xs) (xs ++ ys) ≡ ys
drop_first [] ys = refl
drop_first (x ∷ xs) ys = drop_first xs ys

pub both_long : {X : Type 0} (xs ys : List X) → length (xs ++ ys) ≡ length xs + length ys
both_long [] ys = omega arith
both_long (x ∷ xs) ys = let h : length (xs ++ ys) ≡ length xs + length ys = both_long xs ys in omega arith

pub tests_both : (names : List Name) (ds es : List Loop) → tests_in names (ds ++ es) ≡ tests_in names ds ++ tests_in names es
tests_both names [] es = refl
tests_both names (d ∷ ds) es = ap (λ ts. test.Loop (round_in names d) ∷ ts) (tests_both names ds es)

pub tests_long : (names : List Name) (ds : List Loop) → length (tests_in names ds) ≡ length ds
tests_long names [] = refl
tests_long names (d ∷ ds) = ap suc (tests_long names ds)

pub overs_both : (k : ℕ) (ds es : List Loop) (over : List ℕ) → overs k (ds ++ es) over ≡ overs (k + length ds) es (overs k ds over)
overs_both k [] es over = ap (λ n. overs n es over) (none k)
  where
    none : (k : ℕ) → k ≡ k + 0
    none k = omega arith
overs_both k (d ∷ ds) es over = overs_both (suc k) ds es _ ∙ ap (λ n. overs n es (overs k (d ∷ ds) over)) (next k (length ds))
  where
    next : (k n : ℕ) → suc k + n ≡ k + suc n
    next k n = omega arith

-- so many points behind a point
abbrev pub above : ℕ → ℕ → ℕ
above zero pc = pc
above (suc k) pc = suc (above k pc)

above_is : (k pc : ℕ) → above k pc ≡ k + pc
above_is zero pc = omega arith
above_is (suc k) pc = let h : above k pc ≡ k + pc = above_is k pc in omega arith

-- a point is so many behind each before it
between : (n pc : ℕ) → pc ≤ n → above (n - pc) pc ≡ n
between n pc h = let e : above (n - pc) pc ≡ (n - pc) + pc = above_is (n - pc) pc in omega arith

low : (k pc : ℕ) → pc < suc (above k pc)
low k pc = let e : above k pc ≡ k + pc = above_is k pc in omega arith

module _ (u : Routine) (names : List Name) where
  -- what stands in the table from the place of a point on
  pub record Splits (n pc : ℕ) : Type 0 where
    pub more : List Test
    pub is : tests_to u names n ≡ tests_to u names pc ++ (piece_at u names pc ++ more)

  nothing : (xs : List Test) → xs ≡ xs ++ []
  nothing [] = refl
  nothing (x ∷ xs) = ap (λ ys. x ∷ ys) (nothing xs)

  splits_by : (k pc : ℕ) → Splits (suc (above k pc)) pc
  splits_by zero pc = record { more = []; is = ap (λ ts. tests_to u names pc ++ ts) (nothing (piece_at u names pc)) }
  splits_by (suc k) pc =
      let s = splits_by k pc in
      let next = piece_at u names (suc (above k pc)) in
      record {
        more = s.more ++ next;
        is = ap (λ ts. ts ++ next) s.is ∙ append_assoc (tests_to u names pc) (piece_at u names pc ++ s.more) next
            ∙ ap (λ ts. tests_to u names pc ++ ts) (append_assoc (piece_at u names pc) s.more next);
      }

  pub splits : (n pc : ℕ) → pc ≤ n → Splits (suc n) pc
  splits n pc h = subst (λ m. Splits (suc m) pc) (between n pc h) (splits_by (n - pc) pc)

  -- the places of points
  pub places_long : (n : ℕ) → length (places_to u names n) ≡ n
  places_long zero = refl
  places_long (suc n) = both_long (places_to u names n) (length (tests_to u names n) ∷ []) ∙ ap (λ m. m + 1) (places_long n) ∙ one n
    where
      one : (n : ℕ) → n + 1 ≡ suc n
      one n = omega arith

  places_by : (k pc : ℕ) → get_or (places_to u names (suc (above k pc))) pc 0 ≡ length (tests_to u names pc)
  places_by zero pc =
      ap (λ i. get_or (places_to u names (suc pc)) i 0) (sym (places_long pc)) ∙ get_or-append_seam (places_to u names pc) (length (tests_to u names pc)) [] 0
  places_by (suc k) pc =
      get_or_append_left (places_to u names (suc (above k pc))) (length (tests_to u names (suc (above k pc))) ∷ []) 0 pc
      (subst (λ n. pc < n) (sym (places_long (suc (above k pc)))) (low k pc))
      ∙ places_by k pc

  pub place_is : (n pc : ℕ) → pc ≤ n → get_or (places_to u names (suc n)) pc 0 ≡ length (tests_to u names pc)
  place_is n pc h = subst (λ m. get_or (places_to u names (suc m)) pc 0 ≡ length (tests_to u names pc)) (between n pc h) (places_by (n - pc) pc)

  -- the places behind the own tests of DOs
  pub overs_to_long : (n : ℕ) → length (overs_to u names n) ≡ length u.lines
  overs_to_long zero = length-replicate (length u.lines) 0
  overs_to_long (suc n) = overs_long (length (tests_to u names n)) (loops_at u n) (overs_to u names n) ∙ overs_to_long n

  module _ (at : ℕ) (line : Line) (q : ℕ) (there : slice_get u.lines at ≡ Some line) (ends : last_of u.lines line.stmt ≡ Some q) (inside : at < length u.lines) where
    pub cut : Cut u.lines q at (loops_at u q)
    cut = cut_at u.lines q at line there ends

    abbrev pub own_at : ℕ
    own_at = suc (length (tests_to u names q) + length cut.before)

    later : (k q : ℕ) → q ≢ suc (above k q)
    later k q = λ e. (let p : q < suc (above k q) = low k q in omega arith)

    overs_by : (k : ℕ) → get_or (overs_to u names (suc (above k q))) at 0 ≡ own_at
    overs_by zero =
        let k = length (tests_to u names q) in
        let over = overs_to u names q in
        let deep = rest_descends cut.before (length u.lines) cut.own cut.rest (subst (λ ds. Descend (length u.lines) ds) cut.is (descend_at u.lines q)) in
        let low : cut.own.at < length over = subst (λ n. cut.own.at < n) (sym (overs_to_long q)) deep.0 in
        ap (λ ds. get_or (overs k ds over) at 0) cut.is ∙ ap (λ i. get_or (overs k (cut.before ++ cut.own ∷ cut.rest) over) i 0) (sym cut.at_is)
        ∙ own_place cut.before k cut.own cut.rest over deep.1 low
    overs_by (suc k) =
        other_place u.lines q (suc (above k q)) at line (loops_at u (suc (above k q))) (length (tests_to u names (suc (above k q)))) (overs_to u names (suc (above k q)))
        (later k q) there ends (all_stand u.lines (suc (above k q)))
        ∙ overs_by k

    pub over_is : (n : ℕ) → q ≤ n → get_or (overs_to u names (suc n)) at 0 ≡ own_at
    over_is n h = subst (λ m. get_or (overs_to u names (suc m)) at 0 ≡ own_at) (between n q h) (overs_by (n - q))

-- ---- where no statement stands

nothing_more : {X : Type 0} (xs : List X) → xs ≡ xs ++ []
nothing_more [] = refl
nothing_more (x ∷ xs) = ap (λ ys. x ∷ ys) (nothing_more xs)

pub none_tested : (names : List Name) (at : ℕ) (o : Option Line) (ts : List Test) → o ≡ None → ts ≡ ts ++ tests_in names (with_line at o [])
none_tested names at o ts e = nothing_more ts ∙ ap (λ o. ts ++ tests_in names (with_line at o [])) (sym e)

pub none_over : (k at : ℕ) (o : Option Line) (over : List ℕ) → o ≡ None → over ≡ overs k (with_line at o []) over
none_over k at o over e = ap (λ o. overs k (with_line at o []) over) (sym e)
