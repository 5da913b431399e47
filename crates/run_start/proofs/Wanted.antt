-- How many cells a start wants, in numbers of a machine.
use Rattle.std.proofs.Common.{◌≡◌, ℕ, suc, ◌+◌, ◌*◌, ◌<◌, ◌≤◌, ◌^◌, Bool, true, false, cond, Option, Some, None, List, [], ◌∷◌, length, map, slice_get, refl, sym, ap, ◌∙◌, arith}
use Rattle.std.specs.Prelude.{max, sum, nat_lt, nat_le}
use Rattle.std.proofs.lemmas.Option.{get_or_from_slice_get}
use Rattle.fort_syntax.specs.declared.unit.Unit.{Unit as Routine}
use Rattle.fort_notes.specs.declared.cases.Given.{Given}
use Rattle.run_shapes.specs.declared.unit_code.Code.{Code}
use Rattle.run_shapes.specs.declared.unit_code.UnitCode.{UnitCode}
use Rattle.run_ranks.specs.Needs.{no_rank, rank_at}
use Rattle.run_ranks.specs.Runnable.{IsRunnable}
use Rattle.run_ranks.specs.declared.ranks.Ranks.{Ranks}
use Rattle.run_ranks.specs.declared.ranks.UnitRank.{UnitRank}
use Rattle.run_start.specs.Counted.{number, plus_to, times_to}
use Rattle.run_start.specs.Counting.{IsUnitOf, AreSizes, is_small}
use Rattle.run_start.specs.Decks.{dummies_from, longest_rank, longest_size, own_from}
use Rattle.run_start.specs.Shapes.{sum_from, greatest_from}
use Rattle.run_start.specs.Started.{count_refusal}
use Rattle.run_start.specs.Starts.{cells_wanted, entities, greatest_of, longest, longest_own, needs_of, nowhere_at_all, own_cells, size_at_start}
use Rattle.run_start.specs.declared.refusal.RunRefusal.TheVariants.{ManyCells}
use Rattle.run_start.specs.declared.runnable.Runnable.{Runnable}
use Rattle.run_start.proofs.Numbers.{above, below, below_sum, by_size, greatest_number, is_above, is_below, plus_number, plus_some, sum_number, times_fixed}

abbrev own_total : List Routine → ℕ
own_total [] = 0
own_total (u ∷ us) = sum (own_cells u) + own_total us

abbrev dummies_total : List Routine → ℕ
dummies_total [] = 0
dummies_total (u ∷ us) = length u.dummies + dummies_total us

shared_out : (a b c d most : ℕ) → a + b * most + (c + d * most) ≡ a + c + (b + d) * most
shared_out a b c d most = grind arith

needs_so : (most : ℕ) (us : List Routine) → needs_of most us ≡ own_total us + dummies_total us * most
needs_so most [] = let none : 0 ≡ 0 + 0 * most = omega arith in none
needs_so most (u ∷ us) = ap (λ k. sum (own_cells u) + length u.dummies * most + k) (needs_so most us) ∙ shared_out (sum (own_cells u)) (length u.dummies) (own_total us) (dummies_total us) most

-- ---- what is counted once for all starts

abbrev SameOwn : List Routine → List UnitRank → Type 0
SameOwn us rs = (i : ℕ) (g : Routine) (r : UnitRank) → slice_get us i ≡ Some g → slice_get rs i ≡ Some r → r.own ≡ own_cells g

abbrev SameCells : List Routine → List UnitRank → Type 0
SameCells us rs = (i : ℕ) (g : Routine) (r : UnitRank) → slice_get us i ≡ Some g → slice_get rs i ≡ Some r → r.cells ≡ sum (own_cells g)

abbrev SameDummies : List Routine → List UnitCode → Type 0
SameDummies us cs = (i : ℕ) (g : Routine) (c : UnitCode) → slice_get us i ≡ Some g → slice_get cs i ≡ Some c → c.slots.dummies ≡ length g.dummies

own_so : (us : List Routine) (rs : List UnitRank) (q : ℕ) → length rs ≡ length us → SameCells us rs → own_from (number q) rs ≡ number (q + own_total us)
own_so [] [] q long same = ap number (let e : q ≡ q + 0 = omega arith in e)
own_so [] (r ∷ rs) q long same = absurd (omega arith)
own_so (u ∷ us) [] q long same = absurd (omega arith)
own_so (u ∷ us) (r ∷ rs) q long same =
    ap (λ o. own_from o rs) (plus_some q r.cells ∙ ap (λ k. number (q + k)) (same 0 u r refl refl))
    ∙ own_so us rs (q + sum (own_cells u)) (omega arith) (λ i g s at there. same (suc i) g s at there)
    ∙ ap number (let e : q + sum (own_cells u) + own_total us ≡ q + (sum (own_cells u) + own_total us) = omega arith in e)

dummies_so : (us : List Routine) (cs : List UnitCode) (q : ℕ) → length cs ≡ length us → SameDummies us cs → dummies_from (number q) cs ≡ number (q + dummies_total us)
dummies_so [] [] q long same = ap number (let e : q ≡ q + 0 = omega arith in e)
dummies_so [] (c ∷ cs) q long same = absurd (omega arith)
dummies_so (u ∷ us) [] q long same = absurd (omega arith)
dummies_so (u ∷ us) (c ∷ cs) q long same =
    ap (λ o. dummies_from o cs) (plus_some q c.slots.dummies ∙ ap (λ k. number (q + k)) (same 0 u c refl refl))
    ∙ dummies_so us cs (q + length u.dummies) (omega arith) (λ i g d at there. same (suc i) g d at there)
    ∙ ap number (let e : q + length u.dummies + dummies_total us ≡ q + (length u.dummies + dummies_total us) = omega arith in e)

max_turn : (a b c : ℕ) → max (max a b) c ≡ max a (max b c)
max_turn a b c = grind arith

max_one : (a : ℕ) → 1 ≤ a → a ≡ max a 1
max_one a h = grind arith

max_more : (a b : ℕ) → 1 ≤ a → 1 ≤ max a b
max_more a b h = grind arith

size_so : (ns : List ℕ) (q : ℕ) → 1 ≤ q → longest_size q ns ≡ max q (greatest_of ns)
size_so [] q h = max_one q h
size_so (n ∷ ns) q h = size_so ns (max q n) (max_more q n h) ∙ max_turn q n (greatest_of ns)

longest_so : (us : List Routine) (rs : List UnitRank) (q : ℕ) → 1 ≤ q → length rs ≡ length us → SameOwn us rs → longest_rank q rs ≡ max q (longest_own us)
longest_so [] [] q h long same = max_one q h
longest_so [] (r ∷ rs) q h long same = absurd (omega arith)
longest_so (u ∷ us) [] q h long same = absurd (omega arith)
longest_so (u ∷ us) (r ∷ rs) q h long same =
    ap (λ k. longest_rank k rs) (size_so r.own q h ∙ ap (λ ns. max q (greatest_of ns)) (same 0 u r refl refl))
    ∙ longest_so us rs (max q (greatest_of (own_cells u))) (max_more q (greatest_of (own_cells u)) h) (omega arith) (λ i g s at there. same (suc i) g s at there)
    ∙ max_turn q (greatest_of (own_cells u)) (longest_own us)

max_longest : (us : List Routine) → max 1 (longest_own us) ≡ longest_own us
max_longest [] = refl
max_longest (u ∷ us) = over (greatest_of (own_cells u)) (longest_own us) (max_longest us)
  where
    over : (a b : ℕ) → max 1 b ≡ b → max 1 (max a b) ≡ max a b
    over a b e = grind arith

module _ (units : List Routine) (code : Code) (ranks : Ranks) (runnable : IsRunnable units code ranks) where
  ranked : (i : ℕ) (r : UnitRank) → slice_get ranks.units i ≡ Some r → rank_at ranks i ≡ r
  ranked i r at = get_or_from_slice_get ranks.units i r no_rank at

  same_own : SameOwn units ranks.units
  same_own i g r at there = ap (λ (s : UnitRank). s.own) (sym (ranked i r there)) ∙ runnable.sized i g at nowhere_at_all []

  same_cells : SameCells units ranks.units
  same_cells i g r at there =
      ap (λ (s : UnitRank). s.cells) (sym (ranked i r there)) ∙ sym (runnable.ranked.own i) ∙ ap sum (runnable.sized i g at nowhere_at_all [])

  same_dummies : SameDummies units code.units
  same_dummies i g c at there = (runnable.coded.each i g c at there).slotted.dummies_counted

module _ (deck : Runnable) (i : ℕ) (u : Routine) (given : List Given) (sizes : List (Option ℕ)) (unit : IsUnitOf deck i u) (are : AreSizes u given sizes) where
  abbrev units : List Routine
  units = deck.units.now

  abbrev total : ℕ
  total = sum (map (size_at_start u given) (entities u))

  none : Some 0 ≡ number 0
  none = sym (below 0 (grind arith))

  sum_so : sum_from (Some 0) sizes ≡ number total
  sum_so =
      ap (sum_from (Some 0)) are.sizes_are ∙ ap (λ (o : Option ℕ). sum_from o (map (λ x. number (size_at_start u given x)) (entities u))) none
      ∙ sum_number (size_at_start u given) 0 (entities u)
      ∙ ap number (let e : 0 + total ≡ total = omega arith in e)

  many : 4000000 < cells_wanted units u given → count_refusal units u given ≡ Some ManyCells
  many h = let t : nat_lt 4000000 (cells_wanted units u given) ≡ true = grind arith in ap (λ (b : Bool). cond b (Some ManyCells) None) t

  few : cells_wanted units u given ≤ 4000000 → count_refusal units u given ≡ None
  few h = let t : nat_lt 4000000 (cells_wanted units u given) ≡ false = grind arith in ap (λ (b : Bool). cond b (Some ManyCells) None) t

  -- there is no such sum
  pub sum_many : sum_from (Some 0) sizes ≡ None → count_refusal units u given ≡ Some ManyCells
  sum_many e =
      let big : 2 ^ 64 ≤ total = is_above total (sym sum_so ∙ e) in
      many (let more : 4000000 < total + needs_of (longest units u given) units = omega arith in more)

  module _ (count : ℕ) (sum_is : sum_from (Some 0) sizes ≡ Some count) where
    total_so : (total ≡ count) × (total < 2 ^ 64)
    total_so = is_below total count (sym sum_so ∙ sum_is)

    longest_first : deck.starts.now.longest ≡ longest_own units
    longest_first =
        unit.starts.longest
        ∙ longest_so units deck.ranks.now.units 1 (omega arith) unit.runnable.long (same_own units deck.code.now deck.ranks.now unit.runnable)
        ∙ max_longest units

    one_longest : 1 ≤ deck.starts.now.longest
    one_longest =
        let e : deck.starts.now.longest ≡ longest_own units = longest_first in
        let h : max 1 (longest_own units) ≡ longest_own units = max_longest units in
        grind arith

    greatest_so : greatest_from (Some deck.starts.now.longest) sizes ≡ Some (longest units u given)
    greatest_so =
        ap (greatest_from (Some deck.starts.now.longest)) are.sizes_are
        ∙ greatest_number (size_at_start u given) deck.starts.now.longest (entities u) one_longest (below_sum (size_at_start u given) (entities u) total_so.1)
        ∙ ap (λ k. Some (max k (greatest_of (map (size_at_start u given) (entities u))))) longest_first
        ∙ ap Some (turned (longest_own units) (greatest_of (map (size_at_start u given) (entities u))))
      where
        turned : (a b : ℕ) → max a b ≡ max b a
        turned a b = grind arith

    -- there is always a greatest size
    pub greatest_many : greatest_from (Some deck.starts.now.longest) sizes ≡ None → count_refusal units u given ≡ Some ManyCells
    greatest_many e = let never : Some (longest units u given) ≡ None = sym greatest_so ∙ e in absurd (cc)

    module _ (most : ℕ) (greatest_is : greatest_from (Some deck.starts.now.longest) sizes ≡ Some most) where
      most_so : longest units u given ≡ most
      most_so = let e : Some (longest units u given) ≡ Some most = sym greatest_so ∙ greatest_is in (let same : longest units u given ≡ most = cc in same)

      own_is : deck.starts.now.own ≡ number (own_total units)
      own_is =
          unit.starts.own ∙ ap (λ (o : Option ℕ). own_from o deck.ranks.now.units) none
          ∙ own_so units deck.ranks.now.units 0 unit.runnable.long (same_cells units deck.code.now deck.ranks.now unit.runnable)
          ∙ ap number (let e : 0 + own_total units ≡ own_total units = omega arith in e)

      dummies_is : deck.starts.now.dummies ≡ number (dummies_total units)
      dummies_is =
          unit.starts.dummies ∙ ap (λ (o : Option ℕ). dummies_from o deck.code.now.units) none
          ∙ dummies_so units deck.code.now.units 0 unit.runnable.coded.long (same_dummies units deck.code.now deck.ranks.now unit.runnable)
          ∙ ap number (let e : 0 + dummies_total units ≡ dummies_total units = omega arith in e)

      wanted_so : plus_to (plus_to (Some count) deck.starts.now.own) (times_to deck.starts.now.dummies (Some most)) ≡ number (cells_wanted units u given)
      wanted_so =
          ap (λ (o : Option ℕ). plus_to (plus_to o deck.starts.now.own) (times_to deck.starts.now.dummies (Some most))) (sym sum_is ∙ sum_so)
          ∙ ap (λ (o : Option ℕ). plus_to (plus_to (number total) o) (times_to deck.starts.now.dummies (Some most))) own_is
          ∙ ap (λ (o : Option ℕ). plus_to (plus_to (number total) (number (own_total units))) (times_to o (Some most))) dummies_is
          ∙ ap (λ (o : Option ℕ). plus_to o (times_to (number (dummies_total units)) (Some most))) (plus_number total (own_total units))
          ∙ ap (plus_to (number (total + own_total units))) (times_fixed (dummies_total units) most)
          ∙ plus_number (total + own_total units) (dummies_total units * most)
          ∙ ap (λ k. number (total + own_total units + dummies_total units * k)) (sym most_so)
          ∙ ap number (let e : total + own_total units + dummies_total units * longest units u given ≡ total + (own_total units + dummies_total units * longest units u given) = omega arith in e)
          ∙ ap (λ k. number (total + k)) (sym (needs_so (longest units u given) units))

      small_below : (n : ℕ) → n < 2 ^ 64 → is_small (number n) ≡ nat_le n 4000000
      small_below n h = ap is_small (below n h)

      small_above : (n : ℕ) → 2 ^ 64 ≤ n → is_small (number n) ≡ false
      small_above n h = ap is_small (above n h)

      -- too many are wanted
      pub wanted_many : is_small (plus_to (plus_to (Some count) deck.starts.now.own) (times_to deck.starts.now.dummies (Some most))) ≡ false → count_refusal units u given ≡ Some ManyCells
      wanted_many e =
          by_size (cells_wanted units u given)
          (λ h. let t : nat_le (cells_wanted units u given) 4000000 ≡ false = sym (small_below (cells_wanted units u given) h) ∙ ap is_small (sym wanted_so) ∙ e in many (grind arith))
          (λ h. many (omega arith))

      -- or not
      pub wanted_few : is_small (plus_to (plus_to (Some count) deck.starts.now.own) (times_to deck.starts.now.dummies (Some most))) ≡ true → count_refusal units u given ≡ None
      wanted_few e =
          by_size (cells_wanted units u given)
          (λ h. let t : nat_le (cells_wanted units u given) 4000000 ≡ true = sym (small_below (cells_wanted units u given) h) ∙ ap is_small (sym wanted_so) ∙ e in few (grind arith))
          (λ h. let never : false ≡ true = sym (small_above (cells_wanted units u given) h) ∙ ap is_small (sym wanted_so) ∙ e in absurd (cc))
