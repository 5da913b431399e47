-- Storage of small units: scalars side by side fit, and lie apart.
use Rattle.std.proofs.Common.{◌≡◌, ℕ, ◌+◌, ◌≤◌, Bool, true, false, ◌||◌, List, [], ◌∷◌, refl, sym, ap, ◌∙◌, arith}
use Rattle.std.proofs.lemmas.Bool.Decides.{nat_tests}
use Rattle.std.proofs.lemmas.Int.{ints}
use Rattle.std.specs.Prelude.{nat_le}
use Rattle.std.specs.List.{list_all}
use Rattle.std.specs.Cmp.Lexicographic.{same_text}
use Rattle.formula.specs.Atoms.{same_bytes}
use Rattle.fort_syntax.specs.Names.{is_own}
use Rattle.fort_syntax.specs.SmallDecks.{I, J, K, N}
use Rattle.fort_syntax.specs.declared.dialect.Dialect.TheVariants.{Common}
use Rattle.fort_syntax.specs.declared.unit.DataName.{DataName}
use Rattle.fort_syntax.specs.declared.unit.Unit.{Unit as Routine}
use Rattle.fort_model.specs.Decks.{processor, by_reference, laid_out, int}
use Rattle.fort_model.specs.Fits.{IsIn, IsVisible, IsApart, HasShape, Fits, has_sort}
use Rattle.fort_model.specs.Processor.{Processor, MeetsBound}
use Rattle.fort_model.specs.Rows.{swap, rotate}
use Rattle.fort_model.specs.Storage.{Storage, Environment, Extent, contents}
use Rattle.fort_laws.specs.Witnesses.{down}
use Rattle.fort_laws.specs.WitnessRuns.{LoopMayRun, RotMayRun}
use Rattle.fort_laws.proofs.Near.{known}
use Rattle.fort_laws.proofs.WitnessLists.{AtEach, at_each, all_pass, ◌also◌}

-- ---- cells apart

-- one extent ends before another begins
abbrev are_disjoint : Extent → Extent → Bool
are_disjoint a b = nat_le (a.first + a.size) b.first || nat_le (b.first + b.size) a.first

abbrev are_apart : Environment → DataName → DataName → Bool
are_apart env d e = is_own d.role || (is_own e.role || (same_bytes d.name e.name || are_disjoint (env d.name) (env e.name)))

abbrev all_apart : Routine → Environment → Bool
all_apart u env = list_all (λ d. list_all (are_apart env d) u.names) u.names

not_in_both : (a b : Extent) (k : ℕ) → are_disjoint a b ≡ true → IsIn k a → IsIn k b → ⊥
not_in_both a b k h x y =
    known (nat_le (a.first + a.size) b.first)
    (λ t. let p = below (a.first + a.size) b.first t in let m = x.1 in let n = y.0 in absurd (omega arith))
    (λ f. let p = below (b.first + b.size) a.first (sym (ap (λ (t : Bool). t || nat_le (b.first + b.size) a.first) f) ∙ h) in let m = x.0 in let n = y.1 in absurd (omega arith))
  where
    below : (m n : ℕ) → nat_le m n ≡ true → m ≤ n
    below m n h = grind (arith, nat_tests)

lies_apart : (units : List Routine) (i : ℕ) (u : Routine) (env : Environment) → all_apart u env ≡ true → IsApart units i u env
lies_apart units i u env h d e dv ev smashed unlike k x y =
    not_in_both (env d.name) (env e.name) k (third (is_own d.role) (is_own e.role) (same_bytes d.name e.name) _ dv.not_own ev.not_own differ test) x y
  where
    test : are_apart env d e ≡ true
    test = all_pass (are_apart env d) u.names (all_pass (λ d. list_all (are_apart env d) u.names) u.names h dv.among.0 d dv.among.1) ev.among.0 e ev.among.1

    differ : same_bytes d.name e.name ≡ true → ⊥
    differ t = unlike (same_text d.name e.name (sym t))

    third : (a b c t : Bool) → a ≡ false → b ≡ false → (c ≡ true → ⊥) → (a || (b || (c || t))) ≡ true → t ≡ true
    third true b c t ea eb n h = absurd (cc)
    third false true c t ea eb n h = absurd (cc)
    third false false true t ea eb n h = absurd (n refl)
    third false false false t ea eb n h = h

-- ---- cells that fit

-- a name of the caller's cells has its shape, and cells of its type
abbrev IsSeated : Processor → Environment → Storage → DataName → Type 0
IsSeated p env st d = is_own d.role ≡ false → HasShape env st d × (list_all (has_sort p d.sort) (contents st (env d.name).first (env d.name).size) ≡ true)

seated_fit : (p : Processor) (u : Routine) (env : Environment) (st : Storage) → AtEach u.names (λ k d. IsSeated p env st d) → Fits p u env st
seated_fit p u env st each = record { shapes = λ d v. (seated d v).0; sorts = λ d v. (seated d v).1 }
  where
    seated : (d : DataName) → IsVisible u d → HasShape env st d × (list_all (has_sort p d.sort) (contents st (env d.name).first (env d.name).size) ≡ true)
    seated d v = at_each u.names (λ k d. IsSeated p env st d) each v.among.0 d v.among.1 v.not_own

-- ---- the units

-- it has the integers of 16 bits
abbrev strict : Processor
strict = processor Common false by_reference

meets_bound : MeetsBound strict 32767
meets_bound = (grind (arith, ints), grind (arith, ints))

abbrev one_cell : Environment
one_cell = laid_out (N ∷ []) (1 ∷ [])

abbrev two_cells : Environment
two_cells = laid_out (I ∷ J ∷ []) (1 ∷ 1 ∷ [])

abbrev three_cells : Environment
three_cells = laid_out (I ∷ J ∷ K ∷ []) (1 ∷ 1 ∷ 1 ∷ [])

abbrev five : Storage
five = int 5 ∷ []

abbrev one_two : Storage
one_two = int 1 ∷ int 2 ∷ []

abbrev one_two_three : Storage
one_two_three = int 1 ∷ int 2 ∷ int 3 ∷ []

five_fits : Fits strict down one_cell five
five_fits = seated_fit strict down one_cell five ((λ o. (record { within = omega arith; size = refl; dims = refl }, refl)) also tt)

two_fit : Fits strict swap two_cells one_two
two_fit = seated_fit strict swap two_cells one_two (
    (λ o. (record { within = omega arith; size = refl; dims = refl }, refl))
    also (λ o. (record { within = omega arith; size = refl; dims = refl }, refl))
    also (λ o. absurd (cc)) also tt)

three_fit : Fits strict rotate three_cells one_two_three
three_fit = seated_fit strict rotate three_cells one_two_three (
    (λ o. (record { within = omega arith; size = refl; dims = refl }, refl))
    also (λ o. (record { within = omega arith; size = refl; dims = refl }, refl))
    also (λ o. (record { within = omega arith; size = refl; dims = refl }, refl)) also tt)

pub loop_may_run : LoopMayRun
loop_may_run = record {
  unit = down;
  is_unit = refl;
  processor = strict;
  strict = refl;
  dialects = refl;
  bounded = meets_bound;
  environment = one_cell;
  storage = five;
  apart = lies_apart (down ∷ []) 0 down one_cell refl;
  fits = five_fits;
  met = refl;
}

pub rot_may_run : RotMayRun
rot_may_run = (
  record {
    unit = swap;
    is_unit = refl;
    processor = strict;
    strict = refl;
    dialects = refl;
    bounded = meets_bound;
    environment = two_cells;
    storage = one_two;
    apart = lies_apart (swap ∷ rotate ∷ []) 0 swap two_cells refl;
    fits = two_fit;
    met = refl;
  },
  record {
    unit = rotate;
    is_unit = refl;
    processor = strict;
    strict = refl;
    dialects = refl;
    bounded = meets_bound;
    environment = three_cells;
    storage = one_two_three;
    apart = lies_apart (swap ∷ rotate ∷ []) 1 rotate three_cells refl;
    fits = three_fit;
    met = refl;
  },
)
