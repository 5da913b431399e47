-- The first of a name in lists.
use Rattle.std.proofs.Common.{◌≡◌, ℕ, suc, ◌+◌, ◌-◌, ◌<◌, ◌≤◌, Bool, true, false, cond, Option, Some, None, List, [], ◌∷◌, length, drop, get_or, slice_get, refl, sym, ap, subst, ◌∙◌, arith}
use Rattle.std.proofs.lemmas.List.{at_drop_more, at_drop_all}
use Rattle.formula.specs.Atoms.{same_bytes}
use Rattle.fort_syntax.specs.Names.{data_name_in, first_unit}
use Rattle.fort_syntax.specs.declared.name.Name.{Name}
use Rattle.fort_syntax.specs.declared.unit.DataName.{DataName}
use Rattle.fort_syntax.specs.declared.unit.Unit.{Unit as Routine}
use Rattle.unit_tables.specs.Tables.{told, Tells, first_name, data_at}

-- ---- data names

-- a table of the names behind a place, told of the name there, is one of the names from there on
pub name_step : (ds : List DataName) (old new : List (Name × ℕ)) (i n : ℕ) (d : DataName) → n ≡ suc i → n ≤ length ds → d ≡ get_or ds i d
    → ((x : Name) → told old x ≡ first_name x (drop n ds) n) → Tells old new (same_bytes d.name) i
    → (i ≤ length ds) × ((x : Name) → told new x ≡ first_name x (drop i ds) i)
name_step ds old new i n d next within read had tells = (omega arith, step)
  where
    lt : i < length ds
    lt = omega arith

    one : suc i ≡ i + 1
    one = omega arith

    step : (x : Name) → told new x ≡ first_name x (drop i ds) i
    step x =
        tells x ∙ ap (λ (o : Option ℕ). cond (same_bytes d.name x) (Some i) o) (had x ∙ ap (λ (m : ℕ). first_name x (drop m ds) m) next)
        ∙ ap (λ (e : DataName). first_name x (e ∷ drop (suc i) ds) i) read
        ∙ ap (λ (m : ℕ). first_name x (get_or ds i d ∷ drop m ds) i) one
        ∙ sym (at_drop_more (λ (rest : List DataName). first_name x rest i) ds i d lt)

pub name_start : (ds : List DataName) (x : Name) → told [] x ≡ first_name x (drop (length ds) ds) (length ds)
name_start ds x = sym (at_drop_all (λ (rest : List DataName). first_name x rest (length ds)) ds (length ds) (omega arith))

below_by : (b : Bool) (i k n : ℕ) (o : Option ℕ) → cond b (Some i) o ≡ Some k → (o ≡ Some k → k < suc i + n) → k < i + suc n
below_by true i k n o e rest = let same : i ≡ k = cc in subst (λ (j : ℕ). j < i + suc n) same (omega arith)
below_by false i k n o e rest = let h = rest e in omega arith

-- the place of a name is one of the list
pub name_below : (x : Name) (ds : List DataName) (i k : ℕ) → first_name x ds i ≡ Some k → k < i + length ds
name_below x [] i k e = absurd cc
name_below x (d ∷ ds) i k e = below_by (same_bytes d.name x) i k (length ds) (first_name x ds (suc i)) e (name_below x ds (suc i) k)

-- what stands in a list at a place that counts i others before it
abbrev at_behind : ℕ → List DataName → Option ℕ → Option DataName
at_behind i ds None = None
at_behind i ds (Some k) = slice_get ds (k - i)

shifted : (i : ℕ) (d : DataName) (ds : List DataName) (o : Option ℕ) → ((k : ℕ) → o ≡ Some k → suc i ≤ k) → at_behind i (d ∷ ds) o ≡ at_behind (suc i) ds o
shifted i d ds None h = refl
shifted i d ds (Some k) h =
    let lt : suc i ≤ k = h k refl in
    let e : k - i ≡ suc (k - suc i) = omega arith in
    ap (λ (j : ℕ). slice_get (d ∷ ds) j) e

own_place : (i : ℕ) (d : DataName) (ds : List DataName) → slice_get (d ∷ ds) (i - i) ≡ Some d
own_place i d ds = let e : i - i ≡ 0 = omega arith in ap (λ (j : ℕ). slice_get (d ∷ ds) j) e

from_by : (b : Bool) (i k : ℕ) (o : Option ℕ) → cond b (Some i) o ≡ Some k → (o ≡ Some k → suc i ≤ k) → i ≤ k
from_by true i k o e rest = let same : i ≡ k = cc in subst (λ (j : ℕ). i ≤ j) same (omega arith)
from_by false i k o e rest = let h = rest e in omega arith

name_from : (x : Name) (ds : List DataName) (i k : ℕ) → first_name x ds i ≡ Some k → i ≤ k
name_from x [] i k e = absurd cc
name_from x (d ∷ ds) i k e = from_by (same_bytes d.name x) i k (first_name x ds (suc i)) e (name_from x ds (suc i) k)

entry_by : (b : Bool) (i : ℕ) (d : DataName) (ds : List DataName) (o : Option ℕ) (found : Option DataName)
    → at_behind i (d ∷ ds) o ≡ found → at_behind i (d ∷ ds) (cond b (Some i) o) ≡ cond b (Some d) found
entry_by true i d ds o found e = own_place i d ds
entry_by false i d ds o found e = e

-- at the place of a name stands its data name
name_entry : (x : Name) (ds : List DataName) (i : ℕ) → at_behind i ds (first_name x ds i) ≡ data_name_in ds x
name_entry x [] i = refl
name_entry x (d ∷ ds) i =
    entry_by (same_bytes d.name x) i d ds (first_name x ds (suc i)) (data_name_in ds x)
    (shifted i d ds (first_name x ds (suc i)) (name_from x ds (suc i)) ∙ name_entry x ds (suc i))

from_zero : (ds : List DataName) (o : Option ℕ) → data_at ds o ≡ at_behind 0 ds o
from_zero ds None = refl
from_zero ds (Some k) = let e : k ≡ k - 0 = omega arith in ap (λ (j : ℕ). slice_get ds j) e

pub entry_there : (x : Name) (ds : List DataName) → data_at ds (first_name x ds 0) ≡ data_name_in ds x
entry_there x ds = from_zero ds (first_name x ds 0) ∙ name_entry x ds 0

-- ---- units

pub unit_step : (test : Name → Routine → Bool) (us : List Routine) (old new : List (Name × ℕ)) (i n : ℕ) (d : Routine) → n ≡ suc i → n ≤ length us → d ≡ get_or us i d
    → ((x : Name) → told old x ≡ first_unit (test x) (drop n us) n) → Tells old new (λ x. test x d) i
    → (i ≤ length us) × ((x : Name) → told new x ≡ first_unit (test x) (drop i us) i)
unit_step test us old new i n d next within read had tells = (omega arith, step)
  where
    lt : i < length us
    lt = omega arith

    one : suc i ≡ i + 1
    one = omega arith

    step : (x : Name) → told new x ≡ first_unit (test x) (drop i us) i
    step x =
        tells x ∙ ap (λ (o : Option ℕ). cond (test x d) (Some i) o) (had x ∙ ap (λ (m : ℕ). first_unit (test x) (drop m us) m) next)
        ∙ ap (λ (e : Routine). first_unit (test x) (e ∷ drop (suc i) us) i) read
        ∙ ap (λ (m : ℕ). first_unit (test x) (get_or us i d ∷ drop m us) i) one
        ∙ sym (at_drop_more (λ (rest : List Routine). first_unit (test x) rest i) us i d lt)

pub unit_start : (test : Name → Routine → Bool) (us : List Routine) (x : Name) → told [] x ≡ first_unit (test x) (drop (length us) us) (length us)
unit_start test us x = sym (at_drop_all (λ (rest : List Routine). first_unit (test x) rest (length us)) us (length us) (omega arith))

-- the number of a unit is one of the list
pub unit_below : (test : Routine → Bool) (us : List Routine) (i k : ℕ) → first_unit test us i ≡ Some k → k < i + length us
unit_below test [] i k e = absurd cc
unit_below test (u ∷ us) i k e = below_by (test u) i k (length us) (first_unit test us (suc i)) e (unit_below test us (suc i) k)
