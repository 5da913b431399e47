-- The first of a name in lists.
use Rattle.std.proofs.Common.{◌≡◌, ℕ, zero, suc, ◌+◌, ◌<◌, ◌≤◌, Bool, true, false, cond, ◌&&◌, ◌||◌, Option, Some, None, is_some, List, [], ◌∷◌, length, drop, get_or, slice_get, refl, sym, ap, subst, ◌∙◌, arith}
use Rattle.std.specs.Prelude.{nat_eq, ltb, option_copied, IfSome}
use Rattle.std.proofs.Common.{Bor}
use Rattle.std.proofs.lemmas.Option.{slice_get-get_or, slice_get_past}
use Rattle.std.proofs.lemmas.List.{at_drop_more, at_drop_all}
use Rattle.formula.specs.Atoms.{same_bytes, is_among, has_twin}
use Rattle.fort_syntax.specs.Names.{first_unit}
use Rattle.fort_syntax.specs.declared.name.Name.{Name}
use Rattle.fort_syntax.specs.declared.unit.Unit.{Unit as Routine}
use Rattle.fort_notes.specs.declared.cases.Given.{Given}
use Rattle.unit_tables.specs.Tables.{told, Tells}
use Rattle.run_start.specs.Places.{first_place, names_of_units}
use Rattle.run_start.specs.Starts.{given_to, names_given}

letters_swapped : (c d : ℕ) → nat_eq c d ≡ nat_eq d c
letters_swapped c d = grind arith

swapped : (x y : Name) → same_bytes x y ≡ same_bytes y x
swapped [] [] = refl
swapped [] (b ∷ y) = refl
swapped (a ∷ x) [] = refl
swapped (a ∷ x) (b ∷ y) = ap (λ (t : Bool). t && same_bytes x y) (letters_swapped a b) ∙ ap (λ (t : Bool). nat_eq b a && t) (swapped x y)

some_by : (b : Bool) (i : ℕ) (o : Option ℕ) → is_some (cond b (Some i) o) ≡ (b || is_some o)
some_by true i o = refl
some_by false i o = refl

-- a name has a first place where it is among names
pub placed : (ys : List Name) (x : Name) (i : ℕ) → is_some (first_place ys x i) ≡ is_among x ys
placed [] x i = refl
placed (y ∷ ys) x i =
    some_by (same_bytes y x) i (first_place ys x (suc i))
    ∙ (ap (λ (b : Bool). b || is_some (first_place ys x (suc i))) (swapped y x) ∙ ap (λ (b : Bool). same_bytes x y || b) (placed ys x (suc i)))

pub word_step : (ws : List Name) (old new : List (Name × ℕ)) (i n : ℕ) (w : Name) (had twice : Bool) → n ≡ suc i → n ≤ length ws → w ≡ get_or ws i w
    → ((x : Name) → told old x ≡ first_place (drop n ws) x n) → Tells old new (same_bytes w) i → had ≡ is_some (told old w) → twice ≡ has_twin (drop n ws)
    → (i ≤ length ws) × ((x : Name) → told new x ≡ first_place (drop i ws) x i) × ((had || twice) ≡ has_twin (drop i ws))
word_step ws old new i n w had twice next within read were tells was so = (omega arith, step, twins)
  where
    lt : i < length ws
    lt = omega arith

    one : suc i ≡ i + 1
    one = omega arith

    two : n ≡ i + 1
    two = omega arith

    step : (x : Name) → told new x ≡ first_place (drop i ws) x i
    step x =
        tells x ∙ ap (λ (o : Option ℕ). cond (same_bytes w x) (Some i) o) (were x ∙ ap (λ (m : ℕ). first_place (drop m ws) x m) next)
        ∙ ap (λ (e : Name). first_place (e ∷ drop (suc i) ws) x i) read
        ∙ ap (λ (m : ℕ). first_place (get_or ws i w ∷ drop m ws) x i) one
        ∙ sym (at_drop_more (λ (rest : List Name). first_place rest x i) ws i w lt)

    twins : (had || twice) ≡ has_twin (drop i ws)
    twins =
        ap (λ (b : Bool). b || twice) (was ∙ (ap is_some (were w) ∙ placed (drop n ws) w n))
        ∙ (ap (λ (b : Bool). is_among w (drop n ws) || b) so
        ∙ (ap (λ (e : Name). has_twin (e ∷ drop n ws)) read
        ∙ (ap (λ (m : ℕ). has_twin (get_or ws i w ∷ drop m ws)) two ∙ sym (at_drop_more (λ (rest : List Name). has_twin rest) ws i w lt))))

pub word_start : (ws : List Name) (x : Name) → told [] x ≡ first_place (drop (length ws) ws) x (length ws)
word_start ws x = sym (at_drop_all (λ (rest : List Name). first_place rest x (length ws)) ws (length ws) (omega arith))

-- ---- what stands at a place

shift_by : (b : Bool) (i k : ℕ) (o p : Option ℕ) → cond b (Some (suc i)) p ≡ Some (suc k) → (p ≡ Some (suc k) → o ≡ Some k) → cond b (Some i) o ≡ Some k
shift_by true i k o p e rest = let same : suc i ≡ suc k = cc in let less : i ≡ k = omega arith in ap Some less
shift_by false i k o p e rest = rest e

shift_zero : (b : Bool) (i : ℕ) (p : Option ℕ) → cond b (Some (suc i)) p ≡ Some 0 → (p ≡ Some 0 → ⊥) → ⊥
shift_zero true i p e rest = let same : suc i ≡ 0 = cc in omega arith
shift_zero false i p e rest = rest e

-- a place behind another first place is one less from there
pub shifted : (ys : List Name) (x : Name) (i k : ℕ) → first_place ys x (suc i) ≡ Some (suc k) → first_place ys x i ≡ Some k
shifted [] x i k e = absurd (cc)
shifted (y ∷ ys) x i k e = shift_by (same_bytes y x) i k (first_place ys x (suc i)) (first_place ys x (suc (suc i))) e (shifted ys x (suc i) k)

pub not_zero : (ys : List Name) (x : Name) (i : ℕ) → first_place ys x (suc i) ≡ Some 0 → ⊥
not_zero [] x i e = absurd (cc)
not_zero (y ∷ ys) x i e = shift_zero (same_bytes y x) i (first_place ys x (suc (suc i))) e (not_zero ys x (suc i))

missing_by : (b : Bool) (g : Given) (i : ℕ) (o : Option ℕ) (r : Option Given) → cond b (Some i) o ≡ None → (o ≡ None → r ≡ None) → cond b (Some g) r ≡ None
missing_by true g i o r e rest = absurd (cc)
missing_by false g i o r e rest = rest e

pub given_missing : (gs : List Given) (x : Name) (i : ℕ) → first_place (names_given gs) x i ≡ None → given_to gs x ≡ None
given_missing [] x i e = refl
given_missing (g ∷ gs) x i e = missing_by (same_bytes g.name x) g i (first_place (names_given gs) x (suc i)) (given_to gs x) e (given_missing gs x (suc i))

found_by : (b : Bool) (g : Given) (gs : List Given) (k : ℕ) (o : Option ℕ) (r : Option Given) → cond b (Some 0) o ≡ Some k → ((j : ℕ) → k ≡ suc j → o ≡ Some k → slice_get gs j ≡ r) → (o ≡ Some 0 → ⊥)
    → slice_get (g ∷ gs) k ≡ cond b (Some g) r
found_by true g gs k o r e rest never = let same : 0 ≡ k = cc in subst (λ (j : ℕ). slice_get (g ∷ gs) j ≡ Some g) same refl
found_by false g gs zero o r e rest never = absurd (never e)
found_by false g gs (suc j) o r e rest never = rest j refl e

pub given_found : (gs : List Given) (x : Name) (k : ℕ) → first_place (names_given gs) x 0 ≡ Some k → slice_get gs k ≡ given_to gs x
given_found [] x k e = absurd (cc)
given_found (g ∷ gs) x k e =
    found_by (same_bytes g.name x) g gs k (first_place (names_given gs) x 1) (given_to gs x) e
    (λ j same o. given_found gs x j (shifted (names_given gs) x 0 j (o ∙ ap Some same))) (not_zero (names_given gs) x 0)

-- ---- units by name

pub units_placed : (us : List Routine) (x : Name) (i : ℕ) → first_unit (λ u. same_bytes u.name x) us i ≡ first_place (names_of_units us) x i
units_placed [] x i = refl
units_placed (u ∷ us) x i = ap (λ (o : Option ℕ). cond (same_bytes u.name x) (Some i) o) (units_placed us x (suc i))

-- ---- what is read at a place

past_by : (k n : ℕ) → ltb k n ≡ false → n ≤ k
past_by k n h = grind arith

before_by : (k n : ℕ) → ltb k n ≡ true → k < n
before_by k n h = grind arith

pub read_at : {T : Type 0} (r : Option (Bor T)) (xs : List T) (k : ℕ) → is_some r ≡ ltb k (length xs) → IfSome r (λ x. x.now ≡ get_or xs k x.now) → option_copied r ≡ slice_get xs k
read_at None xs k e f = sym (slice_get_past xs k (past_by k (length xs) (sym e)))
read_at (Some x) xs k e f = ap Some f ∙ sym (slice_get-get_or xs k x.now (before_by k (length xs) (sym e)))
