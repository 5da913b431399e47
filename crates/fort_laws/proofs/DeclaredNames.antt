-- Names in lists, and what a unit's data names say of a name.
use Rattle.std.proofs.Common.{◌≡◌, ℕ, zero, suc, Bool, true, false, cond, ◌||◌, List, [], ◌∷◌, ◌++◌, map, Some, slice_get, refl, sym, ap, ◌∙◌, subst}
use Rattle.formula.specs.Atoms.{is_among, has_twin, same_bytes}
use Rattle.fort_syntax.specs.Names.{data_name_in, dims_of_data, sort_or}
use Rattle.fort_syntax.specs.Scopes.{do_meet, is_given_dims}
use Rattle.fort_syntax.specs.WellFormed.{sort_of_function}
use Rattle.fort_syntax.specs.declared.name.Name.{Name}
use Rattle.fort_syntax.specs.declared.unit.DataName.{DataName}
use Rattle.fort_syntax.specs.declared.unit.FunctionName.{FunctionName}
use Rattle.fort_model.specs.Lists.{IsAmong}
use Rattle.fort_laws.proofs.FrameEnter.{SameOrNot, same, other, same_or_not}
use Rattle.fort_laws.proofs.FrameSeats.{same_self, same_is, clash}
use Rattle.fort_laws.proofs.Near.{known}
use Rattle.fort_laws.proofs.RulesKept.{neither, none_passes}
use Rattle.fort_laws.proofs.Small.{map_at}
use Rattle.fort_laws.proofs.Tests.{one_holds, one_item}

-- ---- names in lists

pub named_among : (xs : List Name) (x : Name) → is_among x xs ≡ true → IsAmong x xs
named_among [] x h = absurd (cc)
named_among (y ∷ ys) x h = by_name (same_or_not x y) (named_among ys x)
  where
    by_name : SameOrNot x y → (is_among x ys ≡ true → IsAmong x ys) → IsAmong x (y ∷ ys)
    by_name (same e t) rec = (0, ap Some (sym e))
    by_name (other n t) rec = let m = rec (one_holds (same_bytes x y) (is_among x ys) h t) in (suc m.0, m.1)

pub among_named : (xs : List Name) (x : Name) → IsAmong x xs → is_among x xs ≡ true
among_named xs x m = known (is_among x xs) (λ t. t) (λ f. absurd (clash (same_bytes x x) (same_self x) (none_passes (same_bytes x) xs x f m)))

pub among_mapped : {A B : Type 0} (f : A → B) (xs : List A) (y : B) → IsAmong y (map f xs) → (x : A) × IsAmong x xs × (f x ≡ y)
among_mapped f [] y m = absurd (cc)
among_mapped f (x ∷ xs) y (zero, e) = (x, (0, refl), one_item e)
among_mapped f (x ∷ xs) y (suc k, e) = let r = among_mapped f xs y (k, e) in (r.0, (suc r.1.0, r.1.1), r.2)

-- ---- lists without twins

pub only_once : (xs : List Name) (m n : ℕ) (x : Name) → has_twin xs ≡ false → slice_get xs m ≡ Some x → slice_get xs n ≡ Some x → m ≡ n
only_once [] m n x h a b = absurd (cc)
only_once (y ∷ ys) zero zero x h a b = refl
only_once (y ∷ ys) zero (suc n) x h a b =
    let q : y ≡ x = cc in absurd (clash (is_among y ys) (among_named ys y (n, b ∙ ap Some (sym q))) (neither (is_among y ys) (has_twin ys) h).0)
only_once (y ∷ ys) (suc m) zero x h a b =
    let q : y ≡ x = cc in absurd (clash (is_among y ys) (among_named ys y (m, a ∙ ap Some (sym q))) (neither (is_among y ys) (has_twin ys) h).0)
only_once (y ∷ ys) (suc m) (suc n) x h a b = ap suc (only_once ys m n x (neither (is_among y ys) (has_twin ys) h).1 a b)

pub among_joined_left : (xs ys : List Name) (x : Name) → is_among x xs ≡ true → is_among x (xs ++ ys) ≡ true
among_joined_left [] ys x h = absurd (cc)
among_joined_left (z ∷ xs) ys x h = by_test (same_bytes x z) h (among_joined_left xs ys x)
  where
    by_test : (t : Bool) → (t || is_among x xs) ≡ true → (is_among x xs ≡ true → is_among x (xs ++ ys) ≡ true) → (t || is_among x (xs ++ ys)) ≡ true
    by_test true k rec = refl
    by_test false k rec = rec k

pub among_joined_right : (xs ys : List Name) (x : Name) → is_among x ys ≡ true → is_among x (xs ++ ys) ≡ true
among_joined_right [] ys x h = h
among_joined_right (z ∷ xs) ys x h = either (same_bytes x z) (is_among x (xs ++ ys)) (among_joined_right xs ys x h)
  where
    either : (a b : Bool) → b ≡ true → (a || b) ≡ true
    either true b k = refl
    either false b k = k

pub no_twin_left : (xs ys : List Name) → has_twin (xs ++ ys) ≡ false → has_twin xs ≡ false
no_twin_left [] ys h = refl
no_twin_left (z ∷ xs) ys h = let n = neither (is_among z (xs ++ ys)) (has_twin (xs ++ ys)) h in first_none (is_among z xs) refl n.0 (no_twin_left xs ys n.1)
  where
    first_none : (t : Bool) → is_among z xs ≡ t → is_among z (xs ++ ys) ≡ false → has_twin xs ≡ false → (is_among z xs || has_twin xs) ≡ false
    first_none true e a b = absurd (clash (is_among z (xs ++ ys)) (among_joined_left xs ys z e) a)
    first_none false e a b = ap (λ (t : Bool). t || has_twin xs) e ∙ b

pub no_twin_apart : (xs ys : List Name) (x : Name) → has_twin (xs ++ ys) ≡ false → is_among x xs ≡ true → is_among x ys ≡ false
no_twin_apart [] ys x h a = absurd (cc)
no_twin_apart (z ∷ xs) ys x h a = by_name (same_or_not x z) (no_twin_apart xs ys x n.1)
  where
    n : (is_among z (xs ++ ys) ≡ false) × (has_twin (xs ++ ys) ≡ false)
    n = neither (is_among z (xs ++ ys)) (has_twin (xs ++ ys)) h

    by_name : SameOrNot x z → (is_among x xs ≡ true → is_among x ys ≡ false) → is_among x ys ≡ false
    by_name (other q t) rec = rec (one_holds (same_bytes x z) (is_among x xs) a t)
    by_name (same q t) rec = known (is_among x ys)
        (λ k. absurd (clash (is_among z (xs ++ ys)) (among_joined_right xs ys z (subst (λ (y : Name). is_among y ys ≡ true) q k)) n.0))
        (λ k. k)

pub do_not_meet : (xs ys : List Name) (x : Name) → do_meet xs ys ≡ false → is_among x xs ≡ true → is_among x ys ≡ false
do_not_meet xs ys x h a = none_passes (λ y. is_among y ys) xs x h (named_among xs x a)

-- ---- data names

-- A name that some data names have: the first of them is what is said of it.
pub record IsNamed (ds : List DataName) (x : Name) : Type 0 where
  pub its : DataName
  pub among : IsAmong its ds
  pub name : its.name ≡ x
  pub is : data_name_in ds x ≡ Some its
  pub sort : (fs : List FunctionName) → sort_or (data_name_in ds x) (sort_of_function fs x) ≡ Some its.sort
  pub dims : dims_of_data (data_name_in ds x) ≡ its.dims

abbrev pub names_of_data : List DataName → List Name
names_of_data ds = map (λ d. d.name) ds

pub named : (ds : List DataName) (x : Name) → is_among x (names_of_data ds) ≡ true → IsNamed ds x
named [] x h = absurd (cc)
named (d ∷ ds) x h = by_name (same_or_not d.name x) (named ds x)
  where
    by_name : SameOrNot d.name x → (is_among x (names_of_data ds) ≡ true → IsNamed ds x) → IsNamed (d ∷ ds) x
    by_name (same e t) rec = record {
      its = d;
      among = (0, refl);
      name = e;
      is = ap (λ (b : Bool). cond b (Some d) (data_name_in ds x)) t;
      sort = λ fs. ap (λ (b : Bool). sort_or (cond b (Some d) (data_name_in ds x)) (sort_of_function fs x)) t;
      dims = ap (λ (b : Bool). dims_of_data (cond b (Some d) (data_name_in ds x))) t;
    }
    by_name (other n t) rec = behind (rec (one_holds (same_bytes x d.name) (is_among x (names_of_data ds)) h (reversed (same_or_not x d.name))))
      where
        reversed : SameOrNot x d.name → same_bytes x d.name ≡ false
        reversed (same e f) = absurd (n (sym e))
        reversed (other m f) = f

        behind : IsNamed ds x → IsNamed (d ∷ ds) x
        behind r = record {
          its = r.its;
          among = (suc r.among.0, r.among.1);
          name = r.name;
          is = ap (λ (b : Bool). cond b (Some d) (data_name_in ds x)) t ∙ r.is;
          sort = λ fs. ap (λ (b : Bool). sort_or (cond b (Some d) (data_name_in ds x)) (sort_of_function fs x)) t ∙ r.sort fs;
          dims = ap (λ (b : Bool). dims_of_data (cond b (Some d) (data_name_in ds x))) t ∙ r.dims;
        }

-- a name that none of them has is a function's
pub unnamed_sort : (ds : List DataName) (fs : List FunctionName) (x : Name) → is_among x (names_of_data ds) ≡ false → sort_or (data_name_in ds x) (sort_of_function fs x) ≡ sort_of_function fs x
unnamed_sort [] fs x h = refl
unnamed_sort (d ∷ ds) fs x h = by_name (same_or_not d.name x) (unnamed_sort ds fs x n.1)
  where
    n : (same_bytes x d.name ≡ false) × (is_among x (names_of_data ds) ≡ false)
    n = neither (same_bytes x d.name) (is_among x (names_of_data ds)) h

    by_name : SameOrNot d.name x → sort_or (data_name_in ds x) (sort_of_function fs x) ≡ sort_of_function fs x → sort_or (data_name_in (d ∷ ds) x) (sort_of_function fs x) ≡ sort_of_function fs x
    by_name (same e t) rec = absurd (clash (same_bytes x d.name) (same_is x d.name (sym e)) n.0)
    by_name (other q t) rec = ap (λ (b : Bool). sort_or (cond b (Some d) (data_name_in ds x)) (sort_of_function fs x)) t ∙ rec

-- where no two data names have one name, a name tells its data name
pub one_data_name : (ds : List DataName) (d e : DataName) → has_twin (names_of_data ds) ≡ false → IsAmong d ds → IsAmong e ds → d.name ≡ e.name → d ≡ e
one_data_name ds d e h m k q = one_item (sym m.1 ∙ (ap (slice_get ds) at ∙ k.1))
  where
    at : m.0 ≡ k.0
    at = only_once (names_of_data ds) m.0 k.0 e.name h (map_at (λ (z : DataName). z.name) ds m.0 d m.1 ∙ ap Some q) (map_at (λ (z : DataName). z.name) ds k.0 e k.1)

pub has_own_name : (ds : List DataName) (d : DataName) → IsAmong d ds → is_among d.name (names_of_data ds) ≡ true
has_own_name ds d m = among_named (names_of_data ds) d.name (m.0, map_at (λ (z : DataName). z.name) ds m.0 d m.1)

pub data_among : (ds : List DataName) (x : Name) (d : DataName) → data_name_in ds x ≡ Some d → IsAmong d ds
data_among [] x d h = absurd (cc)
data_among (e ∷ ds) x d h = by_test (same_bytes e.name x) h (data_among ds x d)
  where
    by_test : (t : Bool) → cond t (Some e) (data_name_in ds x) ≡ Some d → (data_name_in ds x ≡ Some d → IsAmong d ds) → IsAmong d (e ∷ ds)
    by_test true k rec = (0, k)
    by_test false k rec = let m = rec k in (suc m.0, m.1)

-- an array is a data name
pub named_data : (ds : List DataName) (x : Name) → is_given_dims (dims_of_data (data_name_in ds x)) ≡ true → is_among x (names_of_data ds) ≡ true
named_data [] x h = absurd (cc)
named_data (d ∷ ds) x h = by_name (same_or_not d.name x) (same_or_not x d.name) (named_data ds x)
  where
    by_name : SameOrNot d.name x → SameOrNot x d.name → (is_given_dims (dims_of_data (data_name_in ds x)) ≡ true → is_among x (names_of_data ds) ≡ true) → is_among x (names_of_data (d ∷ ds)) ≡ true
    by_name a (same e t) rec = ap (λ (b : Bool). b || is_among x (names_of_data ds)) t
    by_name (same e f) (other n t) rec = absurd (n (sym e))
    by_name (other m f) (other n t) rec =
        ap (λ (b : Bool). b || is_among x (names_of_data ds)) t ∙ rec (ap (λ (b : Bool). is_given_dims (dims_of_data (cond b (Some d) (data_name_in ds x)))) (sym f) ∙ h)

-- a data name has the name by which it is found
pub found_named : (ds : List DataName) (x : Name) (d : DataName) → data_name_in ds x ≡ Some d → d.name ≡ x
found_named [] x d h = absurd (cc)
found_named (e ∷ ds) x d h = by_name (same_or_not e.name x) (found_named ds x d)
  where
    by_name : SameOrNot e.name x → (data_name_in ds x ≡ Some d → d.name ≡ x) → d.name ≡ x
    by_name (same q t) rec = ap (λ (z : DataName). z.name) (sym (one_item (ap (λ (b : Bool). cond b (Some e) (data_name_in ds x)) (sym t) ∙ h))) ∙ q
    by_name (other n t) rec = rec (ap (λ (b : Bool). cond b (Some e) (data_name_in ds x)) (sym t) ∙ h)
