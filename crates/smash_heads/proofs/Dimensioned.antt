-- The names that are dimensions of the arrays of a unit.
use Rattle.std.proofs.Common.{◌≡◌, ℕ, suc, ◌+◌, ◌<◌, Bool, ◌&&◌, ◌||◌, List, [], ◌∷◌, length, get_or, drop, drop-cons, refl, sym, ap, ◌∙◌, arith}
use Rattle.std.specs.Prelude.{flat_map}
use Rattle.std.specs.List.{list_any}
use Rattle.formula.specs.Atoms.{is_among}
use Rattle.fort_syntax.specs.Units.{names_in_dims}
use Rattle.fort_syntax.specs.declared.name.Name.{Name}
use Rattle.fort_syntax.specs.declared.stmt.Dim.{Dim}
use Rattle.fort_syntax.specs.declared.stmt.Dim.TheVariants.{Fixed, Named}
use Rattle.fort_syntax.specs.declared.unit.DataName.{DataName}
use Rattle.fort_syntax.specs.declared.unit.Unit.{Unit as Routine}
use Rattle.fort_model.specs.Walk.{is_dim, is_some_dim}
use Rattle.call_tests.proofs.Sets.{among_both, among_more}
use Rattle.name_tables.specs.Sets.{with_names}
use Rattle.smash_sets.proofs.Passed.{more_of_both}
use Rattle.smash_heads.specs.Dimensions.{names_in_dim}

pub one_dim : (set : List Name) (dim : Dim) (dims : List Dim) → with_names set (names_in_dims (dim ∷ dims)) ≡ with_names (with_names set (names_in_dim dim)) (names_in_dims dims)
one_dim set (Fixed n) dims = refl
one_dim set (Named x) dims = refl

among_dims : (x : Name) (dims : List Dim) → is_among x (names_in_dims dims) ≡ list_any (is_dim x) dims
among_dims x [] = refl
among_dims x (Fixed n ∷ dims) = among_dims x dims
among_dims x (Named y ∷ dims) = ap (λ (b : Bool). is_dim x (Named y) || b) (among_dims x dims)

among_names : (x : Name) (names : List DataName) → is_among x (flat_map (λ d. names_in_dims d.dims) names) ≡ list_any (λ (d : DataName). list_any (is_dim x) d.dims) names
among_names x [] = refl
among_names x (d ∷ names) =
    among_both x (names_in_dims d.dims) (flat_map (λ d. names_in_dims d.dims) names)
    ∙ (ap (λ (b : Bool). b || is_among x (flat_map (λ d. names_in_dims d.dims) names)) (among_dims x d.dims)
    ∙ ap (λ (b : Bool). list_any (is_dim x) d.dims || b) (among_names x names))

is_one : (u : Routine) (x : Name) → is_among x (with_names [] (flat_map (λ d. names_in_dims d.dims) u.names)) ≡ is_some_dim u x
is_one u x = among_more x [] (flat_map (λ d. names_in_dims d.dims) u.names) ∙ among_names x u.names

-- some of these names are in the set of dimensions, and in another set
pub dims_told : (u : Routine) (set : List Name) (names : List DataName)
    → list_any (λ (d : DataName). is_among d.name (with_names [] (flat_map (λ d. names_in_dims d.dims) u.names)) && is_among d.name set) names
    ≡ list_any (λ (d : DataName). is_some_dim u d.name && is_among d.name set) names
dims_told u set [] = refl
dims_told u set (d ∷ names) =
    ap (λ (b : Bool). (b && is_among d.name set) || list_any (λ (d : DataName). is_among d.name (with_names [] (flat_map (λ d. names_in_dims d.dims) u.names)) && is_among d.name set) names) (is_one u d.name)
    ∙ ap (λ (b : Bool). (is_some_dim u d.name && is_among d.name set) || b) (dims_told u set names)

-- what one of some things gives is added
pub given_more : {A : Type 0} (give : A → List Name) (set after whole : List Name) (xs : List A) (n : ℕ) (a : A)
    → n < length xs → a ≡ get_or xs n a → after ≡ with_names set (give a)
    → with_names set (flat_map give (drop n xs)) ≡ whole → with_names after (flat_map give (drop (n + 1) xs)) ≡ whole
given_more {A = A} give set after whole xs n a inside is added so_far =
    let split : drop n xs ≡ a ∷ drop (n + 1) xs = drop-cons xs n a inside ∙ (ap (λ (x : A). x ∷ drop (suc n) xs) (sym is) ∙ ap (λ (k : ℕ). a ∷ drop k xs) next) in
    ap (λ (s : List Name). with_names s (flat_map give (drop (n + 1) xs))) added
    ∙ (sym (more_of_both set (give a) (flat_map give (drop (n + 1) xs))) ∙ (sym (ap (λ (ys : List A). with_names set (flat_map give ys)) split) ∙ so_far))
  where
    next : suc n ≡ n + 1
    next = omega arith
