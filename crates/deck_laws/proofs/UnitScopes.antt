-- What a unit made of statements says of names, and what its declarations say.
use Rattle.std.proofs.Common.{◌≡◌, Bool, true, false, cond, List, [], ◌∷◌, map, Option, Some, None, refl, sym, ap, ◌∙◌, rules}
use Rattle.std.specs.Prelude.{is_none, is_some}
use Rattle.formula.specs.Atoms.{same_bytes, is_among}
use Rattle.fort_syntax.specs.Scopes.{is_array, is_given_dims}
use Rattle.fort_syntax.specs.Units.{own_name, is_function_segment, Segment, gathered, names_in, data_names, functions_of, data_name_of, function_name_of, scope_of, sort_or_integer, unit_of}
use Rattle.fort_syntax.specs.Names.{data_name_in, dims_of_data, sort_or}
use Rattle.fort_syntax.specs.WellFormed.{sort_of_function, scope_of_unit, names_of_unit, functions_of_unit}
use Rattle.fort_syntax.specs.declared.dialect.Dialect.{Dialect}
use Rattle.fort_syntax.specs.declared.dialect.Sort.{Sort}
use Rattle.fort_syntax.specs.declared.name.Name.{Name}
use Rattle.fort_syntax.specs.declared.stmt.Dim.{Dim}
use Rattle.deck_laws.proofs.Tests.{case, clash, is_false}
use Rattle.deck_laws.proofs.Members.{IsIn, here, there}
use Rattle.deck_laws.proofs.Names.{same_names, are_same, are_others, among_in, not_in}
use Rattle.deck_laws.proofs.DataNames.{array_is_data, data_named, gathered_in}
use Rattle.deck_laws.proofs.Given.{Given}
use Rattle.deck_laws.proofs.RuleFacts.{typed_at}

pub no_dims : (dims : List Dim) → is_given_dims dims ≡ false → dims ≡ []
no_dims [] h = refl
no_dims (e ∷ dims) h = search rules

module _ (unit : Segment) where
  names_are : (xs : List Name) → map (λ d. d.name) (map (data_name_of unit) xs) ≡ xs
  names_are [] = refl
  names_are (x ∷ xs) = ap (λ ys. x ∷ ys) (names_are xs)

  -- the data names of the unit are those of its statements
  pub data_names_are : names_of_unit (unit_of unit) ≡ data_names unit
  data_names_are = names_are (data_names unit)

  function_names_are : (xs : List Name) → map (λ f. f.name) (map (function_name_of unit) xs) ≡ xs
  function_names_are [] = refl
  function_names_are (x ∷ xs) = ap (λ ys. x ∷ ys) (function_names_are xs)

  pub functions_are : functions_of_unit (unit_of unit) ≡ functions_of unit
  functions_are = function_names_are (functions_of unit)

  -- ---- dimensions

  dims_in_list : (xs : List Name) (x : Name) → IsIn x xs
      → dims_of_data (data_name_in (map (data_name_of unit) xs) x) ≡ (scope_of unit).dims x
  dims_in_list [] x m = elim m [ ]
  dims_in_list (y ∷ xs) x m = by (dims_in_list xs x) (same_bytes y x) refl m
    where
      by : (IsIn x xs → dims_of_data (data_name_in (map (data_name_of unit) xs) x) ≡ (scope_of unit).dims x) → (b : Bool)
          → same_bytes y x ≡ b → IsIn x (y ∷ xs)
          → dims_of_data (cond b (Some (data_name_of unit y)) (data_name_in (map (data_name_of unit) xs) x)) ≡ (scope_of unit).dims x
      by later true e k = ap (scope_of unit).dims (same_names y x e)
      by later false e (here s) = absurd (clash (are_same y x s) e)
      by later false e (there k) = later k

  dims_not_in : (xs : List Name) (x : Name) → ¬ IsIn x xs → dims_of_data (data_name_in (map (data_name_of unit) xs) x) ≡ []
  dims_not_in [] x h = refl
  dims_not_in (y ∷ xs) x h =
      ap (λ b. dims_of_data (cond b (Some (data_name_of unit y)) (data_name_in (map (data_name_of unit) xs) x)))
      (are_others y x (λ e. h (here e)))
      ∙ dims_not_in xs x (λ m. h (there m))

  -- the unit gives each name the dimensions that its declarations give
  pub dims_agree : (x : Name) → (scope_of_unit (unit_of unit)).dims x ≡ (scope_of unit).dims x
  dims_agree x =
      case (is_among x (data_names unit)) (λ t. dims_in_list (data_names unit) x (among_in x (data_names unit) t))
      (λ f. dims_not_in (data_names unit) x (not_in x (data_names unit) f)
      ∙ sym (no_dims ((scope_of unit).dims x)
      (is_false (is_array (scope_of unit) x) (λ t. not_in x (data_names unit) f (array_is_data unit x t)))))

  -- ---- types

  abbrev given : Name → Option Sort
  given x = Some (sort_or_integer ((scope_of unit).sort x))

  sort_in_list : (xs fs : List Name) (x : Name) → IsIn x xs
      → sort_or (data_name_in (map (data_name_of unit) xs) x) (sort_of_function (map (function_name_of unit) fs) x) ≡ given x
  sort_in_list [] fs x m = elim m [ ]
  sort_in_list (y ∷ xs) fs x m = by (sort_in_list xs fs x) (same_bytes y x) refl m
    where
      by : (IsIn x xs → sort_or (data_name_in (map (data_name_of unit) xs) x) (sort_of_function (map (function_name_of unit) fs) x) ≡ given x)
          → (b : Bool) → same_bytes y x ≡ b
          → IsIn x (y ∷ xs)
          → sort_or (cond b (Some (data_name_of unit y)) (data_name_in (map (data_name_of unit) xs) x)) (sort_of_function (map (function_name_of unit) fs) x) ≡ given x
      by later true e k = ap given (same_names y x e)
      by later false e (here s) = absurd (clash (are_same y x s) e)
      by later false e (there k) = later k

  sort_not_in : (xs fs : List Name) (x : Name) → ¬ IsIn x xs
      → sort_or (data_name_in (map (data_name_of unit) xs) x) (sort_of_function (map (function_name_of unit) fs) x) ≡ sort_of_function
      (map (function_name_of unit) fs) x
  sort_not_in [] fs x h = refl
  sort_not_in (y ∷ xs) fs x h =
      ap (λ b. sort_or (cond b (Some (data_name_of unit y)) (data_name_in (map (data_name_of unit) xs) x)) (sort_of_function (map (function_name_of unit) fs) x))
      (are_others y x (λ e. h (here e)))
      ∙ sort_not_in xs fs x (λ m. h (there m))

  sort_of_reference : (fs : List Name) (x : Name) → IsIn x fs
      → sort_of_function (map (function_name_of unit) fs) x ≡ given x
  sort_of_reference [] x m = elim m [ ]
  sort_of_reference (y ∷ fs) x m = by (sort_of_reference fs x) (same_bytes y x) refl m
    where
      by : (IsIn x fs → sort_of_function (map (function_name_of unit) fs) x ≡ given x) → (b : Bool) → same_bytes y x ≡ b
          → IsIn x (y ∷ fs) → cond b (given y) (sort_of_function (map (function_name_of unit) fs) x) ≡ given x
      by later true e k = ap given (same_names y x e)
      by later false e (here s) = absurd (clash (are_same y x s) e)
      by later false e (there k) = later k

  given_sort : (s : Option Sort) → is_none s ≡ false → Some (sort_or_integer s) ≡ s
  given_sort None h = search rules
  given_sort (Some s) h = refl

  module _ (d : Dialect) (earlier : List Segment) (g : Given d earlier unit) where
    -- each name that stands in the unit has a type
    has_sort : (x : Name) → IsIn x (gathered names_in unit) → given x ≡ (scope_of unit).sort x
    has_sort x m =
        let w = gathered_in names_in unit m in given_sort ((scope_of unit).sort x)
        (typed_at d earlier unit g w.0 w.1 x w.2)

    -- the unit gives data names and functions the types that its declarations give
    pub data_sort : (x : Name) → IsIn x (data_names unit)
        → (scope_of_unit (unit_of unit)).sort x ≡ (scope_of unit).sort x
    data_sort x m = sort_in_list (data_names unit) (functions_of unit) x m ∙ has_sort x (data_named unit x m)

    pub function_sort : (x : Name) → IsIn x (functions_of unit) → IsIn x (gathered names_in unit)
        → (scope_of_unit (unit_of unit)).sort x ≡ (scope_of unit).sort x
    function_sort x f m =
        case (is_among x (data_names unit)) (λ t. data_sort x (among_in x (data_names unit) t))
        (λ n. sort_not_in (data_names unit) (functions_of unit) x (not_in x (data_names unit) n) ∙
        (sort_of_reference (functions_of unit) x f ∙ has_sort x m))

  -- the scope of the unit, with the dimensions of its declarations
  pub scope_is : scope_of_unit (unit_of unit)
      ≡ record { sort = (scope_of_unit (unit_of unit)).sort; dims = (scope_of unit).dims }
  scope_is = λ i. record { sort = (scope_of_unit (unit_of unit)).sort; dims = λ x. dims_agree x i }

  some_is : (f : Bool) (s : Sort) → is_some (cond f (Some s) None) ≡ f
  some_is true s = refl
  some_is false s = refl

  -- the unit is a FUNCTION where its head is that of one
  pub is_function_made : is_some (unit_of unit).sort ≡ is_function_segment unit
  is_function_made = some_is (is_function_segment unit) (sort_or_integer ((scope_of unit).sort (own_name unit)))
