-- Names, and what the names of a unit stand for.
use Rattle.std.specs.Prelude.{ℕ, ◌==◌, ◌&&◌, not, nat_le, Bool, true, false, cond, List, [], ◌∷◌, flat_map, Option, Some, None, codes}
use Rattle.std.specs.List.{list_any}
use Rattle.formula.specs.Atoms.{same_bytes, is_among}
use Rattle.fort_syntax.specs.declared.name.Name.{Name}
use Rattle.fort_syntax.specs.declared.dialect.Sort.{Sort}
use Rattle.fort_syntax.specs.declared.dialect.Sort.TheVariants.{Integer, Logical}
use Rattle.fort_syntax.specs.declared.stmt.Dim.{Dim}
use Rattle.fort_syntax.specs.declared.stmt.Dim.TheVariants.{Fixed, Named}

-- some name stands in both lists
abbrev pub do_meet : List Name → List Name → Bool
do_meet xs ys = list_any (λ x. is_among x ys) xs

-- the members of a list that pass a test
abbrev pub kept : {X : Type 0} → (X → Bool) → List X → List X
kept test xs = flat_map (λ x. cond (test x) (x ∷ []) []) xs

-- each name once, in order of its first place
abbrev pub once : List Name → List Name
once [] = []
once (x ∷ xs) = x ∷ kept (λ y. not (same_bytes x y)) (once xs)

-- I to N
abbrev pub begins_with_i_to_n : Name → Bool
begins_with_i_to_n [] = false
begins_with_i_to_n (b ∷ rest) = nat_le 73 b && nat_le b 78

-- the type that the first letter of a name gives
abbrev pub sort_by_letter : Name → Option Sort
sort_by_letter x = cond (begins_with_i_to_n x) (Some Integer) None

abbrev pub same_sort : Sort → Sort → Bool
same_sort Integer Integer = true
same_sort Integer Logical = false
same_sort Logical Integer = false
same_sort Logical Logical = true

-- no type is the same as no type, and differs from each type
abbrev pub same_option : Option Sort → Option Sort → Bool
same_option None None = true
same_option None (Some t) = false
same_option (Some s) None = false
same_option (Some s) (Some t) = same_sort s t

abbrev pub same_dim : Dim → Dim → Bool
same_dim (Fixed m) (Fixed n) = m == n
same_dim (Fixed m) (Named y) = false
same_dim (Named x) (Fixed n) = false
same_dim (Named x) (Named y) = same_bytes x y

abbrev pub same_dims : List Dim → List Dim → Bool
same_dims [] [] = true
same_dims [] (e ∷ es) = false
same_dims (d ∷ ds) [] = false
same_dims (d ∷ ds) (e ∷ es) = same_dim d e && same_dims ds es

-- the intrinsic functions
abbrev pub is_intrinsic_name : Name → Bool
is_intrinsic_name f = is_among f (codes "IABS" ∷ codes "MOD" ∷ codes "MAX0" ∷ codes "MIN0" ∷ [])

-- IABS has one argument, MOD two, MAX0 and MIN0 two at least
abbrev pub takes_so_many : Name → ℕ → Bool
takes_so_many f n =
    cond (same_bytes f (codes "IABS")) (n == 1)
    (cond (same_bytes f (codes "MOD")) (n == 2)
    (nat_le 2 n))

-- what a unit says of names: the type, where there is one, and the dimensions, none where the name is no array
pub record Scope : Type 0 where
  pub sort : Name → Option Sort
  pub dims : Name → List Dim

abbrev pub is_given_dims : List Dim → Bool
is_given_dims [] = false
is_given_dims (d ∷ ds) = true

abbrev pub is_array : Scope → Name → Bool
is_array scope x = is_given_dims (scope.dims x)

-- an intrinsic function, where the unit has no array of its name
abbrev pub is_intrinsic : Scope → Name → Bool
is_intrinsic scope f = is_intrinsic_name f && not (is_array scope f)

abbrev pub is_integer : Scope → Name → Bool
is_integer scope x = same_option (scope.sort x) (Some Integer)

abbrev pub is_integer_scalar : Scope → Name → Bool
is_integer_scalar scope x = is_integer scope x && not (is_array scope x)
