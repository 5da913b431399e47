-- Lists of another length have other members.
use Rattle.std.proofs.Common.{◌≡◌, ℕ, suc, Bool, true, false, List, [], ◌∷◌, length, refl, sym, ap, rules, arith}
use Rattle.std.specs.Prelude.{◌&&◌, nat_eq, map, Option, Some, None}
use Rattle.formula.specs.Atoms.{same_bytes}
use Rattle.fort_syntax.specs.Scopes.{same_option, same_dim, same_dims}
use Rattle.fort_syntax.specs.NameRules.{Member, same_member, same_members}
use Rattle.fort_syntax.specs.declared.dialect.Sort.{Sort}
use Rattle.fort_syntax.specs.declared.dialect.Sort.TheVariants.{Integer, Logical}
use Rattle.fort_syntax.specs.declared.name.Name.{Name}
use Rattle.fort_syntax.specs.declared.stmt.Dim.{Dim}
use Rattle.fort_syntax.specs.declared.stmt.Dim.TheVariants.{Fixed, Named}
use Rattle.name_tables.proofs.Told.{same_names}

and_false : (b c : Bool) → c ≡ false → (b && c) ≡ false
and_false true c h = h
and_false false c h = refl

less : (m n : ℕ) → nat_eq (suc m) (suc n) ≡ false → nat_eq m n ≡ false
less m n h = grind (arith, h)

pub unlike_dims : (a b : List Dim) → nat_eq (length a) (length b) ≡ false → false ≡ same_dims a b
unlike_dims [] [] h = search rules
unlike_dims [] (e ∷ es) h = refl
unlike_dims (d ∷ ds) [] h = refl
unlike_dims (d ∷ ds) (e ∷ es) h =
    sym (and_false (same_dim d e) (same_dims ds es) (sym (unlike_dims ds es (less (length ds) (length es) h))))

pub unlike_members : (f : Name → Member) (names : List Name) (members : List Member) → nat_eq (length names) (length members) ≡ false
    → false ≡ same_members (map f names) members
unlike_members f [] [] h = search rules
unlike_members f [] (m ∷ ms) h = refl
unlike_members f (x ∷ xs) [] h = refl
unlike_members f (x ∷ xs) (m ∷ ms) h =
    sym (and_false (same_member (f x) m) (same_members (map f xs) ms) (sym (unlike_members f xs ms (less (length xs) (length ms) h))))

-- ---- members that are the same are equal

first_true : (a b : Bool) → (a && b) ≡ true → a ≡ true
first_true true b h = refl
first_true false b h = search rules

second_true : (a b : Bool) → (a && b) ≡ true → b ≡ true
second_true true b h = h
second_true false b h = search rules

sorts_equal : (s t : Option Sort) → same_option s t ≡ true → s ≡ t
sorts_equal None None h = refl
sorts_equal None (Some t) h = search rules
sorts_equal (Some s) None h = search rules
sorts_equal (Some Integer) (Some Integer) h = refl
sorts_equal (Some Integer) (Some Logical) h = search rules
sorts_equal (Some Logical) (Some Integer) h = search rules
sorts_equal (Some Logical) (Some Logical) h = refl

numbers_equal : (m n : ℕ) → nat_eq m n ≡ true → m ≡ n
numbers_equal m n h = grind (arith, h)

dim_equal : (d e : Dim) → same_dim d e ≡ true → d ≡ e
dim_equal (Fixed m) (Fixed n) h = ap Fixed (numbers_equal m n h)
dim_equal (Fixed m) (Named y) h = search rules
dim_equal (Named x) (Fixed n) h = search rules
dim_equal (Named x) (Named y) h = ap Named (same_names x y h)

dims_equal : (a b : List Dim) → same_dims a b ≡ true → a ≡ b
dims_equal [] [] h = refl
dims_equal [] (e ∷ es) h = search rules
dims_equal (d ∷ ds) [] h = search rules
dims_equal (d ∷ ds) (e ∷ es) h =
    let heads = dim_equal d e (first_true (same_dim d e) (same_dims ds es) h) in
    let tails = dims_equal ds es (second_true (same_dim d e) (same_dims ds es) h) in
    λ i. heads i ∷ tails i

member_equal : (a b : Member) → same_member a b ≡ true → a ≡ b
member_equal a b h =
    let firsts = first_true (same_bytes a.name b.name && same_option a.sort b.sort) (same_dims a.dims b.dims) h in
    let names = same_names a.name b.name (first_true (same_bytes a.name b.name) (same_option a.sort b.sort) firsts) in
    let sorts = sorts_equal a.sort b.sort (second_true (same_bytes a.name b.name) (same_option a.sort b.sort) firsts) in
    let dims = dims_equal a.dims b.dims (second_true (same_bytes a.name b.name && same_option a.sort b.sort) (same_dims a.dims b.dims) h) in
    λ i. record { name = names i; sort = sorts i; dims = dims i }

pub members_equal : (a b : List Member) → same_members a b ≡ true → a ≡ b
members_equal [] [] h = refl
members_equal [] (e ∷ es) h = search rules
members_equal (d ∷ ds) [] h = search rules
members_equal (d ∷ ds) (e ∷ es) h =
    let heads = member_equal d e (first_true (same_member d e) (same_members ds es) h) in
    let tails = members_equal ds es (second_true (same_member d e) (same_members ds es) h) in
    λ i. heads i ∷ tails i
