-- The units of a deck without fault agree on their blocks.
use Rattle.std.proofs.Common.{◌≡◌, ◌⊎◌, inl, inr, ℕ, true, false, List, [], ◌∷◌, ◌++◌, map, Option, Some, None, refl, sym, ap, ap₂, ◌∙◌, subst, rules, arith, append_assoc, append-nil}
use Rattle.std.specs.Prelude.{◌&&◌, ◌||◌, not, nat_eq}
use Rattle.std.specs.List.{list_any, list_all}
use Rattle.formula.specs.Atoms.{same_bytes, is_among}
use Rattle.fort_syntax.specs.Scopes.{same_option, same_dim, same_dims, once}
use Rattle.fort_syntax.specs.Units.{Segment, gathered, blocks_by, names_of_items, items_of_block, group_of, scope_of, unit_of}
use Rattle.fort_syntax.specs.NameRules.{Member, member_of, same_member, same_members, members, is_adjustable, declares_otherwise, is_bad_block_of}
use Rattle.fort_syntax.specs.WellFormed.{scope_of_unit, members_of_group, agree_groups, agree_on_blocks}
use Rattle.fort_syntax.specs.declared.dialect.Dialect.{Dialect}
use Rattle.fort_syntax.specs.declared.dialect.Sort.{Sort}
use Rattle.fort_syntax.specs.declared.dialect.Sort.TheVariants.{Integer, Logical}
use Rattle.fort_syntax.specs.declared.name.Name.{Name}
use Rattle.fort_syntax.specs.declared.stmt.Dim.{Dim}
use Rattle.fort_syntax.specs.declared.stmt.Dim.TheVariants.{Fixed, Named}
use Rattle.fort_syntax.specs.declared.unit.Line.{Line}
use Rattle.deck_laws.proofs.Tests.{case, first_true, second_true, both_true, first_false, not_false, of_not_false, other_false, left_true, right_true}
use Rattle.deck_laws.proofs.Lists.{map_same}
use Rattle.deck_laws.proofs.Members.{IsIn, here, there, in_either, either, all_are, none_of, map_in}
use Rattle.deck_laws.proofs.Names.{same_names, same_self, among_in, in_among, not_among, not_in, once_in}
use Rattle.deck_laws.proofs.Keeping.{place}
use Rattle.deck_laws.proofs.Given.{Given, AreGiven}
use Rattle.deck_laws.proofs.RuleFacts.{one_more}
use Rattle.deck_laws.proofs.CommonNames.{block_names, block_in_common, common_is_data}
use Rattle.deck_laws.proofs.UnitScopes.{dims_agree, data_sort}
use Rattle.deck_laws.proofs.ShapesProved.{block_again, dims_self}

-- ---- members that are the same are equal

sorts_equal : (s t : Option Sort) → same_option s t ≡ true → s ≡ t
sorts_equal None None h = refl
sorts_equal None (Some t) h = search rules
sorts_equal (Some s) None h = search rules
sorts_equal (Some Integer) (Some Integer) h = refl
sorts_equal (Some Integer) (Some Logical) h = search rules
sorts_equal (Some Logical) (Some Integer) h = search rules
sorts_equal (Some Logical) (Some Logical) h = refl

numbers_equal : (m n : ℕ) → nat_eq m n ≡ true → m ≡ n
numbers_equal m n h = grind (arith, h)

dim_equal : (d e : Dim) → same_dim d e ≡ true → d ≡ e
dim_equal (Fixed m) (Fixed n) h = ap Fixed (numbers_equal m n h)
dim_equal (Fixed m) (Named y) h = search rules
dim_equal (Named x) (Fixed n) h = search rules
dim_equal (Named x) (Named y) h = ap Named (same_names x y h)

dims_equal : (a b : List Dim) → same_dims a b ≡ true → a ≡ b
dims_equal [] [] h = refl
dims_equal [] (e ∷ es) h = search rules
dims_equal (d ∷ ds) [] h = search rules
dims_equal (d ∷ ds) (e ∷ es) h =
    ap₂ (λ x xs. x ∷ xs) (dim_equal d e (first_true (same_dim d e) (same_dims ds es) h))
    (dims_equal ds es (second_true (same_dim d e) (same_dims ds es) h))

member_equal : (a b : Member) → same_member a b ≡ true → a ≡ b
member_equal a b h =
    let firsts = first_true (same_bytes a.name b.name && same_option a.sort b.sort) (same_dims a.dims b.dims) h in
    let names = same_names a.name b.name (first_true (same_bytes a.name b.name) (same_option a.sort b.sort) firsts) in
    let sorts = sorts_equal a.sort b.sort (second_true (same_bytes a.name b.name) (same_option a.sort b.sort) firsts) in
    let dims = dims_equal a.dims b.dims
    (second_true (same_bytes a.name b.name && same_option a.sort b.sort) (same_dims a.dims b.dims) h) in
    λ i. record { name = names i; sort = sorts i; dims = dims i }

members_equal : (a b : List Member) → same_members a b ≡ true → a ≡ b
members_equal [] [] h = refl
members_equal [] (e ∷ es) h = search rules
members_equal (d ∷ ds) [] h = search rules
members_equal (d ∷ ds) (e ∷ es) h =
    ap₂ (λ x xs. x ∷ xs) (member_equal d e (first_true (same_member d e) (same_members ds es) h))
    (members_equal ds es (second_true (same_member d e) (same_members ds es) h))

option_self : (s : Option Sort) → same_option s s ≡ true
option_self None = refl
option_self (Some Integer) = refl
option_self (Some Logical) = refl

members_self : (a : List Member) → same_members a a ≡ true
members_self [] = refl
members_self (m ∷ ms) =
    both_true (both_true (both_true (same_self m.name) (option_self m.sort)) (dims_self m.dims)) (members_self ms)

-- ---- two units that declare a block

abbrev Agree : Segment → Segment → Type 0
Agree p q = (b : Name) → IsIn b (gathered blocks_by p) → IsIn b (gathered blocks_by q) → members p b ≡ members q b

-- where a unit declares a block for the first time, no earlier unit declares it otherwise
as_earlier : (d : Dialect) (earlier : List Segment) (unit : Segment) → Given d earlier unit
    → (b : Name) (lines before : List Line) → before ++ lines ≡ unit
    → ¬ IsIn b (gathered blocks_by before) → IsIn b (gathered blocks_by lines)
    → list_any (declares_otherwise b (members unit b)) earlier ≡ false
as_earlier d earlier unit g b [] before e n m = elim m [ ]
as_earlier d earlier unit g b (line ∷ behind) before e n m =
    case (is_among b (blocks_by line.stmt)) first
    (λ f. as_earlier d earlier unit g b behind (before ++ line ∷ []) (append_assoc before (line ∷ []) behind ∙ e)
    (none_yet f) (later f))
  where
    first : is_among b (blocks_by line.stmt) ≡ true → list_any (declares_otherwise b (members unit b)) earlier ≡ false
    first t =
        let p = place d earlier unit before line behind in
        let kept = none_of (λ c. not (is_among c (gathered blocks_by before)) && is_bad_block_of p c)
        (blocks_by line.stmt)
        (g.keeps before line behind e).blocks (among_in b (blocks_by line.stmt) t) in
        first_false (list_any (declares_otherwise b (members unit b)) earlier)
        (list_any (λ m. is_adjustable m.dims) (members unit b))
        (other_false (not (is_among b (gathered blocks_by before))) (is_bad_block_of p b) kept
        (not_false (not_among b (gathered blocks_by before) n)))

    none_yet : is_among b (blocks_by line.stmt) ≡ false → ¬ IsIn b (gathered blocks_by (before ++ line ∷ []))
    none_yet f k =
        either (in_either (gathered blocks_by before) (blocks_by line.stmt)
        (subst (λ z. IsIn b z) (one_more blocks_by before line) k)) n
        (not_in b (blocks_by line.stmt) f)

    later : is_among b (blocks_by line.stmt) ≡ false → IsIn b (gathered blocks_by behind)
    later f =
        either (in_either (blocks_by line.stmt) (gathered blocks_by behind) m)
        (λ k. absurd (not_in b (blocks_by line.stmt) f k)) (λ k. k)

agrees_with_earlier : (d : Dialect) (earlier : List Segment) (unit : Segment) → Given d earlier unit
    → (other : Segment) → IsIn other earlier → Agree unit other
agrees_with_earlier d earlier unit g other k b m n =
    let none = none_of (declares_otherwise b (members unit b)) earlier
    (as_earlier d earlier unit g b unit [] refl (λ h. elim h [ ]) m) k in
    members_equal (members unit b) (members other b)
    (of_not_false (other_false (is_among b (gathered blocks_by other))
    (not (same_members (members unit b) (members other b))) none
    (in_among b (gathered blocks_by other) n)))

abbrev AllAgree : List Segment → Type 0
AllAgree units = (p q : Segment) → IsIn p units → IsIn q units → Agree p q

one_more_agrees : (d : Dialect) (earlier : List Segment) (unit : Segment) → Given d earlier unit → AllAgree earlier
    → AllAgree (earlier ++ unit ∷ [])
one_more_agrees d earlier unit g h p q k l = by (in_either earlier (unit ∷ []) k) (in_either earlier (unit ∷ []) l)
  where
    by : IsIn p earlier ⊎ IsIn p (unit ∷ []) → IsIn q earlier ⊎ IsIn q (unit ∷ []) → Agree p q
    by (inl a) (inl c) = h p q a c
    by (inl a) (inr (here e)) = subst (λ z. Agree p z) e (λ b m n. sym (agrees_with_earlier d earlier unit g p a b n m))
    by (inl a) (inr (there c)) = elim c [ ]
    by (inr (here e)) (inl c) = subst (λ z. Agree z q) e (agrees_with_earlier d earlier unit g q c)
    by (inr (here e)) (inr (here s)) = subst (λ z. Agree z q) e (subst (λ z. Agree unit z) s (λ b m n. refl))
    by (inr (here e)) (inr (there c)) = elim c [ ]
    by (inr (there a)) c = elim a [ ]

all_agree : (d : Dialect) (earlier units : List Segment) → AreGiven d earlier units → AllAgree earlier
    → AllAgree (earlier ++ units)
all_agree d earlier [] g h = subst AllAgree (sym (append-nil earlier)) h
all_agree d earlier (unit ∷ units) g h =
    subst AllAgree (append_assoc earlier (unit ∷ []) units)
    (all_agree d (earlier ++ unit ∷ []) units g.1 (one_more_agrees d earlier unit g.0 h))

-- ---- the blocks of made units

-- the members of a block are what the declarations say
made_members : (d : Dialect) (earlier : List Segment) (unit : Segment) → Given d earlier unit → (b : Name)
    → members_of_group (unit_of unit) (group_of unit b) ≡ members unit b
made_members d earlier unit g b =
    ap (map (member_of (scope_of_unit (unit_of unit)))) (block_names unit b)
    ∙ map_same (member_of (scope_of_unit (unit_of unit))) (member_of (scope_of unit))
    (names_of_items (items_of_block unit b)) same
  where
    same : (x : Name) → IsIn x (names_of_items (items_of_block unit b))
        → member_of (scope_of_unit (unit_of unit)) x ≡ member_of (scope_of unit) x
    same x m =
        let sort = data_sort unit d earlier g x (common_is_data unit x (block_in_common unit x b m)) in
        λ i. record { name = x; sort = sort i; dims = dims_agree unit x i }

-- a unit is given behind some others
given_of : (d : Dialect) (earlier units : List Segment) → AreGiven d earlier units → (unit : Segment)
    → IsIn unit units → (before : List Segment) × Given d before unit
given_of d earlier [] g unit m = elim m [ ]
given_of d earlier (u ∷ us) g unit (here e) = (earlier, subst (λ z. Given d earlier z) e g.0)
given_of d earlier (u ∷ us) g unit (there m) = given_of d (earlier ++ u ∷ []) us g.1 unit m

module _ (d : Dialect) (units : List Segment) (given : AreGiven d [] units) where
  groups_agree : (p q : Segment) → IsIn p units → IsIn q units → (b c : Name) → IsIn b (gathered blocks_by p)
      → IsIn c (gathered blocks_by q)
      → agree_groups (unit_of p) (unit_of q) (group_of p b) (group_of q c) ≡ true
  groups_agree p q k l b c m n =
      ap₂ (λ x y. not (same_bytes x y) || same_members (members_of_group (unit_of p) (group_of p b))
      (members_of_group (unit_of q) (group_of q c)))
      (block_again b) (block_again c)
      ∙ case (same_bytes b c) same other
    where
      same : same_bytes b c ≡ true
          → (not (same_bytes b c) || same_members (members_of_group (unit_of p) (group_of p b))
          (members_of_group (unit_of q) (group_of q c))) ≡ true
      same t =
          let e = same_names b c t in
          let gp = given_of d [] units given p k in
          let gq = given_of d [] units given q l in
          let equal : members_of_group (unit_of p) (group_of p b) ≡ members_of_group (unit_of q) (group_of q c) =
          made_members d gp.0 p gp.1 b
          ∙ all_agree d [] units given (λ x y h. elim h [ ]) p q k l b m
          (subst (λ z. IsIn z (gathered blocks_by q)) (sym e) n)
          ∙ ap (members q) e ∙ sym (made_members d gq.0 q gq.1 c) in
          right_true (not (same_bytes b c))
          (same_members (members_of_group (unit_of p) (group_of p b)) (members_of_group (unit_of q) (group_of q c)))
          (ap (same_members (members_of_group (unit_of p) (group_of p b))) (sym equal) ∙ members_self
          (members_of_group (unit_of p) (group_of p b)))

      other : same_bytes b c ≡ false
          → (not (same_bytes b c) || same_members (members_of_group (unit_of p) (group_of p b))
          (members_of_group (unit_of q) (group_of q c))) ≡ true
      other f =
          left_true (not (same_bytes b c))
          (same_members (members_of_group (unit_of p) (group_of p b))
          (members_of_group (unit_of q) (group_of q c))) (not_false f)

  two_agree : (p q : Segment) → IsIn p units → IsIn q units → agree_on_blocks (unit_of p) (unit_of q) ≡ true
  two_agree p q k l =
      all_are (λ g. list_all (agree_groups (unit_of p) (unit_of q) g) (unit_of q).blocks) (unit_of p).blocks
      (λ g m. all_are (agree_groups (unit_of p) (unit_of q) g) (unit_of q).blocks (λ h n.
      let b = map_in (group_of p) (once (gathered blocks_by p)) m in
      let c = map_in (group_of q) (once (gathered blocks_by q)) n in
      ap₂ (agree_groups (unit_of p) (unit_of q)) (sym b.2) (sym c.2)
      ∙ groups_agree p q k l b.0 c.0 (once_in b.0 (gathered blocks_by p) b.1) (once_in c.0 (gathered blocks_by q) c.1)))

  -- any two units agree on the blocks that both have
  pub blocks_agree : list_all (λ u. list_all (agree_on_blocks u) (map unit_of units)) (map unit_of units) ≡ true
  blocks_agree =
      all_are (λ u. list_all (agree_on_blocks u) (map unit_of units)) (map unit_of units) (λ u m.
      all_are (agree_on_blocks u) (map unit_of units) (λ v n.
      let p = map_in unit_of units m in
      let q = map_in unit_of units n in
      ap₂ agree_on_blocks (sym p.2) (sym q.2) ∙ two_agree p.0 q.0 p.1 q.1))
