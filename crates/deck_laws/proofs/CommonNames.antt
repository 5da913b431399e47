-- The COMMON entities of a unit made of statements are those of the statements.
use Rattle.std.proofs.Common.{◌≡◌, ◌≤◌, ℕ, ◌+◌, Bool, true, false, cond, List, [], ◌∷◌, ◌++◌, map, flat_map, refl, sym, ap, ◌∙◌, subst, rules, arith}
use Rattle.formula.specs.Atoms.{same_bytes, is_among, has_twin}
use Rattle.fort_syntax.specs.Scopes.{once}
use Rattle.fort_syntax.specs.Units.{Segment, gathered, groups_by, blocks_by, items_by, names_in, data_names, dummies_of, own_value_of, common_items_by, commons_of, names_of_items, name_of_block, items_of_block_in, items_of_block, item_of, group_of, unit_of}
use Rattle.fort_syntax.specs.NameRules.{commons_by}
use Rattle.fort_syntax.specs.WellFormed.{commons_of_unit}
use Rattle.fort_syntax.specs.declared.name.Name.{Name}
use Rattle.fort_syntax.specs.declared.stmt.Group.{Group}
use Rattle.fort_syntax.specs.declared.stmt.Item.{Item}
use Rattle.fort_syntax.specs.declared.stmt.Stmt.{Stmt}
use Rattle.fort_syntax.specs.declared.stmt.Stmt.TheVariants.{Declare, Dimension}
use Rattle.deck_laws.proofs.Tests.{case, first_false, second_false, both_false}
use Rattle.deck_laws.proofs.Lists.{map_joined, map_flat, flat_flat, flat_map_of, flat_same}
use Rattle.deck_laws.proofs.Members.{IsIn, here, there, in_left, in_right, in_map, map_in, in_flat, flat_in}
use Rattle.deck_laws.proofs.Names.{same_names, same_self, are_same, are_others, not_in, not_among, in_once, once_without_twin}
use Rattle.deck_laws.proofs.DataNames.{in_gathered, gathered_in, item_is_named, held_is_data}

-- ---- how often a name stands in a list

abbrev one_if : Bool → ℕ
one_if true = 1
one_if false = 0

abbrev times : Name → List Name → ℕ
times x [] = 0
times x (y ∷ ys) = one_if (same_bytes x y) + times x ys

times_joined : (x : Name) (xs ys : List Name) → times x (xs ++ ys) ≡ times x xs + times x ys
times_joined x [] ys = let same : 0 + times x ys ≡ times x ys = omega arith in sym same
times_joined x (y ∷ xs) ys =
    let h = times_joined x xs ys in
    ap (λ n. one_if (same_bytes x y) + n) h
    ∙ (let same : one_if (same_bytes x y) + (times x xs + times x ys) ≡ one_if
    (same_bytes x y) + times x xs + times x ys = omega arith in same)

never : (x : Name) (xs : List Name) → ¬ IsIn x xs → times x xs ≡ 0
never x [] h = refl
never x (y ∷ ys) h =
    let e = ap one_if (are_others x y (λ s. h (here (sym s)))) in
    let rest = never x ys (λ m. h (there m)) in
    omega arith

some_times : (x : Name) (xs : List Name) → IsIn x xs → 1 ≤ times x xs
some_times x [] m = elim m [ ]
some_times x (y ∷ ys) (here e) = let s = ap one_if (are_same x y (sym e)) in omega arith
some_times x (y ∷ ys) (there m) = let h = some_times x ys m in omega arith

-- in a list without twins each name stands once at most
once_at_most : (x : Name) (xs : List Name) → has_twin xs ≡ false → times x xs ≤ 1
once_at_most x [] h = omega arith
once_at_most x (y ∷ ys) h =
    let rest = once_at_most x ys (second_false (is_among y ys) (has_twin ys) h) in
    case (same_bytes x y)
    (λ t. let e = ap one_if t in
    let none = never x ys
    (subst (λ z. ¬ IsIn z ys) (sym (same_names x y t))
    (not_in y ys (first_false (is_among y ys) (has_twin ys) h))) in omega arith)
    (λ f. let e = ap one_if f in omega arith)

no_twin : (xs : List Name) → ((x : Name) → times x xs ≤ 1) → has_twin xs ≡ false
no_twin [] h = refl
no_twin (y ∷ ys) h =
    both_false (not_among y ys alone) (no_twin ys (λ x. let all = h x in omega arith))
  where
    alone : ¬ IsIn y ys
    alone m =
        let all = h y in
        let self = ap one_if (same_self y) in
        let more = some_times y ys m in
        absurd (omega arith)

-- ---- groups and blocks

abbrev of_group : Group → List Name
of_group g = names_of_items g.items

-- the names in the groups of a block
abbrev in_block : List Group → Name → List Name
in_block groups b = names_of_items (items_of_block_in groups b)

abbrev if_named : Name → List Name → Name → List Name
if_named c names b = cond (same_bytes c b) names []

names_if : (s : Bool) (items : List Item) → names_of_items (cond s items []) ≡ cond s (names_of_items items) []
names_if true items = refl
names_if false items = refl

one_group : (g : Group) (groups : List Group) (b : Name)
    → in_block (g ∷ groups) b ≡ if_named (name_of_block g.block) (of_group g) b ++ in_block groups b
one_group g groups b =
    map_joined (λ i. i.name) (cond (same_bytes (name_of_block g.block) b) g.items []) (items_of_block_in groups b)
    ∙ ap (λ zs. zs ++ in_block groups b) (names_if (same_bytes (name_of_block g.block) b) g.items)

times_groups : (x : Name) (g : Group) (groups : List Group) (bs : List Name)
    → times x (flat_map (in_block (g ∷ groups)) bs)
    ≡ times x (flat_map (if_named (name_of_block g.block) (of_group g)) bs) + times x (flat_map (in_block groups) bs)
times_groups x g groups [] = refl
times_groups x g groups (b ∷ bs) =
    let h = times_groups x g groups bs in
    let first = times_joined x (in_block (g ∷ groups) b) (flat_map (in_block (g ∷ groups)) bs) in
    let split = ap (times x) (one_group g groups b) ∙ times_joined x (if_named (name_of_block g.block) (of_group g) b)
    (in_block groups b) in
    let left = times_joined x (if_named (name_of_block g.block) (of_group g) b)
    (flat_map (if_named (name_of_block g.block) (of_group g)) bs) in
    let right = times_joined x (in_block groups b) (flat_map (in_block groups) bs) in
    omega arith

of_none : (x c : Name) (names bs : List Name) → ¬ IsIn c bs → times x (flat_map (if_named c names) bs) ≡ 0
of_none x c names [] h = refl
of_none x c names (b ∷ bs) h =
    let joined = times_joined x (if_named c names b) (flat_map (if_named c names) bs) in
    let here_none = ap (λ s. times x (cond s names [])) (are_others c b (λ e. h (here (sym e)))) in
    let rest = of_none x c names bs (λ m. h (there m)) in
    omega arith

-- each group counts for one block at most
of_one : (x c : Name) (names bs : List Name) → has_twin bs ≡ false
    → times x (flat_map (if_named c names) bs) ≤ times x names
of_one x c names [] h = omega arith
of_one x c names (b ∷ bs) h =
    let joined = times_joined x (if_named c names b) (flat_map (if_named c names) bs) in
    case (same_bytes c b)
    (λ t. let one = ap (λ s. times x (cond s names [])) t in
    let none = of_none x c names bs
    (subst (λ z. ¬ IsIn z bs) (sym (same_names c b t))
    (not_in b bs (first_false (is_among b bs) (has_twin bs) h))) in omega arith)
    (λ f. let none = ap (λ s. times x (cond s names [])) f in
    let rest = of_one x c names bs (second_false (is_among b bs) (has_twin bs) h) in omega arith)

no_groups : (x : Name) (bs : List Name) → times x (flat_map (in_block []) bs) ≡ 0
no_groups x [] = refl
no_groups x (b ∷ bs) = no_groups x bs

blocks_at_most : (x : Name) (groups : List Group) (bs : List Name) → has_twin bs ≡ false
    → times x (flat_map (in_block groups) bs) ≤ times x (flat_map of_group groups)
blocks_at_most x [] bs h = let none = no_groups x bs in omega arith
blocks_at_most x (g ∷ groups) bs h =
    let rest = blocks_at_most x groups bs h in
    let split = times_groups x g groups bs in
    let one = of_one x (name_of_block g.block) (of_group g) bs h in
    let joined = times_joined x (of_group g) (flat_map of_group groups) in
    omega arith

-- ---- the COMMON entities

module _ (unit : Segment) where
  abbrev all_groups : List Group
  all_groups = gathered groups_by unit

  names_again : (xs : List Name) → names_of_items (map (item_of unit) xs) ≡ xs
  names_again [] = refl
  names_again (x ∷ xs) = ap (λ ys. x ∷ ys) (names_again xs)

  -- the names of a block
  pub block_names : (b : Name) → names_of_items (group_of unit b).items ≡ names_of_items (items_of_block unit b)
  block_names b = names_again (names_of_items (items_of_block unit b))

  commons_by_blocks : commons_of_unit (unit_of unit) ≡ flat_map (in_block all_groups) (once (gathered blocks_by unit))
  commons_by_blocks =
      flat_map_of (λ g. names_of_items g.items) (group_of unit) (once (gathered blocks_by unit))
      ∙ flat_same (λ b. names_of_items (group_of unit b).items) (in_block all_groups)
      (once (gathered blocks_by unit)) block_names

  commons_by_groups : gathered commons_by unit ≡ flat_map of_group all_groups
  commons_by_groups =
      flat_same (λ l. commons_by l.stmt) (λ l. flat_map of_group (groups_by l.stmt)) unit
      (λ l. map_flat (λ i. i.name) (λ g. g.items) (groups_by l.stmt))
      ∙ sym (flat_flat of_group (λ l. groups_by l.stmt) unit)

  pub commons_are : gathered commons_by unit ≡ commons_of unit
  commons_are = sym (map_flat (λ i. i.name) (λ l. common_items_by l.stmt) unit)

  pub no_common_twice : has_twin (gathered commons_by unit) ≡ false → has_twin (commons_of_unit (unit_of unit)) ≡ false
  no_common_twice h =
      no_twin (commons_of_unit (unit_of unit))
      (λ x. let most = once_at_most x (gathered commons_by unit) h in
      let few = blocks_at_most x all_groups (once (gathered blocks_by unit))
      (once_without_twin (gathered blocks_by unit)) in
      let p = ap (times x) commons_by_blocks in
      let q = ap (times x) commons_by_groups in omega arith)

  -- ---- which names are in COMMON

  block_given : (g : Group) → IsIn g all_groups → IsIn (name_of_block g.block) (once (gathered blocks_by unit))
  block_given g m =
      let w = gathered_in groups_by unit m in
      in_once (name_of_block g.block) (gathered blocks_by unit)
      (in_gathered blocks_by w.0 unit w.1 (in_map (λ h. name_of_block h.block) (groups_by w.0.stmt) w.2))

  if_of : {i : Item} (s : Bool) (items : List Item) → IsIn i (cond s items []) → IsIn i items
  if_of true items m = m
  if_of false items m = elim m [ ]

  of_if : {i : Item} (s : Bool) (items : List Item) → s ≡ true → IsIn i items → IsIn i (cond s items [])
  of_if true items e m = m
  of_if false items e m = search rules

  common_of_block : (x b : Name) → IsIn x (in_block all_groups b) → IsIn x (flat_map of_group all_groups)
  common_of_block x b m =
      let i = map_in (λ j. j.name) (items_of_block_in all_groups b) m in
      let h = flat_in (λ k. cond (same_bytes (name_of_block k.block) b) k.items []) all_groups i.1 in
      in_flat of_group all_groups h.1
      (subst (λ z. IsIn z (of_group h.0)) i.2
      (in_map (λ j. j.name) h.0.items (if_of (same_bytes (name_of_block h.0.block) b) h.0.items h.2)))

  as_common : (x : Name) → IsIn x (flat_map of_group all_groups) → IsIn x (commons_of unit)
  as_common x m = subst (λ z. IsIn x z) (sym commons_by_groups ∙ commons_are) m

  -- each name in a block is a COMMON entity
  pub block_in_common : (x b : Name) → IsIn x (names_of_items (items_of_block unit b)) → IsIn x (commons_of unit)
  block_in_common x b m = as_common x (common_of_block x b m)

  blocks_of_common : (x : Name) → IsIn x (flat_map of_group all_groups)
      → IsIn x (flat_map (in_block all_groups) (once (gathered blocks_by unit)))
  blocks_of_common x m =
      let h = flat_in of_group all_groups m in
      let i = map_in (λ j. j.name) h.0.items h.2 in
      let b = name_of_block h.0.block in
      in_flat (in_block all_groups) (once (gathered blocks_by unit)) (block_given h.0 h.1)
      (subst (λ z. IsIn z (in_block all_groups b)) i.2
      (in_map (λ j. j.name) (items_of_block_in all_groups b)
      (in_flat (λ k. cond (same_bytes (name_of_block k.block) b) k.items []) all_groups h.1
      (of_if (same_bytes b b) h.0.items (same_self b) i.1))))

  pub common_in : (x : Name) → IsIn x (commons_of_unit (unit_of unit)) → IsIn x (commons_of unit)
  common_in x m =
      let b = flat_in (in_block all_groups) (once (gathered blocks_by unit))
      (subst (λ z. IsIn x z) commons_by_blocks m) in
      block_in_common x b.0 b.2

  pub in_common : (x : Name) → IsIn x (commons_of unit) → IsIn x (commons_of_unit (unit_of unit))
  in_common x m =
      subst (λ z. IsIn x z) (sym commons_by_blocks)
      (blocks_of_common x (subst (λ z. IsIn x z) (sym commons_are ∙ commons_by_groups) m))

  -- each COMMON entity is an item of a statement
  common_is_item : (s : Stmt) (i : Item) → IsIn i (common_items_by s) → IsIn i (items_by s)
  common_is_item (Declare sort items) i m = elim m [ ]
  common_is_item (Dimension items) i m = elim m [ ]
  common_is_item s i m = m

  pub common_is_named : (x : Name) → IsIn x (commons_of unit) → IsIn x (gathered names_in unit)
  common_is_named x m =
      let i = map_in (λ j. j.name) (gathered common_items_by unit) m in
      let w = gathered_in common_items_by unit i.1 in
      subst (λ z. IsIn z (gathered names_in unit)) i.2
      (item_is_named unit w.0 w.1 i.0 (common_is_item w.0.stmt i.0 w.2))

  pub common_is_data : (x : Name) → IsIn x (commons_of unit) → IsIn x (data_names unit)
  common_is_data x m =
      held_is_data unit x (common_is_named x m)
      (in_left (dummies_of unit ++ commons_of unit) (own_value_of unit)
      (in_right (dummies_of unit) (commons_of unit) m))
