-- The dimensions and the blocks of a made unit.
use Rattle.std.proofs.Common.{◌≡◌, ℕ, Bool, true, false, cond, List, [], ◌∷◌, map, Some, refl, sym, ap, ap₂, ◌∙◌, subst, arith}
use Rattle.std.specs.Prelude.{◌&&◌, not, ◌==◌}
use Rattle.std.specs.List.{list_all}
use Rattle.formula.specs.Atoms.{is_among, has_twin}
use Rattle.fort_syntax.specs.Scopes.{Scope, same_option, same_dim, same_dims, is_array, is_given_dims, is_integer_scalar, once}
use Rattle.fort_syntax.specs.Units.{Segment, gathered, dummies_of, commons_of, blocks_by, items_by, names_of_items, names_in_dims, data_names, role_of, own_value_of, data_name_of, item_of, group_of, items_of_block, block_of_name, name_of_block, scope_of, unit_of}
use Rattle.fort_syntax.specs.NameRules.{is_bad_shape}
use Rattle.fort_syntax.specs.WellFormed.{scope_of_unit, same_role, has_right_dims, is_bare_block, is_right_item, are_blocks}
use Rattle.fort_syntax.specs.declared.dialect.Dialect.{Dialect}
use Rattle.fort_syntax.specs.declared.dialect.Dialect.TheVariants.{Common, SeventySeven}
use Rattle.fort_syntax.specs.declared.dialect.Sort.TheVariants.{Integer}
use Rattle.fort_syntax.specs.declared.name.Name.{Name}
use Rattle.fort_syntax.specs.declared.stmt.Dim.{Dim}
use Rattle.fort_syntax.specs.declared.stmt.Dim.TheVariants.{Fixed, Named}
use Rattle.fort_syntax.specs.declared.stmt.Group.{Group}
use Rattle.fort_syntax.specs.declared.stmt.Item.{Item}
use Rattle.fort_syntax.specs.declared.unit.Role.TheVariants.{Dummy, InCommon, OwnValue, Local}
use Rattle.deck_laws.proofs.Tests.{case, both_true, not_false}
use Rattle.deck_laws.proofs.Members.{IsIn, all_are, map_in}
use Rattle.deck_laws.proofs.Names.{among_in, same_self, once_without_twin}
use Rattle.deck_laws.proofs.Given.{Given}
use Rattle.deck_laws.proofs.RuleFacts.{shape_at}
use Rattle.deck_laws.proofs.DataNames.{gathered_in, item_of_dims, dummy_is_data}
use Rattle.deck_laws.proofs.Heads.{dim_is_dummy}
use Rattle.deck_laws.proofs.UnitScopes.{dims_agree, data_sort, no_dims}

number_self : (n : ℕ) → (n == n) ≡ true
number_self n = grind arith

pub dim_self : (e : Dim) → same_dim e e ≡ true
dim_self (Fixed n) = number_self n
dim_self (Named x) = same_self x

pub dims_self : (dims : List Dim) → same_dims dims dims ≡ true
dims_self [] = refl
dims_self (e ∷ dims) = both_true (dim_self e) (dims_self dims)

no_bad_shape : (d : Dialect) → is_bad_shape d [] ≡ false
no_bad_shape Common = refl
no_bad_shape SeventySeven = refl

pub block_again : (b : Name) → name_of_block (block_of_name b) ≡ b
block_again [] = refl
block_again (c ∷ cs) = refl

not_bare : (b : Name) → is_bare_block (block_of_name b) ≡ false
not_bare [] = refl
not_bare (c ∷ cs) = refl

module _ (d : Dialect) (earlier : List Segment) (unit : Segment) (g : Given d earlier unit) where
  abbrev made : Scope
  made = scope_of_unit (unit_of unit)

  -- ---- dimensions

  integer_scalar : (y : Name) → IsIn y (data_names unit)
      → is_integer_scalar made y ≡ is_integer_scalar (scope_of unit) y
  integer_scalar y m =
      λ i. same_option (data_sort unit d earlier g y m i) (Some Integer) && not (is_given_dims (dims_agree unit y i))

  abbrev fits : Name → Name → Bool
  fits x y = same_role (role_of unit x) Dummy && is_among y (dummies_of unit) && is_integer_scalar made y

  abbrev AreRight : Name → List Dim → Type 0
  AreRight x dims = (not (is_bad_shape d dims) && list_all (fits x) (names_in_dims dims)) ≡ true

  dummy_role : (x : Name) → is_among x (dummies_of unit) ≡ true → same_role (role_of unit x) Dummy ≡ true
  dummy_role x t =
      ap (λ b. same_role
      (cond b Dummy (cond (is_among x (commons_of unit)) InCommon
      (cond (is_among x (own_value_of unit)) OwnValue Local))) Dummy) t

  item_right : (x : Name) (i : Item) → IsIn i (gathered items_by unit) → i.name ≡ x → AreRight x i.dims
  item_right x i m e =
      let w = gathered_in items_by unit m in
      both_true (not_false (shape_at d earlier unit g w.0 w.1 i w.2))
      (all_are (fits x) (names_in_dims i.dims) (λ y k.
      let h = dim_is_dummy d earlier unit g w.0 w.1 i w.2 y k in
      both_true (both_true (dummy_role x (ap (λ z. is_among z (dummies_of unit)) (sym e) ∙ h.0)) h.1)
      (integer_scalar y (dummy_is_data unit y (among_in y (dummies_of unit) h.1)) ∙ h.2)))

  dims_right : (x : Name) → AreRight x ((scope_of unit).dims x)
  dims_right x =
      case (is_array (scope_of unit) x)
      (λ a. let i = item_of_dims (gathered items_by unit) x a in subst (λ z. AreRight x z) (sym i.3)
      (item_right x i.0 i.1 i.2))
      (λ a. subst (λ z. AreRight x z) (sym (no_dims ((scope_of unit).dims x) a))
      (both_true (not_false (no_bad_shape d)) refl))

  pub dimensions_proved : list_all (has_right_dims d (unit_of unit)) (unit_of unit).names ≡ true
  dimensions_proved =
      all_are (has_right_dims d (unit_of unit)) (map (data_name_of unit) (data_names unit))
      (λ n m. let x = map_in (data_name_of unit) (data_names unit) m in ap (has_right_dims d (unit_of unit)) (sym x.2)
      ∙ dims_right x.0)

  -- ---- blocks

  blocks_again : (bs : List Name) → map (λ group. name_of_block group.block) (map (group_of unit) bs) ≡ bs
  blocks_again [] = refl
  blocks_again (b ∷ bs) = ap₂ (λ c cs. c ∷ cs) (block_again b) (blocks_again bs)

  abbrev all_blocks : List Name
  all_blocks = once (gathered blocks_by unit)

  item_is_right : (i : Item) (b : Name) → IsIn i (group_of unit b).items → is_right_item (unit_of unit) i ≡ true
  item_is_right i b m =
      let x = map_in (item_of unit) (names_of_items (items_of_block unit b)) m in
      ap (is_right_item (unit_of unit)) (sym x.2)
      ∙ (ap (same_dims ((scope_of unit).dims x.0)) (dims_agree unit x.0) ∙ dims_self ((scope_of unit).dims x.0))

  block_is_right : (b : Name)
      → (not (is_bare_block (group_of unit b).block) && list_all (is_right_item (unit_of unit)) (group_of unit b).items)
      ≡ true
  block_is_right b =
      both_true (not_false (not_bare b))
      (all_are (is_right_item (unit_of unit)) (group_of unit b).items (λ i m. item_is_right i b m))

  pub blocks_proved : are_blocks (unit_of unit) ≡ true
  blocks_proved =
      both_true (not_false (ap has_twin (blocks_again all_blocks) ∙ once_without_twin (gathered blocks_by unit)))
      (all_are (λ group. not (is_bare_block group.block) && list_all (is_right_item (unit_of unit)) group.items)
      (map (group_of unit) all_blocks)
      (λ group m. let b = map_in (group_of unit) all_blocks m in
      ap (λ (h : Group). not (is_bare_block h.block) && list_all (is_right_item (unit_of unit)) h.items) (sym b.2)
      ∙ block_is_right b.0))
