-- The names, data names, roles and functions of a unit that is made of statements which keep the rules.
use Rattle.std.proofs.Common.{◌≡◌, true, false, cond, List, [], ◌∷◌, ◌++◌, map, flat_map, refl, sym, ap, ◌∙◌, subst}
use Rattle.std.specs.Prelude.{◌||◌, not, is_some}
use Rattle.std.specs.List.{list_all}
use Rattle.formula.specs.Atoms.{is_among, has_twin, is_name}
use Rattle.fort_syntax.specs.Scopes.{is_intrinsic_name, once}
use Rattle.fort_syntax.specs.Uses.{uses_of}
use Rattle.fort_syntax.specs.Units.{Segment, gathered, own_name, own_value_of, is_function_segment, dummies_of, commons_of, blocks_by, names_in, data_names, references_of, functions_of, group_of, block_of_name, held_by, unit_of}
use Rattle.fort_syntax.specs.NameRules.{commons_by}
use Rattle.fort_syntax.specs.WellFormed.{names_of_unit, functions_of_unit, commons_of_unit, own_value_of_unit, name_as_block, are_names, are_held_once, are_data_names}
use Rattle.fort_syntax.specs.declared.dialect.Dialect.{Dialect}
use Rattle.fort_syntax.specs.declared.name.Name.{Name}
use Rattle.deck_laws.proofs.Tests.{case, both_true, not_false, left_true, right_true, both_false}
use Rattle.deck_laws.proofs.Lists.{all_joined}
use Rattle.deck_laws.proofs.RolesProved.{own_value_same, own_value_is}
use Rattle.deck_laws.proofs.Members.{IsIn, here, either, in_either, all_are, all_of, map_in, flat_in, in_right, kept_in}
use Rattle.deck_laws.proofs.Names.{in_among, not_among, joined_without_twin, kept_without_twin, once_without_twin, once_in}
use Rattle.deck_laws.proofs.SpelledNames.{all_named, uses_named, blocks_named, is_named}
use Rattle.deck_laws.proofs.Given.{Given}
use Rattle.deck_laws.proofs.RuleFacts.{own_no_common, common_no_dummy, dummies_without_twin, commons_without_twin}
use Rattle.deck_laws.proofs.DataNames.{gathered_in, references_are, data_named, dummy_is_data, held_is_data}
use Rattle.deck_laws.proofs.Heads.{own_named, own_no_data, own_value_named, own_gathered_no_dummy}
use Rattle.deck_laws.proofs.CommonNames.{no_common_twice, commons_are, common_in, common_is_data}
use Rattle.deck_laws.proofs.UnitScopes.{data_names_are, functions_are, is_function_made}

module _ (d : Dialect) (earlier : List Segment) (unit : Segment) (g : Given d earlier unit) where
  -- ---- names are names

  named : (x : Name) → IsIn x (gathered names_in unit) → is_name x ≡ true
  named x m =
      let w = gathered_in names_in unit m in
      let s = g.part.spelled w.0 w.1 in
      all_of is_name (names_in w.0.stmt) (all_named d w.0.stmt s.0 s.1.0) w.2

  function_is_named : (x : Name) → IsIn x (functions_of unit) → is_name x ≡ true
  function_is_named x m =
      let w = references_are unit x (kept_in (λ f. not (is_intrinsic_name f)) (references_of unit) m).0 in
      let s = g.part.spelled w.0 w.1 in
      ap is_name (sym w.5) ∙ all_of is_named (uses_of w.0.stmt) (uses_named d w.0.stmt s.0 s.1.0) w.3

  block_is_named : (x : Name)
      → IsIn x (flat_map (λ group. name_as_block group.block) (map (group_of unit) (once (gathered blocks_by unit))))
      → is_name x ≡ true
  block_is_named x m =
      let h = flat_in (λ group. name_as_block group.block) (map (group_of unit) (once (gathered blocks_by unit))) m in
      let b = map_in (group_of unit) (once (gathered blocks_by unit)) h.1 in
      let w = gathered_in blocks_by unit (once_in b.0 (gathered blocks_by unit) b.1) in
      let s = g.part.spelled w.0 w.1 in
      all_of is_name (name_as_block (block_of_name b.0))
      (all_of (λ c. list_all is_name (name_as_block (block_of_name c))) (blocks_by w.0.stmt)
      (blocks_named d w.0.stmt s.0 s.1.0) w.2)
      (subst (λ z. IsIn x (name_as_block z.block)) (sym b.2) h.2)

  pub names_proved : are_names (unit_of unit) ≡ true
  names_proved =
      all_joined is_name (own_name unit ∷ names_of_unit (unit_of unit) ++ functions_of_unit (unit_of unit))
      (flat_map (λ group. name_as_block group.block) (map (group_of unit) (once (gathered blocks_by unit))))
      (all_joined is_name (own_name unit ∷ names_of_unit (unit_of unit)) (functions_of_unit (unit_of unit))
      (both_true (own_named d earlier unit g)
      (ap (list_all is_name) (data_names_are unit) ∙ all_are is_name (data_names unit)
      (λ x m. named x (data_named unit x m))))
      (ap (list_all is_name) (functions_are unit) ∙ all_are is_name (functions_of unit) function_is_named))
      (all_are is_name (flat_map (λ group. name_as_block group.block)
      (map (group_of unit) (once (gathered blocks_by unit)))) block_is_named)

  -- ---- dummies and COMMON entities

  common_at : (x : Name) → IsIn x (commons_of_unit (unit_of unit)) → IsIn x (gathered commons_by unit)
  common_at x m = subst (λ z. IsIn x z) (sym (commons_are unit)) (common_in unit x m)

  no_dummy_common : (x : Name) → IsIn x (dummies_of unit) → ¬ IsIn x (commons_of_unit (unit_of unit))
  no_dummy_common x k m =
      let w = gathered_in commons_by unit (common_at x m) in common_no_dummy d earlier unit g w.0 w.1 x w.2 k

  own_not_common : ¬ IsIn (own_name unit) (commons_of_unit (unit_of unit))
  own_not_common m =
      let w = gathered_in commons_by unit (common_at (own_name unit) m) in own_no_common d earlier unit g w.0 w.1 w.2

  pub held_proved : are_held_once (unit_of unit) ≡ true
  held_proved =
      not_false
      (both_false
      (not_among (own_name unit) (dummies_of unit ++ commons_of_unit (unit_of unit))
      (λ m. either (in_either (dummies_of unit) (commons_of_unit (unit_of unit)) m)
      (own_gathered_no_dummy d earlier unit g) own_not_common))
      (joined_without_twin (dummies_of unit) (commons_of_unit (unit_of unit)) (dummies_without_twin d earlier unit g)
      (no_common_twice unit (commons_without_twin d earlier unit g)) no_dummy_common))

  -- ---- data names

  is_data_name : (x : Name) → IsIn x (data_names unit) → is_among x (names_of_unit (unit_of unit)) ≡ true
  is_data_name x m = ap (is_among x) (data_names_are unit) ∙ in_among x (data_names unit) m

  own_is_data : is_function_segment unit ≡ true → IsIn (own_name unit) (data_names unit)
  own_is_data t =
      held_is_data unit (own_name unit) (own_value_named d earlier unit g t)
      (in_right (dummies_of unit ++ commons_of unit) (own_value_of unit)
      (subst (λ f. IsIn (own_name unit) (cond f (own_name unit ∷ []) [])) (sym t) (here refl)))

  held_is_among : (x : Name)
      → IsIn x (dummies_of unit ++ commons_of_unit (unit_of unit) ++ own_value_of_unit (unit_of unit))
      → is_among x (names_of_unit (unit_of unit)) ≡ true
  held_is_among x m =
      either (in_either (dummies_of unit ++ commons_of_unit (unit_of unit)) (own_value_of_unit (unit_of unit)) m)
      (λ k. either (in_either (dummies_of unit) (commons_of_unit (unit_of unit)) k)
      (λ h. is_data_name x (dummy_is_data unit x h))
      (λ h. is_data_name x (common_is_data unit x (common_in unit x h))))
      (λ k. let o = own_value_is unit (is_function_segment unit) x (own_name unit)
      (subst (λ z. IsIn x z) (own_value_same unit) k) in
      is_data_name x (subst (λ z. IsIn z (data_names unit)) o.1 (own_is_data o.0)))

  function_or_no_data : (is_some (unit_of unit).sort || not (is_among (own_name unit) (names_of_unit (unit_of unit))))
      ≡ true
  function_or_no_data = case (is_function_segment unit) function subroutine
    where
      function : is_function_segment unit ≡ true
          → (is_some (unit_of unit).sort || not (is_among (own_name unit) (names_of_unit (unit_of unit)))) ≡ true
      function t =
          left_true (is_some (unit_of unit).sort) (not (is_among (own_name unit) (names_of_unit (unit_of unit))))
          (is_function_made unit ∙ t)

      subroutine : is_function_segment unit ≡ false
          → (is_some (unit_of unit).sort || not (is_among (own_name unit) (names_of_unit (unit_of unit)))) ≡ true
      subroutine f =
          right_true (is_some (unit_of unit).sort) (not (is_among (own_name unit) (names_of_unit (unit_of unit))))
          (not_false (ap (is_among (own_name unit)) (data_names_are unit) ∙ not_among (own_name unit)
          (data_names unit) (own_no_data d earlier unit g f)))

  pub data_names_proved : are_data_names (unit_of unit) ≡ true
  data_names_proved =
      both_true
      (both_true
      (not_false (ap has_twin (data_names_are unit)
      ∙ kept_without_twin (λ x. is_among x (held_by unit) || not (is_among x (references_of unit)))
      (once (gathered names_in unit)) (once_without_twin (gathered names_in unit))))
      (all_are (λ x. is_among x (names_of_unit (unit_of unit)))
      (dummies_of unit ++ commons_of_unit (unit_of unit) ++ own_value_of_unit (unit_of unit)) held_is_among))
      function_or_no_data
