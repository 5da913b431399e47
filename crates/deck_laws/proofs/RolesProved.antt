-- The roles of the data names of a made unit, and its functions.
use Rattle.std.proofs.Common.{◌≡◌, ◌⊎◌, inl, inr, Bool, true, false, cond, List, [], ◌∷◌, ◌++◌, map, Some, None, refl, sym, ap, ap₂, ◌∙◌, subst, rules}
use Rattle.std.specs.Prelude.{◌||◌, not}
use Rattle.std.specs.List.{list_any, list_all}
use Rattle.formula.specs.Atoms.{is_among, has_twin}
use Rattle.fort_syntax.specs.Scopes.{same_sort, same_option, do_meet, is_intrinsic_name}
use Rattle.fort_syntax.specs.Uses.{uses_of}
use Rattle.fort_syntax.specs.Units.{Segment, gathered, own_name, own_value_of, is_function_segment, dummies_of, commons_of, data_names, references_of, references_in, functions_of, role_of, data_name_of, scope_of, sort_or_integer, unit_of, is_reference}
use Rattle.fort_syntax.specs.WellFormed.{commons_of_unit, own_value_of_unit, role_in_unit, same_role, has_right_role, are_functions}
use Rattle.fort_syntax.specs.declared.dialect.Dialect.{Dialect}
use Rattle.fort_syntax.specs.declared.dialect.Sort.{Sort}
use Rattle.fort_syntax.specs.declared.dialect.Sort.TheVariants.{Integer, Logical}
use Rattle.fort_syntax.specs.declared.name.Name.{Name}
use Rattle.fort_syntax.specs.declared.unit.Role.{Role}
use Rattle.fort_syntax.specs.declared.unit.Role.TheVariants.{Dummy, InCommon, OwnValue, Local}
use Rattle.deck_laws.proofs.Tests.{case, clash, both_true, not_false, of_not_true, other_false, left_true, right_true, same_test}
use Rattle.deck_laws.proofs.Members.{IsIn, here, there, either, in_either, all_are, none_are, map_in, kept_in}
use Rattle.deck_laws.proofs.Names.{in_among, among_in, not_among, kept_without_twin, once_without_twin, do_not_meet}
use Rattle.deck_laws.proofs.Given.{Given}
use Rattle.deck_laws.proofs.RuleFacts.{kinds_at}
use Rattle.deck_laws.proofs.DataNames.{references_are, data_held}
use Rattle.deck_laws.proofs.Heads.{own_no_reference}
use Rattle.deck_laws.proofs.CommonNames.{common_in, in_common}
use Rattle.deck_laws.proofs.UnitScopes.{data_names_are, functions_are, is_function_made}

role_self : (r : Role) → same_role r r ≡ true
role_self Dummy = refl
role_self InCommon = refl
role_self OwnValue = refl
role_self Local = refl

sort_self : (s : Sort) → same_sort s s ≡ true
sort_self Integer = refl
sort_self Logical = refl

of_own_value : (a b c : Bool) → same_role (cond a Dummy (cond b InCommon (cond c OwnValue Local))) OwnValue ≡ true
    → c ≡ true
of_own_value true b c h = search rules
of_own_value false true c h = search rules
of_own_value false false true h = refl
of_own_value false false false h = search rules

same_some : (f : Bool) (s t : Sort) → f ≡ true → s ≡ t → same_option (Some s) (cond f (Some t) None) ≡ true
same_some true s t h e = ap (same_sort s) (sym e) ∙ sort_self s
same_some false s t h e = search rules

module _ (unit : Segment) where
  common_same : (x : Name) → is_among x (commons_of_unit (unit_of unit)) ≡ is_among x (commons_of unit)
  common_same x =
      same_test (λ t. in_among x (commons_of unit) (common_in unit x (among_in x (commons_of_unit (unit_of unit)) t)))
      (λ t. in_among x (commons_of_unit (unit_of unit)) (in_common unit x (among_in x (commons_of unit) t)))

  pub own_value_same : own_value_of_unit (unit_of unit) ≡ own_value_of unit
  own_value_same = ap (λ f. cond f (own_name unit ∷ []) []) (is_function_made unit)

  role_same : (x : Name) → role_in_unit (unit_of unit) x ≡ role_of unit x
  role_same x =
      λ i. cond (is_among x (dummies_of unit)) Dummy
      (cond (common_same x i) InCommon (cond (is_among x (own_value_same i)) OwnValue Local))

  pub own_value_is : (f : Bool) (x y : Name) → IsIn x (cond f (y ∷ []) []) → (f ≡ true) × (y ≡ x)
  own_value_is true x y (here e) = (refl, e)
  own_value_is true x y (there m) = elim m [ ]
  own_value_is false x y m = elim m [ ]

  sort_right : (x : Name) → same_role (role_of unit x) OwnValue ≡ true
      → same_option (Some (sort_or_integer ((scope_of unit).sort x))) (unit_of unit).sort ≡ true
  sort_right x h =
      let own = among_in x (own_value_of unit)
      (of_own_value (is_among x (dummies_of unit)) (is_among x (commons_of unit))
      (is_among x (own_value_of unit)) h) in
      let o = own_value_is (is_function_segment unit) x (own_name unit) own in
      same_some (is_function_segment unit) (sort_or_integer ((scope_of unit).sort x))
      (sort_or_integer ((scope_of unit).sort (own_name unit))) o.0
      (ap (λ y. sort_or_integer ((scope_of unit).sort y)) (sym o.1))

  role_right : (x : Name) → has_right_role (unit_of unit) (data_name_of unit x) ≡ true
  role_right x =
      both_true (ap (same_role (role_of unit x)) (role_same x) ∙ role_self (role_of unit x))
      (case (same_role (role_of unit x) OwnValue) own other)
    where
      own : same_role (role_of unit x) OwnValue ≡ true
          → (not (same_role (role_of unit x) OwnValue) || same_option
          (Some (sort_or_integer ((scope_of unit).sort x))) (unit_of unit).sort) ≡ true
      own h =
          right_true (not (same_role (role_of unit x) OwnValue))
          (same_option (Some (sort_or_integer ((scope_of unit).sort x))) (unit_of unit).sort) (sort_right x h)

      other : same_role (role_of unit x) OwnValue ≡ false
          → (not (same_role (role_of unit x) OwnValue) || same_option
          (Some (sort_or_integer ((scope_of unit).sort x))) (unit_of unit).sort) ≡ true
      other h =
          left_true (not (same_role (role_of unit x) OwnValue))
          (same_option (Some (sort_or_integer ((scope_of unit).sort x))) (unit_of unit).sort) (not_false h)

  pub roles_proved : list_all (has_right_role (unit_of unit)) (unit_of unit).names ≡ true
  roles_proved =
      all_are (has_right_role (unit_of unit)) (map (data_name_of unit) (data_names unit))
      (λ n m. let x = map_in (data_name_of unit) (data_names unit) m in ap (has_right_role (unit_of unit)) (sym x.2)
      ∙ role_right x.0)

  -- ---- functions

  reference_in : (x : Name) → IsIn x (functions_of unit) → IsIn x (references_of unit)
  reference_in x m = (kept_in (λ f. not (is_intrinsic_name f)) (references_of unit) m).0

  module _ (d : Dialect) (earlier : List Segment) (g : Given d earlier unit) where
    -- a function that the unit references, an intrinsic one too, is no data name
    pub reference_no_data : (x : Name) → IsIn x (references_of unit) → ¬ IsIn x (data_names unit)
    reference_no_data x f m =
        either (in_either (dummies_of unit ++ commons_of unit) (own_value_of unit)
        (data_held unit x m f)) held own
      where
        of_either : IsIn x (dummies_of unit) ⊎ IsIn x (commons_of unit)
            → (is_among x (dummies_of unit) || is_among x (commons_of unit)) ≡ true
        of_either (inl k) =
            left_true (is_among x (dummies_of unit)) (is_among x (commons_of unit)) (in_among x (dummies_of unit) k)
        of_either (inr k) =
            right_true (is_among x (dummies_of unit)) (is_among x (commons_of unit)) (in_among x (commons_of unit) k)

        held : IsIn x (dummies_of unit ++ commons_of unit) → ⊥
        held k =
            let w = references_are unit x f in
            clash (of_either (in_either (dummies_of unit) (commons_of unit) k))
            (ap (λ y. is_among y (dummies_of unit) || is_among y (commons_of unit)) (sym w.5)
            ∙ other_false (is_reference (scope_of unit) w.2)
            (is_among w.2.name (dummies_of unit) || is_among w.2.name (commons_of unit))
            (kinds_at d earlier unit g w.0 w.1 w.2 w.3).0 w.4)

        own : IsIn x (own_value_of unit) → ⊥
        own k =
            let o = own_value_is (is_function_segment unit) x (own_name unit) k in
            own_no_reference d earlier unit g (subst (λ z. IsIn z (references_of unit)) (sym o.1) f)

    no_data : (x : Name) → IsIn x (functions_of unit) → ¬ IsIn x (data_names unit)
    no_data x f = reference_no_data x (reference_in x f)

    pub functions_proved : are_functions (unit_of unit) ≡ true
    functions_proved =
        let functions = functions_are unit in
        both_true
        (both_true
        (both_true
        (not_false (ap has_twin functions
        ∙ kept_without_twin (λ f. not (is_intrinsic_name f)) (references_of unit)
        (once_without_twin (references_in (scope_of unit) (gathered uses_of unit)))))
        (not_false (ap₂ do_meet functions (data_names_are unit) ∙ do_not_meet (functions_of unit)
        (data_names unit) no_data)))
        (not_false (ap (list_any is_intrinsic_name) functions
        ∙ none_are is_intrinsic_name (functions_of unit)
        (λ f m. of_not_true (kept_in (λ h. not (is_intrinsic_name h)) (references_of unit) m).1))))
        (not_false (ap (is_among (own_name unit)) functions
        ∙ not_among (own_name unit) (functions_of unit)
        (λ m. own_no_reference d earlier unit g (reference_in (own_name unit) m))))
