-- The executable statements of a unit that keeps the rules are right in the unit made of it.
use Rattle.std.proofs.Common.{◌≡◌, ℕ, Bool, true, false, cond, List, Some, refl, sym, ap, ◌∙◌}
use Rattle.std.specs.Prelude.{◌&&◌, ◌||◌, not, length, ◌==◌}
use Rattle.std.specs.List.{list_all}
use Rattle.formula.specs.Atoms.{is_among}
use Rattle.fort_syntax.specs.Scopes.{Scope, is_array, is_given_dims, is_intrinsic, is_intrinsic_name}
use Rattle.fort_syntax.specs.Uses.{Use, read, assigned, assigned_element, counted, applied, argument_of, actual, called, Occurrence, occurrence, uses_of, all_parts, used_labels}
use Rattle.fort_syntax.specs.Units.{Segment, executables, names_in, data_names, references_of, functions_of, scope_of, unit_of, class_of, is_performing}
use Rattle.fort_syntax.specs.TypeRules.{is_well_typed, all_plain_subscripts}
use Rattle.fort_syntax.specs.UseRules.{is_misused, is_bare, wants_plain_subscripts, has_label}
use Rattle.fort_syntax.specs.WellFormed.{scope_of_unit, names_of_unit, functions_of_unit, is_block_statement, has_right_form, has_right_numbers, is_known, has_right_uses, is_right_statement}
use Rattle.fort_syntax.specs.declared.dialect.Dialect.{Dialect}
use Rattle.fort_syntax.specs.declared.dialect.Sort.TheVariants.{Integer}
use Rattle.fort_syntax.specs.declared.name.Name.{Name}
use Rattle.fort_syntax.specs.declared.unit.Line.{Line}
use Rattle.deck_laws.proofs.Tests.{case, first_true, both_true, not_false, of_not_false, other_false, left_true, right_true}
use Rattle.deck_laws.proofs.Members.{IsIn, all_are, all_of, none_of, in_kept, kept_in}
use Rattle.deck_laws.proofs.Names.{in_among, not_among}
use Rattle.deck_laws.proofs.Named.{use_named}
use Rattle.deck_laws.proofs.SpelledNames.{uses_named, is_named}
use Rattle.deck_laws.proofs.SpelledForms.{statement_numbers, statement_form, no_blocks}
use Rattle.deck_laws.proofs.Given.{Given}
use Rattle.deck_laws.proofs.RuleFacts.{kept_at, well_used, kinds_at}
use Rattle.deck_laws.proofs.DataNames.{in_references, in_gathered, array_is_data, bare_is_data}
use Rattle.deck_laws.proofs.RolesProved.{reference_no_data}
use Rattle.deck_laws.proofs.UnitScopes.{data_names_are, functions_are, dims_agree, data_sort, function_sort, scope_is}
use Rattle.deck_laws.proofs.SortsAgree.{Agree, misused_same, all_subscripts_same, well_typed_same}

module _ (d : Dialect) (earlier : List Segment) (unit : Segment) (g : Given d earlier unit) where
  abbrev made : Scope
  made = scope_of_unit (unit_of unit)

  -- an intrinsic function that is no data name
  abbrev is_built_in : Name → Bool
  is_built_in y = is_intrinsic_name y && not (is_among y (names_of_unit (unit_of unit)))

  array_made : (x : Name) → is_array made x ≡ is_array (scope_of unit) x
  array_made x = ap is_given_dims (dims_agree unit x)

  module _ (line : Line) (m : IsIn line unit) where
    -- before a bracket stands an array, an intrinsic function or a function of the unit
    applied_to : (x : Name) (n : ℕ) → IsIn (occurrence x (applied n)) (uses_of line.stmt)
        → is_array (scope_of unit) x ≡ false → is_intrinsic_name x ≡ false
        → IsIn x (functions_of unit)
    applied_to x n k a i =
        in_kept (λ f. not (is_intrinsic_name f)) (references_of unit)
        (in_references unit line m (occurrence x (applied n)) k (not_false a)) (not_false i)

    element_is_array : (x : Name) (n : ℕ) → IsIn (occurrence x (assigned_element n)) (uses_of line.stmt)
        → is_array (scope_of unit) x ≡ true
    element_is_array x n k =
        first_true (is_array (scope_of unit) x) (n == length ((scope_of unit).dims x))
        (of_not_false (well_used d earlier unit g line m (occurrence x (assigned_element n)) k))

    -- ---- uses

    bare_known : (x : Name) (how : Use) → IsIn (occurrence x how) (uses_of line.stmt) → is_bare how ≡ true
        → is_among x (names_of_unit (unit_of unit)) ≡ true
    bare_known x how k b =
        ap (is_among x) (data_names_are unit) ∙ in_among x (data_names unit)
        (bare_is_data d earlier unit g line m (occurrence x how) k b)

    applied_known : (x : Name) (n : ℕ) → IsIn (occurrence x (applied n)) (uses_of line.stmt)
        → is_known (unit_of unit) x (applied n) ≡ true
    applied_known x n k =
        case (is_array (scope_of unit) x) array (λ a. case (is_intrinsic_name x) (intrinsic a) (function a))
      where
        array : is_array (scope_of unit) x ≡ true → is_known (unit_of unit) x (applied n) ≡ true
        array a =
            left_true (is_array made x || is_built_in x) (is_among x (functions_of_unit (unit_of unit)))
            (left_true (is_array made x) (is_built_in x) (array_made x ∙ a))

        intrinsic : is_array (scope_of unit) x ≡ false → is_intrinsic_name x ≡ true
            → is_known (unit_of unit) x (applied n) ≡ true
        intrinsic a i =
            left_true (is_array made x || is_built_in x) (is_among x (functions_of_unit (unit_of unit)))
            (right_true (is_array made x) (is_built_in x)
            (both_true i (not_false (ap (is_among x) (data_names_are unit) ∙ not_among x (data_names unit)
            (reference_no_data unit d earlier g x (in_references unit line m (occurrence x (applied n)) k (not_false a)))))))

        function : is_array (scope_of unit) x ≡ false → is_intrinsic_name x ≡ false
            → is_known (unit_of unit) x (applied n) ≡ true
        function a i =
            right_true (is_array made x || is_built_in x) (is_among x (functions_of_unit (unit_of unit)))
            (ap (is_among x) (functions_are unit) ∙ in_among x (functions_of unit) (applied_to x n k a i))

    called_known : (x : Name) → IsIn (occurrence x called) (uses_of line.stmt) → is_known (unit_of unit) x called ≡ true
    called_known x k =
        let s = g.part.spelled line m in
        both_true (all_of is_named (uses_of line.stmt) (uses_named d line.stmt s.0 s.1.0) k)
        (not_false (ap (is_among x) (data_names_are unit) ∙
        (kinds_at d earlier unit g line m (occurrence x called) k).1))

    known : (x : Name) (how : Use) → IsIn (occurrence x how) (uses_of line.stmt) → is_known (unit_of unit) x how ≡ true
    known x read k = bare_known x read k refl
    known x assigned k = bare_known x assigned k refl
    known x counted k = bare_known x counted k refl
    known x (argument_of f) k = bare_known x (argument_of f) k refl
    known x actual k = bare_known x actual k refl
    known x (assigned_element n) k = array_made x ∙ element_is_array x n k
    known x (applied n) k = applied_known x n k
    known x called k = called_known x k

    well_used_made : (o : Occurrence) → IsIn o (uses_of line.stmt) → is_misused made o.name o.«use» ≡ false
    well_used_made o k =
        ap (λ scope. is_misused scope o.name o.«use») (scope_is unit)
        ∙ misused_same made.sort (scope_of unit).sort (scope_of unit).dims o.name o.«use»
        ∙ well_used d earlier unit g line m o k

    uses_right : has_right_uses (unit_of unit) line.stmt ≡ true
    uses_right =
        all_are (λ o. is_known (unit_of unit) o.name o.«use» && not (is_misused made o.name o.«use»))
        (uses_of line.stmt)
        (λ o k. both_true (known o.name o.«use» k) (not_false (well_used_made o k)))

    -- ---- types

    applied_agrees : (x : Name) (n : ℕ) → IsIn (occurrence x (applied n)) (uses_of line.stmt)
        → cond (is_intrinsic (scope_of unit) x) (Some Integer) (made.sort x) ≡ cond (is_intrinsic (scope_of unit) x)
        (Some Integer) ((scope_of unit).sort x)
    applied_agrees x n k =
        case (is_array (scope_of unit) x)
        (λ a. ap (cond (is_intrinsic (scope_of unit) x) (Some Integer))
        (data_sort unit d earlier g x (array_is_data unit x a)))
        (λ a. case (is_intrinsic_name x) (λ i. intrinsic (both_true i (not_false a)))
        (λ i. ap (cond (is_intrinsic (scope_of unit) x) (Some Integer))
        (function_sort unit d earlier g x (applied_to x n k a i)
        (in_gathered names_in line unit m (use_named line.stmt (occurrence x (applied n)) k refl)))))
      where
        intrinsic : is_intrinsic (scope_of unit) x ≡ true
            → cond (is_intrinsic (scope_of unit) x) (Some Integer) (made.sort x) ≡ cond
            (is_intrinsic (scope_of unit) x) (Some Integer) ((scope_of unit).sort x)
        intrinsic t =
            ap (λ b. cond b (Some Integer) (made.sort x)) t ∙ sym
            (ap (λ b. cond b (Some Integer) ((scope_of unit).sort x)) t)

    bare_agrees : (x : Name) (how : Use) → IsIn (occurrence x how) (uses_of line.stmt) → is_bare how ≡ true
        → made.sort x ≡ (scope_of unit).sort x
    bare_agrees x how k b = data_sort unit d earlier g x (bare_is_data d earlier unit g line m (occurrence x how) k b)

    agree : (x : Name) (how : Use) → IsIn (occurrence x how) (uses_of line.stmt)
        → Agree made.sort (scope_of unit).sort (scope_of unit).dims how x
    agree x read k = bare_agrees x read k refl
    agree x assigned k = bare_agrees x assigned k refl
    agree x counted k = bare_agrees x counted k refl
    agree x (argument_of f) k = bare_agrees x (argument_of f) k refl
    agree x actual k = bare_agrees x actual k refl
    agree x (assigned_element n) k = data_sort unit d earlier g x (array_is_data unit x (element_is_array x n k))
    agree x (applied n) k = applied_agrees x n k
    agree x called k = tt

    form_right : has_right_form line.stmt ≡ true
    form_right = let s = g.part.spelled line m in statement_form d line.stmt s.0 s.1.0

    types_right : is_well_typed made line.stmt ≡ true
    types_right =
        ap (λ scope. is_well_typed scope line.stmt) (scope_is unit)
        ∙ well_typed_same made.sort (scope_of unit).sort (scope_of unit).dims line.stmt form_right
        (λ o k. agree o.name o.«use» k)
        ∙ of_not_false (kept_at d earlier unit g line m).types

    -- ---- forms

    subscripts_right : all_plain_subscripts (scope_of unit) line.stmt ≡ true
        → all_plain_subscripts made line.stmt ≡ true
    subscripts_right h =
        ap (λ scope. all_plain_subscripts scope line.stmt) (scope_is unit)
        ∙ all_subscripts_same made.sort (scope_of unit).sort (scope_of unit).dims line.stmt ∙ h

    dialect_right : (not (wants_plain_subscripts d) ||
        (not (is_block_statement line.stmt) && all_plain_subscripts made line.stmt)) ≡ true
    dialect_right = case (wants_plain_subscripts d) plain any
      where
        plain : wants_plain_subscripts d ≡ true
            → (not (wants_plain_subscripts d) ||
            (not (is_block_statement line.stmt) && all_plain_subscripts made line.stmt)) ≡ true
        plain t =
            let s = g.part.spelled line m in
            let subscripts : all_plain_subscripts (scope_of unit) line.stmt ≡ true =
            of_not_false (other_false (wants_plain_subscripts d)
            (not (all_plain_subscripts (scope_of unit) line.stmt))
            (kept_at d earlier unit g line m).subscripts t) in
            right_true (not (wants_plain_subscripts d))
            (not (is_block_statement line.stmt) && all_plain_subscripts made line.stmt)
            (both_true (not_false (no_blocks d line.stmt s.0 s.1.0 t)) (subscripts_right subscripts))

        any : wants_plain_subscripts d ≡ false
            → (not (wants_plain_subscripts d) ||
            (not (is_block_statement line.stmt) && all_plain_subscripts made line.stmt)) ≡ true
        any f =
            left_true (not (wants_plain_subscripts d))
            (not (is_block_statement line.stmt) && all_plain_subscripts made line.stmt) (not_false f)

    labels_right : list_all (λ label. has_label label (executables unit)) (used_labels line.stmt) ≡ true
    labels_right =
        all_are (λ label. has_label label (executables unit)) (used_labels line.stmt)
        (λ label k. of_not_false
        (none_of (λ l. not (has_label l (executables unit))) (used_labels line.stmt)
        (kept_at d earlier unit g line m).targets k))

    numbers_right : list_all has_right_numbers (all_parts line.stmt) ≡ true
    numbers_right = let s = g.part.spelled line m in statement_numbers d line.stmt s.0 s.1.0

    statement_right : is_performing (class_of line.stmt) ≡ true → is_right_statement d (unit_of unit) line.stmt ≡ true
    statement_right p =
        both_true (both_true
        (both_true (both_true
        (both_true (both_true p dialect_right) form_right) numbers_right) uses_right) types_right) labels_right

  -- each executable statement is right
  pub statements_right : list_all (λ line. is_right_statement d (unit_of unit) line.stmt) (executables unit) ≡ true
  statements_right =
      all_are (λ line. is_right_statement d (unit_of unit) line.stmt) (executables unit)
      (λ line k. let e = kept_in (λ l. is_performing (class_of l.stmt)) unit k in statement_right line e.0 e.1)
