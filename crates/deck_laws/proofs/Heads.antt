-- The head of a unit, and the unit's own name.
use Rattle.std.proofs.Common.{◌≡◌, Bool, true, false, List, [], ◌∷◌, ◌++◌, refl, sym, ap, ◌∙◌, subst, rules}
use Rattle.std.specs.Prelude.{◌&&◌, ◌||◌, not}
use Rattle.formula.specs.Atoms.{same_bytes, is_among, is_name}
use Rattle.fort_syntax.specs.Scopes.{is_integer_scalar}
use Rattle.fort_syntax.specs.Uses.{Use, assigned, applied, called, Occurrence, uses_of}
use Rattle.fort_syntax.specs.Units.{Segment, gathered, own_name, is_function_segment, is_function_head, headed_by, dummies_by, dummies_of, items_by, names_in, names_in_dims, data_names, references_of, scope_of, class_of, is_heading, is_declaring, is_called, is_applied}
use Rattle.fort_syntax.specs.OrderRules.{has_executable}
use Rattle.fort_syntax.specs.NameRules.{may_be_dim, typed_by, dimensioned_by, commons_by}
use Rattle.fort_syntax.specs.UseRules.{is_bare, is_assigned, assigns}
use Rattle.fort_syntax.specs.declared.dialect.Dialect.{Dialect}
use Rattle.fort_syntax.specs.declared.name.Name.{Name}
use Rattle.fort_syntax.specs.declared.stmt.Item.{Item}
use Rattle.fort_syntax.specs.declared.stmt.Stmt.{Stmt}
use Rattle.fort_syntax.specs.declared.stmt.Stmt.TheVariants.{Function}
use Rattle.fort_syntax.specs.declared.unit.Line.{Line}
use Rattle.deck_laws.proofs.Tests.{case, clash, first_true, second_true, both_true, first_false, second_false, not_false, of_not_false, other_false}
use Rattle.deck_laws.proofs.Members.{IsIn, here, either, none_of, some_in}
use Rattle.deck_laws.proofs.Names.{among_in, same_names, are_same}
use Rattle.deck_laws.proofs.Named.{NamedAs, dummy, function, item, dim, used, named_as, function_named}
use Rattle.deck_laws.proofs.SpelledNames.{head_named}
use Rattle.deck_laws.proofs.SpelledForms.{item_declared}
use Rattle.deck_laws.proofs.Keeping.{found}
use Rattle.deck_laws.proofs.Given.{Given}
use Rattle.deck_laws.proofs.RuleFacts.{adjusted_at, kinds_at, own_no_dummy, own_untyped, own_undimensioned, own_no_common}
use Rattle.deck_laws.proofs.DataNames.{gathered_in, in_gathered, references_are, bare_no_reference, data_named}

function_heads : (s : Stmt) → is_function_head s ≡ true → is_heading (class_of s) ≡ true
function_heads (Function sort f dummies) h = refl
function_heads _ h = search rules

applied_not_called : (how : Use) → is_applied how ≡ true → is_called how ≡ false
applied_not_called (applied n) h = refl
applied_not_called called h = search rules
applied_not_called _ h = refl

assigned_is_bare : (how : Use) → is_assigned how ≡ true → is_bare how ≡ true
assigned_is_bare assigned h = refl
assigned_is_bare _ h = search rules

no_first : {c : Bool} → (c && true) ≡ false → c ≡ false
no_first {c = true} h = search rules
no_first {c = false} h = refl

module _ (d : Dialect) (earlier : List Segment) (unit : Segment) (g : Given d earlier unit) where
  pub head_in : IsIn g.part.head unit
  head_in = subst (λ z. IsIn g.part.head z) (sym g.part.whole) (here refl)

  -- a unit begins with a head
  heading : is_heading (class_of g.part.head.stmt) ≡ true
  heading = of_not_false (g.keeps [] g.part.head g.part.rest (sym g.part.whole)).head

  pub own_named : is_name (own_name unit) ≡ true
  own_named =
      let s = g.part.spelled g.part.head head_in in
      ap (λ z. is_name (own_name z)) g.part.whole ∙ head_named d g.part.head.stmt s.0 s.1.0 heading

  -- the head of a FUNCTION is the first statement of its unit
  function_first : (line : Line) → IsIn line unit → is_function_head line.stmt ≡ true
      → (is_function_segment unit ≡ true) × (own_name unit ≡ headed_by line.stmt)
  function_first line m h = let f = found line unit m in by f.before f.behind f.whole
    where
      by : (before behind : List Line) → before ++ (line ∷ behind) ≡ unit → (is_function_segment unit ≡ true)
          × (own_name unit ≡ headed_by line.stmt)
      by [] behind e = (ap is_function_segment (sym e) ∙ h, ap own_name (sym e))
      by (b ∷ bs) behind e =
          absurd (clash (function_heads line.stmt h)
          (no_first (first_false (is_heading (class_of line.stmt) && true)
          (is_declaring (class_of line.stmt) && has_executable (b ∷ bs)) (g.keeps (b ∷ bs) line behind e).order)))

  -- the value of a FUNCTION is assigned, so its name is used bare
  own_value_no_reference : is_function_segment unit ≡ true → ¬ IsIn (own_name unit) (references_of unit)
  own_value_no_reference f r =
      let given : not (assigns (own_name unit) (gathered uses_of unit)) ≡ false =
      other_false (is_function_segment unit) (not (assigns (own_name unit) (gathered uses_of unit)))
      (g.keeps [] g.part.head g.part.rest (sym g.part.whole)).result f in
      let o = some_in (λ p. same_bytes p.name (own_name unit) && is_assigned p.«use») (gathered uses_of unit)
      (of_not_false given) in
      let w = gathered_in uses_of unit o.1 in
      bare_no_reference d earlier unit g w.0 w.1 o.0 w.2
      (assigned_is_bare o.0.«use» (second_true (same_bytes o.0.name (own_name unit)) (is_assigned o.0.«use») o.2))
      (subst (λ z. IsIn z (references_of unit))
      (sym (same_names o.0.name (own_name unit)
      (first_true (same_bytes o.0.name (own_name unit)) (is_assigned o.0.«use») o.2))) r)

  -- the own name of a SUBROUTINE is used by CALLs alone
  own_used : is_function_segment unit ≡ false → (line : Line) → IsIn line unit → (o : Occurrence) → IsIn o (uses_of line.stmt)
      → is_called o.«use» ≡ false
      → o.name ≡ own_name unit → ⊥
  own_used f line m o k c e =
      clash (both_true (both_true (not_false c) (not_false f)) (are_same o.name (own_name unit) e))
      (kinds_at d earlier unit g line m o k).2

  -- no unit references itself
  pub own_no_reference : ¬ IsIn (own_name unit) (references_of unit)
  own_no_reference r = case (is_function_segment unit) (λ t. own_value_no_reference t r) no_subroutine
    where
      no_subroutine : is_function_segment unit ≡ false → ⊥
      no_subroutine f =
          let w = references_are unit (own_name unit) r in
          own_used f w.0 w.1 w.2 w.3 (applied_not_called w.2.«use» (first_true (is_applied w.2.«use») _ w.4)) w.5

  pub own_gathered_no_dummy : ¬ IsIn (own_name unit) (dummies_of unit)
  own_gathered_no_dummy m = let w = gathered_in dummies_by unit m in own_no_dummy d earlier unit g w.0 w.1 w.2

  -- a name that is a dimension, and that of its array, are dummies, and the first is an integer scalar
  pub dim_is_dummy : (line : Line) → IsIn line unit → (i : Item) → IsIn i (items_by line.stmt) → (x : Name)
      → IsIn x (names_in_dims i.dims)
      → (is_among i.name (dummies_of unit) ≡ true) × (is_among x (dummies_of unit) ≡ true)
      × (is_integer_scalar (scope_of unit) x ≡ true)
  dim_is_dummy line m i k x n =
      let none = none_of (λ y. not (is_among i.name (dummies_of unit)) || not (may_be_dim unit y))
      (names_in_dims i.dims) (adjusted_at d earlier unit g line m i k) n in
      let may = of_not_false
      (second_false (not (is_among i.name (dummies_of unit))) (not (may_be_dim unit x)) none) in (
        of_not_false (first_false (not (is_among i.name (dummies_of unit))) (not (may_be_dim unit x)) none),
        first_true (is_among x (dummies_of unit)) (is_integer_scalar (scope_of unit) x) may,
        second_true (is_among x (dummies_of unit)) (is_integer_scalar (scope_of unit) x) may,
      )

  -- the name of a SUBROUTINE is no data name
  pub own_no_data : is_function_segment unit ≡ false → ¬ IsIn (own_name unit) (data_names unit)
  own_no_data f m =
      let w = gathered_in names_in unit (data_named unit (own_name unit) m) in
      no_name w.0 w.1 (named_as w.0.stmt (own_name unit) w.2)
    where
      no_name : (line : Line) → IsIn line unit → NamedAs line.stmt (own_name unit) → ⊥
      no_name line l (dummy k) = own_no_dummy d earlier unit g line l k
      no_name line l (function h e) = clash (function_first line l h).0 f
      no_name line l (item i k e) =
          let s = g.part.spelled line l in
          either (item_declared d line.stmt s.0 s.1.0 i k)
          (λ t. own_untyped d earlier unit g line l (subst (λ z. IsIn z (typed_by line.stmt)) e t))
          (λ r. either r (λ t. own_undimensioned d earlier unit g line l
          (subst (λ z. IsIn z (dimensioned_by line.stmt)) e t))
          (λ t. own_no_common d earlier unit g line l (subst (λ z. IsIn z (commons_by line.stmt)) e t)))
      no_name line l (dim i k n) =
          own_gathered_no_dummy
          (among_in (own_name unit) (dummies_of unit) (dim_is_dummy line l i k (own_name unit) n).1)
      no_name line l (used o k c e) = own_used f line l o k c e

  -- the value of a FUNCTION stands in a statement
  pub own_value_named : is_function_segment unit ≡ true → IsIn (own_name unit) (gathered names_in unit)
  own_value_named t =
      in_gathered names_in g.part.head unit head_in
      (subst (λ z. IsIn (own_name z) (names_in g.part.head.stmt)) (sym g.part.whole)
      (function_named g.part.head.stmt (ap is_function_segment (sym g.part.whole) ∙ t)))
