-- What the rules on units give for each statement of a unit.
use Rattle.std.proofs.Common.{◌≡◌, Bool, true, false, List, [], ◌∷◌, ◌++◌, refl, sym, ap, ◌∙◌, subst, append_assoc, append-nil}
use Rattle.std.specs.Prelude.{◌&&◌, ◌||◌, not, is_none}
use Rattle.std.specs.List.{list_any}
use Rattle.formula.specs.Atoms.{same_bytes, is_among, has_twin}
use Rattle.fort_syntax.specs.Scopes.{do_meet}
use Rattle.fort_syntax.specs.Uses.{Occurrence, uses_of}
use Rattle.fort_syntax.specs.Units.{Segment, gathered, own_name, is_function_segment, dummies_by, dummies_of, commons_of, items_by, names_in, data_names, scope_of, is_called, is_reference}
use Rattle.fort_syntax.specs.NameRules.{typed_by, dimensioned_by, commons_by, does_again, is_bad_shape, is_bad_item}
use Rattle.fort_syntax.specs.UseRules.{is_misused, is_bare_use_of, is_reference_to, is_used_both_ways, is_use_of_other_kind, is_second_kind_of_use}
use Rattle.fort_syntax.specs.declared.dialect.Dialect.{Dialect}
use Rattle.fort_syntax.specs.declared.name.Name.{Name}
use Rattle.fort_syntax.specs.declared.stmt.Item.{Item}
use Rattle.fort_syntax.specs.declared.stmt.Stmt.{Stmt}
use Rattle.fort_syntax.specs.declared.unit.Line.{Line}
use Rattle.deck_laws.proofs.Tests.{first_false, second_false, both_true, first_true, second_true, not_false, clash, is_false, three_false, six_false}
use Rattle.deck_laws.proofs.Lists.{flat_joined}
use Rattle.deck_laws.proofs.Members.{IsIn, in_left, in_right, in_either, either, none_of, some_in, in_some}
use Rattle.deck_laws.proofs.Names.{not_in, meet_not, same_names, joined_without_twin}
use Rattle.deck_laws.proofs.Keeping.{KeepsRules, place, found}
use Rattle.deck_laws.proofs.Given.{Given}

pub one_more : {A : Type 0} (give : Stmt → List A) (before : List Line) (line : Line)
    → gathered give (before ++ line ∷ []) ≡ gathered give before ++ give line.stmt
one_more give before line =
    flat_joined (λ l. give l.stmt) before (line ∷ []) ∙ ap (λ zs. gathered give before ++ zs)
    (append-nil (give line.stmt))

module _ (d : Dialect) (earlier : List Segment) (unit : Segment) (g : Given d earlier unit) where
  -- a statement of the unit breaks no rule where it stands
  pub kept_at : (line : Line) (m : IsIn line unit)
      → KeepsRules (place d earlier unit (found line unit m).before line (found line unit m).behind)
  kept_at line m = let f = found line unit m in g.keeps f.before line f.behind f.whole

  declared_once : (before : List Line) (line : Line) (behind : List Line) → before ++ (line ∷ behind) ≡ unit
      → (does_again dummies_by (place d earlier unit before line behind) ≡ false)
      × (does_again typed_by (place d earlier unit before line behind) ≡ false)
      × (does_again dimensioned_by (place d earlier unit before line behind) ≡ false)
      × (does_again commons_by (place d earlier unit before line behind) ≡ false)
      × (do_meet (commons_by line.stmt) (dummies_of unit) ≡ false)
      × (is_among (own_name unit)
      (dummies_by line.stmt ++ typed_by line.stmt ++ dimensioned_by line.stmt ++ commons_by line.stmt) ≡ false)
  declared_once before line behind e =
      let p = place d earlier unit before line behind in
      six_false (does_again dummies_by p) (does_again typed_by p) (does_again dimensioned_by p)
      (does_again commons_by p)
      (do_meet (commons_by line.stmt) (dummies_of unit))
      (is_among (own_name unit)
      (dummies_by line.stmt ++ typed_by line.stmt ++ dimensioned_by line.stmt ++ commons_by line.stmt))
      (g.keeps before line behind e).declared

  declared_at : (line : Line) (m : IsIn line unit)
      → (do_meet (commons_by line.stmt) (dummies_of unit) ≡ false)
      × (is_among (own_name unit)
      (dummies_by line.stmt ++ typed_by line.stmt ++ dimensioned_by line.stmt ++ commons_by line.stmt) ≡ false)
  declared_at line m = let f = found line unit m in let h = declared_once f.before line f.behind f.whole in (h.4, h.5)

  pub common_no_dummy : (line : Line) → IsIn line unit → (x : Name) → IsIn x (commons_by line.stmt)
      → ¬ IsIn x (dummies_of unit)
  common_no_dummy line m x c = meet_not (commons_by line.stmt) (dummies_of unit) (declared_at line m).0 x c

  own_undeclared : (line : Line) → IsIn line unit
      → ¬ IsIn (own_name unit)
      (dummies_by line.stmt ++ typed_by line.stmt ++ dimensioned_by line.stmt ++ commons_by line.stmt)
  own_undeclared line m =
      not_in (own_name unit)
      (dummies_by line.stmt ++ typed_by line.stmt ++ dimensioned_by line.stmt ++ commons_by line.stmt)
      (declared_at line m).1

  pub own_no_dummy : (line : Line) → IsIn line unit → ¬ IsIn (own_name unit) (dummies_by line.stmt)
  own_no_dummy line m k =
      own_undeclared line m
      (in_left (dummies_by line.stmt ++ typed_by line.stmt ++ dimensioned_by line.stmt) (commons_by line.stmt)
      (in_left (dummies_by line.stmt ++ typed_by line.stmt) (dimensioned_by line.stmt)
      (in_left (dummies_by line.stmt) (typed_by line.stmt) k)))

  pub own_untyped : (line : Line) → IsIn line unit → ¬ IsIn (own_name unit) (typed_by line.stmt)
  own_untyped line m k =
      own_undeclared line m
      (in_left (dummies_by line.stmt ++ typed_by line.stmt ++ dimensioned_by line.stmt) (commons_by line.stmt)
      (in_left (dummies_by line.stmt ++ typed_by line.stmt) (dimensioned_by line.stmt)
      (in_right (dummies_by line.stmt) (typed_by line.stmt) k)))

  pub own_undimensioned : (line : Line) → IsIn line unit → ¬ IsIn (own_name unit) (dimensioned_by line.stmt)
  own_undimensioned line m k =
      own_undeclared line m
      (in_left (dummies_by line.stmt ++ typed_by line.stmt ++ dimensioned_by line.stmt) (commons_by line.stmt)
      (in_right (dummies_by line.stmt ++ typed_by line.stmt) (dimensioned_by line.stmt) k))

  pub own_no_common : (line : Line) → IsIn line unit → ¬ IsIn (own_name unit) (commons_by line.stmt)
  own_no_common line m k =
      own_undeclared line m
      (in_right (dummies_by line.stmt ++ typed_by line.stmt ++ dimensioned_by line.stmt) (commons_by line.stmt) k)

  -- ---- what is declared once is so in the whole unit

  without_twin : (give : Stmt → List Name)
      → ((before : List Line) (line : Line) (behind : List Line) → before ++ (line ∷ behind) ≡ unit
      → does_again give (place d earlier unit before line behind) ≡ false)
      → (before lines : List Line) → before ++ lines ≡ unit → has_twin (gathered give before) ≡ false
      → has_twin (gathered give unit) ≡ false
  without_twin give once before [] e h = subst (λ z. has_twin (gathered give z) ≡ false) (sym (append-nil before) ∙ e) h
  without_twin give once before (line ∷ lines) e h =
      let again = once before line lines e in
      let twin = first_false (has_twin (give line.stmt)) (do_meet (give line.stmt) (gathered give before)) again in
      let met = second_false (has_twin (give line.stmt)) (do_meet (give line.stmt) (gathered give before)) again in
      without_twin give once (before ++ line ∷ []) lines (append_assoc before (line ∷ []) lines ∙ e)
      (ap has_twin (one_more give before line)
      ∙ joined_without_twin (gathered give before) (give line.stmt) h twin
      (λ x a b. meet_not (give line.stmt) (gathered give before) met x b a))

  pub dummies_without_twin : has_twin (dummies_of unit) ≡ false
  dummies_without_twin =
      without_twin dummies_by (λ before line behind e. (declared_once before line behind e).0) [] unit refl refl

  pub commons_without_twin : has_twin (gathered commons_by unit) ≡ false
  commons_without_twin =
      without_twin commons_by (λ before line behind e. (declared_once before line behind e).3) [] unit refl refl

  -- ---- names, types and dimensions

  pub typed_at : (line : Line) → IsIn line unit → (x : Name) → IsIn x (names_in line.stmt)
      → is_none ((scope_of unit).sort x) ≡ false
  typed_at line m x k = none_of (λ y. is_none ((scope_of unit).sort y)) (names_in line.stmt) (kept_at line m).typed k

  pub shape_at : (line : Line) → IsIn line unit → (i : Item) → IsIn i (items_by line.stmt)
      → is_bad_shape d i.dims ≡ false
  shape_at line m i k = none_of (λ j. is_bad_shape d j.dims) (items_by line.stmt) (kept_at line m).shapes k

  pub adjusted_at : (line : Line) → IsIn line unit → (i : Item) → IsIn i (items_by line.stmt)
      → is_bad_item unit i ≡ false
  adjusted_at line m i k = none_of (is_bad_item unit) (items_by line.stmt) (kept_at line m).adjustable k

  -- ---- uses

  use_once : (before : List Line) (line : Line) (behind : List Line) → before ++ (line ∷ behind) ≡ unit
      → (o : Occurrence) → IsIn o (uses_of line.stmt)
      → (is_misused (scope_of unit) o.name o.«use» ≡ false) × (is_use_of_other_kind unit o ≡ false)
      × (is_second_kind_of_use (place d earlier unit before line behind) o ≡ false)
  use_once before line behind e o k =
      let p = place d earlier unit before line behind in
      three_false (is_misused (scope_of unit) o.name o.«use») (is_use_of_other_kind unit o) (is_second_kind_of_use p o)
      (none_of (λ q. is_misused
      (scope_of unit) q.name q.«use» || is_use_of_other_kind unit q || is_second_kind_of_use p q)
      (uses_of line.stmt)
      (g.keeps before line behind e).uses k)

  pub well_used : (line : Line) → IsIn line unit → (o : Occurrence) → IsIn o (uses_of line.stmt)
      → is_misused (scope_of unit) o.name o.«use» ≡ false
  well_used line m o k = let f = found line unit m in (use_once f.before line f.behind f.whole o k).0

  pub kinds_at : (line : Line) → IsIn line unit → (o : Occurrence) → IsIn o (uses_of line.stmt)
      → ((is_reference (scope_of unit) o && (is_among o.name (dummies_of unit) || is_among o.name (commons_of unit)))
      ≡ false)
      × ((is_called o.«use» && is_among o.name (data_names unit)) ≡ false)
      × ((not (is_called o.«use») && not (is_function_segment unit) && same_bytes o.name (own_name unit)) ≡ false)
  kinds_at line m o k =
      let f = found line unit m in
      three_false (is_reference (scope_of unit) o &&
      (is_among o.name (dummies_of unit) || is_among o.name (commons_of unit)))
      (is_called o.«use» && is_among o.name (data_names unit))
      (not (is_called o.«use») && not (is_function_segment unit) && same_bytes o.name (own_name unit))
      (use_once f.before line f.behind f.whole o k).1

  abbrev both_ways : List Occurrence → Name → Bool
  both_ways uses x = is_used_both_ways (scope_of unit) uses x

  second_kind : (x : Name) (before : List Line) (line : Line) (behind : List Line) → before ++ (line ∷ behind) ≡ unit
      → both_ways (gathered uses_of before) x ≡ false
      → both_ways (gathered uses_of before ++ uses_of line.stmt) x ≡ true
      → (o : Occurrence) → IsIn o (uses_of line.stmt) → o.name ≡ x → ⊥
  second_kind x before line behind e was now o k same =
      clash
      (both_true (ap (both_ways (gathered uses_of before ++ uses_of line.stmt)) same ∙ now)
      (not_false (ap (both_ways (gathered uses_of before)) same ∙ was)))
      (use_once before line behind e o k).2

  still_one : (x : Name) (before : List Line) (line : Line) (behind : List Line) → before ++ (line ∷ behind) ≡ unit
      → both_ways (gathered uses_of before) x ≡ false
      → both_ways (gathered uses_of before ++ uses_of line.stmt) x ≡ false
  still_one x before line behind e was = is_false (both_ways (gathered uses_of before ++ uses_of line.stmt) x) not_now
    where
      a : List Occurrence
      a = gathered uses_of before

      b : List Occurrence
      b = uses_of line.stmt

      not_now : both_ways (a ++ b) x ≡ true → ⊥
      not_now now =
          let refers = some_in (is_reference_to (scope_of unit) x) (a ++ b)
          (first_true _ (list_any (is_bare_use_of x) (a ++ b)) now) in
          let bare = some_in (is_bare_use_of x) (a ++ b)
          (second_true (list_any (is_reference_to (scope_of unit) x) (a ++ b)) _ now) in
          either (in_either a b refers.1)
          (λ r. either (in_either a b bare.1)
          (λ s. clash (both_true (in_some (is_reference_to (scope_of unit) x) a r refers.2)
          (in_some (is_bare_use_of x) a s bare.2)) was)
          (λ s. second_kind x before line behind e was now bare.0 s
          (same_names bare.0.name x (first_true (same_bytes bare.0.name x) _ bare.2))))
          (λ r. second_kind x before line behind e was now refers.0 r
          (same_names refers.0.name x (first_true (same_bytes refers.0.name x) _ refers.2)))

  one_kind : (x : Name) (before lines : List Line) → before ++ lines ≡ unit
      → both_ways (gathered uses_of before) x ≡ false
      → both_ways (gathered uses_of unit) x ≡ false
  one_kind x before [] e h = subst (λ z. both_ways (gathered uses_of z) x ≡ false) (sym (append-nil before) ∙ e) h
  one_kind x before (line ∷ lines) e h =
      one_kind x (before ++ line ∷ []) lines (append_assoc before (line ∷ []) lines ∙ e)
      (ap (λ uses. both_ways uses x) (one_more uses_of before line) ∙ still_one x before line lines e h)

  -- no name is used as a function and as a scalar
  pub not_both_ways : (x : Name) → is_used_both_ways (scope_of unit) (gathered uses_of unit) x ≡ false
  not_both_ways x = one_kind x [] unit refl refl
