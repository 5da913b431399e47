-- The data names and functions of a unit that keeps the rules.
use Rattle.std.proofs.Common.{◌≡◌, Bool, true, false, cond, List, [], ◌∷◌, ◌++◌, refl, ap, ◌∙◌, subst, rules}
use Rattle.std.specs.Prelude.{◌&&◌, ◌||◌, not}
use Rattle.formula.specs.Atoms.{same_bytes, is_among}
use Rattle.fort_syntax.specs.Scopes.{is_array, is_given_dims, kept, once}
use Rattle.fort_syntax.specs.Uses.{Use, called, Occurrence, uses_of}
use Rattle.fort_syntax.specs.Units.{Segment, gathered, own_value_of, dummies_by, dummies_of, commons_of, items_by, names_in, data_names, held_by, scope_of, dims_in, is_called, is_applied, is_reference, references_in, references_of}
use Rattle.fort_syntax.specs.UseRules.{is_bare, is_bare_use_of, is_reference_to}
use Rattle.fort_syntax.specs.declared.dialect.Dialect.{Dialect}
use Rattle.fort_syntax.specs.declared.name.Name.{Name}
use Rattle.fort_syntax.specs.declared.stmt.Item.{Item}
use Rattle.fort_syntax.specs.declared.stmt.Stmt.{Stmt}
use Rattle.fort_syntax.specs.declared.unit.Line.{Line}
use Rattle.deck_laws.proofs.Tests.{both_true, first_true, second_true, not_false, not_true, of_not_true, clash, case, left_true, right_true}
use Rattle.deck_laws.proofs.Members.{IsIn, here, there, in_left, in_map, map_in, in_flat, flat_in, in_kept, kept_in, in_some}
use Rattle.deck_laws.proofs.Names.{not_among, in_among, among_in, same_names, same_self, are_same, in_once, once_in}
use Rattle.deck_laws.proofs.Named.{item_named, dummy_named, use_named}
use Rattle.deck_laws.proofs.Given.{Given}
use Rattle.deck_laws.proofs.RuleFacts.{not_both_ways}

-- ---- what statements give a unit

pub in_gathered : {A : Type 0} (give : Stmt → List A) {x : A} (line : Line) (unit : Segment) → IsIn line unit
    → IsIn x (give line.stmt) → IsIn x (gathered give unit)
in_gathered give line unit m k = in_flat (λ l. give l.stmt) unit m k

pub gathered_in : {A : Type 0} (give : Stmt → List A) {x : A} (unit : Segment) → IsIn x (gathered give unit)
    → (line : Line) × IsIn line unit × IsIn x (give line.stmt)
gathered_in give unit m = flat_in (λ l. give l.stmt) unit m

-- the dimensions of a name are those of an item with this name
pub item_of_dims : (items : List Item) (x : Name) → is_given_dims (dims_in items x) ≡ true
    → (i : Item) × IsIn i items × (i.name ≡ x) × (dims_in items x ≡ i.dims)
item_of_dims [] x h = search rules
item_of_dims (i ∷ items) x h = by (same_bytes i.name x && is_given_dims i.dims) refl h (item_of_dims items x)
  where
    by : (b : Bool) → (same_bytes i.name x && is_given_dims i.dims) ≡ b
        → is_given_dims (cond b i.dims (dims_in items x)) ≡ true
        → (is_given_dims (dims_in items x) ≡ true → (j : Item) × IsIn j items × (j.name ≡ x)
        × (dims_in items x ≡ j.dims))
        → (j : Item) × IsIn j (i ∷ items) × (j.name ≡ x) × (cond b i.dims (dims_in items x) ≡ j.dims)
    by true e k rest =
        (i, here refl, same_names i.name x (first_true (same_bytes i.name x) (is_given_dims i.dims) e), refl)
    by false e k rest = let r = rest k in (r.0, there r.1, r.2, r.3)

-- an array is no function reference
array_no_reference : (unit : Segment) (x : Name) → is_array (scope_of unit) x ≡ true → ¬ IsIn x (references_of unit)
array_no_reference unit x a m =
    let s = map_in (λ o. o.name) (kept (is_reference (scope_of unit)) (gathered uses_of unit))
    (once_in x (references_in (scope_of unit) (gathered uses_of unit)) m) in
    let k = kept_in (is_reference (scope_of unit)) (gathered uses_of unit) s.1 in
    clash (ap (is_array (scope_of unit)) s.2 ∙ a)
    (of_not_true (second_true (is_applied s.0.«use») (not (is_array (scope_of unit) s.0.name)) k.1))

pub in_references : (unit : Segment) (line : Line) → IsIn line unit → (o : Occurrence) → IsIn o (uses_of line.stmt)
    → is_reference (scope_of unit) o ≡ true
    → IsIn o.name (references_of unit)
in_references unit line m o k r =
    in_once o.name (references_in (scope_of unit) (gathered uses_of unit))
    (in_map (λ p. p.name) (kept (is_reference (scope_of unit)) (gathered uses_of unit))
    (in_kept (is_reference (scope_of unit)) (gathered uses_of unit) (in_gathered uses_of line unit m k) r))

pub references_are : (unit : Segment) (x : Name) → IsIn x (references_of unit)
    → (line : Line) × IsIn line unit × (o : Occurrence) × IsIn o (uses_of line.stmt)
    × (is_reference (scope_of unit) o ≡ true) × (o.name ≡ x)
references_are unit x m =
    let s = map_in (λ o. o.name) (kept (is_reference (scope_of unit)) (gathered uses_of unit))
    (once_in x (references_in (scope_of unit) (gathered uses_of unit)) m) in
    let k = kept_in (is_reference (scope_of unit)) (gathered uses_of unit) s.1 in
    let w = gathered_in uses_of unit k.0 in
    (w.0, w.1, s.0, w.2, k.1, s.2)

-- ---- data names

in_data_names : (unit : Segment) (x : Name) → IsIn x (gathered names_in unit)
    → (is_among x (held_by unit) || not (is_among x (references_of unit))) ≡ true → IsIn x (data_names unit)
in_data_names unit x m t =
    in_kept (λ y. is_among y (held_by unit) || not (is_among y (references_of unit))) (once (gathered names_in unit))
    (in_once x (gathered names_in unit) m) t

pub held_is_data : (unit : Segment) (x : Name) → IsIn x (gathered names_in unit) → IsIn x (held_by unit)
    → IsIn x (data_names unit)
held_is_data unit x m h =
    in_data_names unit x m
    (left_true (is_among x (held_by unit)) (not (is_among x (references_of unit))) (in_among x (held_by unit) h))

pub others_are_data : (unit : Segment) (x : Name) → IsIn x (gathered names_in unit) → ¬ IsIn x (references_of unit)
    → IsIn x (data_names unit)
others_are_data unit x m h =
    in_data_names unit x m
    (right_true (is_among x (held_by unit)) (not (is_among x (references_of unit)))
    (not_false (not_among x (references_of unit) h)))

-- a data name stands in a statement
pub data_named : (unit : Segment) (x : Name) → IsIn x (data_names unit) → IsIn x (gathered names_in unit)
data_named unit x m =
    once_in x (gathered names_in unit)
    (kept_in (λ y. is_among y (held_by unit) || not (is_among y (references_of unit)))
    (once (gathered names_in unit)) m).0

-- a data name that is a function reference is held as data
pub data_held : (unit : Segment) (x : Name) → IsIn x (data_names unit) → IsIn x (references_of unit)
    → IsIn x (held_by unit)
data_held unit x m r =
    let t = (kept_in (λ y. is_among y (held_by unit) || not (is_among y (references_of unit)))
    (once (gathered names_in unit)) m).1 in
    case (is_among x (held_by unit)) (among_in x (held_by unit))
    (λ f. absurd (clash t (no_data f)))
  where
    no_data : is_among x (held_by unit) ≡ false
        → (is_among x (held_by unit) || not (is_among x (references_of unit))) ≡ false
    no_data f = ap (λ b. b || not (is_among x (references_of unit))) f ∙ not_true (in_among x (references_of unit) r)

pub dummy_is_data : (unit : Segment) (x : Name) → IsIn x (dummies_of unit) → IsIn x (data_names unit)
dummy_is_data unit x m =
    let w = gathered_in dummies_by unit m in
    held_is_data unit x (in_gathered names_in w.0 unit w.1 (dummy_named w.0.stmt x w.2))
    (in_left (dummies_of unit ++ commons_of unit) (own_value_of unit) (in_left (dummies_of unit) (commons_of unit) m))

-- each item of a declaration
pub item_is_named : (unit : Segment) (line : Line) → IsIn line unit → (i : Item) → IsIn i (items_by line.stmt)
    → IsIn i.name (gathered names_in unit)
item_is_named unit line m i k = in_gathered names_in line unit m (item_named line.stmt i k)

pub array_is_data : (unit : Segment) (x : Name) → is_array (scope_of unit) x ≡ true → IsIn x (data_names unit)
array_is_data unit x a =
    let i = item_of_dims (gathered items_by unit) x a in
    let w = gathered_in items_by unit i.1 in
    others_are_data unit x (subst (λ y. IsIn y (gathered names_in unit)) i.2 (item_is_named unit w.0 w.1 i.0 w.2))
    (array_no_reference unit x a)

module _ (d : Dialect) (earlier : List Segment) (unit : Segment) (g : Given d earlier unit) where
  -- a name that is used bare is no function reference
  pub bare_no_reference : (line : Line) → IsIn line unit → (o : Occurrence) → IsIn o (uses_of line.stmt)
      → is_bare o.«use» ≡ true
      → ¬ IsIn o.name (references_of unit)
  bare_no_reference line m o k b r =
      let w = references_are unit o.name r in
      clash
      (both_true
      (in_some (is_reference_to (scope_of unit) o.name) (gathered uses_of unit) (in_gathered uses_of w.0 unit w.1 w.3)
      (both_true (are_same w.2.name o.name w.5) w.4))
      (in_some (is_bare_use_of o.name) (gathered uses_of unit) (in_gathered uses_of line unit m k)
      (both_true (same_self o.name) b)))
      (not_both_ways d earlier unit g o.name)

  bare_not_called : (how : Use) → is_bare how ≡ true → is_called how ≡ false
  bare_not_called called b = search rules
  bare_not_called _ b = refl

  pub bare_is_data : (line : Line) → IsIn line unit → (o : Occurrence) → IsIn o (uses_of line.stmt)
      → is_bare o.«use» ≡ true
      → IsIn o.name (data_names unit)
  bare_is_data line m o k b =
      others_are_data unit o.name
      (in_gathered names_in line unit m (use_named line.stmt o k (bare_not_called o.«use» b)))
      (bare_no_reference line m o k b)
