-- The dimensions of a well-formed unit.
use Rattle.std.proofs.Common.{◌≡◌, ℕ, ◌≤◌, ◌*◌, Bool, true, false, not, ◌&&◌, ◌||◌, nat_lt, Option, Some, None, is_some, option_map, List, [], ◌∷◌, length, refl, sym, ◌∙◌, true≢false, arith}
use Rattle.std.specs.Prelude.{IfSome, cond}
use Rattle.formula.specs.Atoms.{is_among, same_bytes}
use Rattle.fort_syntax.specs.Names.{data_name_in, is_own}
use Rattle.fort_syntax.specs.declared.name.Name.{Name}
use Rattle.std.specs.List.{list_all, list_any}
use Rattle.std.proofs.lemmas.Grind.{common_steps}
use Rattle.fort_syntax.specs.NameRules.{fixed_size, is_bad_shape, is_zero_dim, most_dims}
use Rattle.fort_syntax.specs.WellFormed.{has_right_dims, same_role, scope_of_unit}
use Rattle.fort_syntax.specs.Scopes.{is_integer_scalar}
use Rattle.fort_syntax.specs.Units.{names_in_dims}
use Rattle.fort_model.specs.WalkPlaces.{size_if_fixed}
use Rattle.fort_syntax.specs.declared.stmt.Dim.TheVariants.{Fixed, Named as Adjustable}
use Rattle.fort_syntax.specs.declared.unit.Role.{Role}
use Rattle.fort_syntax.specs.declared.unit.Role.TheVariants.{Dummy, InCommon, Local, OwnValue}
use Rattle.fort_syntax.specs.declared.dialect.Dialect.{Dialect}
use Rattle.fort_syntax.specs.declared.stmt.Dim.{Dim}
use Rattle.fort_syntax.specs.declared.unit.DataName.{DataName}
use Rattle.fort_syntax.specs.declared.unit.Unit.{Unit as Routine}
use Rattle.walk_places.specs.Shapes.{IsGoodShape}
use Rattle.entry_frames.specs.Entries.{AreGoodShapes, HasGoodShape}
use Rattle.entry_frames.specs.Laws.{WellFormedUnitsHaveGoodShapes}

both : (a b : Bool) → (a && b) ≡ true → (a ≡ true) × (b ≡ true)
both true b e = (refl, e)
both false b e = absurd (cc)

not_true : (a : Bool) → not a ≡ true → a ≡ false
not_true true e = absurd (cc)
not_true false e = refl

neither : (a b : Bool) → (a || b) ≡ false → (a ≡ false) × (b ≡ false)
neither true b e = absurd (cc)
neither false b e = (refl, e)

at_most : (m n : ℕ) → nat_lt m n ≡ false → n ≤ m
at_most m n e = grind (arith, common_steps)

good : (dialect : Dialect) (dims : List Dim) → is_bad_shape dialect dims ≡ false → IsGoodShape dims
good dialect dims e =
    let p = neither (nat_lt (most_dims dialect) (length dims) || list_any is_zero_dim dims) (nat_lt 1000000 (fixed_size dims)) e in
    let q = neither (nat_lt (most_dims dialect) (length dims)) (list_any is_zero_dim dims) p.0 in
    record { no_zero = q.1; small = at_most 1000000 (fixed_size dims) p.1 }

option_has : (o : Option ℕ) (f : ℕ → ℕ) → is_some o ≡ true → is_some (option_map f o) ≡ true
option_has None f e = absurd (cc)
option_has (Some m) f e = refl

some_x : (x : Name) (xs : List Name) → x ∷ xs ≡ [] → ⊥
some_x x xs e = cc

all_fixed : (ds : List Dim) → names_in_dims ds ≡ [] → is_some (size_if_fixed ds) ≡ true
all_fixed [] e = refl
all_fixed (Fixed n ∷ ds) e = option_has (size_if_fixed ds) (λ m. n * m) (all_fixed ds e)
all_fixed (Adjustable x ∷ ds) e = absurd (some_x x (names_in_dims ds) e)

-- a test that fails holds for all of a list that is empty
none_there : (f : Name → Bool) (xs : List Name) → ((x : Name) → f x ≡ false) → list_all f xs ≡ true → xs ≡ []
none_there f [] fails e = refl
none_there f (x ∷ xs) fails e =
    let p = both (f x) (list_all f xs) e in
    absurd (true≢false (sym p.0 ∙ fails x))

own_no_dummy : (role : Role) (b c : Bool) → is_own role ≡ true → (same_role role Dummy && b && c) ≡ false
own_no_dummy Dummy b c e = absurd (true≢false (sym e))
own_no_dummy InCommon b c e = absurd (true≢false (sym e))
own_no_dummy OwnValue b c e = refl
own_no_dummy Local b c e = refl

all_good : (dialect : Dialect) (u : Routine) (ds : List DataName) → list_all (has_right_dims dialect u) ds ≡ true → AreGoodShapes ds
all_good dialect u [] e = tt
all_good dialect u (d ∷ ds) e =
    let p = both (has_right_dims dialect u d) (list_all (has_right_dims dialect u) ds) e in
    let q = both (not (is_bad_shape dialect d.dims)) _ p.0 in
    let one : HasGoodShape d = record {
      shape = good dialect d.dims (not_true (is_bad_shape dialect d.dims) q.0);
      fixed = λ own. all_fixed d.dims (none_there _ (names_in_dims d.dims) (λ x. own_no_dummy d.role (is_among x u.dummies) (is_integer_scalar (scope_of_unit u) x) own) q.1);
    } in
    (one, all_good dialect u ds p.1)

pub well_formed_units_have_good_shapes : WellFormedUnitsHaveGoodShapes
well_formed_units_have_good_shapes dialect u h = all_good dialect u u.names h.dimensions

-- the dimensions of a name have a good shape
pub shapes_by_name : (ds : List DataName) → AreGoodShapes ds → (x : Name) → IfSome (data_name_in ds x) (λ (d : DataName). IsGoodShape d.dims)
shapes_by_name [] h x = tt
shapes_by_name (d ∷ ds) h x = by (same_bytes d.name x) (shapes_by_name ds h.1 x)
  where
    by : (b : Bool) → IfSome (data_name_in ds x) (λ (e : DataName). IsGoodShape e.dims) → IfSome (cond b (Some d) (data_name_in ds x)) (λ (e : DataName). IsGoodShape e.dims)
    by true g = h.0.shape
    by false g = g
