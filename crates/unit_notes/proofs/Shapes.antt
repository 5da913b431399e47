-- The shapes of the arrays of a unit that is well formed.
use Rattle.std.proofs.Common.{◌≡◌, ℕ, zero, suc, ◌≤◌, Bool, true, false, cond, not, ◌&&◌, ◌||◌, Option, Some, None, List, [], ◌∷◌, length, slice_get, refl, sym, ap, ◌∙◌, subst, arith}
use Rattle.std.specs.Prelude.{nat_lt, IfSome}
use Rattle.std.specs.List.{list_all, list_any}
use Rattle.formula.specs.Atoms.{same_bytes}
use Rattle.fort_syntax.specs.NameRules.{fixed_size, is_bad_shape, is_zero_dim, most_dims}
use Rattle.fort_syntax.specs.Names.{data_name_in}
use Rattle.fort_syntax.specs.WellFormed.{AreWellFormedUnits, IsWellFormedUnit, has_right_dims}
use Rattle.fort_syntax.specs.declared.dialect.Dialect.{Dialect}
use Rattle.fort_syntax.specs.declared.name.Name.{Name}
use Rattle.fort_syntax.specs.declared.stmt.Dim.{Dim}
use Rattle.fort_syntax.specs.declared.unit.DataName.{DataName}
use Rattle.fort_syntax.specs.declared.unit.Unit.{Unit as Routine}
use Rattle.fort_model.specs.Program.{Program}
use Rattle.formula.specs.declared.node.Node.{Node}
use Rattle.path_scene.specs.Scenes.{IsReady}
use Rattle.path_scene.specs.declared.scene.Scene.{Scene}
use Rattle.walk_places.specs.Shapes.{IsGoodShape}
use Rattle.unit_notes.specs.Laws.{ReadyShapesAreGood}

-- ---- tests

pub both_parts : (a b : Bool) → (a && b) ≡ true → (a ≡ true) × (b ≡ true)
both_parts true b e = (refl, e)
both_parts false b e = absurd (cc)

pub neither : (a b : Bool) → (a || b) ≡ false → (a ≡ false) × (b ≡ false)
neither true b e = absurd (cc)
neither false b e = (refl, e)

pub not_true : (b : Bool) → not b ≡ true → b ≡ false
not_true true e = absurd (cc)
not_true false e = refl

not_over : (n : ℕ) → nat_lt 1000000 n ≡ false → n ≤ 1000000
not_over n e = grind (arith, e)

-- ---- units and their data names

none_some : {X : Type 0} (a : X) → ◌≡◌ {A = Option X} None (Some a) → ⊥
none_some a e = cc

some_is : {X : Type 0} (a b : X) → ◌≡◌ {A = Option X} (Some a) (Some b) → a ≡ b
some_is a b e = cc

well_formed_at : (d : Dialect) (us : List Routine) (i : ℕ) (u : Routine) → AreWellFormedUnits d us → slice_get us i ≡ Some u → IsWellFormedUnit d u
well_formed_at d [] i u all e = absurd (none_some u e)
well_formed_at d (v ∷ us) zero u all e = subst (IsWellFormedUnit d) (some_is v u e) all.0
well_formed_at d (v ∷ us) (suc i) u all e = well_formed_at d us i u all.1 e

pub well_formed : (pool : List Node) (scene : Scene) (p : Program) (i : ℕ) (u : Routine) → IsReady pool scene p → slice_get p.units i ≡ Some u → IsWellFormedUnit p.dialect u
well_formed pool scene p i u ready is =
    well_formed_at p.dialect ready.deck.units i u ready.well_formed.units (ap (λ (us : List Routine). slice_get us i) ready.units ∙ is)

-- a test that all data names pass
pub data_passes : (test : DataName → Bool) (ds : List DataName) (x : Name) (d : DataName) → list_all test ds ≡ true → data_name_in ds x ≡ Some d → test d ≡ true
data_passes test [] x d all e = absurd (none_some d e)
data_passes test (c ∷ ds) x d all e = by (same_bytes c.name x) e (data_passes test ds x d)
  where
    parts : (test c ≡ true) × (list_all test ds ≡ true)
    parts = both_parts (test c) (list_all test ds) all

    by : (b : Bool) → cond b (Some c) (data_name_in ds x) ≡ Some d → (list_all test ds ≡ true → data_name_in ds x ≡ Some d → test d ≡ true) → test d ≡ true
    by true k rest = ap test (sym (some_is c d k)) ∙ parts.0
    by false k rest = rest parts.1 k

-- ---- shapes

good : (dialect : Dialect) (dims : List Dim) → is_bad_shape dialect dims ≡ false → IsGoodShape dims
good dialect dims e =
    let two = neither (nat_lt (most_dims dialect) (length dims) || list_any is_zero_dim dims) (nat_lt 1000000 (fixed_size dims)) e in
    record { no_zero = (neither (nat_lt (most_dims dialect) (length dims)) (list_any is_zero_dim dims) two.0).1; small = not_over (fixed_size dims) two.1 }

if_some : (o : Option DataName) (P : DataName → Type 0) → ((d : DataName) → o ≡ Some d → P d) → IfSome o P
if_some None P f = tt
if_some (Some d) P f = f d refl

pub ready_shapes_are_good : ReadyShapesAreGood
ready_shapes_are_good pool scene p i u ready is x =
    if_some (data_name_in u.names x) (λ d. IsGoodShape d.dims) λ d e.
    good p.dialect d.dims
    (not_true (is_bad_shape p.dialect d.dims) (both_parts (not (is_bad_shape p.dialect d.dims)) _ (data_passes (has_right_dims p.dialect u) u.names x d (well_formed pool scene p i u ready is).dimensions e)).0)
