-- A plan is that of its unit in each program that it is ready for.
use Rattle.std.proofs.Common.{◌≡◌, ℕ, zero, suc, Bool, false, true, List, [], ◌∷◌, ◌++◌, length, map, Option, Some, None, slice_get, refl, sym, ap, ◌∙◌, subst}
use Rattle.std.specs.List.{All, filter}
use Rattle.std.proofs.lemmas.List.Elements.{All-head, All-tail}
use Rattle.formula.specs.Atoms.{is_among}
use Rattle.formula.specs.declared.node.Node.{Node}
use Rattle.fort_model.specs.Program.{Program, names_if_any, notes_in, smashed_names as smashed_by}
use Rattle.fort_model.specs.Walk.{dim_dummies}
use Rattle.fort_notes.specs.Assertions.{Notes, notes_tree}
use Rattle.fort_notes.specs.declared.notes.UnitSpec.{UnitSpec}
use Rattle.fort_syntax.specs.Names.{commons}
use Rattle.fort_syntax.specs.declared.name.Name.{Name}
use Rattle.fort_syntax.specs.declared.unit.Unit.{Unit as Routine}
use Rattle.fort_model.specs.Fitting.{FitsUnit}
use Rattle.fort_syntax.specs.WellFormed.{AreWellFormedUnits, IsWellFormedUnit}
use Rattle.fort_syntax.specs.declared.dialect.Dialect.{Dialect}
use Rattle.entry_frames.specs.Entries.{AreGoodShapes}
use Rattle.entry_frames.proofs.GoodShapes.{well_formed_units_have_good_shapes}
use Rattle.path_scene.specs.Scenes.{AreNotesIn, IsReady, IsScene}
use Rattle.walk_setting.specs.declared.setting.Setting.{Setting}
use Rattle.path_plans.specs.declared.plan.Plan.{Plan}
use Rattle.path_plans.specs.Plans.{IsPlan, IsPlanIn}
use Rattle.walk_setting.proofs.Units.{unit_there}
use Rattle.start_lists.specs.Smashed.{names_of_kind, smashed_names}

none_kept : (xs : List Name) → filter (λ (x : Name). is_among x []) xs ≡ []
none_kept [] = refl
none_kept (x ∷ xs) = none_kept xs

pub none_smashed : (u : Routine) → [] ≡ smashed_names [] u
none_smashed u = sym (none_kept (u.dummies ++ commons u ++ names_of_kind true u.names ++ names_of_kind false u.names))

some_is : {X : Type 0} (a b : X) → ◌≡◌ {A = Option X} (Some a) (Some b) → a ≡ b
some_is a b e = cc

none_some : {X : Type 0} (a : X) → ◌≡◌ {A = Option X} None (Some a) → ⊥
none_some a e = cc

noted_at : (pool : List Node) (ss : List UnitSpec) (k : ℕ) (s : UnitSpec) → slice_get ss k ≡ Some s → slice_get (map (notes_tree pool) ss) k ≡ Some (notes_tree pool s)
noted_at pool [] k s e = absurd (none_some s e)
noted_at pool (x ∷ ss) zero s e = ap (λ (t : UnitSpec). Some (notes_tree pool t)) (some_is x s e)
noted_at pool (x ∷ ss) (suc k) s e = noted_at pool ss k s e

mapped_at : (pool : List Node) (ss : List UnitSpec) (k : ℕ) (s : UnitSpec) → slice_get ss k ≡ Some s → notes_in (slice_get (map (notes_tree pool) ss) k) ≡ notes_tree pool s
mapped_at pool [] k s e = absurd (none_some s e)
mapped_at pool (x ∷ ss) zero s e = ap (notes_tree pool) (some_is x s e)
mapped_at pool (x ∷ ss) (suc k) s e = mapped_at pool ss k s e

inside_at : (n : ℕ) (ss : List UnitSpec) (k : ℕ) (s : UnitSpec) → slice_get ss k ≡ Some s → All (AreNotesIn n) ss → AreNotesIn n s
inside_at n [] k s e h = absurd (none_some s e)
inside_at n (x ∷ ss) zero s e h = subst (AreNotesIn n) (some_is x s e) (All-head (AreNotesIn n) x ss h)
inside_at n (x ∷ ss) (suc k) s e h = inside_at n ss k s e (All-tail (AreNotesIn n) x ss h)

pub planned : (pool : List Node) (plan : Plan) (p : Program) → IsPlan plan → IsScene pool plan.setting.now.scene.now p → IsPlanIn pool plan p
planned pool plan p is h =
    let i = plan.setting.now.number in
    let smashed : plan.smashed.now ≡ smashed_by p i = is.smashed ∙ (λ k. names_if_any (slice_get (h.smashes k) i)) in
    record {
      notes = sym (mapped_at pool plan.setting.now.scene.now.notes.now i plan.spec.now is.spec) ∙ (λ k. notes_in (slice_get (h.notes k) i));
      inside = inside_at (length pool) plan.setting.now.scene.now.notes.now i plan.spec.now is.spec h.inside;
      smashed = smashed;
      dims = is.dims;
      commons = is.commons;
      order = is.order ∙ (λ k. smashed_names (smashed k) plan.setting.now.book.now.unit.now);
    }

-- ---- what is known of its unit where a program is ready

well_formed_at : (d : Dialect) (us : List Routine) (i : ℕ) (u : Routine) → AreWellFormedUnits d us → slice_get us i ≡ Some u → IsWellFormedUnit d u
well_formed_at d [] i u all e = absurd (none_some u e)
well_formed_at d (v ∷ us) zero u all e = subst (IsWellFormedUnit d) (some_is v u e) all.0
well_formed_at d (v ∷ us) (suc i) u all e = well_formed_at d us i u all.1 e

pub unit_here : (pool : List Node) (s : Setting) (p : Program) → IsReady pool s.scene.now p → slice_get p.units s.number ≡ Some s.book.now.unit.now
unit_here pool s p r = (λ k. slice_get (sym r.is_scene.units k) s.number) ∙ unit_there s

pub shapes_here : (pool : List Node) (s : Setting) (p : Program) → IsReady pool s.scene.now p → AreGoodShapes s.book.now.unit.now.names
shapes_here pool s p r =
    let u = s.book.now.unit.now in
    let stands = well_formed_at p.dialect r.deck.units s.number u r.well_formed.units ((λ k. slice_get (r.units k) s.number) ∙ unit_here pool s p r) in
    well_formed_units_have_good_shapes p.dialect u stands

pub fits_here : (pool : List Node) (plan : Plan) (p : Program) → IsPlan plan → IsReady pool plan.setting.now.scene.now p → FitsUnit plan.setting.now.book.now.unit.now (notes_tree pool plan.spec.now)
fits_here pool plan p is r =
    let s = plan.setting.now in
    r.fitting.fits s.number s.book.now.unit.now (notes_tree pool plan.spec.now) (unit_here pool s p r)
    ((λ k. slice_get (sym r.is_scene.notes k) s.number) ∙ noted_at pool s.scene.now.notes.now s.number plan.spec.now is.spec)
