use Rattle.std.proofs.Common.{◌≡◌, ◌∙◌, Some, None, List, [], ap, sym}
use Rattle.formula.proofs.Grown.{Grows-refl}
use Rattle.fort_model.specs.Fitting.{any_role, has_entry}
use Rattle.fort_model.specs.Paths.{cut_of}
use Rattle.fort_model.specs.Walk.{arrive}
use Rattle.fort_notes.specs.declared.notes.AssertSpec.{AssertSpec}
use Rattle.path_ends.proofs.Arriving.{assert_is, assert_there}
use Rattle.path_ends.proofs.Checked.{met_nothing, met_same}
use Rattle.path_ends.proofs.Told.{first_among}
use Rattle.path_ends.specs.Ends.{clock_trees, first_at}
use Rattle.path_plans.proofs.Planned.{fits_here, planned}
use Rattle.path_starts.proofs.Begun.{assert_among, assert_inside, start_of}
use Rattle.path_starts.specs.Starts.{unit_of}
use Rattle.walk_setting.specs.Settings.{seen_from}
use Rattle.walk_state.specs.Moments.{moment}
use Rattle.path_ends.proofs.arrivals.check_at.Goals as goal

pub returns-in_default-clause-did : goal.returns-in_default-clause-did
returns-in_default-clause-did c card p r =
    let w0 = c.args.walk.now in
    let plan = c.args.plan.now in
    let w = seen_from plan.setting.now p in
    let here = planned w0.pool plan p c.requires.plan r.is_scene in
    let first : first_at plan.spec.now.asserts c.args.point ≡ None = ap (λ (xs : List AssertSpec). first_at xs c.args.point) (sym c.as_slice-asserts.ensures) ∙ sym c.in_default.ensures in
    met_nothing (moment w0) _
    (λ i. arrive w (clock_trees w0.pool c.args.clock.now) card (cut_of (assert_there w0.pool plan p c.args.point None here first i)) (moment w0).now [])

pub check_assert-requires-clause-terms : goal.check_assert-requires-clause-terms
check_assert-requires-clause-terms c =
    let w0 = c.args.walk.now in
    let plan = c.args.plan.now in
    let entry = c.args.entry.now in
    let u = unit_of plan in
    let a = c.in-Some.assert.now in
    let r = c.requires.ready in
    let first : first_at plan.spec.now.asserts c.args.point ≡ Some a = ap (λ (xs : List AssertSpec). first_at xs c.args.point) (sym c.as_slice-asserts.ensures) ∙ sym c.in-Some.ensures in
    let k = first_among plan.spec.now.asserts c.args.point a first in
    let inside = assert_inside _ plan.spec.now.asserts k.0 a k.1 ((planned w0.pool plan r.0 c.requires.plan r.1.is_scene).inside.asserts) in
    let fits = (fits_here w0.pool plan r.0 c.requires.plan r.1).asserts _ (assert_among w0.pool plan.spec.now.asserts k.0 a k.1) in
    start_of w0.pool w0 u entry (moment w0).now a.terms any_role (has_entry u) (Grows-refl w0.pool) c.requires.frame inside.terms (λ x e. e) fits.terms

pub check_assert-requires-clause-parts : goal.check_assert-requires-clause-parts
check_assert-requires-clause-parts c =
    let w0 = c.args.walk.now in
    let plan = c.args.plan.now in
    let entry = c.args.entry.now in
    let u = unit_of plan in
    let a = c.in-Some.assert.now in
    let r = c.requires.ready in
    let first : first_at plan.spec.now.asserts c.args.point ≡ Some a = ap (λ (xs : List AssertSpec). first_at xs c.args.point) (sym c.as_slice-asserts.ensures) ∙ sym c.in-Some.ensures in
    let k = first_among plan.spec.now.asserts c.args.point a first in
    let inside = assert_inside _ plan.spec.now.asserts k.0 a k.1 ((planned w0.pool plan r.0 c.requires.plan r.1.is_scene).inside.asserts) in
    let fits = (fits_here w0.pool plan r.0 c.requires.plan r.1).asserts _ (assert_among w0.pool plan.spec.now.asserts k.0 a k.1) in
    start_of w0.pool w0 u entry (moment w0).now a.clock any_role (has_entry u) (Grows-refl w0.pool) c.requires.frame inside.clock (λ x e. e) fits.clock

pub returns-clause-did : goal.returns-clause-did
returns-clause-did c card p r =
    let w0 = c.args.walk.now in
    let plan = c.args.plan.now in
    let s = plan.setting.now in
    let entry = c.args.entry.now in
    let u = unit_of plan in
    let w = seen_from s p in
    let a = c.in-Some.assert.now in
    let clock = clock_trees w0.pool c.args.clock.now in
    let here = planned w0.pool plan p c.requires.plan r.is_scene in
    let first : first_at plan.spec.now.asserts c.args.point ≡ Some a = ap (λ (xs : List AssertSpec). first_at xs c.args.point) (sym c.as_slice-asserts.ensures) ∙ sym c.in-Some.ensures in
    met_same (moment w0) (moment c.check_assert.new.walk) _ _ c.in-Ok.ensures.did
    (assert_is w0 u entry (moment w0).now p s.number card clock a c.requires.frame
    ∙ (λ i. arrive w clock card (cut_of (sym (assert_there w0.pool plan p c.args.point (Some a) here first) i)) (moment w0).now []))
