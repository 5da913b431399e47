use Rattle.std.proofs.Common.{◌≡◌, ◌∙◌, ◌-◌, Some, None, List, ap, slice_get, subst, suc, sym, arith}
use Rattle.entry_frames.specs.Entries.{IsFrame, at_entry_in}
use Rattle.formula.specs.Tree.{Tree}
use Rattle.formula.specs.declared.node.TermId.{TermId}
use Rattle.fort_model.specs.Seen.{Named}
use Rattle.fort_notes.specs.Assertions.{assertion_tree}
use Rattle.fort_notes.specs.declared.notes.AssertSpec.{AssertSpec}
use Rattle.path_openings.proofs.Opened.{assert_in, clock_none, clock_some, clock_zero, no_assert_in, set_none, set_some, set_zero}
use Rattle.path_plans.proofs.Planned.{planned}
use Rattle.path_starts.specs.Starts.{start_in, unit_of}
use Rattle.walk_setting.specs.Settings.{seen_from}
use Rattle.walk_state.proofs.Parts.{follows_not}
use Rattle.walk_state.specs.Moments.{moment}
use Rattle.path_openings.proofs.setting_out.set_out.Goals as goal

pub returns-then-start-eq0-clause-on : goal.returns-then-start-eq0-clause-on
returns-then-start-eq0-clause-on c = follows_not c.args.begun.now.walk c.requires.well

pub returns-then-start-eq0-clause-did : goal.returns-then-start-eq0-clause-did
returns-then-start-eq0-clause-did c =
    let w0 = c.args.begun.now.walk in
    let plan = c.args.plan.now in
    let s = plan.setting.now in
    let none : c.args.start ≡ 0 = omega (arith, c.if-start-eq0.true) in
    record {
      framed = subst (λ (n : Named Tree). IsFrame w0.pool (unit_of plan) w0.names c.args.begun.now.entry.items n) (sym c.requires.at) c.requires.frame;
      inside = tt;
      is = λ p r. set_zero (seen_from s p) c.args.start (moment w0) none;
      parts = λ p r. clock_zero (seen_from s p) c.args.start none;
    }

pub returns-in_default-clause-on : goal.returns-in_default-clause-on
returns-in_default-clause-on c = follows_not c.args.begun.now.walk c.requires.well

pub start_at-requires-clause-assert : goal.start_at-requires-clause-assert
start_at-requires-clause-assert c =
    (c.args.start - 1, ap (λ (xs : List AssertSpec). slice_get xs (c.args.start - 1)) (sym c.as_slice-asserts.ensures) ∙ sym c.in-Some.ensures)

pub start_at-requires-clause-frame : goal.start_at-requires-clause-frame
start_at-requires-clause-frame c =
    let w0 = c.args.begun.now.walk in
    let plan = c.args.plan.now in
    subst (λ (ids : List TermId). IsFrame w0.pool (unit_of plan) w0.names ids (at_entry_in (unit_of plan).names)) (sym c.deref.ensures.value) c.requires.frame

pub returns-clause-did : goal.returns-clause-did
returns-clause-did c =
    let w0 = c.args.begun.now.walk in
    let plan = c.args.plan.now in
    let s = plan.setting.now in
    let a = c.in-Some.assert.now in
    let k = c.args.start - 1 in
    let next : c.args.start ≡ suc k = omega (arith, c.if-start-eq0.false) in
    let is : slice_get plan.spec.now.asserts k ≡ Some a = ap (λ (xs : List AssertSpec). slice_get xs k) (sym c.as_slice-asserts.ensures) ∙ sym c.in-Some.ensures in
    let last = c.in-Ok.ensures.did in
    let w1 = c.start_at.new.walk in
    record {
      framed = subst (λ (n : Named Tree). IsFrame w1.pool (unit_of plan) w1.names c.args.begun.now.entry.items n) (sym last.framed.stand)
          (subst (λ (ids : List TermId). IsFrame w1.pool (unit_of plan) w1.names ids (start_in plan)) c.deref.ensures.value last.framed);
      inside = last.known;
      is = λ p r.
          last.is p r ∙ set_some (seen_from s p) c.args.start k (moment w0) (assertion_tree w0.pool a) next (assert_in w0.pool plan p k a (planned w0.pool plan p c.requires.plan r.is_scene) is);
      parts = λ p r.
          ap Some (last.parts p r) ∙ clock_some (seen_from s p) c.args.start k (assertion_tree w0.pool a) next (assert_in w0.pool plan p k a (planned w0.pool plan p c.requires.plan r.is_scene) is);
    }

pub returns-in_default-clause-did : goal.returns-in_default-clause-did
returns-in_default-clause-did c =
    let w0 = c.args.begun.now.walk in
    let plan = c.args.plan.now in
    let s = plan.setting.now in
    let k = c.args.start - 1 in
    let next : c.args.start ≡ suc k = omega (arith, c.if-start-eq0.false) in
    let is : slice_get plan.spec.now.asserts k ≡ None = ap (λ (xs : List AssertSpec). slice_get xs k) (sym c.as_slice-asserts.ensures) ∙ sym c.in_default.ensures in
    record {
      framed = subst (λ (n : Named Tree). IsFrame w0.pool (unit_of plan) w0.names c.args.begun.now.entry.items n) (sym c.requires.at) c.requires.frame;
      inside = tt;
      is = λ p r. set_none (seen_from s p) c.args.start k (moment w0) next (no_assert_in w0.pool plan p k (planned w0.pool plan p c.requires.plan r.is_scene) is);
      parts = λ p r. clock_none (seen_from s p) c.args.start k next (no_assert_in w0.pool plan p k (planned w0.pool plan p c.requires.plan r.is_scene) is);
    }
