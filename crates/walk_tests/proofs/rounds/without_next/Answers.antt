use Rattle.std.proofs.Common.{◌∙◌, refl}
use Rattle.std.proofs.lemmas.Result.{on_ok_weaker}
use Rattle.formula.specs.Pool.{tree_of}
use Rattle.formula.specs.declared.function.BuiltIn.TheVariants.{Less}
use Rattle.formula.proofs.Grown.{tree_of-Grows}
use Rattle.fort_model.specs.Seen.{see}
use Rattle.fort_model.specs.Senses.{make2, of_terms}
use Rattle.fort_model.specs.WalkStmt.{left_with, taken, with_name}
use Rattle.walk_setting.specs.Settings.{seen_from}
use Rattle.walk_setting.proofs.Done.{does_here, performs_set, performs_then}
use Rattle.walk_state.specs.Moments.{moment, with_names}
use Rattle.walk_tests.proofs.rounds.without_next.Goals as goal

pub returns-clause-did : goal.returns-clause-did
returns-clause-did c =
    let s = c.args.card.now.setting.now in
    let x = c.args.test.now.variable in
    let w0 = c.args.walk.now in
    let w1 = c.take_less.new.walk in
    let w2 = c.leave_with.new.walk in
    let m1 = moment w1 in
    let next = tree_of w0.pool c.args.next in
    let last = tree_of w0.pool c.args.last in
    let same = tree_of-Grows w0.pool w1.pool c.args.next c.take_less.ensures.on.grows c.requires.next in
    on_ok_weaker c.leave_with.result
    (λ e. performs_then s w0 w1 w2 (λ w. taken w (make2 of_terms Less last next)) (λ w now _. see (with_name now x (left_with w w.program.dialect next))) tt c.take_less.ensures.on.grows
    (does_here w0.pool s (moment w0) m1 (λ w. taken w (make2 of_terms Less last next)) tt c.in_ok-take_less.ensures.did)
    (λ p r. performs_set w1.pool s m1 (moment w2) (with_name m1.now x (left_with (seen_from s p) p.dialect next))
    (e (seen_from s p) refl ∙ (λ i. with_names m1 (with_name m1.now x (left_with (seen_from s p) (r.is_scene.dialect i) (same i))))) p r))
    c.leave_with.ensures.did
