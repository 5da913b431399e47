use Rattle.std.proofs.Common.{◌∙◌}
use Rattle.std.proofs.lemmas.Result.{on_ok_weaker}
use Rattle.formula.specs.Pool.{tree_of}
use Rattle.formula.specs.declared.function.BuiltIn.TheVariants.{AtMost}
use Rattle.formula.proofs.Grown.{tree_of-Grows}
use Rattle.fort_model.specs.Seen.{see}
use Rattle.fort_model.specs.Senses.{make2, of_terms}
use Rattle.fort_model.specs.WalkStmt.{taken, with_name}
use Rattle.walk_setting.proofs.Done.{does_here, performs_set, performs_then}
use Rattle.walk_state.specs.Moments.{moment, with_names}
use Rattle.walk_tests.proofs.rounds.with_next.Goals as goal

pub returns-clause-did : goal.returns-clause-did
returns-clause-did c =
    let s = c.args.card.now.setting.now in
    let x = c.args.test.now.variable in
    let w0 = c.args.walk.now in
    let w1 = c.take_at_most.new.walk in
    let w2 = c.set.new.self in
    let m1 = moment w1 in
    let next = tree_of w0.pool c.args.next in
    let last = tree_of w0.pool c.args.last in
    let same = tree_of-Grows w0.pool w1.pool c.args.next c.take_at_most.ensures.on.grows c.requires.next in
    on_ok_weaker c.set.result
    (λ e. performs_then s w0 w1 w2 (λ w. taken w (make2 of_terms AtMost next last)) (λ w now _. see (with_name now x next)) tt c.take_at_most.ensures.on.grows
    (does_here w0.pool s (moment w0) m1 (λ w. taken w (make2 of_terms AtMost next last)) tt c.in_ok-take_at_most.ensures.did)
    (performs_set w1.pool s m1 (moment w2) (with_name m1.now x next) (e ∙ (λ i. with_names m1 (with_name m1.now x (same i))))))
    c.set.ensures.set
