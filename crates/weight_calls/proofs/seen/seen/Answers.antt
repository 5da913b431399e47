use Rattle.std.proofs.Common.{ap, ◌∙◌}
use Rattle.fort_model.specs.WalkCalls.{with_actuals}
use Rattle.weight_terms.specs.Held.{held}
use Rattle.weight_calls.specs.Programs.{seen_program}
use Rattle.weight_calls.specs.Seen.{by_names, changed_by}
use Rattle.weight_calls.specs.Subjects.{sight_of}
use Rattle.weight_calls.proofs.CalledNames.{seen_so}
use Rattle.weight_calls.proofs.seen.seen.Goals as goal

pub returns : goal.returns
returns c =
    let now = changed_by c.args.caller.now.smashed.now (held c.args.caller.now.names.now) in
    seen_so (seen_program c.args.subject.now.pool.now c.args.subject.now.scene.now) c.args.subject.now.number c.args.subject.now.book.now.unit.now c.args.unit.now c.args.weights.now now
    (held c.set_names.new.table) (held c.set.new.self) (held c.set_actuals.new.table)
    (c.in-Ok.ensures ∙ (λ i. by_names now (c.as_slice.ensures i) (held (c.new-table.ensures i))))
    c.in-Ok-set.ensures.weights
    (c.in-Ok-set_actuals.ensures (sight_of c.args.subject.now) ∙ ap (λ ds. with_actuals (sight_of c.args.subject.now) ds c.args.weights.now (held c.set.new.self)) c.as_slice-2.ensures)
