use Rattle.std.proofs.Common.{◌∙◌}
use Rattle.fort_model.specs.WalkCalls.{seen_by}
use Rattle.weight_terms.specs.Held.{held}
use Rattle.weight_calls.specs.Seen.{changed_by}
use Rattle.weight_calls.specs.Subjects.{sight_of}
use Rattle.weight_calls.proofs.calls.seen_before.Goals as goal

pub returns : goal.returns
returns c =
    c.in-Ok-seen.ensures
    ∙ (λ i. seen_by (sight_of c.args.subject.now) c.args.callee.now.book.now.unit.now ((c.as_slice.ensures.value ∙ c.in-Ok.ensures) i) (changed_by (c.new-none.ensures i) (held c.args.names.now)) 1)
