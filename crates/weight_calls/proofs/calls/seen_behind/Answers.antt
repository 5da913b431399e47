use Rattle.std.proofs.Common.{ap, ◌∙◌, map}
use Rattle.fort_model.specs.Seen.{Named}
use Rattle.std.specs.Prelude.{ℕ}
use Rattle.fort_model.specs.WalkCalls.{seen_by, stands_after}
use Rattle.name_tables.specs.Sets.{with_names}
use Rattle.weight_terms.specs.Held.{held}
use Rattle.weight_calls.specs.Operands.{operand_of}
use Rattle.weight_calls.specs.Seen.{changed_by}
use Rattle.weight_calls.specs.Subjects.{sight_of}
use Rattle.weight_calls.proofs.CalledNames.{changed_same}
use Rattle.weight_calls.proofs.calls.seen_behind.Goals as goal

pub returns : goal.returns
returns c =
    let w = sight_of c.args.subject.now in
    let g = c.args.callee.now.book.now.unit.now in
    let xs = map operand_of c.args.operands.now in
    let now = held c.args.names.now in
    c.in-Ok-seen.ensures
    ∙ (ap (λ ns. seen_by w g ns (changed_by c.add_all.new.self now) 1) (c.as_slice.ensures.value ∙ c.in-Ok-weights_behind.ensures w)
    ∙ ap (λ (n : Named ℕ). seen_by w g (map (stands_after w n) xs) n 1)
    (changed_same c.add_all.new.self c.args.smashed.now now (c.in-Ok.ensures.after ∙ ap (λ s. with_names s c.args.smashed.now) c.new-set.ensures)))
