use Rattle.std.proofs.Common.{◌≡◌, ap, ◌∙◌}
use Rattle.event_text.specs.Conditions.{condition_tree}
use Rattle.formula.specs.Bounded.{bounded}
use Rattle.formula.specs.Pool.{tree_of}
use Rattle.formula.specs.Worth.{assigned, functions_of, nothing_known}
use Rattle.try_lines.specs.Tries.{condition_term, verdict_of}
use Rattle.try_lines.proofs.ConditionTerms.{ok_weaker}
use Rattle.try_lines.proofs.Growth.{added_grows, functions_same}
use Rattle.try_lines.proofs.lines.tried_condition.Goals as goal

pub verdict_of-requires-clause-added : goal.verdict_of-requires-clause-added
verdict_of-requires-clause-added c = added_grows c.args.pool.now c.term_of.new.pool c.in-Ok.ensures.grows c.args.desk.now.definitions.now c.requires.added

pub returns-clause-tried : goal.returns-clause-tried
returns-clause-tried c =
    let ds = c.args.desk.now.definitions.now in
    let old = c.args.pool.now in
    let new = c.term_of.new.pool in
    ok_weaker (λ v. v ≡ verdict_of (bounded (functions_of new ds) (assigned c.in-Ok-sheet_of.sheet) nothing_known (tree_of new c.in-Ok.term) 10000))
    (λ v. v ≡ verdict_of (bounded (functions_of old ds) (assigned c.args.card.now.sheet) nothing_known (condition_term (condition_tree old c.args.condition.now)) 10000)) c.verdict_of.result
    (λ v is. is ∙ (λ i. verdict_of (bounded (functions_same old new c.in-Ok.ensures.grows ds c.requires.added i) (λ s. (c.in-Ok-sheet_of.ensures s ∙ ap (λ e. assigned e s) c.as_slice.ensures) i) nothing_known (c.in-Ok.ensures.tree i) 10000)))
    c.verdict_of.ensures
