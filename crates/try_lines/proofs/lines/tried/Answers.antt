use Rattle.std.proofs.Common.{◌≡◌, map, sym}
use Rattle.event_text.specs.Conditions.{IsConditionIn, condition_tree}
use Rattle.formula.specs.Bounded.{bounded}
use Rattle.formula.specs.Worth.{assigned, functions_of, nothing_known}
use Rattle.try_lines.specs.Tries.{condition_term, named, tried, verdict_of}
use Rattle.try_lines.proofs.ConditionTerms.{ok_weaker}
use Rattle.try_lines.proofs.Firsts.{named_in, not_named, one_named}
use Rattle.try_lines.proofs.lines.tried.Goals as goal

pub returns-in_default-condition-clause-tried : goal.returns-in_default-condition-clause-tried
returns-in_default-condition-clause-tried c =
    not_named (functions_of c.args.pool.now c.args.desk.now.definitions.now) c.args.pool.now c.in-Ok.name c.args.card.now.lemma c.args.desk.now.conditions.now c.args.card.now.sheet c.in-Ok.ensures c.in_default-condition.ensures

pub tried_condition-requires-clause-condition : goal.tried_condition-requires-clause-condition
tried_condition-requires-clause-condition c =
    named_in (IsConditionIn c.args.pool.now) c.in-Ok.name c.args.desk.now.conditions.now c.in-Some.condition.now c.requires.conditions (sym c.in-Some.ensures)

pub returns-clause-tried : goal.returns-clause-tried
returns-clause-tried c =
    let fs = functions_of c.args.pool.now c.args.desk.now.definitions.now in
    ok_weaker (λ v. v ≡ verdict_of (bounded fs (assigned c.args.card.now.sheet) nothing_known (condition_term (condition_tree c.args.pool.now c.in-Some.condition.now)) 10000))
    (λ v. v ≡ tried fs (named c.args.card.now.lemma (map (condition_tree c.args.pool.now) c.args.desk.now.conditions.now)) c.args.card.now.sheet) c.tried_condition.result
    (one_named fs c.args.pool.now c.in-Ok.name c.args.card.now.lemma c.args.desk.now.conditions.now c.args.card.now.sheet c.in-Ok.ensures c.in-Some.condition.now c.in-Some.ensures)
    c.tried_condition.ensures.tried
