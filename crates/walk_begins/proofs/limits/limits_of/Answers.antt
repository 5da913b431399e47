use Rattle.formula.proofs.Grown.{Grows-trans, IsIn-Grows}
use Rattle.walk_state.proofs.Parts.{follows_then}
use Rattle.walk_begins.proofs.Parts.{limits_then}
use Rattle.walk_begins.proofs.limits.limits_of.Goals as goal

pub returns-in_err-step-clause-on : goal.returns-in_err-step-clause-on
returns-in_err-step-clause-on c =
    follows_then c.args.walk.now c.parameter.new.walk c.step_value.new.walk c.parameter.ensures.on (follows_then c.parameter.new.walk c.parameter-2.new.walk c.step_value.new.walk c.parameter-2.ensures.on c.step_value.ensures.on)

pub returns-clause-on : goal.returns-clause-on
returns-clause-on c =
    follows_then c.args.walk.now c.parameter.new.walk c.step_value.new.walk c.parameter.ensures.on (follows_then c.parameter.new.walk c.parameter-2.new.walk c.step_value.new.walk c.parameter-2.ensures.on c.step_value.ensures.on)

pub returns-clause-first : goal.returns-clause-first
returns-clause-first c =
    IsIn-Grows _ _ c.in_ok-first.first (Grows-trans c.parameter.new.walk.pool c.parameter-2.new.walk.pool c.step_value.new.walk.pool c.parameter-2.ensures.on.grows c.step_value.ensures.on.grows) c.in_ok-first.ensures.is_in

pub returns-clause-last : goal.returns-clause-last
returns-clause-last c = IsIn-Grows _ _ c.in_ok-last.last c.step_value.ensures.on.grows c.in_ok-last.ensures.is_in

pub returns-clause-did : goal.returns-clause-did
returns-clause-did c =
    limits_then c.args.card.now.setting.now c.args.card.now.number c.args.first c.args.last c.args.step c.args.walk.now c.parameter.new.walk c.parameter-2.new.walk c.step_value.new.walk c.in_ok-first.first c.in_ok-last.last c.in_ok-step.step
    c.parameter.ensures.on c.parameter-2.ensures.on c.step_value.ensures.on c.in_ok-first.ensures.is_in c.in_ok-last.ensures.is_in c.in_ok-first.ensures.did c.in_ok-last.ensures.did c.in_ok-step.ensures.did
