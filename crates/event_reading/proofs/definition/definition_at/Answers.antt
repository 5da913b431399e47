use Rattle.std.proofs.Common.{sym, subst}
use Rattle.formula.specs.Adding.{AreAdded}
use Rattle.formula.proofs.Added.{added-Grows}
use Rattle.event_reading.proofs.definition.definition_at.Goals as goal

pub returns-in_err-id-clause-added : goal.returns-in_err-id-clause-added
returns-in_err-id-clause-added c = λ h. added-Grows c.args.pool.now c.body_at.new.pool c.args.definitions.now c.body_at.ensures.grows h

pub returns-in-Ok-clause-added : goal.returns-in-Ok-clause-added
returns-in-Ok-clause-added c = λ h. c.in-Ok.ensures.added (added-Grows c.args.pool.now c.body_at.new.pool c.args.definitions.now c.body_at.ensures.grows h)

pub returns-in-Err-clause-added : goal.returns-in-Err-clause-added
returns-in-Err-clause-added c = λ h. subst (AreAdded c.body_at.new.pool) (sym c.in-Err.ensures.unchanged) (added-Grows c.args.pool.now c.body_at.new.pool c.args.definitions.now c.body_at.ensures.grows h)
