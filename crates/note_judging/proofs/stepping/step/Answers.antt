use Rattle.note_reading.specs.NoteTrees.{form_tree}
use Rattle.note_steps.specs.Steps.{judged_note}
use Rattle.note_judging.specs.Items.{judged_trees}
use Rattle.note_judging.proofs.Judged.{fails, goes_on, held}
use Rattle.note_judging.proofs.stepping.step.Goals as goal

pub returns-in-Err-clause-steps : goal.returns-in-Err-clause-steps
returns-in-Err-clause-steps c = λ h.
    fails (λ f. judged_note c.args.note.now (form_tree c.judged.new.pool f)) _ _ c.args.pool.now c.args.definitions.now c.args.gathered.now.taken c.args.gathered.now.items.items c.args.note.now
    (judged_trees c.judged.new.pool c.args.gathered.now.items.items) c.in-Err.why c.in-Ok.ensures.seated.same c.in-Err.ensures.says h

pub returns-clause-holds : goal.returns-clause-holds
returns-clause-holds c = λ h.
    held c.args.pool.now c.judged.new.pool c.args.definitions.now c.judged.new.definitions c.args.gathered.now.taken c.gather.new.gathered.taken c.args.gathered.now.items.items c.gather.new.gathered.items.items
    c.args.note.now c.in-Ok-judged.form c.judged.ensures.grows c.in-Ok-gather.ensures.items c.in-Ok-judged.ensures.is_in c.in-Ok-judged.ensures.defined c.in-Ok-judged.ensures.added c.in-Ok-gather.ensures.learns h

pub returns-clause-steps : goal.returns-clause-steps
returns-clause-steps c = λ h.
    goes_on c.args.pool.now c.judged.new.pool c.args.definitions.now c.judged.new.definitions c.args.gathered.now.taken c.gather.new.gathered.taken c.args.gathered.now.items.items c.gather.new.gathered.items.items
    c.args.note.now c.in-Ok-judged.form c.judged.ensures.grows c.in-Ok-gather.ensures.items _ _ c.in-Ok.ensures.seated.same c.in-Ok-judged.ensures.says h
