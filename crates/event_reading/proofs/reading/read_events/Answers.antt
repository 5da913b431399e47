use Rattle.std.proofs.Common.{rules}
use Rattle.event_reading.proofs.Endings.{accepted, refused, within}
use Rattle.event_reading.proofs.reading.read_events.Goals as goal

pub overflow_sub-result : goal.overflow_sub-result
overflow_sub-result c =
    within c.definitions_at.new.pool c.conditions_at-read.new.pool c.definitions_at.new.definitions c.in-Ok-read.marked.conditions c.in-Ok-read.marked.letters c.in-Ok-provers_at.asked c.args.text.now c.in-Ok.rest.now
    c.in-Ok-read.rest.now c.in-Ok-provers_at.rest.now c.in-Ok.ensures.ok (search rules) c.in-Ok-provers_at.ensures

pub returns-then-not-is_closing-clause-refused : goal.returns-then-not-is_closing-clause-refused
returns-then-not-is_closing-clause-refused c =
    refused c.definitions_at.new.pool c.conditions_at-read.new.pool c.definitions_at.new.definitions c.in-Ok-read.marked.conditions c.in-Ok-read.marked.letters c.in-Ok-provers_at.asked c.args.text.now c.in-Ok.rest.now
    c.in-Ok-read.rest.now c.in-Ok-provers_at.rest.now c.in-Ok.ensures.ok (search rules) c.in-Ok-provers_at.ensures c.in-Ok-read.ensures.few (search rules)

pub returns-clause-ok : goal.returns-clause-ok
returns-clause-ok c =
    accepted c.definitions_at.new.pool c.conditions_at-read.new.pool c.definitions_at.new.definitions c.in-Ok-read.marked.conditions c.in-Ok-read.marked.letters c.in-Ok-provers_at.asked c.args.text.now c.in-Ok.rest.now
    c.in-Ok-read.rest.now c.in-Ok-provers_at.rest.now c.in-Ok.ensures.ok (search rules) c.in-Ok-provers_at.ensures c.conditions_at-read.ensures.grows c.in-Ok-read.ensures.few (search rules)
