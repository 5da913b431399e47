use Rattle.annot.proofs.Outcomes.{bodies_in, inside_of, on_any}
use Rattle.annot.proofs.reading.notes.Goals as goal

pub returns-in-Ok-judged_notes-clause-inside : goal.returns-in-Ok-judged_notes-clause-inside
returns-in-Ok-judged_notes-clause-inside c = inside_of c.judged_notes.new.pool c.in-Ok-judged_notes.noted.items c.outcome.result c.in-Ok-judged_notes.ensures.inside c.outcome.ensures.inside

pub returns-in-Ok-judged_notes-clause-bodies : goal.returns-in-Ok-judged_notes-clause-bodies
returns-in-Ok-judged_notes-clause-bodies c = on_any c.outcome.result (bodies_in c.judged_notes.new.pool c.judged_notes.new.definitions c.in-Ok-judged_notes.ensures.added)
