use Rattle.std.proofs.Common.{rules}
use Rattle.formula.proofs.Grown.{Grows-trans}
use Rattle.event_reading.proofs.Growing.{definitions_end, definitions_go}
use Rattle.event_reading.proofs.reading.definitions_at.Goals as goal

pub loop-behind-smaller : goal.loop-behind-smaller
loop-behind-smaller c =
    (definitions_go c.loop-behind.pool c.definition_at.new.pool c.loop-behind.definitions c.definition_at.new.definitions c.args.text.now c.loop-behind.rest.now c.in-Ok.behind.now
    c.definition_at.ensures.grows c.loop-behind.invariant.added c.loop-behind.invariant.lines c.in-Ok.ensures.ok).less

pub loop-behind-preserved : goal.loop-behind-preserved
loop-behind-preserved c = record {
  lines = (definitions_go c.loop-behind.pool c.definition_at.new.pool c.loop-behind.definitions c.definition_at.new.definitions c.args.text.now c.loop-behind.rest.now c.in-Ok.behind.now
      c.definition_at.ensures.grows c.loop-behind.invariant.added c.loop-behind.invariant.lines c.in-Ok.ensures.ok).lines;
  added = c.definition_at.ensures.added c.loop-behind.invariant.added;
  grows = Grows-trans c.args.pool.now c.loop-behind.pool c.definition_at.new.pool c.loop-behind.invariant.grows c.definition_at.ensures.grows;
}

pub returns-in-Err-Spelling-clause-ok : goal.returns-in-Err-Spelling-clause-ok
returns-in-Err-Spelling-clause-ok c =
    definitions_end c.loop-behind.pool c.definition_at.new.pool c.loop-behind.definitions c.definition_at.new.definitions c.args.text.now c.loop-behind.rest.now
    c.definition_at.ensures.grows c.loop-behind.invariant.added c.loop-behind.invariant.lines c.in-Err-Spelling.ensures.unchanged (c.definition_at.ensures.added c.loop-behind.invariant.added)
    (c.in-Err-Spelling.ensures.none (search rules))
