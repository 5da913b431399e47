use Rattle.std.proofs.Common.{arith}
use Rattle.fort_syntax.specs.declared.unit.Line.{Line}
use Rattle.smash_table.specs.Callers.{unit_of, program_of}
use Rattle.smash_table.specs.Smashed.{stmt_names}
use Rattle.smash_table.proofs.Steps.{given_more}
use Rattle.smash_table.proofs.sites.add_lines.Goals as goal

pub loop-line-preserved : goal.loop-line-preserved
loop-line-preserved c = record {
  names = given_more (λ (line : Line). stmt_names (program_of c.args.caller.now) (unit_of c.args.caller.now) line.stmt) c.loop-line.found.set c.add_stmt.new.found.set _ c.args.lines.now c.loop-line.line-index c.line-item.result
      (omega arith) c.line-item.is c.in-Ok.ensures.names c.loop-line.invariant.names;
  seen = c.in-Ok.ensures.seen;
}
