use Rattle.do_smashes.specs.Hits.{unit_of, program_of}
use Rattle.do_smashes.proofs.Reaching.{broken_is}
use Rattle.do_smashes.proofs.statements.breaks_do.Goals as goal

pub returns-clause-broken : goal.returns-clause-broken
returns-clause-broken c =
    broken_is c.requires.well.0 (program_of c.args.caller.now) (unit_of c.args.caller.now) c.requires.well.1 c.args.kept.now.at c.args.stmt.now c.args.kept.now.guards.now c.requires.kept
    c.uses_itself.result c.in-Ok.hit c.uses_itself.ensures c.if-uses_itself.false c.in-Ok.ensures.hit
