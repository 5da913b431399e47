use Rattle.decl_faults.proofs.CommonFacts.{facts_made, members_made}
use Rattle.decl_faults.proofs.common_rules.known_of.Goals as goal

pub returns-clause-facts : goal.returns-clause-facts
returns-clause-facts c =
    facts_made c.args.earlier.now c.args.unit.now c.in-Ok.scope c.in-Ok-dummies_of.dummies c.in-Ok-bad_blocks.bad_blocks c.in-Ok-commons_of.commons
    c.in-Ok.ensures c.in-Ok-dummies_of.ensures c.in-Ok-commons_of.ensures c.in-Ok-bad_blocks.ensures

pub returns-clause-members : goal.returns-clause-members
returns-clause-members c =
    members_made c.args.unit.now c.in-Ok.scope c.in-Ok-dummies_of.dummies c.in-Ok-bad_blocks.bad_blocks c.in-Ok-commons_of.commons
    c.in-Ok.ensures c.in-Ok-commons_of.ensures
