use Rattle.walk_names.proofs.NameTables.{among_at}
use Rattle.walk_names.proofs.names.Names.know.Goals as goal

pub returns-clause-known : goal.returns-clause-known
returns-clause-known c = among_at c.place.new.self.table c.in_ok-place.field-0 c.args.name.now c.in_ok-place.ensures.place
