use Rattle.std.proofs.Common.{◌∙◌, sym}
use Rattle.run_start.proofs.Firsts.{given_found, given_missing, read_at}
use Rattle.run_start.proofs.entries.Entries.find.Goals as goal

pub returns-in-Some : goal.returns-in-Some
returns-in-Some c =
    read_at c.get.result c.args.self.now.given.now c.in-Some.place c.get.ensures.lookup.0 c.get.ensures.lookup.1
    ∙ given_found c.args.self.now.given.now c.args.name.now c.in-Some.place (sym (c.args.self.now.table_is c.args.name.now) ∙ sym c.in-Some.ensures)

pub returns-in-None : goal.returns-in-None
returns-in-None c = sym (given_missing c.args.self.now.given.now c.args.name.now 0 (sym (c.args.self.now.table_is c.args.name.now) ∙ sym c.in-None.ensures))
