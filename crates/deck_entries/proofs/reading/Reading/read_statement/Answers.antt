use Rattle.std.proofs.Common.{refl}
use Rattle.deck_entries.proofs.EntriesRead.{statement_read}
use Rattle.deck_entries.proofs.reading.Reading.read_statement.Goals as goal

pub returns-clause-read : goal.returns-clause-read
returns-clause-read c = λ all left.
    statement_read c.args.dialect all left c.args.card c.args.label c.args.text.now
    (record { card = c.args.card; label = c.args.label; stmt = c.in-Ok.stmt })
    c.args.self.now.lines.items c.add_line.new.self.lines.items c.args.self.now.notes.items c.add_line.new.self.notes.items
    c.args.self.now.spot c.add_line.new.self.spot
    refl refl c.in-Ok.ensures.spelled c.in-Ok-add_line.ensures.lines c.in-Ok-add_line.ensures.notes c.in-Ok-add_line.ensures.spot
