use Rattle.deck_entries.proofs.EntriesRead.{note_read}
use Rattle.deck_entries.proofs.reading.Reading.read_note.Goals as goal

pub returns-clause-read : goal.returns-clause-read
returns-clause-read c = λ d all left.
    note_read d all left c.args.card c.args.text.now c.args.self.now.lines.items c.add_note.new.self.lines.items
    c.args.self.now.notes.items c.add_note.new.self.notes.items c.args.self.now.spot c.add_note.new.self.spot
    c.in-Ok.ensures.lines c.in-Ok.ensures.notes c.in-Ok.ensures.spot
