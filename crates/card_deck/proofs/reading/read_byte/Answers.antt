use Rattle.std.proofs.Common.{◌+◌, drop, ap, sym, ◌∙◌, rules}
use Rattle.fort_syntax.specs.Cards.{cards_from}
use Rattle.card_deck.specs.Reading.{entries_with, fault_with, part}
use Rattle.card_deck.proofs.Parts.{goes_on, ends}
use Rattle.card_deck.proofs.reading.read_byte.Goals as goal

pub returns-then-bytes-at-ne10-clause-entries : goal.returns-then-bytes-at-ne10-clause-entries
returns-then-bytes-at-ne10-clause-entries c =
    ap (entries_with c.args.reading.now) (goes_on c.args.bytes.now c.args.start c.args.at c.requires.started c.requires.within c.if-bytes-at-ne10.true)

pub returns-then-bytes-at-ne10-clause-faults : goal.returns-then-bytes-at-ne10-clause-faults
returns-then-bytes-at-ne10-clause-faults c =
    ap (fault_with c.args.reading.now) (goes_on c.args.bytes.now c.args.start c.args.at c.requires.started c.requires.within c.if-bytes-at-ne10.true)

pub returns-in-Ok-clause-entries : goal.returns-in-Ok-clause-entries
returns-in-Ok-clause-entries c =
    c.in-Ok.ensures.entries (cards_from (drop (c.args.at + 1) c.args.bytes.now) (part c.args.bytes.now (c.args.at + 1) (c.args.at + 1)))
    ∙ ap (entries_with c.args.reading.now) (ends c.args.bytes.now c.args.start c.args.at c.requires.within c.if-bytes-at-ne10.false)

pub returns-in-Ok-clause-faults : goal.returns-in-Ok-clause-faults
returns-in-Ok-clause-faults c =
    c.in-Ok.ensures.faults (cards_from (drop (c.args.at + 1) c.args.bytes.now) (part c.args.bytes.now (c.args.at + 1) (c.args.at + 1)))
    ∙ ap (fault_with c.args.reading.now) (ends c.args.bytes.now c.args.start c.args.at c.requires.within c.if-bytes-at-ne10.false)

pub returns-in-Err-clause-broken : goal.returns-in-Err-clause-broken
returns-in-Err-clause-broken c = λ f e.
    ap (fault_with c.args.reading.now) (sym (ends c.args.bytes.now c.args.start c.args.at c.requires.within c.if-bytes-at-ne10.false))
    ∙ c.read.ensures.broken f (search rules) (cards_from (drop (c.args.at + 1) c.args.bytes.now) (part c.args.bytes.now (c.args.at + 1) (c.args.at + 1)))
