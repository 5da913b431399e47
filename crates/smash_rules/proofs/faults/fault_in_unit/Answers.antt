use Rattle.std.proofs.Common.{sym, ◌∙◌, arith}
use Rattle.fort_laws.proofs.DeclaredDecks.{well_at}
use Rattle.smash_laws.specs.Ordered.{with_table}
use Rattle.smash_rules.proofs.Scanned.{head_told, told_by_head, told_by_lines}
use Rattle.smash_rules.proofs.faults.fault_in_unit.Goals as goal

pub returns-in-Some : goal.returns-in-Some
returns-in-Some c =
    told_by_head (with_table c.args.deck.now.units.now c.args.rows.now) c.args.number c.book-book.result.now.unit.now c.in-Some.rule c.book-book.ensures
    (sym (head_told c.args.deck.now.units.now c.args.rows.now c.args.number c.book-book.result.now.unit.now c.index-rows-number.result (omega arith) c.index-rows-number.is)
    ∙ (sym c.in_ok-head.ensures ∙ c.in-Some.is))

pub fault_at_lines-requires-clause-well : goal.fault_at_lines-requires-clause-well
fault_at_lines-requires-clause-well c =
    (c.requires.well.0, well_at c.requires.well.0 c.args.deck.now.units.now c.args.number c.book-book.result.now.unit.now c.requires.well.1 c.book-book.ensures)

pub returns-in_ok-fault-in-None : goal.returns-in_ok-fault-in-None
returns-in_ok-fault-in-None c =
    told_by_lines (with_table c.args.deck.now.units.now c.args.rows.now) c.args.number c.book-book.result.now.unit.now c.in_ok-fault-in-None.fault c.book-book.ensures
    (sym (head_told c.args.deck.now.units.now c.args.rows.now c.args.number c.book-book.result.now.unit.now c.index-rows-number.result (omega arith) c.index-rows-number.is)
    ∙ (sym c.in_ok-head.ensures ∙ c.in-None.is))
    c.in_ok-fault-in-None.ensures
