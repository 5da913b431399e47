use Rattle.std.proofs.Common.{sym, ◌∙◌, arith}
use Rattle.smash_table.specs.Callers.{unit_of, program_of}
use Rattle.smash_table.specs.Smashed.{shared_by}
use Rattle.smash_table.proofs.Seen.{all_there, seen_with}
use Rattle.smash_table.proofs.Steps.{shared_added}
use Rattle.smash_table.proofs.sites.add_commons.Goals as goal

pub returns-then-has-clause-names : goal.returns-then-has-clause-names
returns-then-has-clause-names c =
    sym (all_there c.args.found.now.set (shared_by (program_of c.args.caller.now) (unit_of c.args.caller.now) c.args.number)
    (c.requires.seen.seen c.args.number (sym c.has.ensures ∙ c.if-has.true)))

pub returns-clause-names : goal.returns-clause-names
returns-clause-names c =
    shared_added c.args.caller.now.deck.now.units.now c.args.caller.now.rows.now (unit_of c.args.caller.now) c.args.number c.book-callee.result.now.unit.now c.index-caller-number.result
    c.book-callee.ensures (omega (arith, c.requires.long, c.requires.within)) c.index-caller-number.is c.args.found.now.set c.add_shared.new.set c.names.result.now c.in-Ok.ensures
    (c.names.ensures ∙ sym c.index-caller-number.is)

pub returns-clause-seen : goal.returns-clause-seen
returns-clause-seen c =
    seen_with (program_of c.args.caller.now) (unit_of c.args.caller.now) c.args.found.now.seen c.add.new.self c.args.number c.args.found.now.set c.add_shared.new.set c.requires.seen c.in-Ok-add.ensures
    (shared_added c.args.caller.now.deck.now.units.now c.args.caller.now.rows.now (unit_of c.args.caller.now) c.args.number c.book-callee.result.now.unit.now c.index-caller-number.result
    c.book-callee.ensures (omega (arith, c.requires.long, c.requires.within)) c.index-caller-number.is c.args.found.now.set c.add_shared.new.set c.names.result.now c.in-Ok.ensures
    (c.names.ensures ∙ sym c.index-caller-number.is))
