use Rattle.std.proofs.Common.{◌≡◌, ◌∙◌, refl}
use Rattle.alias_rules.proofs.FromTables.{within_as, rows_are, rows_are_long, smash_fault_is}
use Rattle.deck_judging.proofs.Tables.{is_table, smashing_kept}
use Rattle.deck_judging.proofs.smashed.table_of.Goals as goal

pub smash_table-requires-clause-within : goal.smash_table-requires-clause-within
smash_table-requires-clause-within c =
    within_as c.in-Ok.book.units.now c.args.deck.now.units c.args.order.now c.args.order.now (c.in-Ok.ensures ∙ c.as_slice.ensures) refl c.requires.order

pub smash_fault-requires-clause-long : goal.smash_fault-requires-clause-long
smash_fault-requires-clause-long c =
    rows_are_long c.in-Ok.book.units.now c.args.deck.now.units c.args.order.now c.as_slice-2.result.now (c.in-Ok.ensures ∙ c.as_slice.ensures) c.requires.order
    (rows_are c.in-Ok.book.units.now c.args.deck.now.units c.args.order.now c.args.order.now c.in-Ok-smash_table.table.items c.as_slice-2.result.now (c.in-Ok.ensures ∙ c.as_slice.ensures) refl c.in-Ok-smash_table.ensures c.as_slice-2.ensures.value)

pub returns-in-Some-clause-broken : goal.returns-in-Some-clause-broken
returns-in-Some-clause-broken c f q =
    let same : c.in-Some.fault ≡ f = cc in
    smash_fault_is c.requires.well.0 c.args.deck.now c.args.order.now c.in-Ok.book.units.now c.as_slice-2.result.now c.in-Ok-smash_fault.fault c.in-Some.fault f
    c.requires.well.1 c.requires.order (c.in-Ok.ensures ∙ c.as_slice.ensures)
    (rows_are c.in-Ok.book.units.now c.args.deck.now.units c.args.order.now c.args.order.now c.in-Ok-smash_table.table.items c.as_slice-2.result.now (c.in-Ok.ensures ∙ c.as_slice.ensures) refl c.in-Ok-smash_table.ensures c.as_slice-2.ensures.value)
    c.in-Ok-smash_fault.ensures c.in-Some.is same

pub returns-clause-table : goal.returns-clause-table
returns-clause-table c =
    is_table c.requires.well.0 c.args.deck.now c.args.order.now c.in-Ok-smash_table.table.items c.requires.well.1 c.requires.order
    (rows_are c.in-Ok.book.units.now c.args.deck.now.units c.args.order.now c.args.order.now c.in-Ok-smash_table.table.items c.in-Ok-smash_table.table.items (c.in-Ok.ensures ∙ c.as_slice.ensures) refl c.in-Ok-smash_table.ensures refl)

pub returns-clause-kept : goal.returns-clause-kept
returns-clause-kept c =
    smashing_kept c.in-Ok.book.units.now c.args.deck.now.units c.as_slice-2.result.now c.in-Ok-smash_table.table.items c.in-Ok-smash_fault.fault
    (c.in-Ok.ensures ∙ c.as_slice.ensures) c.as_slice-2.ensures.value c.in-Ok-smash_fault.ensures c.in-None.is
