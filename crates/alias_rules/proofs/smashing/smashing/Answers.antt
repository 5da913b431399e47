use Rattle.std.proofs.Common.{◌≡◌, ◌∙◌}
use Rattle.alias_rules.proofs.FromTables.{within_as, rows_are, rows_are_long, smash_fault_is, facts_hold, kept_hold}
use Rattle.alias_rules.proofs.smashing.smashing.Goals as goal

pub smash_table-requires-clause-within : goal.smash_table-requires-clause-within
smash_table-requires-clause-within c = within_as c.in-Ok.book.units.now c.args.deck.now.units c.as_slice-2.result.now c.args.ordered.order (c.in-Ok.ensures ∙ c.as_slice.ensures) c.as_slice-2.ensures c.requires.order

pub smash_fault-requires-clause-long : goal.smash_fault-requires-clause-long
smash_fault-requires-clause-long c =
    rows_are_long c.in-Ok.book.units.now c.args.deck.now.units c.args.ordered.order c.as_slice-rows.result.now (c.in-Ok.ensures ∙ c.as_slice.ensures) c.requires.order
    (rows_are c.in-Ok.book.units.now c.args.deck.now.units c.as_slice-2.result.now c.args.ordered.order c.in-Ok-smash_table.table.items c.as_slice-rows.result.now (c.in-Ok.ensures ∙ c.as_slice.ensures) c.as_slice-2.ensures c.in-Ok-smash_table.ensures c.as_slice-rows.ensures.value)

pub returns-in-Some-clause-broken : goal.returns-in-Some-clause-broken
returns-in-Some-clause-broken c f q =
    let same : c.in-Some.fault ≡ f = cc in
    smash_fault_is c.requires.well.0 c.args.deck.now c.args.ordered.order c.in-Ok.book.units.now c.as_slice-rows.result.now c.in-Ok-smash_fault.fault c.in-Some.fault f
    c.requires.well.1 c.requires.order (c.in-Ok.ensures ∙ c.as_slice.ensures)
    (rows_are c.in-Ok.book.units.now c.args.deck.now.units c.as_slice-2.result.now c.args.ordered.order c.in-Ok-smash_table.table.items c.as_slice-rows.result.now (c.in-Ok.ensures ∙ c.as_slice.ensures) c.as_slice-2.ensures c.in-Ok-smash_table.ensures c.as_slice-rows.ensures.value)
    c.in-Ok-smash_fault.ensures c.in-Some.is same

pub returns-in-None-clause-facts : goal.returns-in-None-clause-facts
returns-in-None-clause-facts c =
    facts_hold c.requires.well.0 c.args.deck.now c.args.ordered.order c.args.ordered.callees c.as_slice-rows.result.now c.facts_of.result
    c.requires.well.1 c.requires.order c.requires.callees
    (rows_are c.in-Ok.book.units.now c.args.deck.now.units c.as_slice-2.result.now c.args.ordered.order c.in-Ok-smash_table.table.items c.as_slice-rows.result.now (c.in-Ok.ensures ∙ c.as_slice.ensures) c.as_slice-2.ensures c.in-Ok-smash_table.ensures c.as_slice-rows.ensures.value)
    c.facts_of.ensures.order c.facts_of.ensures.callees c.facts_of.ensures.smashes

pub returns-in-None-clause-kept : goal.returns-in-None-clause-kept
returns-in-None-clause-kept c =
    kept_hold c.in-Ok.book.units.now c.args.deck.now.units c.as_slice-rows.result.now c.facts_of.result c.in-Ok-smash_fault.fault (c.in-Ok.ensures ∙ c.as_slice.ensures) c.in-Ok-smash_fault.ensures c.in-None.is
    c.facts_of.ensures.smashes
