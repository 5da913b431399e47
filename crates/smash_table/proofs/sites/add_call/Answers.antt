use Rattle.std.proofs.Common.{◌≡◌, List, OnOk, get_or, sym, ap, ◌∙◌, subst, arith}
use Rattle.formula.specs.Atoms.{is_among}
use Rattle.fort_syntax.specs.declared.name.Name.{Name}
use Rattle.fort_model.specs.CallRules.{bare_names}
use Rattle.name_tables.specs.Sets.{with_names}
use Rattle.smash_table.specs.Callers.{unit_of, program_of}
use Rattle.smash_table.proofs.Seen.{seen_in_more}
use Rattle.smash_table.proofs.Steps.{call_added}
use Rattle.smash_table.proofs.sites.add_call.Goals as goal

pub add_commons-requires-clause-seen : goal.add_commons-requires-clause-seen
add_commons-requires-clause-seen c =
    seen_in_more (program_of c.args.caller.now) (unit_of c.args.caller.now) c.args.found.now.seen c.args.found.now.set c.add_actuals.new.set
    (bare_names (λ d. is_among d (get_or c.args.caller.now.rows.now c.args.number c.index-caller-number.result)) c.as_slice-dummies.result.now c.args.actuals.now) c.requires.seen c.in-Ok.ensures

pub returns-clause-names : goal.returns-clause-names
returns-clause-names c =
    subst (λ (xs : List Name). OnOk c.add_commons.result (c.add_commons.new.found.set ≡ xs))
    (call_added c.args.caller.now.deck.now.units.now c.args.caller.now.rows.now (unit_of c.args.caller.now) c.args.number c.book.result.now.unit.now c.index-caller-number.result
    c.book.ensures (omega (arith, c.requires.long, c.requires.within)) c.index-caller-number.is c.args.found.now.set c.add_actuals.new.set c.as_slice-dummies.result.now c.args.actuals.now
    (c.in-Ok.ensures ∙ ap (λ (row : List Name). with_names c.args.found.now.set (bare_names (λ d. is_among d row) c.as_slice-dummies.result.now c.args.actuals.now)) (sym c.index-caller-number.is))
    c.as_slice-dummies.ensures)
    c.add_commons.ensures.names
