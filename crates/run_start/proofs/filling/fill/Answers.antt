use Rattle.std.proofs.Common.{◌≤◌, ◌<◌, length, ap, ◌∙◌, subst, sym, rules, ◌+◌, Option}
use Rattle.std.specs.Prelude.{unwrap_or}
use Rattle.fort_notes.specs.declared.cases.Given.{Given}
use Rattle.run_start.specs.Starts.{cells_or, is_given_in_range}
use Rattle.run_start.proofs.Holding.{filled_all, given_in_range, one_fits, roomy_is}
use Rattle.run_start.proofs.filling.fill.Goals as goal

pub fill_one-requires-clause-range : goal.fill_one-requires-clause-range
fill_one-requires-clause-range c =
    ap (is_given_in_range c.args.bounds.now) c.find.ensures ∙ given_in_range c.args.bounds.now c.args.entries.now.given.now c.index-names-k.result c.requires.range

pub fill_one-requires-clause-room : goal.fill_one-requires-clause-room
fill_one-requires-clause-room c =
    let a : c.loop-k.k < length c.args.names.now = search rules in
    let b : c.loop-k.k < length c.args.sizes.now = search rules in
    subst (λ (o : Option Given). length c.loop-k.pile.items + length (cells_or (unwrap_or c.size_at-size.result 0) o) ≤ c.loop-k.pile.room) (sym c.find.ensures)
    (one_fits c.args.entries.now.given.now c.args.names.now c.args.sizes.now c.loop-k.k c.loop-k.pile.room c.args.pile.now.room c.loop-k.pile.items c.args.pile.now.items c.index-names-k.result c.size_at-size.result a b
    c.index-names-k.is c.size_at-size.ensures c.loop-k.invariant.0 c.loop-k.invariant.1 c.requires.room)

pub returns-else-k-sizes : goal.returns-else-k-sizes
returns-else-k-sizes c =
    let h : length c.args.sizes.now ≤ c.loop-k.k = search rules in
    roomy_is c.loop-k.pile _ _ (filled_all c.args.entries.now.given.now c.args.names.now c.args.sizes.now c.loop-k.k c.loop-k.pile.items _ c.loop-k.invariant.0 h) c.loop-k.invariant.1
