use Rattle.std.proofs.Common.{◌≡◌, suc, ◌-◌, ◌<◌, List, [], drop, length, subst, sym, arith}
use Rattle.std.proofs.lemmas.Grind.{common_steps}
use Rattle.entry_frames.specs.Entries.{AreGoodShapes}
use Rattle.entry_frames.proofs.Entered.{entered_more, entered_none, shape_at}
use Rattle.fort_syntax.specs.declared.unit.DataName.{DataName}
use Rattle.entry_frames.proofs.entry.entry_names.Goals as goal

none_left : (ds : List DataName) → drop (length ds) ds ≡ []
none_left ds = grind (arith, common_steps)

pub loop-left-init : goal.loop-left-init
loop-left-init c = record {
  within = omega arith;
  entered = entered_none c.args.pool.now c.args.names.now _ c.requires.kept c.requires.first (none_left c.as_slice-entities.result.now);
}

pub set_entry-requires-clause-shape : goal.set_entry-requires-clause-shape
set_entry-requires-clause-shape c =
    let ds = c.as_slice-entities.result.now in
    let lt : c.loop-left.left - 1 < length ds = omega (arith, c.loop-left.invariant.within, c.loop-left-test.true) in
    shape_at ds (c.loop-left.left - 1) c.index-entities-left.result (subst AreGoodShapes (sym c.as_slice-entities.ensures) c.requires.shapes) lt c.index-entities-left.is

pub loop-left-preserved : goal.loop-left-preserved
loop-left-preserved c =
    let ds = c.as_slice-entities.result.now in
    let k = c.loop-left.left - 1 in
    let lt : k < length ds = omega (arith, c.loop-left.invariant.within, c.loop-left-test.true) in
    let next : c.loop-left.left ≡ suc k = omega (arith, c.loop-left-test.true) in
    record {
      within = omega (arith, c.loop-left.invariant.within);
      entered =
          entered_more c.args.pool.now c.loop-left.pool c.set_entry.new.pool c.args.names.now c.loop-left.names c.set_entry.new.names ds k c.loop-left.left c.index-entities-left.result
          c.loop-left.invariant.entered c.in-Ok.ensures lt c.index-entities-left.is next;
    }
