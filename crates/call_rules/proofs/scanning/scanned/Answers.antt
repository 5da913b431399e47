use Rattle.std.proofs.Common.{◌+◌, drop, ap, ◌∙◌}
use Rattle.call_rules.specs.Scanned.{scan}
use Rattle.call_rules.proofs.ScannedUnits.{scan_found, scan_passed}
use Rattle.call_rules.proofs.scanning.scanned.Goals as goal

pub returns-in-Some : goal.returns-in-Some
returns-in-Some c =
    let units = c.args.deck.now.units.now in
    scan_found units c.loop-i.taken.blocks c.args.taken.now.blocks c.loop-i.taken.recursive c.args.taken.now.recursive c.loop-i.taken.earlier c.loop-i.i
    c.book-book.result.now.unit.now c.in-Ok.fault c.in-Some.fault c.book-book.ensures c.loop-i.invariant.blocks c.loop-i.invariant.recursive c.in-Ok.ensures c.in-Some.is
    ∙ c.loop-i.invariant.rest

pub loop-i-preserved : goal.loop-i-preserved
loop-i-preserved c =
    let units = c.args.deck.now.units.now in
    record {
      blocks = c.loop-i.invariant.blocks;
      recursive = c.loop-i.invariant.recursive;
      rest =
          ap (λ names. scan units c.args.taken.now.blocks c.args.taken.now.recursive names (c.loop-i.i + 1) (drop (c.loop-i.i + 1) units)) c.in-Ok-add.ensures.after
          ∙ scan_passed units c.loop-i.taken.blocks c.args.taken.now.blocks c.loop-i.taken.recursive c.args.taken.now.recursive c.loop-i.taken.earlier c.loop-i.i
          c.book-book.result.now.unit.now c.in-Ok.fault c.book-book.ensures c.loop-i.invariant.blocks c.loop-i.invariant.recursive c.in-Ok.ensures c.in_default-fault.is
          ∙ c.loop-i.invariant.rest;
    }
