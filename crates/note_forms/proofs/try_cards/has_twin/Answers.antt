use Rattle.std.proofs.Common.{rules, arith, ◌≡◌, ◌∙◌, ◌-◌, ◌<◌, suc, true, false, not, sym, drop, get_or, length}
use Rattle.formula.specs.Atoms.{is_among}
use Rattle.note_forms.proofs.Twins.{symbols, symbol_at, was_among, was_new, twin_found, seen_next, differ_next}
use Rattle.note_forms.proofs.try_cards.has_twin.Goals as goal

pub returns-then-not-new : goal.returns-then-not-new
returns-then-not-new c =
    let sheet = c.args.sheet.now in
    let i = c.loop-left.left - 1 in
    let e = get_or sheet i c.index-sheet-left.result in
    let within = c.loop-left.invariant.within in
    let lt : i < length sheet = omega arith in
    let next : c.loop-left.left ≡ suc i = omega arith in
    let among : is_among e.0 c.loop-left.seen ≡ true = was_among (is_among e.0 c.loop-left.seen) c.in_ok-new.new c.in_ok-new.ensures.new (search rules) in
    sym (twin_found (symbols sheet) i c.loop-left.left e.0 c.loop-left.seen next (symbol_at sheet i c.index-sheet-left.result lt) c.loop-left.invariant.seen among)

pub loop-left-preserved : goal.loop-left-preserved
loop-left-preserved c =
    let sheet = c.args.sheet.now in
    let i = c.loop-left.left - 1 in
    let e = get_or sheet i c.index-sheet-left.result in
    let within = c.loop-left.invariant.within in
    let lt : i < length sheet = omega arith in
    let next : c.loop-left.left ≡ suc i = omega arith in
    let here = symbol_at sheet i c.index-sheet-left.result lt in
    let new : is_among e.0 c.loop-left.seen ≡ false = was_new (is_among e.0 c.loop-left.seen) c.in_ok-new.new c.in_ok-new.ensures.new (search rules) in
    record {
      within = omega arith;
      seen = seen_next (symbols sheet) i c.loop-left.left e.0 c.loop-left.seen next here c.loop-left.invariant.seen c.add.new.self c.in_ok-new.ensures.names new;
      differ = differ_next (symbols sheet) i c.loop-left.left e.0 c.loop-left.seen next here c.loop-left.invariant.seen new c.loop-left.invariant.differ;
    }
