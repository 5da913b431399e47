use Rattle.std.proofs.Common.{◌≡◌, ◌+◌, ◌<◌, length, get_or, refl, sym, ap, ◌∙◌, rules, arith}
use Rattle.std.proofs.lemmas.Grind.{get_or_default_zero}
use Rattle.fort_syntax.specs.declared.unit.Line.{Line}
use Rattle.fort_model.specs.Flow.{part_of, is_close}
use Rattle.unit_points.proofs.Scanning.{opened_in, close_outer}
use Rattle.unit_points.proofs.scan.Scan.end.Goals as goal

pub returns-in-Opens : goal.returns-in-Opens
returns-in-Opens c =
    let inside : c.args.at + 1 < length c.args.self.now.ends.items = omega arith in
    let read : c.index.result.now ≡ get_or c.args.self.now.ends.items (c.args.at + 1) c.index.result.now = search rules in
    let given : c.index.result.now ≡ get_or c.args.self.now.ends.items (c.args.at + 1) 0 =
    read ∙ get_or_default_zero c.args.self.now.ends.items (c.args.at + 1) c.index.result.now inside in
    opened_in is_close close_outer c.args.lines.now c.args.at c.index-lines-at.result c.as_slice.result.now c.args.self.now.ends.items c.args.self.now.ends.items c.behind.result c.index.result.now
    c.as_slice.ensures.value c.requires.at c.index-lines-at.is (c.in-Opens.ensures ∙ ap (λ (l : Line). part_of l.stmt) (sym c.index-lines-at.is)) refl
    c.requires.scanned.ends_long c.requires.scanned.ends c.requires.scanned.ends given c.behind.ensures.at c.behind.ensures.past
