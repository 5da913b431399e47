use Rattle.std.proofs.Common.{◌≡◌, drop, length, subst, ap, ◌∙◌, arith}
use Rattle.std.specs.Option.{unwrap_or}
use Rattle.std.specs.Ordering.{nat_cmp}
use Rattle.std.specs.BTreeMap.{get}
use Rattle.unit_points.specs.Labels.{place_from}
use Rattle.unit_points.proofs.Places.{placed_first}
use Rattle.unit_points.proofs.labels.Labels.new.Goals as goal

pub returns : goal.returns
returns c = λ label.
    let first : c.loop-i.i ≡ 0 = omega arith in
    let found = subst (λ n. get nat_cmp c.loop-i.places label ≡ place_from n (drop n c.args.lines.now) label) first (c.loop-i.invariant label) in
    ap (λ o. unwrap_or o (length c.args.lines.now)) found ∙ placed_first c.args.lines.now label
