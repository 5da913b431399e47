use Rattle.std.proofs.Common.{◌≡◌, ◌≤◌, length, subst, sym, rules}
use Rattle.fort_model.specs.Flow.{target}
use Rattle.unit_tables.proofs.Points.{target_within}
use Rattle.unit_tables.proofs.label_points.LabelPoints.point.Goals as goal

pub returns-in-Some-clause-within : goal.returns-in-Some-clause-within
returns-in-Some-clause-within c =
    let e : c.in-Some.point.now ≡ target c.args.lines.now c.args.label = search rules in
    subst (λ k. k ≤ length c.args.lines.now) (sym e) (target_within c.args.lines.now c.args.label)
