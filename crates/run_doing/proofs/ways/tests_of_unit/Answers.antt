use Rattle.std.proofs.Common.{◌≡◌, length, suc, ap, ◌∙◌, subst, arith}
use Rattle.run_coding.specs.Scopes.{unit_of}
use Rattle.run_doing.specs.Rounds.{HasTestsTo}
use Rattle.run_doing.proofs.Tabled.{overs_to_long}
use Rattle.run_doing.proofs.ways.tests_of_unit.Goals as goal

pub push_piece-requires-clause-long : goal.push_piece-requires-clause-long
push_piece-requires-clause-long c =
    let long : length c.loop-point.table.over.items ≡ length (unit_of c.args.ways.now.scope.now).lines =
    ap length c.loop-point.invariant.over ∙ overs_to_long (unit_of c.args.ways.now.scope.now) c.args.ways.now.scope.now.names.now c.loop-point.point in
    omega arith

pub returns : goal.returns
returns c =
    let u = unit_of c.args.ways.now.scope.now in
    let long : length c.as_slice-count.result.now ≡ length u.lines = ap length c.as_slice-count.ensures in
    let whole : c.loop-point.point ≡ suc (length u.lines) = omega arith in
    subst (λ n. HasTestsTo u c.args.ways.now.scope.now.names.now n c.loop-point.table) whole c.loop-point.invariant
