use Rattle.std.proofs.Common.{◌≡◌, ◌+◌, ◌≤◌, length, ap, arith}
use Rattle.path_cut.specs.Cursor.{ways_left}
use Rattle.path_cut.specs.Ways.{ways_of}
use Rattle.size_tallies.specs.Totals.{with_ways}
use Rattle.weight_calls.specs.Programs.{seen_program}
use Rattle.weight_calls.specs.Subjects.{sight_of}
use Rattle.measure.specs.Sizes.{sizes_of}
use Rattle.measure.proofs.weighing.with_paths.Goals as goal

pub loop-init : goal.loop-init
loop-init c =
    let s = c.args.course.now.subject.now in
    let paths = c.in-Ok.paths in
    let all : length (ways_left paths) ≡ length (ways_of c.args.graph.now) = ap length c.in-Ok.ensures in
    let few : c.args.totals.paths + length (ways_of c.args.graph.now) ≤ 4096 = c.requires.few in
    record {
      left = omega arith;
      few = omega (arith, all, few);
      told = ap (with_ways (seen_program s.pool.now s.scene.now) s.number s.book.now.unit.now (sizes_of c.args.totals)) c.in-Ok.ensures;
      front = c.new-front.ensures (sight_of s) paths.course.steps.items (length paths.course.steps.items);
    }
