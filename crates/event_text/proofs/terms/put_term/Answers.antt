use Rattle.std.proofs.Common.{◌≤◌, ◌+◌, ap, arith, length, map, subst, sym}
use Rattle.formula.specs.Pool.{tree_at, trees}
use Rattle.formula.specs.Facts.{depth}
use Rattle.event_text.specs.Depths.{deepest}
use Rattle.event_text.proofs.Depths.{depth_at}
use Rattle.event_text.specs.Rests.{pending}
use Rattle.event_text.proofs.Sent.{nears, nears_same}
use Rattle.event_text.proofs.terms.put_term.Goals as goal

pub begin_term-requires-clause-low : goal.begin_term-requires-clause-low
begin_term-requires-clause-low g c =
    let ts = trees c.args.pool.now in
    let here : depth (tree_at ts c.args.id.place) ≤ deepest ts = depth_at ts c.args.id.place in
    subst (λ bs. depth (tree_at ts c.args.id.place) + length bs ≤ deepest ts) (sym c.clear.ensures.brackets) (omega arith)

pub loop-bracket-preserved : goal.loop-bracket-preserved
loop-bracket-preserved g c =
    let names = map (λ d. d.name) c.args.definitions.now in
    record {
      room = omega (arith, c.loop-bracket.invariant.room, c.in-Some.ensures.room, c.go_on.ensures.room);
      nested = c.go_on.ensures.nested;
      nears = nears (nears_same (ap (pending names c.args.pool.now) c.in-Some.ensures.brackets) c.loop-bracket.invariant.nears) c.go_on.ensures.nears;
    }
