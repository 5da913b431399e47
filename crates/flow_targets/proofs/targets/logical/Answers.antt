use Rattle.flow_targets.proofs.Knowing.{known_grows, target_kept, behind_kept}
use Rattle.flow_targets.proofs.targets.logical.Goals as goal

pub on_behind-on-requires-clause-known : goal.on_behind-on-requires-clause-known
on_behind-on-requires-clause-known c = known_grows c.args.known.now 1 c.args.forks.now.items c.plain.new.forks.items c.in_ok-then.then c.in_ok-then.ensures.grown c.requires.known

pub to_either-requires-clause-known : goal.to_either-requires-clause-known
to_either-requires-clause-known c = known_grows c.args.known.now 1 c.args.forks.now.items c.plain.new.forks.items c.in_ok-then.then c.in_ok-then.ensures.grown c.requires.known

pub to_either-requires-clause-second : goal.to_either-requires-clause-second
to_either-requires-clause-second c = c.on_behind-on.ensures.one.within

pub returns-clause-target : goal.returns-clause-target
returns-clause-target c =
    let u = c.args.known.now.unit.now in
    let old = c.plain.new.forks.items in
    let new = c.to_either.new.forks.items in
    let x = c.in-Ok.ensures.grown.extends in (
      c.in_ok-then.then,
      c.on_behind-on.result,
      c.in-Ok.ensures.fork,
      target_kept old new x u c.args.at c.args.known.now.dialect c.args.stmt.now c.in_ok-then.then c.in_ok-then.ensures.target,
      behind_kept old new x u c.args.at c.on_behind-on.result c.on_behind-on.ensures.behind,
    )
