use Rattle.std.proofs.Common.{◌<◌, arith}
use Rattle.std.specs.Prelude.{get_or}
use Rattle.std.proofs.lemmas.Option.{slice_get-get_or}
use Rattle.stage_faults.proofs.Heads.{heads_are_above}
use Rattle.call_order.proofs.numbers.small.Goals as goal

pub prove-unreachable-requires : goal.prove-unreachable-requires
prove-unreachable-requires c =
    let units = c.args.units.now in
    let unit = get_or units c.args.number c.index-units-number.result in
    let above : c.args.number < unit.head =
    heads_are_above units c.requires.order.0 c.args.number unit c.requires.order.1 c.requires.order.2
    (slice_get-get_or units c.args.number c.index-units-number.result c.requires.number) in
    omega (arith, above, c.if-prove.true)
