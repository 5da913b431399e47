use Rattle.std.proofs.Common.{arith, get_or, length}
use Rattle.std.proofs.lemmas.Grind.{common_steps}
use Rattle.formula.proofs.Grown.{AllBelow-Grows}
use Rattle.walk_places.proofs.ShapeRows.{below_parts, first_item, first_rest}
use Rattle.walk_elements.proofs.Checks.{check_step}
use Rattle.walk_elements.proofs.subscripts.+check_subscripts.Goals as goal

pub check_subscripts-requires : goal.check_subscripts-requires
check_subscripts-requires t c =
    let w0 = c.args.walk.now in
    let ids = c.args.subscripts.now in
    let parts = first_rest ids (record { place = 0 }) c.in-len1-up.len_at_least in (
      grind (arith, common_steps, c.decreases, c.in-len1-up-dims.len_at_least),
      (
        c.check_subscript.ensures.on.kept,
        AllBelow-Grows w0.pool c.check_subscript.new.walk.pool _ c.check_subscript.ensures.on.grows (below_parts (length w0.pool) ids _ (get_or ids 0 (record { place = 0 })) parts c.requires.subscripts).1,
      ),
    )

pub returns-clause-met : goal.returns-clause-met
returns-clause-met t c =
    let w0 = c.args.walk.now in
    let ids = c.args.subscripts.now in
    check_step w0 c.check_subscript.new.walk c.check_subscripts.new.walk c.args.card (get_or ids 0 (record { place = 0 })) c.dim-item.result ids _ c.args.dims.now _ c.requires.subscripts
    c.check_subscript.ensures.on.grows (first_rest ids (record { place = 0 }) c.in-len1-up.len_at_least) (first_item c.args.dims.now c.dim-item.result c.in-len1-up-dims.len_at_least c.dim-item.is)
    c.in_ok-check_subscript.ensures.met c.in_ok-check_subscripts.ensures.met
