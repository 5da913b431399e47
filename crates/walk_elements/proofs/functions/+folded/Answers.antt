use Rattle.std.proofs.Common.{arith, get_or, length}
use Rattle.std.proofs.lemmas.Grind.{common_steps}
use Rattle.formula.proofs.Grown.{AllBelow-Grows}
use Rattle.walk_places.proofs.ShapeRows.{below_parts, first_rest}
use Rattle.walk_elements.proofs.Checks.{fold_step}
use Rattle.walk_elements.proofs.functions.+folded.Goals as goal

pub folded-requires : goal.folded-requires
folded-requires t c =
    let p0 = c.args.pool.now in
    let ids = c.args.others.now in
    let parts = first_rest ids (record { place = 0 }) c.in-len1-up.len_at_least in (
      grind (arith, common_steps, c.decreases, c.in-len1-up.len_at_least),
      (
        c.in_ok-both.ensures.is_in,
        AllBelow-Grows p0 c.greater_or_less.new.pool _ c.greater_or_less.ensures.grows (below_parts (length p0) ids _ (get_or ids 0 (record { place = 0 })) parts c.requires.others).1,
      ),
    )

pub returns-clause-tree : goal.returns-clause-tree
returns-clause-tree t c p i u =
    let ids = c.args.others.now in
    fold_step c.args.pool.now c.greater_or_less.new.pool p i u c.args.is_greatest c.args.first (get_or ids 0 (record { place = 0 })) c.in_ok-both.both ids _ _ c.requires.others c.greater_or_less.ensures.grows
    (first_rest ids (record { place = 0 }) c.in-len1-up.len_at_least) c.in_ok-both.ensures.tree (c.in_ok-whole.ensures.tree p i u)
