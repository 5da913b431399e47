use Rattle.std.proofs.Common.{arith}
use Rattle.std.proofs.lemmas.Grind.{common_steps}
use Rattle.formula.proofs.Grown.{Grows-trans}
use Rattle.walk_names.proofs.NameTables.{names_grow}
use Rattle.walk_places.proofs.ShapeRows.{first_item, stretch_step}
use Rattle.walk_places.proofs.dims.+stretch_from.Goals as goal

pub stretch_from-requires : goal.stretch_from-requires
stretch_from-requires t c = (
  grind (arith, common_steps, c.decreases, c.in-len1-up.len_at_least),
  (names_grow _ _ _ (Grows-trans _ _ _ c.dim_term.ensures.grows c.binary.ensures.grows) c.requires.kept, c.in_ok-longer-in-len1-up.ensures.is_in),
)

pub returns-in_ok-whole-in-len1-up-clause-tree : goal.returns-in_ok-whole-in-len1-up-clause-tree
returns-in_ok-whole-in-len1-up-clause-tree t c =
    let parts = first_item c.args.dims.now c.first-item.result c.in-len1-up.len_at_least c.first-item.is in
    stretch_step c.args.pool.now c.dim_term.new.pool c.binary.new.self c.args.names.now c.args.product c.in_ok-dim-in-len1-up.dim c.in_ok-longer-in-len1-up.longer c.first-item.result c.args.dims.now _ _
    c.requires.kept c.requires.product c.dim_term.ensures.grows c.binary.ensures.grows c.in_ok-dim-in-len1-up.ensures.is_in parts c.in_ok-dim-in-len1-up.ensures.tree
    c.in_ok-longer-in-len1-up.ensures.tree c.in_ok-whole-in-len1-up.ensures.tree
