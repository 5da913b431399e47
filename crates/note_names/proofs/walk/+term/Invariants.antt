use Rattle.std.proofs.Common.{◌≡◌, drop}
use Rattle.formula.specs.Pool.{trees, tree_of, row_in}
use Rattle.formula.specs.TermTests.{row_names_pass}
use Rattle.note_names.specs.NameTests.{now_passes, entry_passes}
use Rattle.note_names.proofs.Sizes.{size, row_size}
use Rattle.note_names.proofs.walk.+term.Given as goal

abbrev pub decreases-passes : goal.decreases-passes
decreases-passes l = size (tree_of l.pool.now l.id)

abbrev pub decreases-row_passes : goal.decreases-row_passes
decreases-row_passes l = row_size (row_in (trees l.pool.now) l.args.now)

-- the arguments from `i` on decide
abbrev pub invariant-row_passes-loop-i : goal.invariant-row_passes-loop-i
invariant-row_passes-loop-i l =
    row_names_pass (now_passes l.test l.roles) (entry_passes l.test l.roles) (row_in (trees l.pool) (drop l.i l.args))
    ≡ row_names_pass (now_passes l.test l.roles) (entry_passes l.test l.roles) (row_in (trees l.pool) l.args)
