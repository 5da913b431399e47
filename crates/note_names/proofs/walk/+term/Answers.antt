use Rattle.std.proofs.Common.{rules, arith, ◌≡◌, ◌<◌, length, ap, sym, ◌∙◌}
use Rattle.formula.specs.Pool.{AllBelow, row_in, tree_in, tree_of, trees}
use Rattle.formula.proofs.Growth.{AllBelow-more}
use Rattle.note_names.proofs.Sizes.{size, row_size, argument_smaller, argument_within}
use Rattle.note_names.proofs.walk.+term.Goals as goal

pub passes-row_passes-requires : goal.passes-row_passes-requires
passes-row_passes-requires t c =
    let pool = c.args.pool.now in
    let below : AllBelow c.args.id.place c.as_slice.result.now = search rules in
    let lt = c.requires in
    let within : AllBelow (length pool) c.as_slice.result.now = AllBelow-more c.args.id.place (length pool) c.as_slice.result.now (omega arith) below in
    search rules

pub row_passes-passes-requires : goal.row_passes-passes-requires
row_passes-passes-requires t c =
    let pool = c.args.pool.now in
    let ids = c.args.args.now in
    let lt : c.loop-i.i < length ids = search rules in
    let smaller = argument_smaller (trees pool) ids c.loop-i.i (record { place = 0 }) lt in
    let within = argument_within (length pool) ids c.loop-i.i (record { place = 0 }) c.requires lt in
    search rules
