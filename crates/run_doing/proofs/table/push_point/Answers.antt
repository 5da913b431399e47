use Rattle.std.proofs.Common.{◌≡◌, length, slice_get}
use Rattle.std.specs.Prelude.{None}
use Rattle.std.proofs.lemmas.Option.{slice_get_past}
use Rattle.run_doing.proofs.Tabled.{none_over, none_tested}
use Rattle.run_doing.proofs.table.push_point.Goals as goal

pub returns-in-None-clause-tests : goal.returns-in-None-clause-tests
returns-in-None-clause-tests c =
    let none : slice_get c.args.lines.now c.args.at ≡ None = slice_get_past c.args.lines.now c.args.at c.in-None.ensures.lookup.3 in
    none_tested c.args.scope.now.names.now c.args.at (slice_get c.args.lines.now c.args.at) c.args.table.now.tests.items none

pub returns-in-None-clause-over : goal.returns-in-None-clause-over
returns-in-None-clause-over c =
    let none : slice_get c.args.lines.now c.args.at ≡ None = slice_get_past c.args.lines.now c.args.at c.in-None.ensures.lookup.3 in
    none_over (length c.args.table.now.tests.items) c.args.at (slice_get c.args.lines.now c.args.at) c.args.table.now.over.items none
