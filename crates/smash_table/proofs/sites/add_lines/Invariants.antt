use Rattle.std.proofs.Common.{◌≡◌, drop}
use Rattle.std.specs.Prelude.{flat_map}
use Rattle.name_tables.specs.Sets.{with_names}
use Rattle.smash_table.specs.Callers.{unit_of, program_of}
use Rattle.smash_table.specs.Seen.{AreSeen}
use Rattle.smash_table.specs.Smashed.{stmt_names}
use Rattle.smash_table.proofs.sites.add_lines.Given as goal

abbrev pub invariant-loop-line : goal.invariant-loop-line
invariant-loop-line l = record {
  names : with_names l.found.set (flat_map (λ line. stmt_names (program_of l.caller) (unit_of l.caller) line.stmt) (drop l.line-index l.lines))
      ≡ with_names l.initial.found.set (flat_map (λ line. stmt_names (program_of l.caller) (unit_of l.caller) line.stmt) l.lines);
  seen : AreSeen (program_of l.caller) (unit_of l.caller) l.found.seen l.found.set;
}
