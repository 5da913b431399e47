use Rattle.std.proofs.Common.{◌≡◌, ◌++◌, drop}
use Rattle.fort_syntax.specs.Units.{executables}
use Rattle.unit_decl.proofs.unit_parts.lines.Given as goal

abbrev pub invariant-loop-line : goal.invariant-loop-line
invariant-loop-line l = (l.all.items ++ executables (drop l.line-index l.unit)) ≡ executables l.unit
