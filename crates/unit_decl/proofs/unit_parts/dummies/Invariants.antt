use Rattle.std.proofs.Common.{◌≡◌, ◌++◌, drop}
use Rattle.fort_syntax.specs.Units.{dummies_of}
use Rattle.unit_decl.proofs.unit_parts.dummies.Given as goal

abbrev pub invariant-loop-line : goal.invariant-loop-line
invariant-loop-line l = (l.all.items ++ dummies_of (drop l.line-index l.unit)) ≡ dummies_of l.unit
