-- Which units have a flow.
use Rattle.std.specs.Prelude.{◌≡◌, ◌<◌, [], length}
use Rattle.fort_syntax.specs.WellFormed.{IsWellFormedUnit}
use Rattle.fort_syntax.specs.declared.dialect.Dialect.{Dialect}
use Rattle.fort_syntax.specs.declared.unit.Unit.{Unit as Routine}
use Rattle.fort_model.specs.Ranges.{has_bad_last}
use Rattle.fort_model.specs.Rules.{at_lines}
use Rattle.flow_tests.specs.Tests.{IsFlowing}

-- a unit that is well formed and keeps rule 26, on the last statements of DOs, has a flow; its statements are
-- few enough to be numbered
abbrev pub UnitsFlow : Type 0
UnitsFlow = (dialect : Dialect) (u : Routine) → IsWellFormedUnit dialect u → at_lines u (has_bad_last u) ≡ []
    → length u.lines < 1073741824 → IsFlowing u
