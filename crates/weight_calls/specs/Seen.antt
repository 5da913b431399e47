-- What the names of a called unit weigh.
use Rattle.std.specs.Prelude.{ℕ, cond, List, [], ◌∷◌}
use Rattle.formula.specs.Atoms.{is_among}
use Rattle.fort_syntax.specs.Names.{is_in_common}
use Rattle.fort_syntax.specs.declared.name.Name.{Name}
use Rattle.fort_syntax.specs.declared.unit.DataName.{DataName}
use Rattle.fort_model.specs.Seen.{Named}
use Rattle.fort_model.specs.WalkStmt.{with_name}

-- some names weigh 1, and the others what they weighed
abbrev pub changed_by : List Name → Named ℕ → Named ℕ
changed_by smashed now x = cond (is_among x smashed) 1 (now x)

-- a COMMON entity weighs what it does for the caller
abbrev pub data_weight : Named ℕ → DataName → ℕ
data_weight now d = cond (is_in_common d.role) (now d.name) 1

-- data names in front of others
abbrev pub by_names : Named ℕ → List DataName → Named ℕ → Named ℕ
by_names now [] other = other
by_names now (d ∷ ds) other = with_name (by_names now ds other) d.name (data_weight now d)
