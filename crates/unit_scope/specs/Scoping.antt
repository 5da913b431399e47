-- What a table of types and one of dimensions say of names.
use Rattle.std.specs.Prelude.{List, [], Option, Some, None}
use Rattle.formula.specs.Reading.{or_else}
use Rattle.fort_syntax.specs.Scopes.{Scope, sort_by_letter}
use Rattle.fort_syntax.specs.declared.stmt.Dim.{Dim}
use Rattle.unit_scope.specs.declared.scoped.Scoped.{Scoped}
use Rattle.name_tables.specs.Tables.{first_of}

abbrev pub dims_or : Option (List Dim) → List Dim → List Dim
dims_or (Some dims) last = dims
dims_or None last = last

abbrev pub scope_by : Scoped → Scope
scope_by s = record { sort = λ x. or_else (first_of s.types x) (sort_by_letter x); dims = λ x. dims_or (first_of s.shapes x) [] }
