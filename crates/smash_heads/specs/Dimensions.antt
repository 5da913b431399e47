-- The name that a dimension is.
use Rattle.std.specs.Prelude.{List, [], ◌∷◌}
use Rattle.fort_syntax.specs.declared.name.Name.{Name}
use Rattle.fort_syntax.specs.declared.stmt.Dim.{Dim}
use Rattle.fort_syntax.specs.declared.stmt.Dim.TheVariants.{Fixed, Named}

abbrev pub names_in_dim : Dim → List Name
names_in_dim (Fixed n) = []
names_in_dim (Named x) = x ∷ []
