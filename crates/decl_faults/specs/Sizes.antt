-- What one pass over dimensions finds.
use Rattle.std.specs.Prelude.{ℕ, ◌*◌, nat_lt, Bool, true, false, cond, List, [], ◌∷◌}
use Rattle.fort_syntax.specs.declared.stmt.Dim.{Dim}
use Rattle.fort_syntax.specs.declared.stmt.Dim.TheVariants.{Fixed, Named}

-- so many elements and those of the dimensions that are constants pass 1,000,000 somewhere
abbrev pub passes : ℕ → List Dim → Bool
passes size [] = false
passes size (Fixed n ∷ dims) = cond (nat_lt 1000000 (size * n)) true (passes (size * n) dims)
passes size (Named x ∷ dims) = passes size dims
