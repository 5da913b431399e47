-- The worth of a term with terms put for its names.
use Rattle.std.proofs.Common.{◌≡◌, ℕ, List, ◌∷◌, refl, ap}
use Rattle.formula.specs.Substitution.{substituted, row_substituted}
use Rattle.formula.specs.SubstitutionLaws.{worths_put}
use Rattle.formula.specs.Tree.{Tree, num, truth, symbol, old, apply, Row, none, more}
use Rattle.formula.specs.Worth.{Uses, Valuation, function_worth, worth_by, worths_by}

mutual
  pub put_worth : (uses : Uses) (symbols entries : Valuation) (f g : List ℕ → Tree) (t : Tree)
      → worth_by uses symbols entries (substituted f g t)
      ≡ worth_by uses (worths_put (worth_by uses symbols entries) f) (worths_put (worth_by uses symbols entries) g) t
  put_worth uses symbols entries f g (num z) = refl
  put_worth uses symbols entries f g (truth b) = refl
  put_worth uses symbols entries f g (symbol s) = refl
  put_worth uses symbols entries f g (old s) = refl
  put_worth uses symbols entries f g (apply h row) = ap (function_worth uses h) (put_worths uses symbols entries f g row)

  pub put_worths : (uses : Uses) (symbols entries : Valuation) (f g : List ℕ → Tree) (row : Row)
      → worths_by uses symbols entries (row_substituted f g row)
      ≡ worths_by uses (worths_put (worth_by uses symbols entries) f) (worths_put (worth_by uses symbols entries) g) row
  put_worths uses symbols entries f g none = refl
  put_worths uses symbols entries f g (more t rest) = λ i. put_worth uses symbols entries f g t i ∷ put_worths uses symbols entries f g rest i
