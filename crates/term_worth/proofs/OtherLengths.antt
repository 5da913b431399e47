-- Lists of cells of two lengths.
use Rattle.std.proofs.Common.{◌≡◌, suc, Bool, true, false, ◌&&◌, List, [], ◌∷◌, length, refl, ap, ◌∙◌}
use Rattle.formula.specs.declared.value.Cell.{Cell}
use Rattle.formula.specs.Values.{same_cell, same_cells}

not_both : (b : Bool) → (b && false) ≡ false
not_both true = refl
not_both false = refl

pub other_lengths : (xs ys : List Cell) → ¬ (length xs ≡ length ys) → same_cells xs ys ≡ false
other_lengths [] [] other = absurd (other refl)
other_lengths [] (b ∷ ys) other = refl
other_lengths (a ∷ xs) [] other = refl
other_lengths (a ∷ xs) (b ∷ ys) other =
    ap (λ r. same_cell a b && r) (other_lengths xs ys (λ e. other (ap suc e))) ∙ not_both (same_cell a b)
