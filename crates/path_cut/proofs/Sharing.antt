-- Which first items stay.
use Rattle.std.proofs.Common.{◌≡◌, ℕ, ◌≤◌, List, take, sym, ap, ◌∙◌}
use Rattle.std.proofs.lemmas.List.{take-take}

-- lists with the same first items have the same fewer first items
pub take_fewer : {A : Type 0} (n m : ℕ) (xs ys : List A) → n ≤ m → take m xs ≡ take m ys → take n xs ≡ take n ys
take_fewer n m xs ys le e = sym (take-take n m xs le) ∙ ap (λ zs. take n zs) e ∙ take-take n m ys le
