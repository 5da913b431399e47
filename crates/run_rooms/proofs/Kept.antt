-- The oldest of some items.
use Rattle.std.proofs.Common.{◌≡◌, ℕ, ◌-◌, ◌++◌, List, length, take, drop, reverse, sym, ap, ◌∙◌, ◌<◌, ◌≤◌, slice_index_or, arith}
use Rattle.std.proofs.lemmas.List.{reverse-append, take-append-drop, length-drop, drop_at, length-reverse, get_or-reverse, get_or_past}
use Rattle.run_rooms.specs.Roomy.{oldest}

pub kept : {X : Type 0} (n : ℕ) (xs : List X) → reverse (take n xs) ≡ oldest n (reverse xs)
kept n xs =
    let parts : reverse xs ≡ reverse (drop n xs) ++ reverse (take n xs) = ap reverse (sym (take-append-drop n xs)) ∙ reverse-append (take n xs) (drop n xs) in
    let long : length (reverse (drop n xs)) ≡ length (reverse xs) - n = length-reverse (drop n xs) ∙ length-drop n xs ∙ ap (λ k. k - n) (sym (length-reverse xs)) in
    sym (ap (drop (length (reverse xs) - n)) parts ∙ drop_at (reverse (drop n xs)) (reverse (take n xs)) (length (reverse xs) - n) long)

-- the item so many below the newest
pub below : {X : Type 0} (xs : List X) (depth : ℕ) (other : X) → depth < length xs → slice_index_or (reverse xs) depth other ≡ slice_index_or xs (length xs - 1 - depth) other
below xs depth other h = get_or-reverse xs depth other h

pub none_below : {X : Type 0} (xs : List X) (depth : ℕ) (other : X) → length xs ≤ depth → slice_index_or (reverse xs) depth other ≡ other
none_below xs depth other h = get_or_past (reverse xs) depth other (let long : length (reverse xs) ≡ length xs = length-reverse xs in omega arith)
