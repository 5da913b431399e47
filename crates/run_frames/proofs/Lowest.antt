-- The oldest of some items.
use Rattle.std.proofs.Common.{◌≡◌, ℕ, ◌-◌, List, length, drop, ap, arith}
use Rattle.std.proofs.lemmas.List.{length-drop}
use Rattle.run_frames.specs.Frames.{lowest}

pub lowest_all : {X : Type 0} (vs : List X) → lowest (length vs) vs ≡ vs
lowest_all vs = ap (λ k. drop k vs) (let same : length vs - length vs ≡ 0 = omega arith in same)

pub lowest_twice : {X : Type 0} (n : ℕ) (vs : List X) → lowest n (lowest n vs) ≡ lowest n vs
lowest_twice n vs =
    let long : length (lowest n vs) ≡ length vs - (length vs - n) = length-drop (length vs - n) vs in
    ap (λ k. drop k (lowest n vs)) (let same : length (lowest n vs) - n ≡ 0 = omega arith in same)
