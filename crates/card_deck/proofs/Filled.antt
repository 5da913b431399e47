-- A row of blanks whose front was written.
use Rattle.std.proofs.Common.{◌≡◌, ℕ, ◌-◌, List, ◌++◌, length, take, drop, min, ap, ◌∙◌, arith}
use Rattle.std.specs.Prelude.{replicate}
use Rattle.std.proofs.lemmas.List.{drop-replicate, take_min}
use Rattle.fort_syntax.specs.Cards.{columns}

front : (bytes : List ℕ) (n : ℕ) → n ≡ min (length bytes) 72 → take n bytes ≡ take 72 bytes
front bytes n same = let e : n ≡ min 72 (length bytes) = grind arith in ap (λ k. take k bytes) e ∙ take_min 72 bytes

behind : (bytes : List ℕ) (n : ℕ) → n ≡ min (length bytes) 72 → 72 - n ≡ 72 - length bytes
behind bytes n same = omega arith

pub filled : (bytes got : List ℕ) (n : ℕ) → n ≡ min (length bytes) 72 → got ≡ take n bytes
    → got ++ drop n (replicate 72 32) ≡ columns bytes
filled bytes got n same held =
    ap (λ f. f ++ drop n (replicate 72 32)) (held ∙ front bytes n same)
    ∙ ap (λ r. take 72 bytes ++ r) (drop-replicate n 72 32 ∙ ap (λ k. replicate k 32) (behind bytes n same))
