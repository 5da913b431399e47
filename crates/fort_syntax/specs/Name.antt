-- Names: a length and an array whose rest is zero, which stand for the bytes of that length.
use Rattle.std.specs.Prelude.{ℕ, ◌-◌, ◌≤◌, ◌≡◌, List, ◌++◌, length, take, drop, replicate}
use Rattle.std.proofs.Common.{sym, ap, ◌∙◌, arith}
use Rattle.std.proofs.lemmas.List.{take-append-drop, length-take}
use Rattle.fort_syntax.specs.declared.name.Name.TheInside.{Inside}

-- the bytes of a name
abbrev pub name_bytes : Inside → List ℕ
name_bytes n = take n.len n.bytes

-- a name has 1 to 6 bytes, and those behind them are zero
abbrev pub IsName : Inside → Type 0
IsName n = (1 ≤ n.len) × (n.len ≤ 6) × (length n.bytes ≡ 6) × (drop n.len n.bytes ≡ replicate (6 - n.len) 0)

-- the name of some bytes
abbrev pub name_of : List ℕ → Inside
name_of bs = record { len = length bs; bytes = bs ++ replicate (6 - length bs) 0 }

padded : (cap len : ℕ) (bytes : List ℕ) → len ≤ cap → length bytes ≡ cap → drop len bytes ≡ replicate (cap - len) 0
    → (length (take len bytes) ≡ len) × (take len bytes ++ replicate (cap - length (take len bytes)) 0 ≡ bytes)
padded cap len bytes le same rest =
    let short : length (take len bytes) ≡ len = simp length-take (omega arith) in (
      short,
      ap (λ n. take len bytes ++ replicate (cap - n) 0) short ∙ ap (λ r. take len bytes ++ r) (sym rest)
          ∙ take-append-drop len bytes,
    )

-- the bytes of a name give the word back
pub name_of_bytes : (a : Inside) → IsName a → name_of (name_bytes a) ≡ a
name_of_bytes a h = let p = padded 6 a.len a.bytes h.1 h.2 h.3 in λ i. record { len = p.0 i; bytes = p.1 i }
