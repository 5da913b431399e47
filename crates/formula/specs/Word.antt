-- Words: a length and an array whose rest is zero, which stand for the bytes of that length.
use Rattle.std.specs.Prelude.{ℕ, ◌-◌, ◌≤◌, ◌≡◌, List, ◌++◌, length, take, drop, replicate}
use Rattle.std.proofs.Common.{sym, ap, ◌∙◌, arith}
use Rattle.std.proofs.lemmas.List.{take-append-drop, length-take}
use Rattle.formula.specs.declared.word.Word.TheInside.{Inside}

-- the bytes of a word
abbrev pub word_bytes : Inside → List ℕ
word_bytes n = take n.len n.bytes

-- a word has 1 to 24 bytes, and those behind them are zero
abbrev pub IsWord : Inside → Type 0
IsWord n = (1 ≤ n.len) × (n.len ≤ 24) × (length n.bytes ≡ 24) × (drop n.len n.bytes ≡ replicate (24 - n.len) 0)

-- the word of some bytes
abbrev pub word_of : List ℕ → Inside
word_of bs = record { len = length bs; bytes = bs ++ replicate (24 - length bs) 0 }

padded : (cap len : ℕ) (bytes : List ℕ) → len ≤ cap → length bytes ≡ cap → drop len bytes ≡ replicate (cap - len) 0
    → (length (take len bytes) ≡ len) × (take len bytes ++ replicate (cap - length (take len bytes)) 0 ≡ bytes)
padded cap len bytes le same rest =
    let short : length (take len bytes) ≡ len = simp length-take (omega arith) in (
      short,
      ap (λ n. take len bytes ++ replicate (cap - n) 0) short ∙ ap (λ r. take len bytes ++ r) (sym rest)
          ∙ take-append-drop len bytes,
    )

-- the bytes of a word give the word back
pub word_of_bytes : (a : Inside) → IsWord a → word_of (word_bytes a) ≡ a
word_of_bytes a h = let p = padded 24 a.len a.bytes h.1 h.2 h.3 in λ i. record { len = p.0 i; bytes = p.1 i }
