-- What a hasher with two keys computes.
use Rattle.std.specs.Prelude.{ℕ, zero, suc, ◌+◌, ◌-◌, ◌*◌, ◌/◌, ◌%◌, ◌^◌, List, length, if◌then◌else◌, nat_le, nat_lt, slice_index, bit_and, bit_or, bit_xor}
use Rattle.edge_io.specs.declared.hashing.KeyedHasher.{KeyedHasher}

-- a hasher with these keys that has taken nothing
unfoldable pub keyed : ℕ → ℕ → KeyedHasher
keyed key0 key1 = record { state = key0; factor = key1 }

-- the two halves of the 128 bits of a * b, joined by exclusive or
unfoldable pub folded : ℕ → ℕ → ℕ
folded a b = bit_xor (bit_and (a * b) (2 ^ 64 - 1)) (a * b / 2 ^ 64)

-- the four bytes from i on, the lowest first
unfoldable pub four_bytes : List ℕ → ℕ → ℕ
four_bytes bs i = slice_index bs i + slice_index bs (i + 1) * 256 + slice_index bs (i + 2) * 65536 + slice_index bs (i + 3) * 16777216

-- x moved to the left, in 64 bits
abbrev pub moved : ℕ → ℕ → ℕ
moved x by = (x * 2 ^ by) % 2 ^ 64

-- the eight bytes from i on, the lowest first
unfoldable pub eight_bytes : List ℕ → ℕ → ℕ
eight_bytes bs i = bit_or (four_bytes bs i) (moved (four_bytes bs (i + 4)) 32)

-- the bytes from i on, at most eight, as one number
unfoldable pub last_bytes : List ℕ → ℕ → ℕ
last_bytes bs i =
    let n = length bs in
    let rest = n - i in
    if nat_le 4 rest then bit_or (four_bytes bs i) (moved (four_bytes bs (n - 4)) 32)
    else (if nat_lt 0 rest then bit_or (bit_or (slice_index bs i) (moved (slice_index bs (i + rest / 2)) 8)) (moved (slice_index bs (n - 1)) 16) else 0)

-- the state after the first n groups of eight bytes
unfoldable pub grouped : List ℕ → ℕ → ℕ → ℕ → ℕ
grouped bs factor state zero = state
grouped bs factor state (suc n) = folded (bit_xor (grouped bs factor state n) (eight_bytes bs (8 * n))) factor

-- the hasher after some bytes: whole groups while more than eight are left, and then the rest together with the length
unfoldable pub write : KeyedHasher → List ℕ → KeyedHasher
write h bs =
    let n = length bs in
    let whole = (n - 1) / 8 in
    record h { state = folded (bit_xor (grouped bs h.factor h.state whole) (last_bytes bs (8 * whole))) (bit_xor h.factor n) }

-- the hash of what was taken
abbrev pub finish : KeyedHasher → ℕ
finish h = folded h.state h.factor
