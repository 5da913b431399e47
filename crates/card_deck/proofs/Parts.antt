-- Bytes behind those of a card, in the whole deck.
use Rattle.std.proofs.Common.{◌≡◌, ℕ, ◌+◌, ◌-◌, ◌≤◌, ◌<◌, List, [], ◌∷◌, ◌++◌, length, take, drop, suc, drop-cons, take-suc, get_or-drop, length-drop, ap, sym, ◌∙◌, arith, refl}
use Rattle.std.specs.Prelude.{get_or, if◌then◌else◌, ◌==◌, Bool, true, false}
use Rattle.std.specs.Cmp.{unsigned_Decides}
use Rattle.fort_syntax.specs.Cards.{cards_from, columns, without_return}
use Rattle.card_deck.specs.Reading.{part}

-- the bytes of the card with one byte more
longer : (bytes : List ℕ) (start at : ℕ) → start ≤ at → at < length bytes → part bytes start at ++ get_or bytes at 0 ∷ [] ≡ part bytes start (at + 1)
longer bytes start at started within =
    let count : at + 1 - start ≡ suc (at - start) = omega (arith, started) in
    let place : start + (at - start) ≡ at = omega (arith, started) in
    let room : at - start < length (drop start bytes) = simp length-drop (omega (arith, started, within)) in
    sym (ap (λ n. take n (drop start bytes)) count ∙ take-suc (drop start bytes) (at - start) 0 room
    ∙ ap (λ b. part bytes start at ++ b ∷ []) (get_or-drop start bytes (at - start) 0 ∙ ap (λ n. get_or bytes n 0) place))

-- no card begins with no bytes
none : (bytes : List ℕ) (at : ℕ) → part bytes at at ≡ []
none bytes at = let count : at - at ≡ 0 = omega arith in ap (λ n. take n (drop at bytes)) count

behind : (bytes : List ℕ) (at : ℕ) → drop (suc at) bytes ≡ drop (at + 1) bytes
behind bytes at = let next : suc at ≡ at + 1 = omega arith in ap (λ n. drop n bytes) next

no_true : (t : Bool) → (t ≡ true → ⊥) → t ≡ false
no_true true h = absurd (h refl)
no_true false h = refl

chosen : (b : ℕ) (rest begun more : List ℕ) → (b ≡ 10 → ⊥) → begun ++ b ∷ [] ≡ more → cards_from rest more ≡ cards_from (b ∷ rest) begun
chosen b rest begun more other e =
    ap (cards_from rest) (sym e)
    ∙ ap (λ t. if t then columns (without_return begun) ∷ cards_from rest [] else cards_from rest (begun ++ b ∷ [])) (sym (no_true (b == 10) (λ t. other ((unsigned_Decides b 10).0 t))))

ended : (b : ℕ) (rest begun : List ℕ) → b ≡ 10 → columns (without_return begun) ∷ cards_from rest [] ≡ cards_from (b ∷ rest) begun
ended b rest begun line = ap (λ n. cards_from (n ∷ rest) begun) (sym line)

-- at a byte that is no line end the card goes on
pub goes_on : (bytes : List ℕ) (start at : ℕ) → start ≤ at → at < length bytes → (get_or bytes at 0 ≡ 10 → ⊥)
    → cards_from (drop (at + 1) bytes) (part bytes start (at + 1)) ≡ cards_from (drop at bytes) (part bytes start at)
goes_on bytes start at started within other =
    chosen (get_or bytes at 0) (drop (at + 1) bytes) (part bytes start at) (part bytes start (at + 1)) other (longer bytes start at started within)
    ∙ ap (λ r. cards_from (get_or bytes at 0 ∷ r) (part bytes start at)) (sym (behind bytes at))
    ∙ ap (λ r. cards_from r (part bytes start at)) (sym (drop-cons bytes at 0 within))

-- at a line end the card is whole, and another begins behind it
pub ends : (bytes : List ℕ) (start at : ℕ) → at < length bytes → get_or bytes at 0 ≡ 10
    → columns (without_return (part bytes start at)) ∷ cards_from (drop (at + 1) bytes) (part bytes (at + 1) (at + 1)) ≡ cards_from (drop at bytes) (part bytes start at)
ends bytes start at within line =
    ap (λ c. columns (without_return (part bytes start at)) ∷ cards_from (drop (at + 1) bytes) c) (none bytes (at + 1))
    ∙ ended (get_or bytes at 0) (drop (at + 1) bytes) (part bytes start at) line
    ∙ ap (λ r. cards_from (get_or bytes at 0 ∷ r) (part bytes start at)) (sym (behind bytes at))
    ∙ ap (λ r. cards_from r (part bytes start at)) (sym (drop-cons bytes at 0 within))
