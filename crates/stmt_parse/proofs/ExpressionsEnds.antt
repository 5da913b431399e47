-- What ends an expression: nothing that goes on with its last name or number, and no operator that binds tightly enough.
use Rattle.std.proofs.Common.{◌≡◌, ℕ, ◌≤◌, Bool, true, false, Some, None, List, [], ◌∷◌, codes, refl, ap, subst, arith, inl, inr, ◌⊎◌}
use Rattle.std.specs.Prelude.{◌==◌, ◌&&◌, ◌||◌, not, nat_le}
use Rattle.std.proofs.lemmas.Bool.Decides.{nat_tests}
use Rattle.formula.specs.Atoms.{is_digit, is_letter, is_name_byte, starts}
use Rattle.fort_syntax.specs.Misspelled.{begins}
use Rattle.stmt_parse.specs.declared.joint.Joint.{Joint}
use Rattle.stmt_parse.specs.Tokens.{Reading, power_at, joint_at, strength}
use Rattle.stmt_parse.proofs.ExpressionsAnswers.{both_true, untrue}
use Rattle.stmt_parse.proofs.Climbing.{joint_continues, found_continues, continues}

-- the byte goes on with a name or a number, or opens a bracket behind a name
abbrev pub goes_on : ℕ → Bool
goes_on b = is_name_byte b || (b == 40)

-- the text does not go on with what ended before it
abbrev pub is_apart : List ℕ → Bool
is_apart r = not (starts goes_on r)

-- the text does not go on with an expression that is bound at least so tightly
abbrev pub ends : ℕ → List ℕ → Bool
ends k r = is_apart r && not (continues k r)

-- both parts of an end
pub ends_parts : (k : ℕ) (r : List ℕ) → ends k r ≡ true → (is_apart r ≡ true) × (continues k r ≡ false)
ends_parts k r h = let p = both_true (is_apart r) _ h in (p.0, untrue _ p.1)

neither : (x y : Bool) → (x || y) ≡ false → (x ≡ false) × (y ≡ false)
neither false y h = (refl, h)
neither true y h = absurd (let bad : true ≡ false = h in cc)

-- what it does not begin with
pub no_name_byte : (r : List ℕ) → is_apart r ≡ true → starts is_name_byte r ≡ false
no_name_byte [] h = refl
no_name_byte (b ∷ r) h = (neither (is_name_byte b) _ (untrue _ h)).0

pub no_digit : (r : List ℕ) → is_apart r ≡ true → starts is_digit r ≡ false
no_digit [] h = refl
no_digit (b ∷ r) h = (neither (is_letter b) _ (neither (is_name_byte b) _ (untrue _ h)).0).1

other_byte : (b w : ℕ) → (b == w) ≡ false → (w == b) ≡ false
other_byte b w h = grind (arith, nat_tests)

pub no_bracket : (r : List ℕ) → is_apart r ≡ true → begins (codes "(") r ≡ false
no_bracket [] h = refl
no_bracket (b ∷ r) h = ap (λ z. z && true) (other_byte b 40 (neither (is_name_byte b) _ (untrue _ h)).1)

-- ---- closing bytes

-- nothing follows, or a byte that goes on with no expression: `)`, `,` or `=`
abbrev pub is_closed : List ℕ → Bool
is_closed [] = true
is_closed (b ∷ rest) = (b == 41) || (b == 44) || (b == 61)

either : (x y : Bool) → (x || y) ≡ true → (x ≡ true) ⊎ (y ≡ true)
either true y h = inl refl
either false y h = inr h

same_byte : (b w : ℕ) → (b == w) ≡ true → w ≡ b
same_byte b w h = grind (arith, nat_tests)

-- they end each expression
pub closed_ends : (r : List ℕ) → is_closed r ≡ true → ends 0 r ≡ true
closed_ends [] h = refl
closed_ends (b ∷ r) h =
    elim (either ((b == 41) || (b == 44)) _ h) [
      | inl p ↦ elim (either (b == 41) _ p) [
        | inl q ↦ subst (λ c. ends 0 (c ∷ r) ≡ true) (same_byte b 41 q) refl
        | inr q ↦ subst (λ c. ends 0 (c ∷ r) ≡ true) (same_byte b 44 q) refl
      ]
      | inr p ↦ subst (λ c. ends 0 (c ∷ r) ≡ true) (same_byte b 61 p) refl
    ]

-- ---- tighter places

-- what does not go on at some strength does not at a greater one
weaker : (k m n : ℕ) → k ≤ m → nat_le k n ≡ false → nat_le m n ≡ false
weaker k m n le h = grind (arith, nat_tests)

joint_later : (k m : ℕ) (o : Reading Joint) → k ≤ m → joint_continues k o ≡ false → joint_continues m o ≡ false
joint_later k m None le h = refl
joint_later k m (Some o) le h = weaker k m (strength o.0) le h

found_later : (k m : ℕ) (p : Reading ℕ) (o : Reading Joint) → k ≤ m → found_continues k p o ≡ false
    → found_continues m p o ≡ false
found_later k m None o le h = joint_later k m o le h
found_later k m (Some p) o le h = weaker k m 6 le h

pub stops_later : (k m : ℕ) (r : List ℕ) → k ≤ m → continues k r ≡ false → continues m r ≡ false
stops_later k m r le h = found_later k m (power_at r) (joint_at r) le h
