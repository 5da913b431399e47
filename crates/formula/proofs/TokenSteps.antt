-- Reading tokens byte by byte.
use Rattle.std.proofs.Common.{◌≡◌, ℕ, suc, ◌+◌, ◌-◌, ◌<◌, ◌≤◌, Bool, true, false, if◌then◌else◌, List, [], ◌∷◌, ◌++◌, length, get_or, get_or-drop, take, drop, refl, sym, ap, ◌∙◌, arith, drop-cons, length-drop, length-take}
use Rattle.std.proofs.lemmas.Bool.Decides.{nat_tests}
use Rattle.std.specs.Prelude.{◌≢◌, ◌==◌, ◌&&◌, not, slice_range}
use Rattle.std.proofs.Math.Seq.{take-suc, drop-length}
use Rattle.formula.specs.Tokens.{Lexeme, opening, closing, atom, lexeme, ended, tokens_from, is_atom_byte}

front : (s : List ℕ) (i b : ℕ) → i < length s → get_or s i 0 ≡ b → drop i s ≡ b ∷ drop (i + 1) s
front s i b lt h =
    let next : suc i ≡ i + 1 = omega arith in
    drop-cons s i 0 lt ∙ ap (λ x. x ∷ drop (suc i) s) h ∙ ap (λ n. b ∷ drop n s) next

-- a blank is passed
pub blank_passed : (s : List ℕ) (i : ℕ) → i < length s → get_or s i 0 ≡ 32 → tokens_from i [] (drop i s) ≡ tokens_from (i + 1) [] (drop (i + 1) s)
blank_passed s i lt h = ap (tokens_from i []) (front s i 32 lt h)

pub opening_next : (s : List ℕ) (i : ℕ) → i < length s → get_or s i 0 ≡ 40 → tokens_from i [] (drop i s) ≡ lexeme opening (i + 1) ∷ tokens_from (i + 1) [] (drop (i + 1) s)
opening_next s i lt h = ap (tokens_from i []) (front s i 40 lt h)

pub closing_next : (s : List ℕ) (i : ℕ) → i < length s → get_or s i 0 ≡ 41 → tokens_from i [] (drop i s) ≡ lexeme closing (i + 1) ∷ tokens_from (i + 1) [] (drop (i + 1) s)
closing_next s i lt h = ap (tokens_from i []) (front s i 41 lt h)

fourth : {X : Type 0} (x y z : Bool) (a b c d : X) → (not x && not y && not z) ≡ true → (if x then a else if y then b else if z then c else d) ≡ d
fourth true y z a b c d h = cc
fourth false true z a b c d h = cc
fourth false false true a b c d h = cc
fourth false false false a b c d h = refl

-- a byte of an atom is kept
pub byte_kept : (s p : List ℕ) (i : ℕ) → i < length s → is_atom_byte (get_or s i 0) ≡ true → tokens_from i p (drop i s) ≡ tokens_from (i + 1) (p ++ get_or s i 0 ∷ []) (drop (i + 1) s)
byte_kept s p i lt h =
    let b = get_or s i 0 in
    ap (tokens_from i p) (front s i b lt refl) ∙ fourth (b == 32) (b == 40) (b == 41) _ _ _ _ h

first_three : {X : Type 0} (f : X → X) (x y z : Bool) (a b c d e : X) → (not x && not y && not z) ≡ false
    → (if x then f a else if y then f b else if z then f c else d) ≡ f (if x then a else if y then b else if z then c else e)
first_three f true y z a b c d e h = refl
first_three f false true z a b c d e h = refl
first_three f false false true a b c d e h = refl
first_three f false false false a b c d e h = cc

whole : (p : List ℕ) (at : ℕ) (rest : List Lexeme) → 0 < length p → ended p at rest ≡ lexeme (atom p) at ∷ rest
whole [] at rest h = absurd (omega arith)
whole (b ∷ p) at rest h = refl

over : (s p : List ℕ) (i : ℕ) → i < length s → is_atom_byte (get_or s i 0) ≡ false → 0 < length p → tokens_from i p (drop i s) ≡ lexeme (atom p) i ∷ tokens_from i [] (drop i s)
over s p i lt h some =
    let b = get_or s i 0 in
    let e = front s i b lt refl in
    ap (tokens_from i p) e ∙ first_three (λ r. ended p i r) (b == 32) (b == 40) (b == 41) _ _ _ _ _ h ∙ whole p i _ some ∙ ap (λ r. lexeme (atom p) i ∷ tokens_from i [] r) (sym e)

last : (s p : List ℕ) (i : ℕ) → i ≡ length s → 0 < length p → tokens_from i p (drop i s) ≡ lexeme (atom p) i ∷ tokens_from i [] (drop i s)
last s p i e some =
    let none : drop i s ≡ [] = ap (λ n. drop n s) e ∙ drop-length s in
    ap (tokens_from i p) none ∙ whole p i [] some ∙ ap (λ r. lexeme (atom p) i ∷ tokens_from i [] r) (sym none)

-- no token stands behind a text
pub none_left : (s : List ℕ) (i : ℕ) → i ≤ length s → length s ≤ i → tokens_from i [] (drop i s) ≡ []
none_left s i le ge =
    let e : i ≡ length s = omega arith in
    ap (λ n. tokens_from i [] (drop n s)) e ∙ ap (tokens_from i []) (drop-length s)

-- one byte more
pub more_taken : (s : List ℕ) (start i : ℕ) → start ≤ i → i < length s → slice_range s start i ++ get_or s i 0 ∷ [] ≡ slice_range s start (i + 1)
more_taken s start i le lt =
    let next : suc (i - start) ≡ i + 1 - start = omega arith in
    let there : start + (i - start) ≡ i = omega arith in
    let within : i - start < length (drop start s) = simp length-drop (omega arith) in
    let same : get_or (drop start s) (i - start) 0 ≡ get_or s i 0 = get_or-drop start s (i - start) 0 ∙ ap (λ n. get_or s n 0) there in
    ap (λ b. slice_range s start i ++ b ∷ []) (sym same) ∙ sym (take-suc (drop start s) (i - start) 0 within) ∙ ap (λ n. take n (drop start s)) next

-- the first byte of an atom
pub byte_first : (s : List ℕ) (i : ℕ) → i < length s → is_atom_byte (get_or s i 0) ≡ true → tokens_from i [] (drop i s) ≡ tokens_from (i + 1) (slice_range s i (i + 1)) (drop (i + 1) s)
byte_first s i lt h =
    let none : i - i ≡ 0 = omega arith in
    byte_kept s [] i lt h ∙ ap (λ p. tokens_from (i + 1) p (drop (i + 1) s)) (ap (λ n. take n (drop i s) ++ get_or s i 0 ∷ []) (sym none) ∙ more_taken s i i (omega arith) lt)

-- a further byte of an atom
pub byte_next : (s : List ℕ) (start i : ℕ) → start ≤ i → i < length s → is_atom_byte (get_or s i 0) ≡ true
    → tokens_from i (slice_range s start i) (drop i s) ≡ tokens_from (i + 1) (slice_range s start (i + 1)) (drop (i + 1) s)
byte_next s start i le lt h = byte_kept s (slice_range s start i) i lt h ∙ ap (λ p. tokens_from (i + 1) p (drop (i + 1) s)) (more_taken s start i le lt)

some_taken : (s : List ℕ) (start i : ℕ) → start < i → i ≤ length s → 0 < length (slice_range s start i)
some_taken s start i lt le = simp (length-take, length-drop) (omega arith)

-- an atom ends before another byte
pub atom_over : (s : List ℕ) (start i : ℕ) → start < i → i < length s → is_atom_byte (get_or s i 0) ≡ false
    → tokens_from i (slice_range s start i) (drop i s) ≡ lexeme (atom (slice_range s start i)) i ∷ tokens_from i [] (drop i s)
atom_over s start i lt within h = over s (slice_range s start i) i within h (some_taken s start i lt (omega arith))

-- an atom ends with the text
pub atom_last : (s : List ℕ) (start i : ℕ) → start < i → i ≤ length s → length s ≤ i
    → tokens_from i (slice_range s start i) (drop i s) ≡ lexeme (atom (slice_range s start i)) i ∷ tokens_from i [] (drop i s)
atom_last s start i lt le ge = last s (slice_range s start i) i (omega arith) (some_taken s start i lt le)

-- a byte that is neither a blank nor a bracket is an atom's
pub atom_byte : (b : ℕ) → b ≢ 32 → b ≢ 40 → b ≢ 41 → is_atom_byte b ≡ true
atom_byte b h k l = grind (arith, nat_tests)
