-- The words of symbols of names are symbols of terms.
use Rattle.std.proofs.Common.{◌≡◌, ℕ, ◌<◌, ◌≤◌, ◌^◌, Bool, true, false, ◌||◌, ◌&&◌, List, [], ◌∷◌, ◌++◌, length, codes, refl, sym, ap, ◌∙◌, arith}
use Rattle.std.specs.Prelude.{not, nat_le, ◌==◌}
use Rattle.std.specs.List.{list_all}
use Rattle.std.specs.Cmp.Lexicographic.{same_text}
use Rattle.std.proofs.lemmas.Bool.Decides.{nat_tests}
use Rattle.std.proofs.lemmas.Fmt.{length-decimal-le}
use Rattle.std.proofs.lemmas.List.{length-append, append_assoc}
use Rattle.std.specs.Fmt.{decimal}
use Rattle.formula.specs.Atoms.{same_bytes, starts, is_letter, is_digit, is_symbol_byte, is_name_byte, is_symbol, is_name}
use Rattle.fort_model.specs.Symbols.{numeral}
use Rattle.event_text.proofs.SpelledNumbers.{figures}
use Rattle.fort_laws.proofs.Numerals.{numerals_are_decimal}
use Rattle.note_laws.proofs.Small.{known, both_parts, both_hold, tests_append}

-- ---- a name, and more behind it

record NameParts (x : List ℕ) : Type 0 where
  first : starts is_letter x ≡ true
  bytes : list_all is_name_byte x ≡ true
  length_is : length x ≤ 6

name_parts : (x : List ℕ) → is_name x ≡ true → NameParts x
name_parts x h =
    let a = both_parts (starts is_letter x && list_all is_name_byte x) (nat_le (length x) 6) h in
    let b = both_parts (starts is_letter x) (list_all is_name_byte x) a.0 in
    record { first = b.0; bytes = b.1; length_is = most (length x) a.1 }
  where
    most : (n : ℕ) → nat_le n 6 ≡ true → n ≤ 6
    most n e = grind (arith, nat_tests)

wider : (b : ℕ) → is_name_byte b ≡ true → is_symbol_byte b ≡ true
wider b h = by (is_letter b || is_digit b) (b == 45) h
  where
    by : (c d : Bool) → c ≡ true → (c || d) ≡ true
    by true d e = refl
    by false d e = absurd (cc)

all_wider : (x : List ℕ) → list_all is_name_byte x ≡ true → list_all is_symbol_byte x ≡ true
all_wider [] h = refl
all_wider (b ∷ x) h = let p = both_parts (is_name_byte b) (list_all is_name_byte x) h in both_hold (is_symbol_byte b) (list_all is_symbol_byte x) (wider b p.0) (all_wider x p.1)

starts_more : (x rest : List ℕ) → starts is_letter x ≡ true → starts is_letter (x ++ rest) ≡ true
starts_more [] rest h = absurd (cc)
starts_more (b ∷ x) rest h = h

few : (n : ℕ) → n ≤ 24 → nat_le n 24 ≡ true
few n h = grind (arith, nat_tests)

-- what has two bytes is not one byte
not_one : (a : List ℕ) (c : ℕ) → 2 ≤ length a → same_bytes a (c ∷ []) ≡ false
not_one a c h = known (same_bytes a (c ∷ []))
    (λ e. absurd (short (same_text a (c ∷ []) (sym e))))
    (λ e. e)
  where
    short : a ≡ c ∷ [] → ⊥
    short e = let n : length a ≡ 1 = ap length e in absurd (omega arith)

not_of : (b : Bool) → b ≡ false → not b ≡ true
not_of b e = ap not e

symbol_made : (a : List ℕ) → starts is_letter a ≡ true → list_all is_symbol_byte a ≡ true → 2 ≤ length a → length a ≤ 24 → is_symbol a ≡ true
symbol_made a first bytes two most =
    both_hold (starts is_letter a && list_all is_symbol_byte a && nat_le (length a) 24 && not (same_bytes a (codes "T"))) (not (same_bytes a (codes "F")))
    (both_hold (starts is_letter a && list_all is_symbol_byte a && nat_le (length a) 24) (not (same_bytes a (codes "T")))
    (both_hold (starts is_letter a && list_all is_symbol_byte a) (nat_le (length a) 24)
    (both_hold (starts is_letter a) (list_all is_symbol_byte a) first bytes) (few (length a) most))
    (not_of (same_bytes a (codes "T")) (not_one a 84 two)))
    (not_of (same_bytes a (codes "F")) (not_one a 70 two))

some_length : (x : List ℕ) → starts is_letter x ≡ true → 1 ≤ length x
some_length [] h = absurd (cc)
some_length (b ∷ x) h = omega arith

-- a name with up to 18 bytes behind it
pub with_tail : (x tail : List ℕ) → is_name x ≡ true → list_all is_symbol_byte tail ≡ true → 1 ≤ length tail → length tail ≤ 18 → is_symbol (x ++ tail) ≡ true
with_tail x tail h bytes some most =
    let p = name_parts x h in
    let size = length-append x tail in
    let one = some_length x p.first in
    let six = p.length_is in
    symbol_made (x ++ tail) (starts_more x tail p.first) (tests_append is_symbol_byte x tail (all_wider x p.bytes) bytes) (omega arith) (omega arith)

-- ---- digits

digit_is : (d : ℕ) → is_digit d ≡ true → is_symbol_byte d ≡ true
digit_is d h = by (is_letter d) (is_digit d) (d == 45) h
  where
    by : (a b c : Bool) → b ≡ true → ((a || b) || c) ≡ true
    by true b c e = refl
    by false true c e = refl
    by false false c e = absurd (cc)

all_digits : (ds : List ℕ) → list_all is_digit ds ≡ true → list_all is_symbol_byte ds ≡ true
all_digits [] h = refl
all_digits (d ∷ ds) h = let p = both_parts (is_digit d) (list_all is_digit ds) h in both_hold (is_symbol_byte d) (list_all is_symbol_byte ds) (digit_is d p.0) (all_digits ds p.1)

-- a dash and the decimal of a number of at most 17 digits
decimal_tail : (k : ℕ) → k < 10 ^ 17 → (list_all is_symbol_byte (codes "-" ++ decimal k) ≡ true) × (1 ≤ length (codes "-" ++ decimal k)) × (length (codes "-" ++ decimal k) ≤ 18)
decimal_tail k lt =
    let small : k < 2 ^ 64 = omega arith in
    let most : length (decimal k) ≤ 17 = length-decimal-le 17 k (omega arith) lt small in
    let f = figures k (omega arith) in
    let size = length-append (codes "-") (decimal k) in
    (all_digits (decimal k) f.0, omega arith, omega arith)

pub call_symbol : (x : List ℕ) (k : ℕ) → is_name x ≡ true → k < 10 ^ 17 → is_symbol (x ++ codes "-" ++ numeral k) ≡ true
call_symbol x k h lt =
    let t = decimal_tail k lt in
    let wide : k < 10 ^ 64 = omega arith in
    ap (λ (ds : List ℕ). is_symbol (x ++ codes "-" ++ ds)) (numerals_are_decimal k wide)
    ∙ ap is_symbol (append_assoc x (codes "-") (decimal k))
    ∙ with_tail x (codes "-" ++ decimal k) h t.0 t.1 t.2

pub entry_symbol_is : (x : List ℕ) → is_name x ≡ true → is_symbol (x ++ codes "-IN") ≡ true
entry_symbol_is x h = with_tail x (codes "-IN") h refl (omega arith) (omega arith)

pub start_symbol_is : (x : List ℕ) → is_name x ≡ true → is_symbol (x ++ codes "-AT") ≡ true
start_symbol_is x h = with_tail x (codes "-AT") h refl (omega arith) (omega arith)
