-- What atoms are: numbers, symbols, names of functions.
use Rattle.std.specs.Prelude.{ℕ, ℤ, pos, negsuc, zero, suc, ◌+◌, ◌-◌, ◌*◌, ◌==◌, ◌&&◌, ◌||◌, not, nat_le, nat_lt, if◌then◌else◌, Bool, false, List, [], ◌∷◌, length, codes}
use Rattle.std.specs.Cmp.Lexicographic.{pointwise}
use Rattle.std.specs.Prelude.{nat_eq}
use Rattle.std.specs.List.{list_all, list_any}

-- two texts are the same
abbrev pub same_bytes : List ℕ → List ℕ → Bool
same_bytes = pointwise nat_eq

-- a text is one of some
abbrev pub is_among : List ℕ → List (List ℕ) → Bool
is_among x xs = list_any (same_bytes x) xs

-- some text stands twice in a list
abbrev pub has_twin : List (List ℕ) → Bool
has_twin [] = false
has_twin (x ∷ xs) = is_among x xs || has_twin xs

abbrev pub is_digit : ℕ → Bool
is_digit b = nat_le 48 b && nat_le b 57

-- an upper-case letter
abbrev pub is_letter : ℕ → Bool
is_letter b = nat_le 65 b && nat_le b 90

abbrev pub starts : (ℕ → Bool) → List ℕ → Bool
starts p [] = false
starts p (b ∷ rest) = p b

-- one or more digits
abbrev pub is_digits : List ℕ → Bool
is_digits a = starts is_digit a && list_all is_digit a

-- the number that digits spell
abbrev pub spelled_from : ℕ → List ℕ → ℕ
spelled_from n [] = n
spelled_from n (b ∷ rest) = spelled_from (n * 10 + (b - 48)) rest

abbrev pub spelled : List ℕ → ℕ
spelled = spelled_from 0

-- digits without their leading zeros
abbrev pub without_zeros : List ℕ → List ℕ
without_zeros [] = []
without_zeros (b ∷ rest) = if b == 48 then without_zeros rest else b ∷ rest

-- more than 18 digits after the leading zeros
abbrev pub is_long : List ℕ → Bool
is_long digits = nat_lt 18 (length (without_zeros digits))

-- the number of a sign and a size
abbrev pub minus : ℕ → ℤ
minus zero = pos 0
minus (suc n) = negsuc n

-- the digits of a number's atom
abbrev pub digits_of : List ℕ → List ℕ
digits_of [] = []
digits_of (b ∷ rest) = if b == 45 then rest else b ∷ rest

-- digits, with or without a `-` before them
abbrev pub is_number : List ℕ → Bool
is_number a = is_digits (digits_of a)

abbrev pub number_of : List ℕ → ℤ
number_of [] = pos 0
number_of (b ∷ rest) = if b == 45 then minus (spelled rest) else pos (spelled (b ∷ rest))

abbrev pub is_symbol_byte : ℕ → Bool
is_symbol_byte b = is_letter b || is_digit b || b == 45

abbrev pub is_name_byte : ℕ → Bool
is_name_byte b = is_letter b || is_digit b

-- 1 to 24 letters, digits and `-`, a letter first, and neither T nor F
abbrev pub is_symbol : List ℕ → Bool
is_symbol a = starts is_letter a && list_all is_symbol_byte a && nat_le (length a) 24 && not (same_bytes a (codes "T")) && not (same_bytes a (codes "F"))

-- 1 to 12 letters and digits, a letter first
abbrev pub is_function_name : List ℕ → Bool
is_function_name a = starts is_letter a && list_all is_name_byte a && nat_le (length a) 12

-- 1 to 6 letters and digits, a letter first: the names of FORTRAN
abbrev pub is_name : List ℕ → Bool
is_name a = starts is_letter a && list_all is_name_byte a && nat_le (length a) 6
