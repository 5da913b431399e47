-- The symbols of conditions, and the words that spell them.
use Rattle.std.specs.Prelude.{ℕ, zero, suc, ◌+◌, ◌==◌, if◌then◌else◌, List, [], ◌∷◌, ◌++◌, codes}
use Rattle.fort_syntax.specs.declared.name.Name.{Name}

-- What a condition may speak of: the least and the greatest integer of the processor; the value of a name at
-- the entry, and where the path starts at an ASSERT; and what the k-th call on the path gives for a name: the value
-- of a variable after a CALL, or that of the function referred to. Calls count from 1, in the order in which they are
-- performed.
pub data Symbol : Type 0 where
  LeastInteger GreatestInteger : Symbol
  AtEntry AtStart : Name → Symbol
  ByCall : Name → ℕ → Symbol

-- ---- numerals

-- decimal digits, the last one first, after counting one more
abbrev pub counted_on : List ℕ → List ℕ
counted_on [] = codes "1"
counted_on (d ∷ ds) = if d == 57 then 48 ∷ counted_on ds else (d + 1) ∷ ds

-- the decimal digits of a number, the last one first
abbrev pub digits_back : ℕ → List ℕ
digits_back zero = codes "0"
digits_back (suc n) = counted_on (digits_back n)

abbrev pub backwards : List ℕ → List ℕ
backwards [] = []
backwards (b ∷ bs) = backwards bs ++ b ∷ []

-- the decimal digits of a number, which has no bound
abbrev pub numeral : ℕ → List ℕ
numeral n = backwards (digits_back n)

-- ---- words

-- the word of a symbol: LEAST, GREATEST, X-IN, X-AT and X-k
abbrev pub word_of : Symbol → List ℕ
word_of LeastInteger = codes "LEAST"
word_of GreatestInteger = codes "GREATEST"
word_of (AtEntry x) = x ++ codes "-IN"
word_of (AtStart x) = x ++ codes "-AT"
word_of (ByCall x k) = x ++ codes "-" ++ numeral k
