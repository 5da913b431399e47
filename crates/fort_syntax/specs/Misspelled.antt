-- Which rule a text breaks that spells no statement.
use Rattle.std.specs.Prelude.{ℕ, zero, suc, ◌+◌, ◌-◌, ◌==◌, ◌&&◌, ◌||◌, nat_lt, Bool, false, if◌then◌else◌, Option, Some, None, List, [], ◌∷◌, length, take, drop, codes}
use Rattle.formula.specs.Atoms.{same_bytes, is_digit, is_letter, starts}
use Rattle.fort_syntax.specs.declared.dialect.Dialect.{Dialect}
use Rattle.fort_syntax.specs.declared.dialect.Dialect.TheVariants.{Common, SeventySeven}
use Rattle.fort_syntax.specs.declared.rule.Rule.{Rule}
use Rattle.fort_syntax.specs.declared.rule.Rule.TheVariants.{Excluded, RealConstant, BigNumber, TooDeep, BadStatement}
use Rattle.fort_syntax.specs.Grammar.{is_deep}

-- the word begins the text
abbrev pub begins : List ℕ → List ℕ → Bool
begins word t = same_bytes word (take (length word) t)

-- the first of these words that begins the text
abbrev pub first_word : List (List ℕ) → List ℕ → Option (List ℕ)
first_word [] t = None
first_word (word ∷ words) t = if begins word t then Some word else first_word words t

-- ---- words

-- what stands behind the bracket that closes so many open ones and one more; nothing where there is none
abbrev pub behind_closing : ℕ → List ℕ → List ℕ
behind_closing opened [] = []
behind_closing zero (b ∷ rest) = if b == 41 then rest else if b == 40 then behind_closing 1 rest else behind_closing 0 rest
behind_closing (suc n) (b ∷ rest) = if b == 41 then behind_closing n rest else if b == 40 then behind_closing
    (n + 2) rest else behind_closing (suc n) rest

abbrev pub or_whole : List ℕ → List ℕ → List ℕ
or_whole [] t = t
or_whole (b ∷ rest) t = b ∷ rest

-- what follows `IF(` and its closing bracket, where the text begins so and something follows; else the text
abbrev pub head_text : List ℕ → List ℕ
head_text t = if begins (codes "IF(") t then or_whole (behind_closing 0 (drop 3 t)) t else t

-- no word begins another, so at most one begins a text
abbrev pub always_excluded : List (List ℕ)
always_excluded =
    codes "REAL" ∷ codes "DOUBLEPRECISION" ∷ codes "COMPLEX" ∷ codes "CHARACTER"
    ∷ codes "READ" ∷ codes "WRITE" ∷ codes "PRINT" ∷ codes "FORMAT" ∷ codes "OPEN" ∷ codes "CLOSE" ∷ codes "INQUIRE"
    ∷ codes "REWIND" ∷ codes "BACKSPACE" ∷ codes "ENDFILE" ∷ codes "EQUIVALENCE" ∷ codes "DATA" ∷ codes "BLOCKDATA"
    ∷ codes "EXTERNAL" ∷ codes "INTRINSIC" ∷ codes "IMPLICIT" ∷ codes "PARAMETER" ∷ codes "SAVE" ∷ codes "ENTRY"
    ∷ codes "ASSIGN" ∷ codes "STOP" ∷ codes "PAUSE" ∷ codes "PROGRAM" ∷ []

abbrev pub excluded_words : Dialect → List (List ℕ)
excluded_words SeventySeven = always_excluded
excluded_words Common = codes "THEN" ∷ codes "ELSE" ∷ codes "ENDIF" ∷ always_excluded

-- an assigned GO TO: `GOTO` and a letter
abbrev pub is_assigned : List ℕ → Bool
is_assigned t = begins (codes "GOTO") t && starts is_letter (drop 4 t)

abbrev pub excluded_word : Dialect → List ℕ → Option (List ℕ)
excluded_word d t = if is_assigned t then Some (codes "ASSIGNED") else first_word (excluded_words d) t

-- ---- points

-- the words in points
abbrev pub pointed_words : List (List ℕ)
pointed_words =
    codes ".LT." ∷ codes ".LE." ∷ codes ".EQ." ∷ codes ".NE." ∷ codes ".GE." ∷ codes ".GT."
    ∷ codes ".NOT." ∷ codes ".AND." ∷ codes ".OR." ∷ codes ".TRUE." ∷ codes ".FALSE." ∷ []

abbrev pub size_of : Option (List ℕ) → ℕ
size_of None = 0
size_of (Some word) = length word

-- a point that begins no such word, and has a digit directly before or behind it
abbrev pub is_loose : ℕ → List ℕ → Bool
is_loose before [] = false
is_loose before (b ∷ rest) = (b == 46) && (size_of (first_word pointed_words (b ∷ rest)) == 0)
    && (is_digit before || starts is_digit rest)

-- From the left, each word in points is passed over where one begins; of the other points some one has a digit
-- beside it. So many bytes are still to be passed over, and the byte before is given.
abbrev pub has_real_from : ℕ → ℕ → List ℕ → Bool
has_real_from skipped before [] = false
has_real_from (suc n) before (b ∷ rest) = has_real_from n b rest
has_real_from zero before (b ∷ rest) =
    is_loose before (b ∷ rest) || has_real_from (size_of (first_word pointed_words (b ∷ rest)) - 1) b rest

abbrev pub has_real : List ℕ → Bool
has_real = has_real_from 0 0

-- ---- digits

-- how many digits behind leading zeros a run has, with one digit more
abbrev pub counted : ℕ → ℕ → ℕ
counted n b = if (n == 0) && (b == 48) then 0 else n + 1

-- a run of digits has more than 18 behind its leading zeros, where the run before the text has so many
abbrev pub has_big_from : ℕ → List ℕ → Bool
has_big_from n [] = false
has_big_from n (b ∷ rest) = if is_digit b then nat_lt 18 (counted n b) || has_big_from (counted n b) rest else has_big_from 0 rest

abbrev pub has_big : List ℕ → Bool
has_big = has_big_from 0

-- ---- the rule

abbrev pub refused : Option (List ℕ) → List ℕ → Rule
refused (Some word) t = Excluded word
refused None t =
    if has_real t then RealConstant
    else if has_big t then BigNumber
    else if is_deep t then TooDeep
    else BadStatement

-- the rule that a text breaks which spells no statement
abbrev pub refusal_of : Dialect → List ℕ → Rule
refusal_of d t = refused (excluded_word d (head_text t)) t
