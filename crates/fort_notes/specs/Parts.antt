-- The parts of notes. A part is taken from the front of a text and leaves the rest, or breaks a rule.
use Rattle.std.specs.Prelude.{ℕ, zero, suc, ℤ, int_le, ◌&&◌, ◌||◌, not, Bool, true, false, if◌then◌else◌, Option, Some, List, [], ◌∷◌, length, drop, codes}
use Rattle.formula.specs.Atoms.{same_bytes, is_among, is_digits, is_long, spelled, is_number, digits_of, number_of}
use Rattle.formula.specs.Reading.{Reading, got, fault, head_named, reads}
use Rattle.formula.specs.Tokens.{Token, opening, closing, atom, Lexeme, tokens}
use Rattle.formula.specs.Tree.{Tree}
use Rattle.formula.specs.declared.definition.Heading.{Heading}
use Rattle.formula.specs.declared.fault.ReadFault.{ReadFault}
use Rattle.formula.specs.declared.fault.ReadFault.TheVariants.{UnknownFunction}
use Rattle.formula.specs.declared.value.Cell.{Cell}
use Rattle.formula.specs.declared.value.Cell.TheVariants.{Int, Logical, Undefined}
use Rattle.fort_syntax.specs.declared.rule.Rule.{Rule}
use Rattle.fort_syntax.specs.declared.rule.Rule.TheVariants.{BadNote, UnknownNoteName}

infixr 1 ◌>>=◌
-- a part with the text behind it, or the rule that the text breaks
pub data Parsed (X : Type 0) : Type 0 where
  parsed : X → List ℕ → Parsed X
  refused : Rule → Parsed X

-- one part behind another
abbrev pub ◌>>=◌ : {X Y : Type 0} → Parsed X → (X → List ℕ → Parsed Y) → Parsed Y
◌>>=◌ (parsed x rest) next = next x rest
◌>>=◌ (refused rule) next = refused rule

-- a part that has to pass a test
abbrev pub passing : {X : Type 0} → Bool → X → List ℕ → Parsed X
passing ok x rest = if ok then parsed x rest else refused BadNote

-- ---- tokens

abbrev pub atom_of : Token → ℕ → List ℕ → Parsed (List ℕ)
atom_of (atom a) n text = parsed a (drop n text)
atom_of opening n text = refused BadNote
atom_of closing n text = refused BadNote

abbrev pub first_atom : List Lexeme → List ℕ → Parsed (List ℕ)
first_atom [] text = refused BadNote
first_atom (l ∷ rest) text = atom_of l.token l.after text

-- an atom
abbrev pub word : List ℕ → Parsed (List ℕ)
word text = first_atom (tokens text) text

abbrev pub is_opening : Token → Bool
is_opening opening = true
is_opening closing = false
is_opening (atom a) = false

abbrev pub is_closing : Token → Bool
is_closing opening = false
is_closing closing = true
is_closing (atom a) = false

abbrev pub is_word : List ℕ → Token → Bool
is_word a opening = false
is_word a closing = false
is_word a (atom b) = same_bytes a b

abbrev pub begins_among : (Token → Bool) → List Lexeme → Bool
begins_among is [] = false
begins_among is (l ∷ rest) = is l.token

-- the first token of a text is such a one
abbrev pub begins : (Token → Bool) → List ℕ → Bool
begins is text = begins_among is (tokens text)

abbrev pub is_empty : List Lexeme → Bool
is_empty [] = true
is_empty (l ∷ rest) = false

-- no token is left
abbrev pub is_over : List ℕ → Bool
is_over text = is_empty (tokens text)

abbrev pub behind_first : List Lexeme → List ℕ → List ℕ
behind_first [] text = text
behind_first (l ∷ rest) text = drop l.after text

-- a token of that kind
abbrev pub sign : (Token → Bool) → List ℕ → Parsed (Unit {0})
sign is text = passing (begins is text) tt (behind_first (tokens text) text)

-- what stands in brackets
abbrev pub bracket : {X : Type 0} → (List ℕ → Parsed X) → List ℕ → Parsed X
bracket part text = sign is_opening text >>= λ _ rest. part rest >>= λ x behind.
    sign is_closing behind >>= λ _ left. parsed x left

-- parts up to where a test holds, at most so many
abbrev pub parts_up_to : {X : Type 0} → (List ℕ → Bool) → (List ℕ → Parsed X) → ℕ → List ℕ → Parsed (List X)
parts_up_to ends part zero text = refused BadNote
parts_up_to ends part (suc n) text =
    if ends text then parsed [] text
    else (part text >>= λ x rest. parts_up_to ends part n rest >>= λ xs left. parsed (x ∷ xs) left)

-- all parts up to where a test holds: each takes a byte at least, so the length of the text bounds their number
abbrev pub parts : {X : Type 0} → (List ℕ → Bool) → (List ℕ → Parsed X) → List ℕ → Parsed (List X)
parts ends part text = parts_up_to ends part (suc (length text)) text

-- parts up to a closing bracket, and up to the end of the text
abbrev pub inside : {X : Type 0} → (List ℕ → Parsed X) → List ℕ → Parsed (List X)
inside part text = parts (begins is_closing) part text

abbrev pub rest_of : {X : Type 0} → (List ℕ → Parsed X) → List ℕ → Parsed (List X)
rest_of part text = parts is_over part text

abbrev pub has_some : {X : Type 0} → List X → Bool
has_some [] = false
has_some (x ∷ xs) = true

-- one part or more
abbrev pub some : {X : Type 0} → Parsed (List X) → Parsed (List X)
some p = p >>= λ xs rest. passing (has_some xs) xs rest

-- nothing stands behind
abbrev pub whole : {X : Type 0} → Parsed X → Parsed X
whole p = p >>= λ x rest. passing (is_over rest) x rest

-- ---- words

-- a word of that form
abbrev pub word_of : (List ℕ → Bool) → List ℕ → Parsed (List ℕ)
word_of form text = word text >>= λ a rest. passing (form a) a rest

-- the words that no note gives to a thing of its own
abbrev pub reserved : List (List ℕ)
reserved = codes "T" ∷ codes "F" ∷ codes "LEAST" ∷ codes "GREATEST" ∷ codes "CLOCK" ∷ []

-- a number: digits, with or without a `-` before them, at most 18 behind leading zeros
abbrev pub is_short_number : List ℕ → Bool
is_short_number a = is_number a && not (is_long (digits_of a))

abbrev pub number : List ℕ → Parsed ℤ
number text = word_of is_short_number text >>= λ a rest. parsed (number_of a) rest

-- a number within bounds
abbrev pub number_between : ℤ → ℤ → List ℕ → Parsed ℤ
number_between least greatest text = number text >>= λ z rest. passing (int_le least z && int_le z greatest) z rest

-- a number that no `-` stands before
abbrev pub is_short_count : List ℕ → Bool
is_short_count a = is_digits a && not (is_long a)

abbrev pub count : List ℕ → Parsed ℕ
count text = word_of is_short_count text >>= λ a rest. parsed (spelled a) rest

-- one of two words
abbrev pub either : List ℕ → List ℕ → List ℕ → Parsed Bool
either this other text = word text >>= λ a rest. passing (same_bytes this a || same_bytes other a) (same_bytes this a) rest

-- a cell: a number, T, F, or U for one that is undefined
abbrev pub cell_of : List ℕ → Cell
cell_of a =
    if same_bytes (codes "T") a then Logical true
    else if same_bytes (codes "F") a then Logical false
    else if same_bytes (codes "U") a then Undefined
    else Int (number_of a)

abbrev pub is_cell : List ℕ → Bool
is_cell a = is_among a (codes "T" ∷ codes "F" ∷ codes "U" ∷ []) || is_short_number a

abbrev pub cell : List ℕ → Parsed Cell
cell text = word_of is_cell text >>= λ a rest. parsed (cell_of a) rest

-- ---- terms

-- the rule that a fault of a term breaks
abbrev pub rule_of_read : ReadFault → Rule
rule_of_read UnknownFunction = UnknownNoteName
rule_of_read _ = BadNote

abbrev pub term_read : Reading → List ℕ → Parsed Tree
term_read (got t n) text = parsed t (drop n text)
term_read (fault f) text = refused (rule_of_read f)

-- a term, where these definitions are known, and that of a heading as the next one; at most 64 brackets are open
abbrev pub term : List Heading → Option Heading → List ℕ → Parsed Tree
term headings next text = term_read (reads (head_named headings next) (Some 64) text) text
