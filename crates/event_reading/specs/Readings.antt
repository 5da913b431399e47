-- What begins a text: a word, a name, a number, a term. Each reader answers what it read and the text behind it.
use Rattle.std.specs.Prelude.{ℕ, suc, ◌&&◌, nat_le, Bool, if◌then◌else◌, Option, Some, None, List, [], ◌∷◌, length, take, drop, decimal, codes}
use Rattle.formula.specs.declared.definition.Heading.{Heading}
use Rattle.formula.specs.Atoms.{is_digit, is_function_name, is_letter, is_name, is_name_byte, same_bytes, spelled}
use Rattle.formula.specs.Reading.{got, fault, reads, head_named}
use Rattle.formula.specs.Reading as terms
use Rattle.formula.specs.Tree.{Tree}
use Rattle.fort_syntax.specs.declared.condition.Kind.{Kind}
use Rattle.fort_syntax.specs.declared.condition.Kind.TheVariants as k
use Rattle.fort_syntax.specs.Misspelled.{begins}
use Rattle.event_text.specs.Readable.{is_parameter}
use Rattle.event_text.specs.TermText.{term_text}

infixr 1 ◌>>=◌
-- a reading: what was read and the text behind it, or nothing
abbrev pub Reading : Type 0 → Type 0
Reading A = Option (A × List ℕ)

abbrev pub ◌>>=◌ : {A B : Type 0} → Option A → (A → Option B) → Option B
◌>>=◌ (Some x) next = next x
◌>>=◌ None next = None

-- how many bytes of a kind begin the text
abbrev pub run_length : (ℕ → Bool) → List ℕ → ℕ
run_length p [] = 0
run_length p (b ∷ rest) = if p b then suc (run_length p rest) else 0

-- the text behind a word
abbrev pub after : List ℕ → List ℕ → Option (List ℕ)
after word t = if begins word t then Some (drop (length word) t) else None

-- the first n bytes, where they pass
abbrev pub front_that : (List ℕ → Bool) → ℕ → List ℕ → Reading (List ℕ)
front_that test n t = if test (take n t) then Some (take n t, drop n t) else None

-- a name of FORTRAN
unfoldable pub name_at : List ℕ → Reading (List ℕ)
name_at t = front_that is_name (run_length is_name_byte t) t

-- a definition's name, which is judged by its form alone
unfoldable pub function_name_at : List ℕ → Reading (List ℕ)
function_name_at t = front_that is_function_name (run_length is_name_byte t) t

-- a parameter, which is none of the five reserved atoms
unfoldable pub parameter_at : List ℕ → Reading (List ℕ)
parameter_at t = front_that is_parameter (run_length is_name_byte t) t

-- these digits are how a number that is at most so great is written
abbrev pub is_numeral : ℕ → List ℕ → Bool
is_numeral most ds = nat_le (spelled ds) most && same_bytes (decimal (spelled ds)) ds

abbrev pub number_of_length : ℕ → ℕ → List ℕ → Reading ℕ
number_of_length most n t = if is_numeral most (take n t) then Some (spelled (take n t), drop n t) else None

-- a number that is at most so great
unfoldable pub number_at : ℕ → List ℕ → Reading ℕ
number_at most t = number_of_length most (run_length is_digit t) t

-- a byte that passes
abbrev pub byte_at : (ℕ → Bool) → List ℕ → Reading ℕ
byte_at test [] = None
byte_at test (b ∷ rest) = if test b then Some (b, rest) else None

-- the kind of a word
abbrev pub kind_named : List ℕ → Option Kind
kind_named w =
    if same_bytes w (codes "DEFINED") then Some k.DefinedCheck
    else if same_bytes w (codes "RANGE") then Some k.RangeCheck
    else if same_bytes w (codes "DIVISOR") then Some k.DivisorCheck
    else if same_bytes w (codes "SUBSCRIPT") then Some k.SubscriptCheck
    else if same_bytes w (codes "CHOICE") then Some k.ChoiceCheck
    else if same_bytes w (codes "LOOP") then Some k.LoopCheck
    else if same_bytes w (codes "RESULT") then Some k.ResultCheck
    else if same_bytes w (codes "INPUT") then Some k.InputCheck
    else if same_bytes w (codes "ASSERT") then Some k.AssertCheck
    else if same_bytes w (codes "CLOCK") then Some k.ClockCheck
    else if same_bytes w (codes "FALL") then Some k.FallCheck
    else if same_bytes w (codes "OUTPUT") then Some k.OutputCheck
    else None

-- what was found, and the text behind it
abbrev pub found : {A : Type 0} → Option A → List ℕ → Reading A
found None rest = None
found (Some x) rest = Some (x, rest)

abbrev pub kind_of_length : ℕ → List ℕ → Reading Kind
kind_of_length n t = found (kind_named (take n t)) (drop n t)

-- a kind, by its word
unfoldable pub kind_at : List ℕ → Reading Kind
kind_at t = kind_of_length (run_length is_letter t) t

-- ---- terms

-- a term that was read, where its text is what is written of it
abbrev pub written : List (List ℕ) → List ℕ → terms.Reading → Reading Tree
written names t (got u n) = if same_bytes (term_text names u) (take n t) then Some (u, drop n t) else None
written names t (fault f) = None

-- a term, as it is written; `next` is the heading of the definition whose body is being read
unfoldable pub term_at : List (List ℕ) → List Heading → Option Heading → List ℕ → Reading Tree
term_at names headings next t = written names t (reads (head_named headings next) None t)
