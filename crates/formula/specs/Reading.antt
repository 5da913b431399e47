-- The term that begins a text, or the first fault. The text is read from the left, token by token.
use Rattle.std.specs.Prelude.{ℕ, ◌+◌, ◌&&◌, nat_le, if◌then◌else◌, Bool, true, false, Option, Some, None, List, [], ◌∷◌, ◌++◌, length, codes}
use Rattle.formula.specs.declared.function.BuiltIn.{BuiltIn as Builtin}
use Rattle.formula.specs.declared.function.BuiltIn.TheVariants.{And, Or, Not, Implies, If, Equal, Plus, Difference, Times, Negative, Quotient, Remainder, Absolute, Maximum, Minimum, Less, AtMost, Element, Put, Size, Defined as IsDefined, IntegerCell, LogicalCell, IntegerCells, LogicalCells, Undefined, Blank}
use Rattle.formula.specs.declared.function.Func.TheVariants.{BuiltIn, Defined}
use Rattle.formula.specs.declared.definition.Heading.{Heading}
use Rattle.formula.specs.declared.fault.ReadFault.{ReadFault}
use Rattle.formula.specs.declared.fault.ReadFault.TheVariants.{Unbalanced, BadAtom, UnknownFunction, BadCount, TooDeep, BigNumber}
use Rattle.formula.specs.declared.function.Arity.TheVariants.{Exactly}
use Rattle.formula.specs.declared.head.Head.{Head}
use Rattle.formula.specs.declared.head.Head.TheVariants.{EntryValue, Function}
use Rattle.formula.specs.Functions.{name_of, arity_of, fits_count}
use Rattle.formula.specs.Tree.{Tree, num, truth, symbol, old, apply, tree_row, takes}
use Rattle.formula.specs.Tokens.{Token, opening, closing, atom, Lexeme, tokens}
use Rattle.formula.specs.Atoms.{same_bytes, is_number, is_long, digits_of, number_of, is_symbol, is_function_name}

-- ---- names of functions

abbrev pub all_built_ins : List Builtin
all_built_ins = And ∷ Or ∷ Not ∷ Implies ∷ If ∷ Equal ∷ Plus ∷ Difference ∷ Times ∷ Negative ∷ Quotient
    ∷ Remainder ∷ Absolute ∷ Maximum ∷ Minimum ∷ Less ∷ AtMost ∷ Element ∷ Put ∷ Size ∷ IsDefined ∷ IntegerCell
    ∷ LogicalCell ∷ IntegerCells ∷ LogicalCells ∷ Undefined ∷ Blank ∷ []

-- the first of these functions with that name
abbrev pub built_in_among : List Builtin → List ℕ → Option Builtin
built_in_among [] name = None
built_in_among (f ∷ rest) name = if same_bytes (name_of f) name then Some f else built_in_among rest name

-- the first definition with that name, where they are numbered from k
abbrev pub defined_among : ℕ → List Heading → List ℕ → Option Head
defined_among k [] name = None
defined_among k (h ∷ rest) name =
    if same_bytes h.name name then Some (Function (Defined k) (Exactly h.count)) else defined_among (k + 1) rest name

-- the definition that is being read has the next number
abbrev pub heading_named : ℕ → Option Heading → List ℕ → Option Head
heading_named k None name = None
heading_named k (Some h) name = if same_bytes h.name name then Some (Function (Defined k) (Exactly h.count)) else None

-- the first of two that is there
abbrev pub or_else : {T : Type 0} → Option T → Option T → Option T
or_else None o = o
or_else (Some x) o = Some x

abbrev pub built_in_head : Option Builtin → Option Head
built_in_head None = None
built_in_head (Some f) = Some (Function (BuiltIn f) (arity_of f))

-- the head of a name: OLD, the built-in functions, the definitions and last the one that is being read
abbrev pub head_named : List Heading → Option Heading → List ℕ → Option Head
head_named headings next name =
    if same_bytes (codes "OLD") name then Some EntryValue
    else or_else (built_in_head (built_in_among all_built_ins name))
    (or_else (defined_among 1 headings name) (heading_named (length headings + 1) next name))

-- ---- reading

-- an open bracket: its head, and the arguments so far
pub record Frame : Type 0 where
  pub head : Head
  pub args : List Tree

-- the open brackets, the innermost first; `naming` where one more was opened and its name is due
pub record State : Type 0 where
  pub naming : Bool
  pub frames : List Frame

-- what a token leads to
pub data Progress : Type 0 where
  going : State → Progress
  done : Tree → Progress
  stopped : ReadFault → Progress

-- a term is whole: it is an argument of the innermost bracket, or the answer
abbrev pub given : Tree → List Frame → Progress
given t [] = done t
given t (f ∷ rest) = going (record { naming = false; frames = record { head = f.head; args = f.args ++ t ∷ [] } ∷ rest })

abbrev pub is_entry : Head → Bool
is_entry EntryValue = true
is_entry (Function f a) = false

abbrev pub is_empty_list : List Tree → Bool
is_empty_list [] = true
is_empty_list (t ∷ rest) = false

-- the symbol of an OLD is due
abbrev pub wants_symbol : List Frame → Bool
wants_symbol [] = false
wants_symbol (f ∷ rest) = is_entry f.head && is_empty_list f.args

-- an atom in the place of a term
abbrev pub atom_read : List ℕ → List Frame → Progress
atom_read a frames =
    if same_bytes a (codes "T") then given (truth true) frames
    else if same_bytes a (codes "F") then given (truth false) frames
    else if is_number a then (if is_long (digits_of a) then stopped BigNumber else given (num (number_of a)) frames)
    else if is_symbol a then given (symbol a) frames
    else stopped BadAtom

abbrev pub symbol_read : List ℕ → List Frame → Progress
symbol_read a frames = if is_symbol a then given (symbol a) frames else stopped BadAtom

-- the term of an OLD with these arguments
abbrev pub entry_closed : List Tree → List Frame → Progress
entry_closed (symbol s ∷ []) frames = given (old s) frames
entry_closed _ frames = stopped BadCount

-- a closing bracket
abbrev pub closed : Head → List Tree → List Frame → Progress
closed EntryValue args frames = entry_closed args frames
closed (Function f arity) args frames =
    if fits_count arity (length args) && takes f (tree_row args) then given (apply f (tree_row args)) frames else stopped BadCount

abbrev pub closed_read : List Frame → Progress
closed_read [] = stopped Unbalanced
closed_read (f ∷ rest) = if wants_symbol (f ∷ rest) then stopped BadAtom else closed f.head f.args rest

-- so many open brackets are as many as may be; without a limit there may always be more
abbrev pub is_deepest : Option ℕ → ℕ → Bool
is_deepest None n = false
is_deepest (Some most) n = nat_le most n

abbrev pub opened_read : Option ℕ → List Frame → Progress
opened_read limit frames =
    if wants_symbol frames then stopped BadAtom
    else if is_deepest limit (length frames) then stopped TooDeep
    else going (record { naming = true; frames = frames })

-- the name behind an opening bracket
abbrev pub head_read : Option Head → List Frame → Progress
head_read None frames = stopped UnknownFunction
head_read (Some h) frames = going (record { naming = false; frames = record { head = h; args = [] } ∷ frames })

abbrev pub name_read : (List ℕ → Option Head) → Token → List Frame → Progress
name_read named opening frames = stopped BadAtom
name_read named closing frames = stopped BadAtom
name_read named (atom a) frames = if is_function_name a then head_read (named a) frames else stopped BadAtom

abbrev pub term_read : Option ℕ → Token → List Frame → Progress
term_read limit opening frames = opened_read limit frames
term_read limit closing frames = closed_read frames
term_read limit (atom a) frames = if wants_symbol frames then symbol_read a frames else atom_read a frames

-- one token
abbrev pub step : (List ℕ → Option Head) → Option ℕ → State → Token → Progress
step named limit s t = if s.naming then name_read named t s.frames else term_read limit t s.frames

-- the term with the number of bytes taken, or the first fault
pub data Reading : Type 0 where
  got : Tree → ℕ → Reading
  fault : ReadFault → Reading

-- what follows a token whose end is at `at`; `later` reads the tokens behind it
abbrev pub after_step : Progress → ℕ → (State → Reading) → Reading
after_step (going s) at later = later s
after_step (done t) at later = got t at
after_step (stopped f) at later = fault f

abbrev pub reading : (List ℕ → Option Head) → Option ℕ → State → List Lexeme → Reading
reading named limit s [] = fault Unbalanced
reading named limit s (p ∷ rest) = after_step (step named limit s p.token) p.after (λ t. reading named limit t rest)

-- nothing was read
abbrev pub fresh : State
fresh = record { naming = false; frames = [] }

-- what the text begins with, where at most so many brackets may be open
abbrev pub reads : (List ℕ → Option Head) → Option ℕ → List ℕ → Reading
reads named limit text = reading named limit fresh (tokens text)
