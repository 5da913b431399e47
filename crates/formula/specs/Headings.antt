-- Headings of definitions: their names and numbers of parameters. They are numbered from 1.
use Rattle.std.specs.Prelude.{ℕ, zero, suc, ◌≤◌, ◌==◌, Bool, false, Option, Some, None, List, [], ◌∷◌, ◌++◌, length, map, slice_get}
use Rattle.formula.specs.declared.definition.Definition.{Definition}
use Rattle.formula.specs.declared.definition.Heading.{Heading}
use Rattle.formula.specs.declared.word.Word.{Word}
use Rattle.formula.specs.Tree.{Row, row_count}

-- the heading of a name and parameters
abbrev pub heading_with : List ℕ → List (List ℕ) → Heading
heading_with name params = record { name = name; count = length params }

abbrev pub heading_of : Definition → Heading
heading_of d = heading_with d.name d.params

abbrev pub headings_of : List Definition → List Heading
headings_of ds = map heading_of ds

-- the heading of a number
abbrev pub heading_at : List Heading → ℕ → Option Heading
heading_at hs zero = None
heading_at hs (suc k) = slice_get hs k

-- headings, and one behind them where there is one
abbrev pub with_next : List Heading → Option Heading → List Heading
with_next hs None = hs
with_next hs (Some h) = hs ++ h ∷ []

-- the number of parameters is n, where there is a heading
abbrev pub has_count : ℕ → Option Heading → Bool
has_count n None = false
has_count n (Some h) = h.count == n

-- a use is of one of these headings, and has its number of arguments
abbrev pub is_headed : List Heading → ℕ → Row → Bool
is_headed hs k row = has_count (row_count row) (heading_at hs k)

-- ---- the table

-- the heading that stands in a table
abbrev pub entry_heading : Word × ℕ → Heading
entry_heading e = record { name = e.0; count = e.1 }

abbrev pub entry_headings : List (Word × ℕ) → List Heading
entry_headings es = map entry_heading es

-- names in a table are words
abbrev pub AreWords : List (Word × ℕ) → Type 0
AreWords [] = Unit {0}
AreWords (e ∷ rest) = ((1 ≤ length e.0) × (length e.0 ≤ 24)) × AreWords rest
