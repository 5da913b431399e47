-- Values of terms, and what functions make of them. Runs and walks use the same words.
use Rattle.std.specs.Prelude.{ℕ, suc, Bool, true, false, not, cond, ◌&&◌, ◌||◌, if◌then◌else◌, ℤ, pos, negsuc, ◌+ℤ◌, ◌-ℤ◌, ◌*ℤ◌, neg_ℤ, unsigned_abs, int_lt, int_le, int_div, List, [], ◌∷◌, length, replicate, Option, Some, None, slice_get, slice_set}
use Rattle.std.specs.List.{list_all, list_any}
use Rattle.std.specs.Ordering.{int_eq}
use Rattle.formula.specs.declared.function.BuiltIn.{BuiltIn}
use Rattle.formula.specs.declared.function.BuiltIn.TheVariants as f
use Rattle.formula.specs.declared.value.Cell.{Cell}
use Rattle.formula.specs.declared.value.Cell.TheVariants as cell
use Rattle.formula.specs.declared.value.Value.{Value}
use Rattle.formula.specs.declared.value.Value.TheVariants.{Int, Logical, Undefined, Cells}

-- the number of a value; 0 where it is none
abbrev pub num : Value → ℤ
num (Int z) = z
num _ = pos 0

-- what counts as true: all but F
abbrev pub holds : Value → Bool
holds (Logical b) = b
holds _ = true

abbrev pub is_defined : Value → Bool
is_defined (Int z) = true
is_defined (Logical b) = true
is_defined _ = false

-- ---- the same values

abbrev pub same_cell : Cell → Cell → Bool
same_cell (cell.Int a) (cell.Int b) = int_eq a b
same_cell (cell.Logical a) (cell.Logical b) = cond a b (not b)
same_cell cell.Undefined cell.Undefined = true
same_cell _ _ = false

abbrev pub same_cells : List Cell → List Cell → Bool
same_cells [] [] = true
same_cells (a ∷ xs) (b ∷ ys) = same_cell a b && same_cells xs ys
same_cells _ _ = false

abbrev pub same_value : Value → Value → Bool
same_value (Int a) (Int b) = int_eq a b
same_value (Logical a) (Logical b) = cond a b (not b)
same_value Undefined Undefined = true
same_value (Cells xs) (Cells ys) = same_cells xs ys
same_value _ _ = false

-- ---- cells and lists of cells

-- the value of a cell
abbrev pub of_cell : Cell → Value
of_cell (cell.Int z) = Int z
of_cell (cell.Logical b) = Logical b
of_cell cell.Undefined = Undefined

-- the cell of a value; a list of cells is none
abbrev pub as_cell : Value → Option Cell
as_cell (Int z) = Some (cell.Int z)
as_cell (Logical b) = Some (cell.Logical b)
as_cell Undefined = Some cell.Undefined
as_cell (Cells cs) = None

-- how many a number counts; a negative one counts none
abbrev pub count : ℤ → ℕ
count (pos n) = n
count (negsuc n) = 0

-- the cell at a place, which is counted from 1
abbrev pub cell_at : List Cell → ℤ → Option Cell
cell_at cs (pos (suc n)) = slice_get cs n
cell_at cs _ = None

-- cells with one of them replaced, where there is such a place
abbrev pub replaced : List Cell → ℤ → Cell → List Cell
replaced cs (pos (suc n)) c = slice_set cs n c
replaced cs _ c = cs

abbrev pub value_or_undefined : Option Cell → Value
value_or_undefined (Some c) = of_cell c
value_or_undefined None = Undefined

-- the cell at a place, as a value; undefined where there is none
abbrev pub element : Value → ℤ → Value
element (Cells cs) i = value_or_undefined (cell_at cs i)
element _ i = Undefined

abbrev pub put_cell : List Cell → ℤ → Option Cell → List Cell
put_cell cs i (Some c) = replaced cs i c
put_cell cs i None = cs

-- a list with a value as the cell at a place; the same where there is no such place or the value is a list
abbrev pub put : Value → ℤ → Value → Value
put (Cells cs) i v = Cells (put_cell cs i (as_cell v))
put a i v = a

abbrev pub size : Value → ℤ
size (Cells cs) = pos (length cs)
size _ = pos 0

-- ---- the sorts of cells

abbrev pub is_between : ℤ → ℤ → ℤ → Bool
is_between least greatest z = int_le least z && int_le z greatest

-- undefined, or an integer within bounds
abbrev pub is_integer_cell : ℤ → ℤ → Cell → Bool
is_integer_cell least greatest (cell.Int z) = is_between least greatest z
is_integer_cell least greatest (cell.Logical b) = false
is_integer_cell least greatest cell.Undefined = true

-- undefined, or a truth value
abbrev pub is_logical_cell : Cell → Bool
is_logical_cell (cell.Int z) = false
is_logical_cell (cell.Logical b) = true
is_logical_cell cell.Undefined = true

abbrev pub some_cell : (Cell → Bool) → Option Cell → Bool
some_cell test (Some c) = test c
some_cell test None = false

-- a value that is one cell, which passes a test
abbrev pub is_cell : (Cell → Bool) → Value → Bool
is_cell test v = some_cell test (as_cell v)

-- a list of so many cells, each of which passes a test
abbrev pub are_cells : (Cell → Bool) → ℤ → Value → Bool
are_cells test n (Cells cs) = int_eq (pos (length cs)) n && list_all test cs
are_cells test n _ = false

-- ---- arithmetic

-- a quotient is cut towards zero, and is 0 where the divisor is
abbrev pub quotient : ℤ → ℤ → ℤ
quotient a b = int_div a b

abbrev pub remainder : ℤ → ℤ → ℤ
remainder a b = a -ℤ quotient a b *ℤ b

abbrev pub absolute : ℤ → ℤ
absolute a = pos (unsigned_abs a)

abbrev pub greater : ℤ → ℤ → ℤ
greater a b = if int_lt a b then b else a

abbrev pub smaller : ℤ → ℤ → ℤ
smaller a b = if int_lt b a then b else a

-- ---- the functions

-- what a built-in function makes of its arguments; undefined where their number is wrong
abbrev pub applied : BuiltIn → List Value → Value
applied f.And vs = Logical (list_all holds vs)
applied f.Or vs = Logical (list_any holds vs)
applied f.Not (a ∷ []) = Logical (not (holds a))
applied f.Implies (a ∷ b ∷ []) = Logical (not (holds a) || holds b)
applied f.If (a ∷ b ∷ c ∷ []) = if holds a then b else c
applied f.Equal (a ∷ b ∷ []) = Logical (same_value a b)
applied f.Plus (a ∷ b ∷ []) = Int (num a +ℤ num b)
applied f.Difference (a ∷ b ∷ []) = Int (num a -ℤ num b)
applied f.Times (a ∷ b ∷ []) = Int (num a *ℤ num b)
applied f.Negative (a ∷ []) = Int (neg_ℤ (num a))
applied f.Quotient (a ∷ b ∷ []) = Int (quotient (num a) (num b))
applied f.Remainder (a ∷ b ∷ []) = Int (remainder (num a) (num b))
applied f.Absolute (a ∷ []) = Int (absolute (num a))
applied f.Maximum (a ∷ b ∷ []) = Int (greater (num a) (num b))
applied f.Minimum (a ∷ b ∷ []) = Int (smaller (num a) (num b))
applied f.Less (a ∷ b ∷ []) = Logical (int_lt (num a) (num b))
applied f.AtMost (a ∷ b ∷ []) = Logical (int_le (num a) (num b))
applied f.Element (a ∷ i ∷ []) = element a (num i)
applied f.Put (a ∷ i ∷ v ∷ []) = put a (num i) v
applied f.Size (a ∷ []) = Int (size a)
applied f.Defined (a ∷ []) = Logical (is_defined a)
applied f.IntegerCell (a ∷ l ∷ h ∷ []) = Logical (is_cell (is_integer_cell (num l) (num h)) a)
applied f.LogicalCell (a ∷ []) = Logical (is_cell is_logical_cell a)
applied f.IntegerCells (a ∷ n ∷ l ∷ h ∷ []) = Logical (are_cells (is_integer_cell (num l) (num h)) (num n) a)
applied f.LogicalCells (a ∷ n ∷ []) = Logical (are_cells is_logical_cell (num n) a)
applied f.Undefined [] = Undefined
applied f.Blank (n ∷ []) = Cells (replicate (count (num n)) cell.Undefined)
applied _ _ = Undefined
