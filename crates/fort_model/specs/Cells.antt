-- What operators make of the contents of cells. Runs, walks and terms use the same words of values.
use Rattle.std.specs.Prelude.{Bool, not, ℤ, ◌+ℤ◌, ◌-ℤ◌, ◌*ℤ◌, int_lt, int_le}
use Rattle.formula.specs.Values as value
use Rattle.formula.specs.Values.{of_cell, same_value, quotient}
use Rattle.formula.specs.declared.value.Cell.{Cell}
use Rattle.fort_syntax.specs.declared.dialect.BinOp.{BinOp}
use Rattle.fort_syntax.specs.declared.dialect.BinOp.TheVariants.{Add, Sub, Mul, Div}
use Rattle.fort_syntax.specs.declared.dialect.RelOp.{RelOp}
use Rattle.fort_syntax.specs.declared.dialect.RelOp.TheVariants.{Lt, Le, Eq, Ne, Ge, Gt}

-- the number in a cell; 0 where there is none
abbrev pub num : Cell → ℤ
num c = value.num (of_cell c)

-- what counts as true: all but .FALSE.
abbrev pub holds : Cell → Bool
holds c = value.holds (of_cell c)

abbrev pub is_defined : Cell → Bool
is_defined c = value.is_defined (of_cell c)

-- two cells hold the same
abbrev pub same : Cell → Cell → Bool
same a b = same_value (of_cell a) (of_cell b)

-- a quotient is cut towards zero, and is 0 where the divisor is
abbrev pub arithmetic : BinOp → ℤ → ℤ → ℤ
arithmetic Add a b = a +ℤ b
arithmetic Sub a b = a -ℤ b
arithmetic Mul a b = a *ℤ b
arithmetic Div a b = quotient a b

-- .EQ. and .NE. compare contents, the others numbers
abbrev pub compares : RelOp → Cell → Cell → Bool
compares Lt a b = int_lt (num a) (num b)
compares Le a b = int_le (num a) (num b)
compares Eq a b = same a b
compares Ne a b = not (same a b)
compares Ge a b = int_le (num b) (num a)
compares Gt a b = int_lt (num b) (num a)
