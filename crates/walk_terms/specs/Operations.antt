-- The functions that operations are written with.
use Rattle.formula.specs.declared.function.BuiltIn.{BuiltIn}
use Rattle.formula.specs.declared.function.BuiltIn.TheVariants.{Plus, Difference, Times, Quotient}
use Rattle.fort_syntax.specs.declared.dialect.BinOp.{BinOp}
use Rattle.fort_syntax.specs.declared.dialect.BinOp.TheVariants.{Add, Sub, Mul, Div}

-- the function of an operator between integers
abbrev pub function_of : BinOp → BuiltIn
function_of Add = Plus
function_of Sub = Difference
function_of Mul = Times
function_of Div = Quotient
