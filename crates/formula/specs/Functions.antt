-- The names of the built-in functions, and how many arguments each takes.
use Rattle.std.specs.Prelude.{ℕ, ◌==◌, nat_lt, Bool, List, codes}
use Rattle.formula.specs.declared.function.Arity.{Arity}
use Rattle.formula.specs.declared.function.Arity.TheVariants.{Exactly, OneOrMore}
use Rattle.formula.specs.declared.function.BuiltIn.{BuiltIn}
use Rattle.formula.specs.declared.function.BuiltIn.TheVariants.{And, Or, Not, Implies, If, Equal, Plus, Difference, Times, Negative, Quotient, Remainder, Absolute, Maximum, Minimum, Less, AtMost, Element, Put, Size, Defined, IntegerCell, LogicalCell, IntegerCells, LogicalCells, Undefined, Blank}

abbrev pub name_of : BuiltIn → List ℕ
name_of And = codes "AND"
name_of Or = codes "OR"
name_of Not = codes "NOT"
name_of Implies = codes "IMPLIES"
name_of If = codes "IF"
name_of Equal = codes "EQUAL"
name_of Plus = codes "ZPLUS"
name_of Difference = codes "ZDIFF"
name_of Times = codes "ZTIMES"
name_of Negative = codes "ZNEG"
name_of Quotient = codes "ZQUO"
name_of Remainder = codes "ZREM"
name_of Absolute = codes "ZABS"
name_of Maximum = codes "ZMAX"
name_of Minimum = codes "ZMIN"
name_of Less = codes "ZLESSP"
name_of AtMost = codes "ZLEQ"
name_of Element = codes "ELT"
name_of Put = codes "PUT"
name_of Size = codes "SIZE"
name_of Defined = codes "DEFINED"
name_of IntegerCell = codes "CELLI"
name_of LogicalCell = codes "CELLL"
name_of IntegerCells = codes "CELLSI"
name_of LogicalCells = codes "CELLSL"
name_of Undefined = codes "UNDEF"
name_of Blank = codes "BLANK"

abbrev pub arity_of : BuiltIn → Arity
arity_of And = OneOrMore
arity_of Or = OneOrMore
arity_of Not = Exactly 1
arity_of Implies = Exactly 2
arity_of If = Exactly 3
arity_of Equal = Exactly 2
arity_of Plus = Exactly 2
arity_of Difference = Exactly 2
arity_of Times = Exactly 2
arity_of Negative = Exactly 1
arity_of Quotient = Exactly 2
arity_of Remainder = Exactly 2
arity_of Absolute = Exactly 1
arity_of Maximum = Exactly 2
arity_of Minimum = Exactly 2
arity_of Less = Exactly 2
arity_of AtMost = Exactly 2
arity_of Element = Exactly 2
arity_of Put = Exactly 3
arity_of Size = Exactly 1
arity_of Defined = Exactly 1
arity_of IntegerCell = Exactly 3
arity_of LogicalCell = Exactly 1
arity_of IntegerCells = Exactly 4
arity_of LogicalCells = Exactly 2
arity_of Undefined = Exactly 0
arity_of Blank = Exactly 1

-- a number of arguments is right
abbrev pub fits_count : Arity → ℕ → Bool
fits_count (Exactly m) n = n == m
fits_count OneOrMore n = nat_lt 0 n
