-- What a name before a bracket is, as the code has it.
use Rattle.std.specs.Prelude.{◌≡◌, length}
use Rattle.fort_syntax.specs.Names as names
use Rattle.weight_expr.specs.declared.functions.Bracketed.{Bracketed}
use Rattle.weight_expr.specs.declared.functions.Bracketed.TheVariants.{Element, BuiltIn, Reference}
use Rattle.weight_expr.specs.declared.functions.Function.{Function}
use Rattle.weight_expr.specs.declared.functions.Function.TheVariants.{Absolute, Modulo, Greatest, Least}

abbrev pub meaning : Function → names.Intrinsic
meaning Absolute = names.Absolute
meaning Modulo = names.Modulo
meaning Greatest = names.Greatest
meaning Least = names.Least

-- the code's answer is that of the text: of an array it has the number of dimensions
abbrev pub is_applied : names.Applied → Bracketed → Type 0
is_applied (names.Element dims) (Element n) = n ≡ length dims
is_applied (names.BuiltIn i) (BuiltIn f) = meaning f ≡ i
is_applied names.Reference Reference = Unit {0}
is_applied (names.Element dims) (BuiltIn f) = ⊥
is_applied (names.Element dims) Reference = ⊥
is_applied (names.BuiltIn i) (Element n) = ⊥
is_applied (names.BuiltIn i) Reference = ⊥
is_applied names.Reference (Element n) = ⊥
is_applied names.Reference (BuiltIn f) = ⊥
