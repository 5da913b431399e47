-- The intrinsic functions of the code.
use Rattle.std.specs.Prelude.{Bool, cond}
use Rattle.fort_syntax.specs.Names as names
use Rattle.fort_syntax.specs.Names.{Intrinsic}
use Rattle.walk_intrinsics.specs.declared.words.Function.{Function}
use Rattle.walk_intrinsics.specs.declared.words.Function.TheVariants.{Absolute, Modulo, Greatest, Least}

abbrev pub meaning : Function → Intrinsic
meaning Absolute = names.Absolute
meaning Modulo = names.Modulo
meaning Greatest = names.Greatest
meaning Least = names.Least

-- MAX0 or MIN0
abbrev pub greatest_or_least : Bool → Intrinsic
greatest_or_least is_greatest = cond is_greatest names.Greatest names.Least
