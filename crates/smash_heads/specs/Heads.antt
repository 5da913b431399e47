-- The rule that is told at the head of a unit.
use Rattle.std.specs.Prelude.{Bool, cond, Option, Some, None}
use Rattle.fort_syntax.specs.declared.rule.Rule.{Rule}
use Rattle.fort_syntax.specs.declared.rule.Rule.TheVariants.{FunctionSmashes, DimensionSmashed}

-- 45 where the first test is passed, else 49 where the second is
abbrev pub told_at_head : Bool → Bool → Option Rule
told_at_head function dim = cond function (Some FunctionSmashes) (cond dim (Some DimensionSmashed) None)
