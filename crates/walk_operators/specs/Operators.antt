-- What operators of one value and of two come to.
use Rattle.std.specs.Prelude.{ℕ, List}
use Rattle.formula.specs.Tree.{Tree}
use Rattle.formula.specs.declared.function.BuiltIn.TheVariants as f
use Rattle.fort_syntax.specs.declared.name.Name.{Name}
use Rattle.fort_syntax.specs.declared.stmt.Dim.{Dim}
use Rattle.fort_model.specs.Seen.{Named, See, ◌>>=◌, see}
use Rattle.fort_model.specs.Senses.{make1, make2, negated}
use Rattle.fort_model.specs.WalkCalls.{Sight, Operand, Part, Computed}
use Rattle.fort_model.specs.WalkExpr.{computed, operate, place_checked, power, ranged, relation}
use Rattle.walk_operators.specs.declared.operators.Binary.{Binary}
use Rattle.walk_operators.specs.declared.operators.Binary.TheVariants.{Number, Truth}
use Rattle.walk_operators.specs.declared.operators.Unary.{Unary as Single}
use Rattle.walk_operators.specs.declared.operators.Unary.TheVariants.{Kept, Negative, Power, Not}
use Rattle.walk_operators.specs.declared.relations.Test.{Test}
use Rattle.walk_operators.specs.declared.relations.Test.TheVariants.{Relation, And, Or}

-- brackets and the sign + keep a value
abbrev pub of_one : Sight Tree → ℕ → Single → Tree → See Tree (Operand Tree)
of_one w card Kept v = see (Computed v)
of_one w card Negative v = computed w (ranged w card (make1 w.sense f.Negative v))
of_one w card (Power n) v = computed w (power w card v n)
of_one w card Not v = see (Computed (negated w.sense v))

-- the truth value of a test of two values
abbrev pub tested : Sight Tree → Test → Tree → Tree → Tree
tested w (Relation o) a b = relation w o a b
tested w And a b = make2 w.sense f.And a b
tested w Or a b = make2 w.sense f.Or a b

abbrev pub of_two : Sight Tree → ℕ → Binary → Tree → Tree → See Tree (Operand Tree)
of_two w card (Number o) a b = computed w (operate w card o a b)
of_two w card (Truth t) a b = see (Computed (tested w t a b))

-- an element of an array, whose subscripts are checked; it is not read
abbrev pub element_of : Sight Tree → ℕ → Named Tree → Name → List Dim → List Tree → See Tree (Operand Tree)
element_of w card now a dims is = place_checked w card now dims is >>= λ p. see (Part (make2 w.sense f.Element (now a) p))
