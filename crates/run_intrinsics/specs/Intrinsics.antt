-- What intrinsic functions make of values.
use Rattle.std.specs.Prelude.{ℕ, ◌≡◌, List, [], ◌∷◌, Result, Ok}
use Rattle.fort_syntax.specs.Names.{Intrinsic, Absolute, Modulo, Greatest, Least}
use Rattle.fort_syntax.specs.declared.condition.Kind.{Kind}
use Rattle.formula.specs.Values.{absolute, greater, smaller, remainder}
use Rattle.formula.specs.declared.value.Cell.{Cell}
use Rattle.formula.specs.declared.value.Cell.TheVariants.{Int, Undefined}
use Rattle.fort_syntax.specs.declared.dialect.BinOp.TheVariants.{Div}
use Rattle.fort_model.specs.declared.bounds.Bounds.{Bounds}
use Rattle.fort_model.specs.Cells.{num}
use Rattle.fort_model.specs.Evaluate.{folded, intrinsic_value}
use Rattle.fort_model.specs.Storage.{Storage}
use Rattle.run_held.specs.Sums.{Manner, processor_of, came_to, ranged_to, operated_to, with_number}

-- what a division leaves, where the quotient is one of the processor's integers
abbrev pub modulo_to : Bounds → Cell → Cell → Result Cell Kind
modulo_to b v w = with_number (operated_to b Div v w) (λ _. Ok (Int (remainder (num v) (num w))))

-- the intrinsic functions on the values of their arguments
abbrev pub intrinsic_to : Bounds → Intrinsic → List Cell → Result Cell Kind
intrinsic_to b Absolute (v ∷ []) = ranged_to b (absolute (num v))
intrinsic_to b Modulo (v ∷ w ∷ []) = modulo_to b v w
intrinsic_to b Greatest (v ∷ cs) = Ok (Int (folded greater (num v) cs))
intrinsic_to b Least (v ∷ cs) = Ok (Int (folded smaller (num v) cs))
intrinsic_to b i cs = Ok Undefined

-- the model's functions come to just that
abbrev pub IntrinsicsAreExact : Type 0
IntrinsicsAreExact = (b : Bounds) (m : Manner) (card : ℕ) (i : Intrinsic) (cs : List Cell) (st : Storage)
    → intrinsic_value (processor_of b m) card i cs st 0 ≡ came_to (intrinsic_to b i cs) card st
