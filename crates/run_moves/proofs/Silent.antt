-- Parts of runs that take no step: they do the same with any stock of steps.
use Rattle.std.proofs.Common.{◌≡◌, ℕ, zero, suc, Bool, true, false, List, [], ◌∷◌, Option, Some, None, refl, sym, ap, ◌∙◌}
use Rattle.std.specs.Prelude.{ℤ, pos, ◌+◌, ◌-ℤ◌, ◌*ℤ◌, pred}
use Rattle.formula.specs.declared.value.Cell.{Cell}
use Rattle.fort_syntax.specs.Names.{Intrinsic, Absolute, Modulo, Greatest, Least}
use Rattle.fort_syntax.specs.declared.condition.Kind.{Kind}
use Rattle.fort_syntax.specs.declared.dialect.BinOp.{BinOp}
use Rattle.fort_syntax.specs.declared.dialect.BinOp.TheVariants.{Add, Sub, Mul, Div}
use Rattle.fort_syntax.specs.declared.stmt.Dim.{Dim}
use Rattle.fort_syntax.specs.declared.stmt.Param.{Param}
use Rattle.fort_syntax.specs.declared.stmt.Param.TheVariants.{Fixed, Named}
use Rattle.fort_model.specs.Cells.{num}
use Rattle.fort_model.specs.Storage.{Storage, Extent, Environment}
use Rattle.fort_model.specs.Processor.{Processor}
use Rattle.fort_model.specs.Outcome.{Outcome, Ended, Erred, Running, Act, ◌>>=◌, and_then, give, check, held}
use Rattle.fort_model.specs.Passing.{Taken, Cells, Fresh}
use Rattle.fort_model.specs.Evaluate.{Scene, read, value_of, ranged, constant, operate, power_on, power, intrinsic_value, numbers, subscripts_in, element}
use Rattle.fort_model.specs.Places.{dim_values, place}
use Rattle.formula.specs.Values.{count}
use Rattle.fort_model.specs.Perform.{assign, variable, parameter, step_value, result}

-- an outcome with another stock left
abbrev pub stocked : {B : Type 0} → ℕ → Outcome B → Outcome B
stocked n (Ended b st k) = Ended b st n
stocked n (Erred kind card st) = Erred kind card st
stocked n (Running st) = Running st

abbrev pub Silent : {B : Type 0} → Act B → Type 0
Silent act = (st : Storage) (n : ℕ) → act st n ≡ stocked n (act st 0)

stocked_twice : {B : Type 0} (n k : ℕ) (o : Outcome B) → stocked n (stocked k o) ≡ stocked n o
stocked_twice n k (Ended b st j) = refl
stocked_twice n k (Erred kind card st) = refl
stocked_twice n k (Running st) = refl

then_stocked : {B C : Type 0} (n : ℕ) (o : Outcome B) (f : B → Act C) → ((b : B) → Silent (f b)) → and_then (stocked n o) f ≡ stocked n (and_then o f)
then_stocked n (Ended b st k) f h = h b st n ∙ sym (ap (stocked n) (h b st k) ∙ stocked_twice n k (f b st 0))
then_stocked n (Erred kind card st) f h = refl
then_stocked n (Running st) f h = refl

pub silent_then : {B C : Type 0} (act : Act B) (f : B → Act C) → Silent act → ((b : B) → Silent (f b)) → Silent (act >>= f)
silent_then act f h g st n = ap (λ o. and_then o f) (h st n) ∙ then_stocked n (act st 0) f g

pub silent_give : {B : Type 0} (b : B) → Silent (give b)
silent_give b st n = refl

pub silent_check : (kind : Kind) (card : ℕ) (b : Bool) → Silent (check kind card b)
silent_check kind card true st n = refl
silent_check kind card false st n = refl

silent_held : Silent held
silent_held st n = refl

pub silent_read : (card i : ℕ) → Silent (read card i)
silent_read card i = silent_then held _ silent_held (λ st. silent_then (check _ card _) _ (silent_check _ card _) (λ _. silent_give _))

pub silent_value : (card : ℕ) (x : Taken) → Silent (value_of card x)
silent_value card (Cells e) = silent_read card e.first
silent_value card (Fresh c) = silent_give c

pub silent_ranged : (p : Processor) (card : ℕ) (z : ℤ) → Silent (ranged p card z)
silent_ranged p card z = silent_then (check _ card _) _ (silent_check _ card _) (λ _. silent_give _)

pub silent_constant : (p : Processor) (card c : ℕ) → Silent (constant p card c)
silent_constant p card c = silent_then (check _ card _) _ (silent_check _ card _) (λ _. silent_give _)

pub silent_operate : (p : Processor) (card : ℕ) (o : BinOp) (a b : Cell) → Silent (operate p card o a b)
silent_operate p card Add a b = silent_ranged p card _
silent_operate p card Sub a b = silent_ranged p card _
silent_operate p card Mul a b = silent_ranged p card _
silent_operate p card Div a b = silent_then (check _ card _) _ (silent_check _ card _) (λ _. silent_ranged p card _)

silent_power_on : (p : Processor) (card : ℕ) (base : ℤ) (more : ℕ) (product : ℤ) → Silent (power_on p card base more product)
silent_power_on p card base zero product = silent_give _
silent_power_on p card base (suc more) product =
    silent_then (ranged p card (product *ℤ base)) _ (silent_ranged p card (product *ℤ base)) (λ c. silent_power_on p card base more (num c))

pub silent_power : (p : Processor) (card : ℕ) (base : ℤ) (exponent : ℕ) → Silent (power p card base exponent)
silent_power p card base exponent = silent_power_on p card base (pred exponent) base

pub silent_intrinsic : (p : Processor) (card : ℕ) (i : Intrinsic) (cs : List Cell) → Silent (intrinsic_value p card i cs)
silent_intrinsic p card Absolute [] = silent_give _
silent_intrinsic p card Absolute (a ∷ []) = silent_ranged p card _
silent_intrinsic p card Absolute (a ∷ (b ∷ cs)) = silent_give _
silent_intrinsic p card Modulo [] = silent_give _
silent_intrinsic p card Modulo (a ∷ []) = silent_give _
silent_intrinsic p card Modulo (a ∷ (b ∷ [])) =
    silent_then (check _ card _) _ (silent_check _ card _) (λ _. silent_then (ranged p card _) _ (silent_ranged p card _) (λ _. silent_give _))
silent_intrinsic p card Modulo (a ∷ (b ∷ (c ∷ cs))) = silent_give _
silent_intrinsic p card Greatest [] = silent_give _
silent_intrinsic p card Greatest (a ∷ cs) = silent_give _
silent_intrinsic p card Least [] = silent_give _
silent_intrinsic p card Least (a ∷ cs) = silent_give _

silent_subscripts : (card : ℕ) (ss ds : List ℤ) → Silent (subscripts_in card ss ds)
silent_subscripts card [] ds = silent_give _
silent_subscripts card (s ∷ ss) [] = silent_give _
silent_subscripts card (s ∷ ss) (d ∷ ds) = silent_then (check _ card _) _ (silent_check _ card _) (λ _. silent_subscripts card ss ds)

pub silent_element : (env : Environment) (card : ℕ) (array : Extent) (dims : List Dim) (cs : List Cell) → Silent (element env card array dims cs)
silent_element env card array dims cs = silent_then held _ silent_held
    (λ st.
    silent_then (subscripts_in card (numbers cs) (dim_values env st dims)) _ (silent_subscripts card (numbers cs) (dim_values env st dims))
    (λ _. silent_give (Cells (record { first = array.first + count (place (numbers cs) (dim_values env st dims) -ℤ pos 1); size = 1 }))))

pub silent_assign : (x : Taken) (c : Cell) → Silent (assign x c)
silent_assign (Cells e) c st n = refl
silent_assign (Fresh v) c st n = refl

pub silent_variable : (s : Scene) (card : ℕ) (x : _) → Silent (variable s card x)
silent_variable s card x = silent_read card _

pub silent_parameter : (s : Scene) (card : ℕ) (m : Param) → Silent (parameter s card m)
silent_parameter s card (Fixed c) = silent_constant s.processor card c
silent_parameter s card (Named x) = silent_variable s card x

pub silent_step : (s : Scene) (card : ℕ) (m : Option Param) → Silent (step_value s card m)
silent_step s card None = silent_give _
silent_step s card (Some m) = silent_parameter s card m

pub silent_result : (s : Scene) (card : ℕ) (b : Bool) → Silent (result s card b)
silent_result s card false = silent_give _
silent_result s card true = silent_then held _ silent_held (λ st. silent_check _ card _)
