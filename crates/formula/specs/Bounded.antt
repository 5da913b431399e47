-- The evaluation of a term with a stock of turns and numbers up to 2^120.
use Rattle.std.specs.Prelude.{ℕ, zero, suc, ◌^◌, nat_le, Bool, if◌then◌else◌, pos, unsigned_abs, int_le, List, [], ◌∷◌, Option, Some, None, slice_get}
use Rattle.formula.specs.declared.function.BuiltIn.TheVariants.{If}
use Rattle.formula.specs.declared.function.Func.{Func}
use Rattle.formula.specs.declared.function.Func.TheVariants.{BuiltIn, Defined}
use Rattle.formula.specs.declared.value.Value.{Value}
use Rattle.formula.specs.declared.value.Value.TheVariants.{Int, Logical, Undefined}
use Rattle.formula.specs.Tree.{Tree, num as number, truth, symbol, old, apply, Row, none, more}
use Rattle.formula.specs.Values.{num, holds, applied}
use Rattle.formula.specs.Worth.{Valuation, Function, FunctionBody, plain, counting, bound_to, first_of, nothing_known}

-- what an evaluation comes to: a value with the turns that are left; a number that is too large; or a use
-- without a turn left
pub data Outcome (A : Type 0) : Type 0 where
  got : A → ℕ → Outcome A
  beyond : Outcome A
  spent : Outcome A

-- what follows is done where there is a value
abbrev pub and_then : {A B : Type 0} → Outcome A → (A → ℕ → Outcome B) → Outcome B
and_then (got v n) next = next v n
and_then beyond next = beyond
and_then spent next = spent

-- a number is at least -2^120 and at most 2^120; other values have no size
abbrev pub is_in_range : Value → Bool
is_in_range (Int z) = nat_le (unsigned_abs z) (2 ^ 120)
is_in_range v = Bool.true

abbrev pub ranged : Value → ℕ → Outcome Value
ranged v n = if is_in_range v then got v n else beyond

-- what definitions come to, by their numbers, arguments and the turns left
abbrev pub Calls : Type 0
Calls = ℕ → List Value → ℕ → Outcome Value

abbrev pub function_bounded : Calls → Func → List Value → ℕ → Outcome Value
function_bounded calls (BuiltIn f) vs n = ranged (applied f vs) n
function_bounded calls (Defined k) vs n = calls k vs n

abbrev mutual
  -- arguments from the left, but of IF only the branch that is needed
  pub bounded_by : Calls → Valuation → Valuation → Tree → ℕ → Outcome Value
  bounded_by calls symbols entries (number z) n = ranged (Int z) n
  bounded_by calls symbols entries (truth b) n = got (Logical b) n
  bounded_by calls symbols entries (symbol s) n = ranged (symbols s) n
  bounded_by calls symbols entries (old s) n = ranged (entries s) n
  bounded_by calls symbols entries (apply (BuiltIn If) (more c (more a (more b none)))) n =
      and_then (bounded_by calls symbols entries c n) (λ v m. if holds v then bounded_by calls symbols
      entries a m else bounded_by calls symbols entries b m)
  bounded_by calls symbols entries (apply f row) n = and_then (arguments_bounded_by calls symbols entries row n)
      (function_bounded calls f)

  pub arguments_bounded_by : Calls → Valuation → Valuation → Row → ℕ → Outcome (List Value)
  arguments_bounded_by calls symbols entries none n = got [] n
  arguments_bounded_by calls symbols entries (more t rest) n =
      and_then (bounded_by calls symbols entries t n) (λ v m.
      and_then (arguments_bounded_by calls symbols entries rest m) (λ vs k. got (v ∷ vs) k))

-- the term that a use of a function comes to for its arguments
abbrev pub chosen : FunctionBody → List Value → Tree
chosen (plain t) vs = t
chosen (counting base step) vs = if int_le (num (first_of vs)) (pos 0) then base else step

-- the function of a number, counted from 1
abbrev pub function_at : List Function → ℕ → Option Function
function_at fs zero = None
function_at fs (suc k) = slice_get fs k

abbrev pub body_bounded : Calls → Option Function → List Value → ℕ → Outcome Value
body_bounded calls None vs n = got Undefined n
body_bounded calls (Some f) vs n = bounded_by calls (bound_to f.params vs) nothing_known (chosen f.body vs) n

-- the uses of functions, at most so many one in another; each takes a turn, after its arguments and before its body
abbrev pub calls_within : List Function → ℕ → Calls
calls_within fs zero k vs n = spent
calls_within fs (suc depth) k vs zero = spent
calls_within fs (suc depth) k vs (suc n) = body_bounded (calls_within fs depth) (function_at fs k) vs n

-- a term with a stock of turns; no more uses than turns can stand one in another
abbrev pub bounded : List Function → Valuation → Valuation → Tree → ℕ → Outcome Value
bounded fs symbols entries t n = bounded_by (calls_within fs n) symbols entries t n
