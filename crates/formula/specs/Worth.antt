-- What a term is worth, for every number of turns and every size of number.
use Rattle.std.specs.Prelude.{ℕ, zero, suc, ◌==◌, Bool, not, ◌&&◌, if◌then◌else◌, List, [], ◌∷◌, map, IsTrue}
use Rattle.std.specs.List.{list_all}
use Rattle.formula.specs.declared.function.Func.{Func}
use Rattle.formula.specs.declared.function.Func.TheVariants.{BuiltIn, Defined}
use Rattle.formula.specs.declared.definition.Body.{Body}
use Rattle.formula.specs.declared.definition.Body.TheVariants.{Plain, Counting}
use Rattle.formula.specs.declared.definition.Definition.{Definition}
use Rattle.formula.specs.declared.node.Node.{Node}
use Rattle.formula.specs.declared.value.Value.{Value}
use Rattle.formula.specs.declared.value.Value.TheVariants.{Int, Logical, Undefined}
use Rattle.formula.specs.Atoms.{same_bytes}
use Rattle.formula.specs.Pool.{tree_of}
use Rattle.formula.specs.Tree.{Tree, num as number, truth, symbol, old, apply, Row, none, more}
use Rattle.formula.specs.Values.{num, holds, count, applied}

-- the values of symbols, or of entry values, by their words
abbrev pub Valuation : Type 0
Valuation = List ℕ → Value

-- what definitions make of their arguments, by their numbers
abbrev pub Uses : Type 0
Uses = ℕ → List Value → Value

abbrev pub function_worth : Uses → Func → List Value → Value
function_worth uses (BuiltIn f) vs = applied f vs
function_worth uses (Defined k) vs = uses k vs

abbrev mutual
  -- the worth of a term, by what uses of definitions make of their arguments
  pub worth_by : Uses → Valuation → Valuation → Tree → Value
  worth_by uses symbols entries (number z) = Int z
  worth_by uses symbols entries (truth b) = Logical b
  worth_by uses symbols entries (symbol s) = symbols s
  worth_by uses symbols entries (old s) = entries s
  worth_by uses symbols entries (apply f row) = function_worth uses f (worths_by uses symbols entries row)

  pub worths_by : Uses → Valuation → Valuation → Row → List Value
  worths_by uses symbols entries none = []
  worths_by uses symbols entries (more t rest) = worth_by uses symbols entries t ∷ worths_by uses symbols entries rest

-- ---- definitions

-- what a definition stands for: a term, or the base and the step of a counting definition
pub data FunctionBody : Type 0 where
  plain : Tree → FunctionBody
  counting : Tree → Tree → FunctionBody

-- a definition, its body as trees
pub record Function : Type 0 where
  pub name : List ℕ
  pub params : List (List ℕ)
  pub body : FunctionBody

abbrev pub body_of : List Node → Body → FunctionBody
body_of pool (Plain t) = plain (tree_of pool t)
body_of pool (Counting base step) = counting (tree_of pool base) (tree_of pool step)

-- the function of a definition whose body is in a pool
abbrev pub function_of : List Node → Definition → Function
function_of pool d = record { name = d.name; params = d.params; body = body_of pool d.body }

abbrev pub functions_of : List Node → List Definition → List Function
functions_of pool ds = map (function_of pool) ds

-- no symbol has a value
abbrev pub nothing_known : Valuation
nothing_known s = Undefined

-- each parameter has the value of its argument
abbrev pub bound_to : List (List ℕ) → List Value → Valuation
bound_to [] vs s = Undefined
bound_to (p ∷ ps) [] s = Undefined
bound_to (p ∷ ps) (v ∷ vs) s = if same_bytes p s then v else bound_to ps vs s

-- the first of some arguments
abbrev pub first_of : List Value → Value
first_of [] = Undefined
first_of (v ∷ vs) = v

-- a function more, which has the number k
abbrev pub with_use : ℕ → (List Value → Value) → Uses → Uses
with_use k called uses j vs = if j == k then called vs else uses j vs

-- the counting definition of number k when n is left to count: the base at 0, else the step, where each use of
-- itself has one less left
abbrev pub counted : Uses → ℕ → List (List ℕ) → Tree → Tree → ℕ → List Value → Value
counted uses k params base step zero vs = worth_by uses (bound_to params vs) nothing_known base
counted uses k params base step (suc n) vs =
    worth_by (with_use k (counted uses k params base step n) uses) (bound_to params vs) nothing_known step

-- what the definition of number k makes of its arguments, by the uses of earlier definitions
abbrev pub body_worth : Uses → ℕ → List (List ℕ) → FunctionBody → List Value → Value
body_worth uses k params (plain t) vs = worth_by uses (bound_to params vs) nothing_known t
body_worth uses k params (counting base step) vs = counted uses k params base step (count (num (first_of vs))) vs

-- functions, the first of which has the number k, on top of earlier ones
abbrev pub used_from : ℕ → Uses → List Function → Uses
used_from k uses [] = uses
used_from k uses (f ∷ rest) = used_from (suc k) (with_use k (body_worth uses k f.params f.body) uses) rest

-- what uses of some functions, numbered from 1, make of their arguments; no other number makes anything
abbrev pub used : List Function → Uses
used fs = used_from 1 (λ k vs. Undefined) fs

-- the worth of a term under definitions, for values of symbols and entry values
abbrev pub worth : List Function → Valuation → Valuation → Tree → Value
worth fs symbols entries t = worth_by (used fs) symbols entries t

-- ---- assignments and conditions

-- the values that an assignment gives to symbols; one that is not in it is undefined
abbrev pub assigned : List (List ℕ × Value) → Valuation
assigned [] s = Undefined
assigned (e ∷ rest) s = if same_bytes e.0 s then e.1 else assigned rest s

-- a term is true: its worth is not F
abbrev pub is_true_under : List Function → Valuation → Valuation → Tree → Bool
is_true_under fs symbols entries t = holds (worth fs symbols entries t)

-- a condition is false: all hypotheses are true, and the goal is not
abbrev pub is_false_under : List Function → Valuation → Valuation → List Tree → Tree → Bool
is_false_under fs symbols entries hyps goal =
    list_all (is_true_under fs symbols entries) hyps && not (is_true_under fs symbols entries goal)

-- a condition is valid: no assignment makes it false
abbrev pub IsValid : List Function → List Tree → Tree → Type 0
IsValid fs hyps goal = (assignment : List (List ℕ × Value))
    → IsTrue (not (is_false_under fs (assigned assignment) nothing_known hyps goal))
