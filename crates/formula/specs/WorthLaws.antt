-- The laws of worth.
use Rattle.std.specs.Prelude.{ℕ, ◌≡◌, ◌≤◌, not, List, Option, Some, None, IsTrue}
use Rattle.formula.specs.declared.definition.Definition.{Definition}
use Rattle.formula.specs.declared.node.Node.{Node}
use Rattle.formula.specs.declared.value.Value.{Value}
use Rattle.formula.specs.declared.value.Value.TheVariants.{Undefined}
use Rattle.formula.specs.Adding.{AreAdded}
use Rattle.formula.specs.Bounded.{got, bounded_by, chosen, function_at, calls_within, bounded}
use Rattle.formula.specs.Tree.{Tree}
use Rattle.formula.specs.Worth.{Uses, Valuation, Function, worth_by, functions_of, nothing_known, bound_to, used, worth, is_false_under, IsValid}

-- the worth of a function's term for some arguments; a number without a function makes nothing
abbrev pub term_worth : Uses → Option Function → List Value → Value
term_worth uses None vs = Undefined
term_worth uses (Some f) vs = worth_by uses (bound_to f.params vs) nothing_known (chosen f.body vs)

-- each use is worth its term for the arguments, where uses in the term mean the same; the term of a counting
-- definition is its base where the number of the first argument is at most 0, else its step
abbrev pub IsMeaning : List Function → Uses → Type 0
IsMeaning fs uses = (k : ℕ) (vs : List Value) → uses k vs ≡ term_worth uses (function_at fs k) vs

-- uses of definitions mean their terms, and nothing else does
abbrev pub UsesMeanTheirTerms : Type 0
UsesMeanTheirTerms =
    (pool : List Node) (ds : List Definition) → AreAdded pool ds
    → IsMeaning (functions_of pool ds) (used (functions_of pool ds))
    × ((other : Uses) → IsMeaning (functions_of pool ds) other → (k : ℕ) (vs : List Value)
    → other k vs ≡ used (functions_of pool ds) k vs)

-- a value that an evaluation with turns gives is the worth
abbrev pub BoundedWorthIsWorth : Type 0
BoundedWorthIsWorth =
    (pool : List Node) (ds : List Definition) → AreAdded pool ds → (symbols entries : Valuation) (t : Tree)
    (n m : ℕ) (v : Value) → bounded (functions_of pool ds) symbols entries t n ≡ got v m
    → worth (functions_of pool ds) symbols entries t ≡ v

-- a condition that no assignment makes false is false for no values of symbols at all
abbrev pub AssignmentsSuffice : Type 0
AssignmentsSuffice =
    (fs : List Function) (hyps : List Tree) (goal : Tree) → IsValid fs hyps goal → (symbols : Valuation)
    → IsTrue (not (is_false_under fs symbols nothing_known hyps goal))

-- only the turns decide: how deep uses may stand one in another changes nothing where it is not less than the turns
abbrev pub TurnsAloneDecide : Type 0
TurnsAloneDecide =
    (fs : List Function) (symbols entries : Valuation) (t : Tree) (n depth : ℕ) → n ≤ depth
    → bounded_by (calls_within fs depth) symbols entries t n ≡ bounded fs symbols entries t n
