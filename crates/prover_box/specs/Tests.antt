-- What it is that a condition of a pool is valid, and the tests by which provers close it.
use Rattle.std.specs.Prelude.{◌≡◌, ℕ, zero, suc, ◌⊎◌, not, ◌&&◌, Bool, true, false, List, [], map, IsTrue, Contains}
use Rattle.formula.specs.declared.definition.Definition.{Definition}
use Rattle.formula.specs.declared.function.BuiltIn.TheVariants.{Equal}
use Rattle.formula.specs.declared.function.Func.TheVariants.{BuiltIn}
use Rattle.formula.specs.declared.node.Node.{Node}
use Rattle.formula.specs.declared.value.Value.{Value}
use Rattle.formula.specs.Bounded.{Outcome, got, beyond, spent, bounded}
use Rattle.formula.specs.Facts.{has_symbol}
use Rattle.formula.specs.Pool.{tree_of}
use Rattle.formula.specs.Tree.{Tree, truth, apply, none, more}
use Rattle.formula.specs.Values.{holds}
use Rattle.formula.specs.Worth.{Function, functions_of, nothing_known, assigned, IsValid}
use Rattle.fort_syntax.specs.declared.condition.Condition.{Condition}

-- no assignment makes a condition false, with definitions whose terms are in the pool
abbrev pub IsValidIn : List Node → List Definition → Condition → Type 0
IsValidIn pool ds c = IsValid (functions_of pool ds) (map (tree_of pool) c.hyps) (tree_of pool c.goal)

-- ---- the tests

-- an evaluation came to a value other than F
abbrev pub comes_true : Outcome Value → Bool
comes_true (got v n) = holds v
comes_true beyond = false
comes_true spent = false

-- The first test: no symbol and no entry value stands in the goal, and with 10,000 turns it is worth something other than F.
abbrev pub is_true_closed : List Function → Tree → Bool
is_true_closed fs goal = not (has_symbol goal) && comes_true (bounded fs (assigned []) nothing_known goal 10000)

-- The second test: the goal or F is a hypothesis, or the goal is T, or it is an equation with one term twice.
abbrev pub IsSubsumed : List Tree → Tree → Type 0
IsSubsumed hyps goal =
    Contains hyps goal ⊎ (Contains hyps (truth false) ⊎ ((goal ≡ truth true)
    ⊎ ((t : Tree) × (goal ≡ apply (BuiltIn Equal) (more t (more t none))))))

-- a condition passes the test of a number; no other number is that of a test
abbrev pub passes_test : List Function → ℕ → List Tree → Tree → Type 0
passes_test fs zero hyps goal = ⊥
passes_test fs (suc zero) hyps goal = IsTrue (is_true_closed fs goal)
passes_test fs (suc (suc zero)) hyps goal = IsSubsumed hyps goal
passes_test fs (suc (suc (suc n))) hyps goal = ⊥

abbrev pub PassesTest : List Node → List Definition → ℕ → Condition → Type 0
PassesTest pool ds n c = passes_test (functions_of pool ds) n (map (tree_of pool) c.hyps) (tree_of pool c.goal)
