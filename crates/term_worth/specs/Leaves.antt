-- Arguments that are evaluated at once, since they are no functions.
use Rattle.std.specs.Prelude.{ℕ, ◌≡◌, ◌++◌, Bool, true, false, List, length, map, drop}
use Rattle.formula.specs.declared.definition.Definition.{Definition}
use Rattle.formula.specs.declared.node.Node.{Node}
use Rattle.formula.specs.declared.node.Node.TheVariants.{Num, Truth, Symbol, Old, Apply}
use Rattle.formula.specs.declared.node.TermId.{TermId}
use Rattle.formula.specs.declared.value.Value.{Value}
use Rattle.formula.specs.declared.value.Value.TheVariants.{Int, Logical, Undefined}
use Rattle.formula.specs.declared.word.Word.{Word}
use Rattle.formula.specs.Bounded.{beyond}
use Rattle.formula.specs.Worth.{Valuation}
use Rattle.term_worth.specs.declared.machine.Machine.{Machine}
use Rattle.term_worth.specs.declared.machine.Task.{Task}
use Rattle.term_worth.specs.declared.machine.Task.TheVariants.{Eval}
use Rattle.term_worth.specs.Machine.{AreHeld, meaning}

-- a node is no function
abbrev pub is_leaf : Node → Bool
is_leaf (Apply f args) = false
is_leaf node = true

-- the value of a node that is no function, by the values of symbols; OLD has none in an evaluation
abbrev pub leaf_value : Valuation → Node → Value
leaf_value symbols (Num z) = Int z
leaf_value symbols (Truth b) = Logical b
leaf_value symbols (Symbol s) = symbols s
leaf_value symbols (Old s) = Undefined
leaf_value symbols (Apply f args) = Undefined

-- a machine with other tasks
abbrev pub under : List Task → Machine → Machine
under tasks m = record m { tasks = tasks }

-- the values of the first k arguments were put: whatever comes behind them, the others lead to the same
pub record Prepares (pool : List Node) (ds : List Definition) (sheet : List (Word × Value)) (args : List TermId)
    (k : ℕ) (old new : Machine) : Type 0 where
  pub frame : new ≡ record old { values = new.values }
  pub values : AreHeld (length old.made) new.values
  pub same : (rest : List Task) → meaning pool ds sheet (under (map Eval (drop k args) ++ rest) new)
      ≡ meaning pool ds sheet (under (map Eval args ++ rest) old)

-- whatever comes behind these arguments, a number out of range comes first
abbrev pub IsBeyondFrom : List Node → List Definition → List (Word × Value) → List TermId → Machine → Type 0
IsBeyondFrom pool ds sheet args m = (rest : List Task) → meaning pool ds sheet (under (map Eval args ++ rest) m) ≡ beyond
