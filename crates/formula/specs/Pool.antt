-- What the nodes of a pool stand for.
use Rattle.std.specs.Prelude.{ℕ, ◌<◌, ◌≡◌, false, List, [], ◌∷◌, ◌++◌, length, slice_index_or, IsTrue}
use Rattle.formula.specs.declared.node.Node.{Node}
use Rattle.formula.specs.declared.node.Node.TheVariants.{Num, Truth, Symbol, Old, Apply}
use Rattle.formula.specs.declared.node.TermId.{TermId}
use Rattle.formula.specs.Tree.{Tree, num, truth, symbol, old, apply, Row, none, more, takes}

-- each argument is one of the first n nodes
abbrev pub AllBelow : ℕ → List TermId → Type 0
AllBelow n [] = Unit {0}
AllBelow n (id ∷ rest) = (id.place < n) × AllBelow n rest

-- the tree at a place
abbrev pub tree_at : List Tree → ℕ → Tree
tree_at done place = slice_index_or done place (truth false)

abbrev pub row_in : List Tree → List TermId → Row
row_in done [] = none
row_in done (id ∷ rest) = more (tree_at done id.place) (row_in done rest)

-- the tree of a node whose arguments are among these trees
abbrev pub tree_in : List Tree → Node → Tree
tree_in done (Num z) = num z
tree_in done (Truth b) = truth b
tree_in done (Symbol s) = symbol s
tree_in done (Old s) = old s
tree_in done (Apply f args) = apply f (row_in done args)

abbrev pub arguments_of : Node → List TermId
arguments_of (Num z) = []
arguments_of (Truth b) = []
arguments_of (Symbol s) = []
arguments_of (Old s) = []
arguments_of (Apply f args) = args

-- the arguments of an id's node
abbrev pub arguments_at : List Node → TermId → List TermId
arguments_at pool id = arguments_of (slice_index_or pool id.place (Truth false))

-- a node's arguments are among these trees, and its function takes them
abbrev pub HasArguments : List Tree → Node → Type 0
HasArguments done (Num z) = Unit {0}
HasArguments done (Truth b) = Unit {0}
HasArguments done (Symbol s) = Unit {0}
HasArguments done (Old s) = Unit {0}
HasArguments done (Apply f args) = AllBelow (length done) args × IsTrue (takes f (row_in done args))

-- a node's arguments stand before the place n
abbrev pub HasArgumentsBelow : ℕ → Node → Type 0
HasArgumentsBelow n (Num z) = Unit {0}
HasArgumentsBelow n (Truth b) = Unit {0}
HasArgumentsBelow n (Symbol s) = Unit {0}
HasArgumentsBelow n (Old s) = Unit {0}
HasArgumentsBelow n (Apply f args) = AllBelow n args

abbrev pub grown : List Tree → List Node → List Tree
grown done [] = done
grown done (node ∷ rest) = grown (done ++ tree_in done node ∷ []) rest

-- the trees of the nodes, in order
abbrev pub trees : List Node → List Tree
trees = grown []

-- each node names earlier ones, and its function takes them
abbrev pub IsPool : List Tree → List Node → Type 0
IsPool done [] = Unit {0}
IsPool done (node ∷ rest) = HasArguments done node × IsPool (done ++ tree_in done node ∷ []) rest

-- the tree that an id stands for
abbrev pub tree_of : List Node → TermId → Tree
tree_of pool id = tree_at (trees pool) id.place

-- an id of the pool
abbrev pub IsIn : List Node → TermId → Type 0
IsIn pool id = id.place < length pool

-- nodes were added, and the earlier ones are as they were
pub record Grows (old new : List Node) : Type 0 where
  pub added : List Node
  pub is : new ≡ old ++ added

-- two ids with one tree are one id
abbrev pub HasOneIdEach : List Node → Type 0
HasOneIdEach pool = (a b : TermId) → IsIn pool a → IsIn pool b → tree_of pool a ≡ tree_of pool b → a.place ≡ b.place
