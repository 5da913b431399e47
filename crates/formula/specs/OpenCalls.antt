-- Open brackets that hold ids, and what they stand for.
use Rattle.std.specs.Prelude.{ℕ, ◌≡◌, ◌≢◌, true, false, Result, Ok, Err, List, [], ◌∷◌, length}
use Rattle.formula.specs.declared.fault.ReadFault.{ReadFault}
use Rattle.formula.specs.declared.fault.ReadFault.TheVariants.{NoMemory}
use Rattle.formula.specs.declared.node.Node.{Node}
use Rattle.formula.specs.declared.node.TermId.{TermId}
use Rattle.formula.specs.declared.open_calls.OpenCall.{OpenCall}
use Rattle.formula.specs.declared.open_calls.Due.{Due}
use Rattle.formula.specs.declared.open_calls.Due.TheVariants.{Term, Symbol, Name}
use Rattle.formula.specs.declared.open_calls.Turn.{Turn}
use Rattle.formula.specs.declared.open_calls.Turn.TheVariants.{Whole, Going}
use Rattle.formula.specs.Tree.{Tree}
use Rattle.formula.specs.Pool.{AllBelow, IsIn, tree_at, tree_of, trees}
use Rattle.formula.specs.Reading.{Frame, State, Progress, going, done, stopped, wants_symbol}

-- the trees of some ids, where ts are those of the pool
abbrev pub trees_in : List Tree → List TermId → List Tree
trees_in ts [] = []
trees_in ts (id ∷ rest) = tree_at ts id.place ∷ trees_in ts rest

abbrev pub frames_of : List Tree → List OpenCall → List Frame
frames_of ts [] = []
frames_of ts (c ∷ rest) = record { head = c.head; args = trees_in ts c.args.items } ∷ frames_of ts rest

abbrev pub state_of : List Tree → Due → List OpenCall → State
state_of ts Name calls = record { naming = true; frames = frames_of ts calls }
state_of ts due calls = record { naming = false; frames = frames_of ts calls }

-- all arguments are among the first n nodes
abbrev pub CallsBelow : ℕ → List OpenCall → Type 0
CallsBelow n [] = Unit {0}
CallsBelow n (c ∷ rest) = AllBelow n c.args.items × CallsBelow n rest

-- the symbol of an OLD is due just where Symbol says so
abbrev pub IsDue : Due → List Frame → Type 0
IsDue Term frames = wants_symbol frames ≡ false
IsDue Symbol frames = wants_symbol frames ≡ true
IsDue Name frames = Unit {0}

-- the open brackets hold ids of the pool, and `due` is what follows
abbrev pub Stands : List Node → Due → List OpenCall → Type 0
Stands pool due calls = CallsBelow (length pool) calls × IsDue due (frames_of (trees pool) calls)

-- the answer to a token, with the open brackets then, is this progress; want of memory may be answered to any token
abbrev pub Leads : List Node → Result Turn ReadFault → List OpenCall → Progress → Type 0
Leads pool (Ok (Whole id)) calls p = IsIn pool id × (p ≡ done (tree_of pool id))
Leads pool (Ok (Going due)) calls p = Stands pool due calls × (p ≡ going (state_of (trees pool) due calls))
Leads pool (Err f) calls p = f ≢ NoMemory → p ≡ stopped f
