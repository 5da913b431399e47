-- What terms weigh, by the nodes of a pool.
use Rattle.std.specs.Prelude.{ℕ, List, [], ◌∷◌, map}
use Rattle.formula.specs.Pool.{tree_of}
use Rattle.formula.specs.declared.node.Node.{Node}
use Rattle.formula.specs.declared.node.Node.TheVariants.{Num, Truth, Symbol, Old, Apply}
use Rattle.formula.specs.declared.node.TermId.{TermId}
use Rattle.fort_model.specs.Seen.{Named}
use Rattle.fort_model.specs.Senses.{note, with_bounds}
use Rattle.path_sizes.specs.Weights.{of_weights}
use Rattle.weight_caps.specs.Capped.{capped}

-- what a node weighs by itself, by what names weigh at the entry and now
abbrev pub own_weight : Named ℕ → Named ℕ → Node → ℕ
own_weight past now (Num z) = 1
own_weight past now (Truth b) = 1
own_weight past now (Symbol s) = with_bounds of_weights now s
own_weight past now (Old s) = past s
own_weight past now (Apply f args) = 1

-- a stack with some ids on its top, the last of them topmost
abbrev pub pushed : List TermId → List TermId → List TermId
pushed [] stack = stack
pushed (id ∷ ids) stack = pushed ids (id ∷ stack)

-- the weights of some terms, as far as the cap
abbrev pub weights_told : List Node → Named ℕ → Named ℕ → List TermId → List ℕ
weights_told pool past now ids = map (λ t. capped (note of_weights past now t)) (map (tree_of pool) ids)
