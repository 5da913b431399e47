-- What a pool tells of a term without a walk through it.
use Rattle.std.specs.Prelude.{ℕ, ◌+◌, Bool, true, false, ◌||◌, max, min, List, [], ◌∷◌, slice_index_or}
use Rattle.formula.specs.declared.facts.Facts.{Facts}
use Rattle.formula.specs.declared.function.Func.{Func}
use Rattle.formula.specs.declared.function.Func.TheVariants.{BuiltIn, Defined}
use Rattle.formula.specs.declared.node.Node.{Node}
use Rattle.formula.specs.declared.node.Node.TheVariants.{Num, Truth, Symbol, Old, Apply}
use Rattle.formula.specs.declared.node.TermId.{TermId}
use Rattle.formula.specs.Tree.{Tree, num, truth, symbol, old, apply, Row, none, more}

abbrev mutual
  -- a symbol, or the entry value of one, stands in the term
  pub has_symbol : Tree → Bool
  has_symbol (num z) = false
  has_symbol (truth b) = false
  has_symbol (symbol s) = true
  has_symbol (old s) = true
  has_symbol (apply f row) = row_has_symbol row

  pub row_has_symbol : Row → Bool
  row_has_symbol none = false
  row_has_symbol (more t rest) = has_symbol t || row_has_symbol rest

abbrev pub is_defined : Func → Bool
is_defined (BuiltIn f) = false
is_defined (Defined k) = true

abbrev mutual
  -- a definition is used in the term
  pub uses_definition : Tree → Bool
  uses_definition (num z) = false
  uses_definition (truth b) = false
  uses_definition (symbol s) = false
  uses_definition (old s) = false
  uses_definition (apply f row) = is_defined f || row_uses_definition row

  pub row_uses_definition : Row → Bool
  row_uses_definition none = false
  row_uses_definition (more t rest) = uses_definition t || row_uses_definition rest

abbrev mutual
  -- the most functions that stand one in another
  pub depth : Tree → ℕ
  depth (num z) = 0
  depth (truth b) = 0
  depth (symbol s) = 0
  depth (old s) = 0
  depth (apply f row) = row_depth row + 1

  pub row_depth : Row → ℕ
  row_depth none = 0
  row_depth (more t rest) = max (depth t) (row_depth rest)

abbrev mutual
  -- the number of numbers, truth values, symbols, entry values and functions in the term
  pub tree_size : Tree → ℕ
  tree_size (num z) = 1
  tree_size (truth b) = 1
  tree_size (symbol s) = 1
  tree_size (old s) = 1
  tree_size (apply f row) = tree_row_size row + 1

  pub tree_row_size : Row → ℕ
  tree_row_size none = 0
  tree_row_size (more t rest) = tree_size t + tree_row_size rest

-- a size as it is told: 2^32 - 1 stands for itself and for all above
abbrev pub capped : ℕ → ℕ
capped n = min n 4294967295

-- ---- how it is computed

abbrev pub facts_of : Tree → Facts
facts_of t = record {
  has_symbol = has_symbol t;
  uses_definition = uses_definition t;
  depth = depth t;
  size = capped
      (tree_size t);
}

abbrev pub facts_of_row : Row → Facts
facts_of_row row = record {
  has_symbol = row_has_symbol row;
  uses_definition = row_uses_definition row;
  depth = row_depth row;
  size = capped (tree_row_size row);
}

abbrev pub no_facts : Facts
no_facts = record { has_symbol = false; uses_definition = false; depth = 0; size = 0 }

-- of terms that stand side by side
abbrev pub beside : Facts → Facts → Facts
beside a b = record {
  has_symbol = a.has_symbol || b.has_symbol;
  uses_definition = a.uses_definition
      || b.uses_definition;
  depth = max a.depth b.depth;
  size = capped (a.size + b.size);
}

abbrev pub facts_at : List Facts → ℕ → Facts
facts_at facts place = slice_index_or facts place no_facts

abbrev pub row_facts_in : List Facts → List TermId → Facts
row_facts_in facts [] = no_facts
row_facts_in facts (id ∷ rest) = beside (facts_at facts id.place) (row_facts_in facts rest)

-- of a function, from what its arguments are side by side
abbrev pub function_facts : Func → Facts → Facts
function_facts f row = record {
  has_symbol = row.has_symbol;
  uses_definition = is_defined f
      || row.uses_definition;
  depth = row.depth + 1;
  size = capped (row.size + 1);
}

-- of a node, from what is told of its arguments
abbrev pub facts_in : List Facts → Node → Facts
facts_in facts (Num z) = record { has_symbol = false; uses_definition = false; depth = 0; size = 1 }
facts_in facts (Truth b) = record { has_symbol = false; uses_definition = false; depth = 0; size = 1 }
facts_in facts (Symbol s) = record { has_symbol = true; uses_definition = false; depth = 0; size = 1 }
facts_in facts (Old s) = record { has_symbol = true; uses_definition = false; depth = 0; size = 1 }
facts_in facts (Apply f args) = function_facts f (row_facts_in facts args)
