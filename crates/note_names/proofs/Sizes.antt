-- The size of a term, for the measure of a walk.
use Rattle.std.proofs.Common.{◌≡◌, ℕ, zero, suc, ◌+◌, ◌<◌, ◌≤◌, Bool, List, [], ◌∷◌, length, map, refl, ap, arith}
use Rattle.std.specs.Prelude.{◌&&◌, slice_index_or}
use Rattle.std.specs.List.{list_all}
use Rattle.formula.specs.declared.node.Node.{Node}
use Rattle.formula.specs.declared.node.TermId.{TermId}
use Rattle.formula.specs.Pool.{AllBelow, row_in, tree_at, tree_of, trees}
use Rattle.formula.specs.TermTests.{names_pass, row_names_pass}
use Rattle.formula.specs.Tree.{Tree, num, truth, symbol, old, apply, Row, none, more}

abbrev mutual
  pub size : Tree → ℕ
  size (num z) = 1
  size (truth b) = 1
  size (symbol s) = 1
  size (old s) = 1
  size (apply f row) = row_size row + 3

  pub row_size : Row → ℕ
  row_size none = 1
  row_size (more t rest) = size t + row_size rest + 1

-- each argument is smaller than all together
pub argument_smaller : (ts : List Tree) (ids : List TermId) (i : ℕ) (d : TermId) → i < length ids → size (tree_at ts (slice_index_or ids i d).place) < row_size (row_in ts ids)
argument_smaller ts [] i d lt = absurd (omega arith)
argument_smaller ts (id ∷ ids) zero d lt = omega arith
argument_smaller ts (id ∷ ids) (suc i) d lt = let h = argument_smaller ts ids i d (omega arith) in omega arith

pub argument_within : (n : ℕ) (ids : List TermId) (i : ℕ) (d : TermId) → AllBelow n ids → i < length ids → (slice_index_or ids i d).place < n
argument_within n [] i d h lt = absurd (omega arith)
argument_within n (id ∷ ids) zero d h lt = h.0
argument_within n (id ∷ ids) (suc i) d h lt = argument_within n ids i d h.1 (omega arith)

-- arguments as a list of trees
pub row_of_list : (now entry : List ℕ → Bool) (pool : List Node) (ids : List TermId) → list_all (λ t. names_pass now entry t) (map (tree_of pool) ids) ≡ row_names_pass now entry (row_in (trees pool) ids)
row_of_list now entry pool [] = refl
row_of_list now entry pool (id ∷ ids) = ap (λ b. names_pass now entry (tree_of pool id) && b) (row_of_list now entry pool ids)
