-- What the tables of a unit hold, and what they tell.
use Rattle.std.specs.Prelude.{ℕ, ◌+◌, Bool, true, false, List, [], ◌∷◌, map, Option, Some, None, slice_get}
use Rattle.std.specs.List.{list_any}
use Rattle.fort_syntax.specs.Names.{Applied, Element, BuiltIn, Reference}
use Rattle.fort_syntax.specs.declared.dialect.Sort.{Sort}
use Rattle.fort_syntax.specs.declared.expr.Expr.{Expr}
use Rattle.fort_syntax.specs.declared.name.Name.{Name}
use Rattle.fort_syntax.specs.declared.stmt.BlockName.{BlockName}
use Rattle.fort_syntax.specs.declared.stmt.BlockName.TheVariants.{Named}
use Rattle.fort_syntax.specs.declared.stmt.Group.{Group}
use Rattle.fort_syntax.specs.declared.unit.FunctionName.{FunctionName}
use Rattle.name_tables.specs.Sets.{with_name}

-- a name before a bracket that is neither an array nor an intrinsic function
abbrev pub is_call : Applied → Bool
is_call (Element dims) = false
is_call (BuiltIn i) = false
is_call Reference = true

-- names with their numbers, the first of which is k
abbrev pub numbered : List Name → ℕ → List (Name × ℕ)
numbered [] k = []
numbered (x ∷ xs) k = (x, k) ∷ numbered xs (k + 1)

-- functions with the types that a unit gives them
abbrev pub sort_told : FunctionName → Name × Sort
sort_told f = (f.name, f.sort)

abbrev pub sorts_told : List FunctionName → List (Name × Sort)
sorts_told fs = map sort_told fs

-- a set of names with those of blocks; blank COMMON has none
abbrev pub with_block : List Name → BlockName → List Name
with_block xs (Named x) = with_name xs x
with_block xs _ = xs

abbrev pub with_blocks : List Name → List Group → List Name
with_blocks xs [] = xs
with_blocks xs (group ∷ groups) = with_blocks (with_block xs group.block) groups

abbrev pub is_blank : BlockName → Bool
is_blank (Named x) = false
is_blank _ = true

abbrev pub has_blank : List Group → Bool
has_blank groups = list_any (λ group. is_blank group.block) groups

-- the one at a place, if there is one
abbrev pub expr_at : List Expr → Option ℕ → Option Expr
expr_at es None = None
expr_at es (Some k) = slice_get es k
