-- Shapes of arrays, and a step along the dimensions of one.
use Rattle.std.specs.Prelude.{◌≡◌, ◌≤◌, false, List}
use Rattle.std.specs.List.{list_any}
use Rattle.formula.specs.Tree.{Tree}
use Rattle.formula.specs.declared.function.BuiltIn.TheVariants.{Plus, Difference, Times}
use Rattle.fort_syntax.specs.NameRules.{fixed_size, is_zero_dim}
use Rattle.fort_syntax.specs.declared.stmt.Dim.{Dim}
use Rattle.fort_model.specs.Senses.{make2, natural, of_terms}

-- no dimension is 0, and by those that are constants there are at most so many elements
pub record IsGoodShape (dims : List Dim) : Type 0 where
  pub no_zero : list_any is_zero_dim dims ≡ false
  pub small : fixed_size dims ≤ 1000000

-- a place p, and as many more stretches q as a subscript i counts behind 1
abbrev pub place_moved : Tree → Tree → Tree → Tree
place_moved p q i = make2 of_terms Plus p (make2 of_terms Times q (make2 of_terms Difference i (natural of_terms 1)))
