-- What the notes of a unit say, with terms as trees.
use Rattle.std.specs.Prelude.{ℕ, List, [], map}
use Rattle.formula.specs.declared.node.Node.{Node}
use Rattle.formula.specs.Pool.{tree_of}
use Rattle.formula.specs.Tree.{Tree}
use Rattle.fort_notes.specs.declared.notes.AssertSpec.{AssertSpec}
use Rattle.fort_notes.specs.declared.notes.UnitSpec.{UnitSpec}

-- An ASSERT: the point of the statement before which it stands, its card, its terms, and the parts of its clock.
pub record Assertion : Type 0 where
  pub point : ℕ
  pub card : ℕ
  pub terms : List Tree
  pub clock : List Tree

-- the terms of INPUT and of OUTPUT, and the ASSERTs in the order of their cards
pub record Notes : Type 0 where
  pub input : List Tree
  pub output : List Tree
  pub asserts : List Assertion

-- the notes of a unit that has none
abbrev pub no_notes : Notes
no_notes = record { input = []; output = []; asserts = [] }

-- the ASSERT that ids of a pool stand for
abbrev pub assertion_tree : List Node → AssertSpec → Assertion
assertion_tree pool a = record {
  point = a.line;
  card = a.card;
  terms = map (tree_of pool) a.terms;
  clock = map
      (tree_of pool) a.clock;
}

-- the notes of a unit that ids of a pool stand for
abbrev pub notes_tree : List Node → UnitSpec → Notes
notes_tree pool s = record {
  input = map (tree_of pool) s.input;
  output = map (tree_of pool) s.output;
  asserts = map
      (assertion_tree pool) s.asserts;
}
