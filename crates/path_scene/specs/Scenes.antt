-- Of which program a scene is.
use Rattle.std.specs.Prelude.{◌≡◌, ◌<◌, ℕ, List, length, map, Some, slice_get}
use Rattle.std.specs.List.{All}
use Rattle.formula.specs.declared.node.Node.{Node}
use Rattle.formula.specs.Pool.{AllBelow}
use Rattle.fort_syntax.specs.WellFormed.{IsWellFormed}
use Rattle.fort_syntax.specs.declared.deck.Deck.{Deck}
use Rattle.fort_syntax.specs.declared.unit.Unit.{Unit as Routine}
use Rattle.fort_notes.specs.Assertions.{notes_tree}
use Rattle.fort_notes.specs.declared.notes.AssertSpec.{AssertSpec}
use Rattle.fort_notes.specs.declared.notes.UnitSpec.{UnitSpec}
use Rattle.fort_model.specs.Fitting.{HasFittingNotes}
use Rattle.fort_model.specs.Program.{Program}
use Rattle.fort_model.specs.Stages.{KeepsAll, rules_of_calls, rules_of_smashing, rules_of_ranges}
use Rattle.path_scene.specs.declared.scene.Scene.{Scene}

-- the terms of an ASSERT are of a pool with so many nodes
pub record IsAssertIn (n : ℕ) (a : AssertSpec) : Type 0 where
  pub terms : AllBelow n a.terms
  pub clock : AllBelow n a.clock

-- the terms of the notes of a unit are of a pool with so many nodes
pub record AreNotesIn (n : ℕ) (s : UnitSpec) : Type 0 where
  pub input : AllBelow n s.input
  pub output : AllBelow n s.output
  pub asserts : All (IsAssertIn n) s.asserts

-- A scene is that of a program, whatever definitions the program has: it has its dialect, bound and units, its notes as terms
-- of a pool, and its table of smashed names.
pub record IsScene (pool : List Node) (scene : Scene) (p : Program) : Type 0 where
  pub dialect : scene.dialect ≡ p.dialect
  pub bound : scene.bound ≡ p.bound
  pub units : scene.books.now.units.now ≡ p.units
  pub notes : map (notes_tree pool) scene.notes.now ≡ p.notes
  pub smashes : scene.smashes.now ≡ p.smashes
  pub inside : All (AreNotesIn (length pool)) scene.notes.now

-- A scene is that of a program which keeps all rules that stand before the flow: its units are those of a deck that is well
-- formed, its notes fit them, it keeps the rules on calls, on smashed names, and on the
-- ranges of DOs and the clocks; and its units are not too long to have their statements counted.
pub record IsReady (pool : List Node) (scene : Scene) (p : Program) : Type 0 where
  pub is_scene : IsScene pool scene p
  pub deck : Deck
  pub units : deck.units ≡ p.units
  pub well_formed : IsWellFormed p.dialect deck
  pub fitting : HasFittingNotes p
  pub calls : KeepsAll p rules_of_calls
  pub smashing : KeepsAll p rules_of_smashing
  pub ranges : KeepsAll p rules_of_ranges
  pub few : (i : ℕ) (u : Routine) → slice_get p.units i ≡ Some u → length u.lines < 1073741824
