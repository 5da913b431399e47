-- The program that a scene has.
use Rattle.std.specs.Prelude.{List, [], map}
use Rattle.formula.specs.declared.node.Node.{Node}
use Rattle.fort_notes.specs.Assertions.{notes_tree}
use Rattle.fort_model.specs.Program.{Program}
use Rattle.path_scene.specs.declared.scene.Scene.{Scene}

-- the program that a scene has, without definitions
abbrev pub seen_program : List Node → Scene → Program
seen_program pool scene = record {
  dialect = scene.dialect;
  units = scene.books.now.units.now;
  notes = map (notes_tree pool) scene.notes.now;
  functions = [];
  bound = scene.bound;
  smashes = scene.smashes.now;
}
