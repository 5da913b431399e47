-- A scene stays what it is while the pool grows.
use Rattle.std.proofs.Common.{◌≡◌, List, [], ◌∷◌, length, map, refl, ◌∙◌}
use Rattle.std.specs.List.{All}
use Rattle.std.proofs.lemmas.List.Elements.{All-head, All-tail, All-weaker}
use Rattle.formula.specs.declared.node.Node.{Node}
use Rattle.formula.specs.declared.node.TermId.{TermId}
use Rattle.formula.specs.Pool.{AllBelow, Grows, tree_of}
use Rattle.formula.proofs.Grown.{AllBelow-Grows, tree_of-Grows}
use Rattle.fort_notes.specs.Assertions.{assertion_tree, notes_tree}
use Rattle.fort_notes.specs.declared.notes.AssertSpec.{AssertSpec}
use Rattle.fort_notes.specs.declared.notes.UnitSpec.{UnitSpec}
use Rattle.fort_model.specs.Program.{Program}
use Rattle.path_scene.specs.Scenes.{AreNotesIn, IsAssertIn, IsReady, IsScene}
use Rattle.path_scene.specs.declared.scene.Scene.{Scene}

module _ (old new : List Node) (g : Grows old new) where
  terms_stay : (ids : List TermId) → AllBelow (length old) ids → map (tree_of new) ids ≡ map (tree_of old) ids
  terms_stay [] h = refl
  terms_stay (id ∷ ids) h = λ i. tree_of-Grows old new id g h.0 i ∷ terms_stay ids h.1 i

  assert_inside : (a : AssertSpec) → IsAssertIn (length old) a → IsAssertIn (length new) a
  assert_inside a h = record { terms = AllBelow-Grows old new a.terms g h.terms; clock = AllBelow-Grows old new a.clock g h.clock }

  inside : (s : UnitSpec) → AreNotesIn (length old) s → AreNotesIn (length new) s
  inside s h = record {
    input = AllBelow-Grows old new s.input g h.input;
    output = AllBelow-Grows old new s.output g h.output;
    asserts = All-weaker (IsAssertIn (length old)) (IsAssertIn (length new)) assert_inside s.asserts h.asserts;
  }

  assert_stays : (a : AssertSpec) → IsAssertIn (length old) a → assertion_tree new a ≡ assertion_tree old a
  assert_stays a h = λ i. record { point = a.line; card = a.card; terms = terms_stay a.terms h.terms i; clock = terms_stay a.clock h.clock i }

  asserts_stay : (them : List AssertSpec) → All (IsAssertIn (length old)) them → map (assertion_tree new) them ≡ map (assertion_tree old) them
  asserts_stay [] h = refl
  asserts_stay (a ∷ them) h =
      λ i. assert_stays a (All-head (IsAssertIn (length old)) a them h) i ∷ asserts_stay them (All-tail (IsAssertIn (length old)) a them h) i

  notes_stay : (s : UnitSpec) → AreNotesIn (length old) s → notes_tree new s ≡ notes_tree old s
  notes_stay s h = λ i. record { input = terms_stay s.input h.input i; output = terms_stay s.output h.output i; asserts = asserts_stay s.asserts h.asserts i }

  all_notes_stay : (ss : List UnitSpec) → All (AreNotesIn (length old)) ss → map (notes_tree new) ss ≡ map (notes_tree old) ss
  all_notes_stay [] h = refl
  all_notes_stay (s ∷ ss) h =
      λ i. notes_stay s (All-head (AreNotesIn (length old)) s ss h) i ∷ all_notes_stay ss (All-tail (AreNotesIn (length old)) s ss h) i

  pub scene_stays : (scene : Scene) (p : Program) → IsScene old scene p → IsScene new scene p
  scene_stays scene p h = record {
    dialect = h.dialect;
    bound = h.bound;
    units = h.units;
    notes = all_notes_stay scene.notes.now h.inside ∙ h.notes;
    smashes = h.smashes;
    inside = All-weaker (AreNotesIn (length old)) (AreNotesIn (length new)) inside scene.notes.now h.inside;
  }

  pub ready_stays : (scene : Scene) (p : Program) → IsReady old scene p → IsReady new scene p
  ready_stays scene p h = record {
    is_scene = scene_stays scene p h.is_scene;
    deck = h.deck;
    units = h.units;
    well_formed = h.well_formed;
    few = h.few;
    fitting = h.fitting;
    calls = h.calls;
    smashing = h.smashing;
    ranges = h.ranges;
  }
