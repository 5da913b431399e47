-- What is known of a program stage by stage.
use Rattle.std.proofs.Common.{◌≡◌, ℕ, List, length, map, refl, sym, ap, subst}
use Rattle.std.specs.List.{All}
use Rattle.formula.proofs.Added.{added-Grows}
use Rattle.formula.specs.Pool.{Grows}
use Rattle.formula.specs.declared.definition.Definition.{Definition}
use Rattle.formula.specs.declared.node.Node.{Node}
use Rattle.fort_syntax.specs.WellFormed.{IsWellFormed}
use Rattle.fort_syntax.specs.declared.condition.Condition.{Condition}
use Rattle.fort_syntax.specs.declared.deck.Deck.{Deck}
use Rattle.fort_syntax.specs.declared.dialect.Dialect.{Dialect}
use Rattle.fort_syntax.specs.declared.name.Name.{Name}
use Rattle.fort_syntax.specs.declared.rule.Rule.TheVariants.{UncutCycle}
use Rattle.fort_notes.specs.Assertions.{notes_tree}
use Rattle.fort_notes.specs.declared.notes.Specs.{Specs}
use Rattle.fort_notes.specs.declared.notes.UnitSpec.{UnitSpec}
use Rattle.note_units.specs.Sorting.{remarks_tree}
use Rattle.event_text.specs.Conditions.{IsConditionIn}
use Rattle.fort_model.specs.Program.{Program}
use Rattle.fort_model.specs.Programs.{program_of}
use Rattle.fort_model.specs.Stages.{KeepsAll, rules_of_ranges}
use Rattle.note_laws.proofs.NotesFit.{notes_fit_units}
use Rattle.accepted_laws.specs.Accepted.{IsProgramOf}
use Rattle.path_laws.proofs.AllPaths.{all_paths_exist}
use Rattle.path_scene.specs.Scenes.{AreNotesIn, IsReady}
use Rattle.path_scene.specs.declared.scene.Scene.{Scene}
use Rattle.alias_rules.specs.Stages.{KeepCalls}
use Rattle.deck_judging.specs.Calls.{AreCallsKnown}
use Rattle.deck_judging.specs.Stages.{AreAllConditions, AreConditionsOfDeck, AreNotesOf, AreShort, HaveTable, IsAliased, KeepSmashing, KeepsScene}
use Rattle.deck_judging.proofs.Functions.{bodies_stay, functions_same}
use Rattle.deck_judging.proofs.Kept.{kept_by_stages}

-- where the rules on ranges are kept too, a scene is ready
pub is_ready : (pool : List Node) (scene : Scene) (p : Program) → IsAliased pool scene p → KeepsAll p rules_of_ranges → IsReady pool scene p
is_ready pool scene p a ranges = record {
  is_scene = a.is_scene;
  deck = a.deck;
  units = a.units;
  well_formed = a.well_formed;
  fitting = a.fitting;
  calls = a.calls;
  smashing = a.smashing;
  ranges = ranges;
  few = a.short;
}

-- the program of a deck, of which its notes say so, with a table of smashed names
abbrev pub found_program : Dialect → Deck → List Node → List Definition → Specs → List (List Name) → Program
found_program d deck pool ds specs rows = program_of d deck (remarks_tree pool ds specs) rows

module _ (d : Dialect) (deck : Deck) (pool : List Node) (ds : List Definition) (specs : Specs) (rows : List (List Name))
    (well : IsWellFormed d deck) (notes : AreNotesOf deck pool ds specs) where
  pub is_program : HaveTable deck.units rows → IsProgramOf d deck (remarks_tree pool ds specs) (found_program d deck pool ds specs rows)
  is_program table = record {
    well_formed = well;
    remarks = notes.remarks;
    program = refl;
    table = table (found_program d deck pool ds specs rows) refl refl;
  }

  -- its scene
  pub is_aliased : (scene : Scene) → scene.dialect ≡ d → scene.bound ≡ specs.bound → scene.books.now.units.now ≡ deck.units → scene.notes.now ≡ specs.units → scene.smashes.now ≡ rows
      → KeepCalls deck.units → KeepSmashing deck.units rows → AreShort deck.units → IsAliased pool scene (found_program d deck pool ds specs rows)
  is_aliased scene a b u n s calls smashing short = record {
    is_scene = record {
      dialect = a;
      bound = b;
      units = u;
      notes = ap (λ (xs : List UnitSpec). map (notes_tree pool) xs) n;
      smashes = s;
      inside = subst (λ (xs : List UnitSpec). All (AreNotesIn (length pool)) xs) (sym n) notes.inside;
    };
    deck = deck;
    units = refl;
    well_formed = well;
    fitting = notes_fit_units d deck (remarks_tree pool ds specs) rows well notes.remarks;
    calls = calls (found_program d deck pool ds specs rows) refl;
    smashing = smashing (found_program d deck pool ds specs rows) refl refl;
    short = short;
  }

  -- its conditions and counts, where all rules are kept
  pub are_conditions : (new : List Node) (cs : List Condition) (count units : ℕ) → units ≡ length deck.units → HaveTable deck.units rows → KeepCalls deck.units → KeepSmashing deck.units rows → (order : List ℕ) → AreCallsKnown deck.units order
      → KeepsScene (found_program d deck pool ds specs rows) → AreAllConditions (found_program d deck pool ds specs rows) new cs count → Grows pool new → All (IsConditionIn new) cs
      → AreConditionsOfDeck d deck (record { pool = new; definitions = ds; conditions = cs; units = units; paths = count; bound = specs.bound; order = order; runs = specs.runs; tries = specs.tries })
  are_conditions new cs count units many table calls smashing order known scene all grows inside =
      let p = found_program d deck pool ds specs rows in
      let kept = kept_by_stages p (calls p refl) (smashing p refl refl) scene.0 scene.1 in
      let paths = all_paths_exist p (kept UncutCycle) in
      record {
        r = remarks_tree pool ds specs;
        p = p;
        paths = paths.0;
        accepted = record { is_program = is_program table; kept = kept; all_paths = paths.1 };
        within = all.within paths.0 paths.1;
        functions = functions_same pool new grows ds notes.bodies;
        bodies = bodies_stay pool new grows ds notes.bodies;
        added = added-Grows pool new ds grows notes.added;
        trees = all.trees paths.0 paths.1;
        inside = inside;
        units = many;
        counted = all.counted paths.0 paths.1;
        bound = refl;
        calls_kept = calls;
        calls_known = known;
        runs = refl;
        tries = refl;
      }
