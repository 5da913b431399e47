-- A deck without fault is well formed.
use Rattle.std.proofs.Common.{◌≡◌, List, [], ◌∷◌, ◌++◌, map, None, rules}
use Rattle.fort_syntax.specs.Units.{Segment, segments, statements, unit_of}
use Rattle.fort_syntax.specs.OrderRules.{Place, places}
use Rattle.fort_syntax.specs.UnitRules.{fault_of}
use Rattle.fort_syntax.specs.WellFormed.{IsWellFormedUnit, AreWellFormedUnits}
use Rattle.fort_syntax.specs.declared.dialect.Dialect.{Dialect}
use Rattle.fort_syntax.specs.declared.unit.Line.{Line}
use Rattle.deck_laws.specs.Laws.{DecksWithoutFaultAreWellFormed}
use Rattle.deck_laws.proofs.Members.{IsIn}
use Rattle.deck_laws.proofs.Keeping.{KeepsRules, rules_kept, all_keep}
use Rattle.deck_laws.proofs.Ascending.{statements_ascend, units_ascend, notes_ascend}
use Rattle.deck_laws.proofs.NotesPlaced.{notes_placed}
use Rattle.deck_laws.proofs.Given.{Given, AreGiven, parts, are_given}
use Rattle.deck_laws.proofs.NamesProved.{names_proved, held_proved, data_names_proved}
use Rattle.deck_laws.proofs.RolesProved.{roles_proved, functions_proved}
use Rattle.deck_laws.proofs.ShapesProved.{dimensions_proved, blocks_proved}
use Rattle.deck_laws.proofs.RightStatements.{statements_right}
use Rattle.deck_laws.proofs.OrderProved.{order_proved, cards_proved, result_proved}
use Rattle.deck_laws.proofs.BlocksAgree.{blocks_agree}

unit_proved : (d : Dialect) (earlier : List Segment) (unit : Segment) → Given d earlier unit
    → IsWellFormedUnit d (unit_of unit)
unit_proved d earlier unit g =
    record {
      names = names_proved d earlier unit g;
      held = held_proved d earlier unit g;
      data_names = data_names_proved d earlier unit g;
      roles = roles_proved unit;
      functions = functions_proved unit d earlier g;
      dimensions = dimensions_proved d earlier unit g;
      blocks = blocks_proved d earlier unit g;
      statements = statements_right d earlier unit g;
      order = order_proved d earlier unit g;
      cards = cards_proved d earlier unit g;
      result = result_proved d earlier unit g;
    }

units_proved : (d : Dialect) (earlier units : List Segment) → AreGiven d earlier units
    → AreWellFormedUnits d (map unit_of units)
units_proved d earlier [] g = tt
units_proved d earlier (unit ∷ units) g =
    (unit_proved d earlier unit g.0, units_proved d (earlier ++ unit ∷ []) units g.1)

places_keep : (d : Dialect) (lines : List Line) → fault_of d lines ≡ None → (p : Place)
    → IsIn p (places d (segments lines)) → KeepsRules p
places_keep d [] h p m = search rules
places_keep d (line ∷ lines) h p m = rules_kept (places d (segments (line ∷ lines))) h p m

pub decks_without_fault_are_well_formed : DecksWithoutFaultAreWellFormed
decks_without_fault_are_well_formed d pieces spelled ascend none =
    let lines = statements pieces in
    let units = segments lines in
    let cards = statements_ascend 0 pieces ascend in
    let given = are_given d [] units (all_keep d [] units (places_keep d lines none)) (parts d 0 lines spelled cards) in
    record {
      units = units_proved d [] units given;
      blocks = blocks_agree d units given;
      order = units_ascend 0 lines cards;
      notes = notes_ascend 0 [] pieces ascend;
      places = notes_placed [] pieces;
    }
