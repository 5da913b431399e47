-- Faults of decks, stage by stage.
use Rattle.std.proofs.Common.{◌≡◌, inl, inr, List, [], Err, refl}
use Rattle.formula.specs.declared.definition.Definition.{Definition}
use Rattle.formula.specs.declared.node.Node.{Node}
use Rattle.fort_syntax.specs.WellFormed.{IsWellFormed}
use Rattle.fort_syntax.specs.declared.deck.Deck.{Deck}
use Rattle.fort_syntax.specs.declared.dialect.Dialect.{Dialect}
use Rattle.fort_syntax.specs.declared.name.Name.{Name}
use Rattle.fort_syntax.specs.declared.refusal.Fault.{Fault}
use Rattle.fort_notes.specs.Remarks.{remarks_of}
use Rattle.fort_notes.specs.declared.notes.Specs.{Specs}
use Rattle.note_units.specs.Sorting.{remarks_tree}
use Rattle.fort_model.specs.Programs.{program_of}
use Rattle.alias_rules.specs.Stages.{IsAliasFault, KeepCalls}
use Rattle.deck_judging.specs.Stages.{AreNotesOf, HaveTable, IsDeckFault, IsSceneFault, KeepSmashing}
use Rattle.deck_judging.proofs.Kept.{kept_by_stages}
use Rattle.deck_judging.proofs.Scenes.{found_program, is_program}

-- a fault among notes
pub note_fault : (d : Dialect) (deck : Deck) (f : Fault) → remarks_of deck ≡ Err f → IsDeckFault d deck f
note_fault d deck f e = inl (inl e)

module _ (d : Dialect) (deck : Deck) (pool : List Node) (ds : List Definition) (specs : Specs)
    (well : IsWellFormed d deck) (notes : AreNotesOf deck pool ds specs) (f : Fault) where
  -- in calls or in smashed names
  pub alias_fault : IsAliasFault deck.units f → IsDeckFault d deck f
  alias_fault (inl h) = inl (inr (inl (remarks_tree pool ds specs, notes.remarks, h (program_of d deck (remarks_tree pool ds specs) []) refl)))
  alias_fault (inr h) =
      let p = found_program d deck pool ds specs h.1.table in
      inl (inr (inr (
        remarks_tree pool ds specs,
        p,
        is_program d deck pool ds specs h.1.table well notes h.1.is_table,
        h.0 p refl,
        inl (h.1.first p refl refl),
      )))

  -- in ranges, in the flow, or of sizes
  pub scene_fault : (rows : List (List Name)) → HaveTable deck.units rows → KeepCalls deck.units → KeepSmashing deck.units rows
      → IsSceneFault (found_program d deck pool ds specs rows) f → IsDeckFault d deck f
  scene_fault rows table calls smashing (inl h) =
      let p = found_program d deck pool ds specs rows in
      inl (inr (inr (
        remarks_tree pool ds specs,
        p,
        is_program d deck pool ds specs rows well notes table,
        calls p refl,
        inr (smashing p refl refl, inl h),
      )))
  scene_fault rows table calls smashing (inr (ranges, inl h)) =
      let p = found_program d deck pool ds specs rows in
      inl (inr (inr (
        remarks_tree pool ds specs,
        p,
        is_program d deck pool ds specs rows well notes table,
        calls p refl,
        inr (smashing p refl refl, inr (ranges, inl h)),
      )))
  scene_fault rows table calls smashing (inr (ranges, inr h)) =
      let p = found_program d deck pool ds specs rows in
      inr (
        remarks_tree pool ds specs,
        p,
        is_program d deck pool ds specs rows well notes table,
        kept_by_stages p (calls p refl) (smashing p refl refl) ranges h.0,
        h.1,
      )
