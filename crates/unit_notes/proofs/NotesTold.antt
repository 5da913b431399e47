-- The notes of a unit.
use Rattle.std.proofs.Common.{◌≡◌, ℕ, Option, Some, None, List, [], length, slice_get, refl, sym, ap, ◌∙◌, subst}
use Rattle.std.specs.Prelude.{option_map}
use Rattle.std.proofs.lemmas.List.Elements.{All-get_or}
use Rattle.std.proofs.lemmas.Option.{get_or_from_slice_get, slice_get_within, slice_get-map}
use Rattle.formula.specs.declared.node.Node.{Node}
use Rattle.fort_notes.specs.Assertions.{Notes, no_notes, notes_tree}
use Rattle.fort_notes.specs.declared.notes.UnitSpec.{UnitSpec}
use Rattle.fort_model.specs.Fitting.{FitsUnit}
use Rattle.fort_model.specs.Program.{Program, notes_in, notes_of}
use Rattle.fort_syntax.specs.declared.unit.Unit.{Unit as Routine}
use Rattle.path_scene.specs.Scenes.{AreNotesIn, IsScene}
use Rattle.path_scene.specs.declared.scene.Scene.{Scene}
use Rattle.unit_notes.specs.Laws.{ReadyNotesFit}
use Rattle.unit_notes.specs.Terms.{AreTermsOf}

-- ---- the terms of a unit

module _ (pool : List Node) (scene : Scene) (p : Program) (s : IsScene pool scene p) (i : ℕ) where
  notes_at : (o : Option UnitSpec) → slice_get scene.notes.now i ≡ o → notes_of p i ≡ notes_in (option_map (notes_tree pool) o)
  notes_at o e =
      ap (λ (ns : List Notes). notes_in (slice_get ns i)) (sym s.notes)
      ∙ (ap notes_in (slice_get-map (notes_tree pool) scene.notes.now i) ∙ ap (λ (q : Option UnitSpec). notes_in (option_map (notes_tree pool) q)) e)

  inside_at : (spec : UnitSpec) → slice_get scene.notes.now i ≡ Some spec → AreNotesIn (length pool) spec
  inside_at spec e =
      subst (AreNotesIn (length pool)) (get_or_from_slice_get scene.notes.now i spec spec e)
      (All-get_or (AreNotesIn (length pool)) scene.notes.now i spec (slice_get_within scene.notes.now i spec e) s.inside)

  pub input_there : (spec : UnitSpec) → slice_get scene.notes.now i ≡ Some spec → AreTermsOf pool spec.input (notes_of p i).input
  input_there spec e = record { below = (inside_at spec e).input; trees = sym (ap (λ (n : Notes). n.input) (notes_at (Some spec) e)) }

  pub output_there : (spec : UnitSpec) → slice_get scene.notes.now i ≡ Some spec → AreTermsOf pool spec.output (notes_of p i).output
  output_there spec e = record { below = (inside_at spec e).output; trees = sym (ap (λ (n : Notes). n.output) (notes_at (Some spec) e)) }

  pub input_not : slice_get scene.notes.now i ≡ None → AreTermsOf pool [] (notes_of p i).input
  input_not e = record { below = tt; trees = sym (ap (λ (n : Notes). n.input) (notes_at None e)) }

  pub output_not : slice_get scene.notes.now i ≡ None → AreTermsOf pool [] (notes_of p i).output
  output_not e = record { below = tt; trees = sym (ap (λ (n : Notes). n.output) (notes_at None e)) }

-- ---- they fit

none_some : {X : Type 0} (a : X) → ◌≡◌ {A = Option X} None (Some a) → ⊥
none_some a e = cc

none_fit : (u : Routine) → FitsUnit u no_notes
none_fit u = record { input = refl; output = refl; asserts = λ a among. absurd (none_some a among.1) }

pub ready_notes_fit : ReadyNotesFit
ready_notes_fit pool scene p i u ready is = by (slice_get p.notes i) refl
  where
    by : (o : Option Notes) → slice_get p.notes i ≡ o → FitsUnit u (notes_in o)
    by None e = none_fit u
    by (Some notes) e = ready.fitting.fits i u notes is e
