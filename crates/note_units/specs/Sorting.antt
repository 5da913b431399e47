-- What the notes of a deck become, as ids of a pool, and what is held while they are put where they belong.
use Rattle.std.specs.Prelude.{ℕ, suc, ◌≡◌, ◌==◌, if◌then◌else◌, List, [], ◌∷◌, ◌++◌, length, map, replicate, All}
use Rattle.std.specs.List.{flat_map}
use Rattle.formula.specs.Worth.{functions_of}
use Rattle.formula.specs.declared.definition.Definition.{Definition}
use Rattle.formula.specs.declared.node.Node.{Node}
use Rattle.fort_syntax.specs.declared.unit.Unit.{Unit as Routine}
use Rattle.fort_notes.specs.Assertions.{Notes, notes_tree}
use Rattle.fort_notes.specs.Judging.{Judged}
use Rattle.fort_notes.specs.Remarks.{Remarks, bound_in, input_in, output_in, assertion_in, run_in, try_in, proof_in, notes_of_units}
use Rattle.fort_notes.specs.declared.certificates.ProofCard.{ProofCard}
use Rattle.fort_notes.specs.declared.notes.Specs.{Specs}
use Rattle.fort_notes.specs.declared.notes.UnitSpec.{UnitSpec}
use Rattle.note_forms.specs.FormTrees.{AreStepsIn, proof_tree}
use Rattle.note_reading.specs.NoteTrees.{form_tree}
use Rattle.note_reading.specs.declared.note_form.NoteForm.{NoteForm}
use Rattle.path_scene.specs.Scenes.{AreNotesIn}
use Rattle.note_units.specs.declared.sorted.Sorted.{Sorted}

-- ---- what notes become

-- what the notes of a deck say, where these are its definitions and what its other notes became
abbrev pub remarks_tree : List Node → List Definition → Specs → Remarks
remarks_tree pool ds s = record {
  bound = s.bound;
  definitions = functions_of pool ds;
  units = map (notes_tree pool) s.units;
  runs = s.runs;
  tries = s.tries;
  proofs = map (proof_tree pool) s.proofs;
}

-- ---- the notes of a unit

-- the notes of a unit with one more
abbrev pub with_note : Judged → Notes → Notes
with_note j own = record {
  input = own.input ++ input_in j.form;
  output = own.output ++ output_in j.form;
  asserts = own.asserts ++ assertion_in j j.form;
}

-- the notes of units, the first of which has the number i, with one more in its unit
abbrev pub with_note_in : Judged → ℕ → List Notes → List Notes
with_note_in j i [] = []
with_note_in j i (own ∷ rest) = (if j.unit == i then with_note j own else own) ∷ with_note_in j (suc i) rest

-- a note, its terms as trees
abbrev pub note_tree : List Node → ℕ → ℕ → ℕ → NoteForm → Judged
note_tree pool unit line card form = record { unit = unit; line = line; card = card; form = form_tree pool form }

-- ---- what is held

-- the terms of notes are of the pool
pub record AreIn (pool : List Node) (us : List UnitSpec) (ps : List ProofCard) : Type 0 where
  pub units : All (AreNotesIn (length pool)) us
  pub proofs : All (λ p. AreStepsIn pool p.steps) ps

-- no note
abbrev pub nothing : UnitSpec
nothing = record { input = []; output = []; asserts = [] }

-- units without notes
pub record AreEmpty (count : ℕ) (s : Sorted) : Type 0 where
  pub bounds : s.bounds.items ≡ []
  pub units : s.units.items ≡ replicate count nothing
  pub runs : s.runs.items ≡ []
  pub tries : s.tries.items ≡ []
  pub proofs : s.proofs.items ≡ []

-- notes stand where they belong
pub record AreSorted (routines : List Routine) (pool : List Node) (s : Sorted) (done : List Judged) : Type 0 where
  pub bounds : s.bounds.items ≡ flat_map (λ j. bound_in j.form) done
  pub units : map (notes_tree pool) s.units.items ≡ notes_of_units done 1 routines
  pub runs : s.runs.items ≡ flat_map (λ j. run_in j.form) done
  pub tries : s.tries.items ≡ flat_map (λ j. try_in j.form) done
  pub proofs : map (proof_tree pool) s.proofs.items ≡ flat_map (λ j. proof_in j.form) done

-- a note more stands where it belongs
pub record Puts (pool : List Node) (old new : Sorted) (j : Judged) : Type 0 where
  pub bounds : new.bounds.items ≡ old.bounds.items ++ bound_in j.form
  pub units : map (notes_tree pool) new.units.items ≡ with_note_in j 1 (map (notes_tree pool) old.units.items)
  pub runs : new.runs.items ≡ old.runs.items ++ run_in j.form
  pub tries : new.tries.items ≡ old.tries.items ++ try_in j.form
  pub proofs : map (proof_tree pool) new.proofs.items ≡ map (proof_tree pool) old.proofs.items ++ proof_in j.form
