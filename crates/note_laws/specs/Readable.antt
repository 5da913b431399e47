-- Notes whose terms a text can spell.
use Rattle.std.specs.Prelude.{List}
use Rattle.std.specs.List.{All}
use Rattle.formula.specs.ReadableTerms.{IsReadableTerm}
use Rattle.formula.specs.declared.definition.Heading.{Heading}
use Rattle.fort_notes.specs.Assertions.{Assertion, Notes}
use Rattle.fort_notes.specs.Forms.{ProofTree, StepTree}
use Rattle.fort_notes.specs.Judging.{step_terms}

-- the terms of an ASSERT and of its clock
pub record IsReadableAssertion (hs : List Heading) (a : Assertion) : Type 0 where
  pub terms : All (IsReadableTerm hs) a.terms
  pub clock : All (IsReadableTerm hs) a.clock

-- the terms of the notes of a unit
pub record AreReadableNotes (hs : List Heading) (notes : Notes) : Type 0 where
  pub input : All (IsReadableTerm hs) notes.input
  pub output : All (IsReadableTerm hs) notes.output
  pub asserts : All (IsReadableAssertion hs) notes.asserts

-- the terms of a step of a certificate
abbrev pub IsReadableStep : List Heading → StepTree → Type 0
IsReadableStep hs s = All (IsReadableTerm hs) (step_terms s)

-- the terms of a certificate
abbrev pub IsReadableProof : List Heading → ProofTree → Type 0
IsReadableProof hs p = All (IsReadableStep hs) p.steps
