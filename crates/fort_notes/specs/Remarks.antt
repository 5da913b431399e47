-- What the notes of a deck say all together.
use Rattle.std.specs.Prelude.{ℕ, suc, ◌==◌, List, [], ◌∷◌, filter, Result, Ok, Err}
use Rattle.std.specs.List.{flat_map}
use Rattle.formula.specs.Tree.{Tree}
use Rattle.formula.specs.Worth.{Function}
use Rattle.fort_syntax.specs.declared.deck.Deck.{Deck}
use Rattle.fort_syntax.specs.declared.refusal.Fault.{Fault}
use Rattle.fort_syntax.specs.declared.unit.Unit.{Unit as Routine}
use Rattle.fort_notes.specs.Assertions.{Assertion, Notes}
use Rattle.fort_notes.specs.Forms.{Form, bound, input, output, assertion, run, try, proof, ProofTree}
use Rattle.fort_notes.specs.Judging.{Judged, definitions_of, judged_notes}
use Rattle.fort_notes.specs.declared.cases.RunCard.{RunCard}
use Rattle.fort_notes.specs.declared.cases.TryCard.{TryCard}

-- the bound, the definitions, the notes of each unit in order, and the cards with cases to run, to try and to prove
pub record Remarks : Type 0 where
  pub bound : ℕ
  pub definitions : List Function
  pub units : List Notes
  pub runs : List RunCard
  pub tries : List TryCard
  pub proofs : List ProofTree

abbrev pub bound_in : Form → List ℕ
bound_in (bound b) = b ∷ []
bound_in _ = []

abbrev pub first_or : ℕ → List ℕ → ℕ
first_or other [] = other
first_or other (b ∷ rest) = b

-- without a BOUND the bound is the greatest integer of 16 bits
abbrev pub bound_of : List Judged → ℕ
bound_of done = first_or 32767 (flat_map (λ j. bound_in j.form) done)

abbrev pub input_in : Form → List Tree
input_in (input ts) = ts
input_in _ = []

abbrev pub output_in : Form → List Tree
output_in (output ts) = ts
output_in _ = []

-- an ASSERT stands at the point of the statement behind it
abbrev pub assertion_in : Judged → Form → List Assertion
assertion_in j (assertion ts clock_stands clock) = record { point = j.line; card = j.card; terms = ts; clock = clock } ∷ []
assertion_in j _ = []

-- the notes of the unit of a number
abbrev pub of_unit : ℕ → List Judged → List Judged
of_unit i done = filter (λ j. j.unit == i) done

abbrev pub notes_by : List Judged → Notes
notes_by own = record {
  input = flat_map (λ j. input_in j.form) own;
  output = flat_map (λ j. output_in j.form) own;
  asserts = flat_map (λ j. assertion_in j j.form) own;
}

-- the notes of units, the first of which has the number i
abbrev pub notes_of_units : List Judged → ℕ → List Routine → List Notes
notes_of_units done i [] = []
notes_of_units done i (u ∷ us) = notes_by (of_unit i done) ∷ notes_of_units done (suc i) us

abbrev pub run_in : Form → List RunCard
run_in (run card) = card ∷ []
run_in _ = []

abbrev pub try_in : Form → List TryCard
try_in (try card) = card ∷ []
try_in _ = []

abbrev pub proof_in : Form → List ProofTree
proof_in (proof p) = p ∷ []
proof_in _ = []

abbrev pub remarks_by : List Routine → List Judged → Remarks
remarks_by units done = record {
  bound = bound_of done;
  definitions = definitions_of done;
  units = notes_of_units done 1 units;
  runs = flat_map (λ j. run_in j.form) done;
  tries = flat_map (λ j. try_in j.form) done;
  proofs = flat_map (λ j. proof_in j.form) done;
}

abbrev pub remarks_if : List Routine → Result (List Judged) Fault → Result Remarks Fault
remarks_if units (Err f) = Err f
remarks_if units (Ok done) = Ok (remarks_by units done)

-- what the notes of a deck say, or the first fault among them
abbrev pub remarks_of : Deck → Result Remarks Fault
remarks_of deck = remarks_if deck.units (judged_notes deck)
