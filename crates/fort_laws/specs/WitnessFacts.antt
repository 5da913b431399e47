-- The facts of the calls of a small program.
use Rattle.std.specs.Prelude.{[], ◌∷◌}
use Rattle.fort_model.specs.declared.call_facts.CallFacts.{CallFacts}
use Rattle.fort_model.specs.CallFacts.{AreCallFacts}
use Rattle.fort_model.specs.VerdictRows.{rotate_program}

-- the second of two units calls the first one twice
abbrev pub rotate_facts : CallFacts
rotate_facts = record { order = 0 ∷ 1 ∷ []; smashes = rotate_program.smashes; callees = [] ∷ (0 ∷ 0 ∷ []) ∷ [] }

abbrev pub RotHasCallFacts : Type 0
RotHasCallFacts = AreCallFacts rotate_program rotate_facts
