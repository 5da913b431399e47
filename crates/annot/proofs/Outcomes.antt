-- Definitions and notes that are not at fault.
use Rattle.std.proofs.Common.{zero, suc, List, [], ◌∷◌, All, Result, Ok, Err, IfOk, OnOk, arith}
use Rattle.formula.specs.Adding.{AreAdded, AreBodiesIn, IsBodyIn}
use Rattle.formula.specs.declared.definition.Definition.{Definition}
use Rattle.formula.specs.declared.node.Node.{Node}
use Rattle.formula.proofs.Added.{added_sound}
use Rattle.fort_syntax.specs.declared.refusal.Refusal.{Refusal}
use Rattle.fort_notes.specs.declared.notes.Specs.{Specs}
use Rattle.note_judging.specs.Items.{AreNotedIn}
use Rattle.note_judging.specs.declared.noted.Noted.{Noted}
use Rattle.note_units.specs.Sorting.{AreIn}

all_bodies : (pool : List Node) (ds : List Definition) → AreBodiesIn pool ds → All (λ d. IsBodyIn pool d.body) ds
all_bodies pool [] h k d lt = absurd (omega arith)
all_bodies pool (x ∷ ds) h zero d lt = h.0
all_bodies pool (x ∷ ds) h (suc k) d lt = all_bodies pool ds h.1 k d (omega arith)

-- the bodies of definitions that were added
pub bodies_in : (pool : List Node) (ds : List Definition) → AreAdded pool ds → All (λ d. IsBodyIn pool d.body) ds
bodies_in pool ds h = all_bodies pool ds (added_sound pool ds h).0

-- ---- answers

pub on_any : {A E P : Type 0} (r : Result A E) → P → OnOk r P
on_any (Ok x) p = p
on_any (Err e) p = tt

-- what is said of each pool is said of the pool of the notes
pub inside_of : (pool : List Node) (noted : List Noted) (r : Result Specs Refusal) → AreNotedIn pool noted → IfOk r (λ s. (pool : List Node) → AreNotedIn pool noted → AreIn pool s.units s.proofs)
    → IfOk r (λ s. AreIn pool s.units s.proofs)
inside_of pool noted (Ok s) inside h = h pool inside
inside_of pool noted (Err e) inside h = tt
