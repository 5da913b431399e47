-- What was computed, as an operand.
use Rattle.std.proofs.Common.{refl}
use Rattle.formula.specs.Tree.{Tree}
use Rattle.fort_model.specs.Seen.{See, see}
use Rattle.fort_model.specs.WalkCalls.{Sight, Computed}
use Rattle.fort_model.specs.WalkExpr.{computed}
use Rattle.walk_state.specs.Moments.{Did, Moment}
use Rattle.walk_state.proofs.Parts.{did_then}
use Rattle.walk_values.proofs.Checked.{did_see}

pub did_computed : (w : Sight Tree) (m0 m1 : Moment) (part : See Tree Tree) (a : Tree) → Did m0 part m1 a → Did m0 (computed w part) m1 (Computed a)
did_computed w m0 m1 part a d = did_then m0 m1 m1 part (λ v. see (Computed v)) a (Computed a) d (did_see m1 m1 (Computed a) (Computed a) refl refl)
