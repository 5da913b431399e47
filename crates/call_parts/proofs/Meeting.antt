-- Events that are met from a moment on.
use Rattle.std.proofs.Common.{◌≡◌, List, refl, ◌∙◌}
use Rattle.formula.specs.Tree.{Tree}
use Rattle.fort_model.specs.Events.{Event}
use Rattle.fort_model.specs.Seen.{meet}
use Rattle.walk_state.specs.Moments.{Did, Moment, met}

pub did_as : (m0 m1 m2 : Moment) (es fs : List (Event Tree)) → Did m1 (meet es) m2 tt → m1 ≡ m0 → es ≡ fs → Did m0 (meet fs) m2 tt
did_as m0 m1 m2 es fs d e f = record { is = d.is ∙ (λ j. met (e j) (meet (f j))); gives = refl }
