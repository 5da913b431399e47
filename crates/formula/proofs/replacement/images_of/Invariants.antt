use Rattle.std.proofs.Common.{take}
use Rattle.formula.specs.Substitution.{AreImages}
use Rattle.formula.proofs.replacement.images_of.Given as goal

abbrev pub invariant-loop-id : goal.invariant-loop-id
invariant-loop-id l = AreImages l.images (take l.id-index l.ids) l.made
