use Rattle.std.proofs.Common.{ap, ◌∙◌}
use Rattle.fort_model.specs.WalkStmt.{with_name}
use Rattle.weight_terms.specs.Held.{held, marked}
use Rattle.weight_terms.proofs.Undone.{noted}
use Rattle.weight_terms.proofs.Weighed.{set_held}
use Rattle.weight_terms.proofs.names.NameWeights.set.Goals as goal

pub returns-clause-weights : goal.returns-clause-weights
returns-clause-weights c =
    set_held (record { entries = c.self.inside.map.entries; log = c.self.inside.log }) (record { entries = c.put.new.map.entries; log = c.note.new.log }) c.args.name.now c.args.weight c.in-Ok.ensures.sets
    ∙ ap (λ t. with_name (held t) c.args.name.now c.args.weight) c.self.view_is

pub returns-clause-marks : goal.returns-clause-marks
returns-clause-marks c =
    noted c.self.inside.map.entries c.put.new.map.entries c.in-Ok.undoes c.self.inside.log c.note.new.log c.in-Ok.ensures.undoes c.in-Ok-note.ensures
    ∙ ap marked c.self.view_is
