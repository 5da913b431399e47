use Rattle.std.proofs.Common.{◌∙◌, ap}
use Rattle.entry_frames.specs.Entries.{at_entry_in}
use Rattle.formula.specs.Pool.{Grows}
use Rattle.std.proofs.Common.{subst}
use Rattle.walk_state.specs.Moments.{Moment, with_names}
use Rattle.formula.specs.declared.node.Node.{Node}
use Rattle.std.proofs.Common.{List}
use Rattle.path_starts.proofs.entries.begin.Goals as goal

pub set_entries-requires-clause-first : goal.set_entries-requires-clause-first
set_entries-requires-clause-first c = ap (λ (m : Moment). m.now) c.new-walk.ensures.moment

pub returns-clause-grows : goal.returns-clause-grows
returns-clause-grows c = subst (λ (nodes : List Node). Grows nodes c.set_entries.new.walk.pool) c.new-walk.ensures.pool c.in-Ok.ensures.on.grows

pub returns-clause-at : goal.returns-clause-at
returns-clause-at c = c.in-Ok.ensures.names ∙ ap (λ (m : Moment). with_names m (at_entry_in c.args.unit.now.names)) c.new-walk.ensures.moment

pub returns-clause-has : goal.returns-clause-has
returns-clause-has c = c.in-Ok.ensures.has
