use Rattle.std.proofs.Common.{◌+◌, refl}
use Rattle.formula.proofs.Grown.{Grows-refl}
use Rattle.walk_names.proofs.NameTables.{extends_not}
use Rattle.walk_names.specs.Names.{named, past}
use Rattle.walk_state.specs.Moments.{events_in}
use Rattle.walk_state.proofs.Parts.{answer_now, answers_next}
use Rattle.walk_state.proofs.walk.Walk.next_call.Goals as goal

pub returns-clause-on : goal.returns-clause-on
returns-clause-on c = record { kept = record { names = c.requires.names; met = c.requires.met }; grows = Grows-refl c.args.self.now.pool; extends = extends_not c.args.self.now.names.table }

pub returns-clause-next : goal.returns-clause-next
returns-clause-next c =
    let w = c.args.self.now in
    λ i. record { now = named w.pool w.names; past = past w.pool w.names; events = events_in w.pool w.met.items; answers = answers_next w.calls (w.calls + 1) refl i }

pub returns-clause-answer : goal.returns-clause-answer
returns-clause-answer c = answer_now c.args.self.now.calls (c.args.self.now.calls + 1) refl
