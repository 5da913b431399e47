use Rattle.std.proofs.Common.{refl}
use Rattle.walk_state.specs.declared.walk.Walk.{Walk}
use Rattle.walk_state.proofs.Parts.{begun}
use Rattle.walk_state.proofs.walk.Walk.new.Goals as goal

pub returns-clause-well : goal.returns-clause-well
returns-clause-well c = (begun _ c.new.ensures.table c.new.ensures.terms c.new.ensures.log c.new-2.ensures.items refl).well

pub returns-clause-moment : goal.returns-clause-moment
returns-clause-moment c =
    let w : Walk = record { pool = c.args.pool; names = c.new.result; met = c.new-2.result; calls = 0; alloc = c.args.alloc } in
    (begun w c.new.ensures.table c.new.ensures.terms c.new.ensures.log c.new-2.ensures.items refl).at
