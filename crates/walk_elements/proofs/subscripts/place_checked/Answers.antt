use Rattle.std.proofs.Common.{refl}
use Rattle.formula.proofs.Grown.{AllBelow-Grows}
use Rattle.walk_state.specs.declared.walk.Walk.{Walk}
use Rattle.walk_state.proofs.Parts.{follows_then, grew}
use Rattle.walk_elements.proofs.Checks.{place_behind}
use Rattle.walk_elements.proofs.subscripts.place_checked.Goals as goal

pub place-requires-clause-kept : goal.place-requires-clause-kept
place-requires-clause-kept c = c.check_subscripts.ensures.on.kept.names

pub place-requires-clause-subscripts : goal.place-requires-clause-subscripts
place-requires-clause-subscripts c = AllBelow-Grows _ _ _ c.check_subscripts.ensures.on.grows c.requires.subscripts

pub returns-in_default-clause-on : goal.returns-in_default-clause-on
returns-in_default-clause-on c =
    let w0 = c.args.walk.now in
    let w1 = c.check_subscripts.new.walk in
    let w2 : Walk = record { pool = c.place.new.pool; names = w1.names; met = w1.met; calls = w1.calls; alloc = w1.alloc } in
    follows_then w0 w1 w2 c.check_subscripts.ensures.on (grew w1 w2 c.check_subscripts.ensures.on.kept c.place.ensures.grows refl refl refl).on

pub returns-clause-on : goal.returns-clause-on
returns-clause-on c =
    let w0 = c.args.walk.now in
    let w1 = c.check_subscripts.new.walk in
    let w2 : Walk = record { pool = c.place.new.pool; names = w1.names; met = w1.met; calls = w1.calls; alloc = w1.alloc } in
    follows_then w0 w1 w2 c.check_subscripts.ensures.on (grew w1 w2 c.check_subscripts.ensures.on.kept c.place.ensures.grows refl refl refl).on

pub returns-clause-did : goal.returns-clause-did
returns-clause-did c p i u =
    let w0 = c.args.walk.now in
    let w1 = c.check_subscripts.new.walk in
    let w2 : Walk = record { pool = c.place.new.pool; names = w1.names; met = w1.met; calls = w1.calls; alloc = w1.alloc } in
    place_behind w0 w1 w2 p i u c.args.card c.args.subscripts.now c.args.dims.now _ c.requires.subscripts c.check_subscripts.ensures.on.grows c.in_ok-check_subscripts.ensures.met
    (grew w1 w2 c.check_subscripts.ensures.on.kept c.place.ensures.grows refl refl refl).same c.in-Ok.ensures.tree
