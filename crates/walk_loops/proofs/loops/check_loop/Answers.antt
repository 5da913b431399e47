use Rattle.std.proofs.Common.{refl}
use Rattle.fort_syntax.specs.declared.condition.Kind.TheVariants.{LoopCheck}
use Rattle.walk_state.specs.declared.walk.Walk.{Walk}
use Rattle.walk_state.proofs.Parts.{follows_then, grew}
use Rattle.walk_values.proofs.Checked.{checked_after}
use Rattle.walk_loops.proofs.loops.check_loop.Goals as goal

pub returns-in_default-clause-on : goal.returns-in_default-clause-on
returns-in_default-clause-on c = (grew c.args.walk.now _ c.requires.well c.fits.ensures.grows refl refl refl).on

pub check-requires-clause-well : goal.check-requires-clause-well
check-requires-clause-well c = (grew c.args.walk.now _ c.requires.well c.fits.ensures.grows refl refl refl).on.kept

pub returns-in_err-check-clause-on : goal.returns-in_err-check-clause-on
returns-in_err-check-clause-on c =
    let w0 = c.args.walk.now in
    let w1 : Walk = record { pool = c.fits.new.pool; names = w0.names; met = w0.met; calls = w0.calls; alloc = w0.alloc } in
    follows_then w0 w1 _ (grew w0 w1 c.requires.well c.fits.ensures.grows refl refl refl).on c.check.ensures.on

pub returns-clause-on : goal.returns-clause-on
returns-clause-on c =
    let w0 = c.args.walk.now in
    let w1 : Walk = record { pool = c.fits.new.pool; names = w0.names; met = w0.met; calls = w0.calls; alloc = w0.alloc } in
    follows_then w0 w1 _ (grew w0 w1 c.requires.well c.fits.ensures.grows refl refl refl).on c.check.ensures.on

pub returns-clause-did : goal.returns-clause-did
returns-clause-did c p i u =
    let w0 = c.args.walk.now in
    let w1 : Walk = record { pool = c.fits.new.pool; names = w0.names; met = w0.met; calls = w0.calls; alloc = w0.alloc } in
    let g = grew w0 w1 c.requires.well c.fits.ensures.grows refl refl refl in
    record { is = checked_after w0 w1 _ LoopCheck c.args.card _ _ g c.in_ok-check.ensures.met c.in-Ok.ensures.tree; gives = refl }
