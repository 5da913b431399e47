use Rattle.std.proofs.lemmas.Result.{on_ok_weaker}
use Rattle.formula.specs.Pool.{tree_of}
use Rattle.fort_model.specs.Seen.{◌>>◌, see}
use Rattle.fort_model.specs.WalkExpr.{value}
use Rattle.fort_model.specs.WalkStmt.{sign_fact, taken}
use Rattle.walk_setting.proofs.Done.{does_here, performs_past, performs_then}
use Rattle.walk_state.specs.Moments.{moment}
use Rattle.walk_choices.proofs.signs.sign.Goals as goal

pub returns-clause-did : goal.returns-clause-did
returns-clause-did c =
    let s = c.args.card.now.setting.now in
    let card = c.args.card.now.number in
    let e = c.args.e.now in
    let cs = c.args.choices.now in
    let w0 = c.args.walk.now in
    let w1 = c.value.new.walk in
    let w2 = c.take_sign.new.walk in
    let t = tree_of w1.pool c.in_ok-number.number in
    on_ok_weaker c.take_sign.result
    (λ d. performs_then s w0 w1 w2 (λ w. value w card (moment w0).now e) (λ w now v. taken w (sign_fact w v cs) >> see now) t c.value.ensures.on.grows c.in_ok-number.ensures.did
    (performs_past w1.pool s (moment w1) (moment w2) (λ w. taken w (sign_fact w t cs)) tt (does_here w1.pool s (moment w1) (moment w2) (λ w. taken w (sign_fact w t cs)) tt d)))
    c.take_sign.ensures.did
