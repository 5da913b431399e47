use Rattle.std.proofs.Common.{◌≡◌, ◌+◌, ◌<◌, ◌≤◌, List, [], ◌∷◌, ◌++◌, length, take, ap, ◌∙◌, arith}
use Rattle.formula.specs.declared.value.Cell.{Cell}
use Rattle.fort_model.specs.Storage.{contents, load}
use Rattle.run_rooms.specs.Roomy.{Roomy}
use Rattle.run_rooms.proofs.Copies.{grown, longer}
use Rattle.run_rooms.proofs.piles.Pile.copied.Goals as goal

pub push-requires : goal.push-requires
push-requires c =
    let st = c.args.self.now.items in
    let here : length c.loop-offset.self.items ≡ length st + c.loop-offset.offset =
    ap (λ (p : Roomy Cell). length p.items) c.loop-offset.invariant ∙ grown c.args.base st c.args.first c.loop-offset.offset in
    let room : c.loop-offset.self.room ≡ c.args.self.now.room = ap (λ (p : Roomy Cell). p.room) c.loop-offset.invariant in
    let enough : length st + c.args.size ≤ c.args.self.now.room = c.requires.room in
    let one : c.loop-offset.offset < c.args.size = c.loop-offset-test.true in
    omega arith

pub loop-offset-preserved : goal.loop-offset-preserved
loop-offset-preserved c =
    let st = c.args.self.now.items in
    let now = st ++ contents (take c.args.base st) c.args.first c.loop-offset.offset in
    c.push.ensures ∙ ap (λ (p : Roomy Cell). record p { items = p.items ++ c.early-content.result ∷ [] }) c.loop-offset.invariant
    ∙ ap (λ (x : Cell). record c.args.self.now { items = now ++ x ∷ [] })
    (c.early-content.ensures ∙ ap (λ (p : Roomy Cell). load (take c.args.base p.items) (c.args.first + c.loop-offset.offset)) c.loop-offset.invariant)
    ∙ ap (λ (cs : List Cell). record c.args.self.now { items = cs }) (longer c.args.base st c.args.first c.loop-offset.offset c.requires.base)
