use Rattle.std.proofs.Common.{◌+◌, List, ap, ◌∙◌}
use Rattle.formula.specs.declared.value.Cell.{Cell}
use Rattle.fort_model.specs.Storage.{contents, load, store, write}
use Rattle.run_rooms.specs.Roomy.{Roomy}
use Rattle.run_rooms.proofs.Moves.{down}
use Rattle.run_rooms.proofs.piles.Pile.moved_down.Goals as goal

pub loop-offset-preserved : goal.loop-offset-preserved
loop-offset-preserved c =
    let st = c.args.self.now.items in
    let n = c.loop-offset.offset in
    let now = write (contents st c.args.from n) c.args.to st in
    c.store_behind.ensures ∙ ap (λ (p : Roomy Cell). record p { items = store p.items (c.args.to + n) c.load_behind-content.result }) c.loop-offset.invariant
    ∙ ap (λ (x : Cell). record c.args.self.now { items = store now (c.args.to + n) x })
    (c.load_behind-content.ensures ∙ ap (λ (p : Roomy Cell). load p.items (c.args.from + n)) c.loop-offset.invariant)
    ∙ ap (λ (cs : List Cell). record c.args.self.now { items = cs }) (down st c.args.from c.args.to n c.requires)
