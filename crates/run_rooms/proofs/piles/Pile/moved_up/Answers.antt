use Rattle.std.proofs.Common.{◌≡◌, ℕ, suc, ◌+◌, ◌-◌, ◌<◌, List, ap, ◌∙◌, arith}
use Rattle.formula.specs.declared.value.Cell.{Cell}
use Rattle.fort_model.specs.Storage.{contents, load, store, write}
use Rattle.run_rooms.specs.Roomy.{Roomy}
use Rattle.run_rooms.proofs.Moves.{up}
use Rattle.run_rooms.proofs.piles.Pile.moved_up.Goals as goal

pub loop-done-preserved : goal.loop-done-preserved
loop-done-preserved c =
    let st = c.args.self.now.items in
    let n = c.loop-done.done in
    let k = c.args.size - 1 - n in
    let within : n < c.args.size = c.loop-done-test.true in
    let moved : ℕ → ℕ → ℕ → List Cell = λ i j m. write (contents st i m) j st in
    let from_next : c.args.from + (c.args.size - n) ≡ suc (c.args.from + k) = omega arith in
    let to_next : c.args.to + (c.args.size - n) ≡ suc (c.args.to + k) = omega arith in
    let from_then : c.args.from + k ≡ c.args.from + (c.args.size - (n + 1)) = omega arith in
    let to_then : c.args.to + k ≡ c.args.to + (c.args.size - (n + 1)) = omega arith in
    let less : c.args.from < c.args.to = c.requires in
    let here = c.loop-done.invariant ∙ ap (λ i. record c.args.self.now { items = moved i (c.args.to + (c.args.size - n)) n }) from_next ∙ ap (λ j. record c.args.self.now { items = moved (suc (c.args.from + k)) j n }) to_next in
    c.store_behind.ensures ∙ ap (λ (p : Roomy Cell). record p { items = store p.items (c.args.to + k) c.load_behind-content.result }) here
    ∙ ap (λ (x : Cell). record c.args.self.now { items = store (moved (suc (c.args.from + k)) (suc (c.args.to + k)) n) (c.args.to + k) x })
    (c.load_behind-content.ensures ∙ ap (λ (p : Roomy Cell). load p.items (c.args.from + k)) here)
    ∙ ap (λ (cs : List Cell). record c.args.self.now { items = cs }) (up st (c.args.from + k) (c.args.to + k) n (omega arith))
    ∙ ap (λ i. record c.args.self.now { items = moved i (c.args.to + k) (suc n) }) from_then
    ∙ ap (λ j. record c.args.self.now { items = moved (c.args.from + (c.args.size - (n + 1))) j (suc n) }) to_then
    ∙ ap (λ m. record c.args.self.now { items = moved (c.args.from + (c.args.size - (n + 1))) (c.args.to + (c.args.size - (n + 1))) m }) (let one : suc n ≡ n + 1 = omega arith in one)
