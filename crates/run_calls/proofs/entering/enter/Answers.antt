use Rattle.std.proofs.Common.{◌≡◌, ◌+◌, ◌≤◌, ◌++◌, map, length, subst, sym, ap, ◌∙◌, arith, length-append}
use Rattle.fort_model.specs.Storage.{side_by_side}
use Rattle.run_state.specs.Near.{shortened}
use Rattle.run_state.specs.declared.machine.State.{State}
use Rattle.run_calls.specs.Calls.{begun, given_all}
use Rattle.run_calls.proofs.Closed.{given_closed, sides_long}
use Rattle.run_calls.proofs.entering.enter.Goals as goal

pub share_all-requires : goal.share_all-requires
share_all-requires c =
    let m = begun c.args.m.now in
    let new = map shortened (side_by_side c.args.sizes.now (length m.cells.items)) in
    let l : length (m.extents.items ++ new) ≡ length m.extents.items + length new = length-append m.extents.items new in
    let k : length new ≡ length c.args.sizes.now = sides_long c.args.sizes.now (length m.cells.items) in
    let room : length m.extents.items + length c.args.sizes.now + length c.args.shared.now ≤ m.extents.room = c.requires.extents in
    let whole : length (m.extents.items ++ new) + length c.args.shared.now ≤ m.extents.room = omega arith in
    subst (λ (s : State). length s.extents.items + length c.args.shared.now ≤ s.extents.room) (sym (c.give_all.ensures ∙ ap (given_all c.args.sizes.now) c.begin.ensures ∙ given_closed c.args.sizes.now m)) whole
