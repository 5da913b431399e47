use Rattle.std.proofs.Common.{◌≡◌, suc, ◌+◌, ◌-◌, ◌<◌, ◌∷◌, [], drop, slice_index_or, sym, ap, ◌∙◌, arith}
use Rattle.run_rooms.specs.Roomy.{Roomy}
use Rattle.run_state.specs.Near.{far}
use Rattle.run_state.specs.Deeds.{no_item, newest_in}
use Rattle.run_state.specs.declared.machine.Item.{Item}
use Rattle.run_state.specs.declared.machine.State.{State}
use Rattle.run_calls.specs.Calls.{copies_in, new_size, given_back, given_back_all}
use Rattle.run_calls.proofs.Loops.{next_item, newest_done}
use Rattle.run_calls.proofs.Closed.{one_back}
use Rattle.run_calls.proofs.leaving.restore.Goals as goal

pub loop-i-preserved : goal.loop-i-preserved
loop-i-preserved c =
    let m = c.loop-i.m in
    let i = c.loop-i.i in
    let n = c.args.frame.actuals in
    let copies = copies_in c.args.setting.now c.args.unit.now c.args.frame.number in
    let xs = newest_in n c.args.m.now.values.items [] in
    let within : i < n = c.loop-i-test.true in
    let item : slice_index_or c.args.m.now.values.items (n - 1 - i) no_item ≡ c.below_or-item.result
    = sym (c.below_or-item.ensures ∙ ap (λ (x : Item). slice_index_or m.values.items (n - 1 - i) x) c.no_item.ensures ∙ ap (λ (s : Roomy Item). slice_index_or s.items (n - 1 - i) no_item) c.loop-i.invariant.1) in
    let here : drop i xs ≡ c.below_or-item.result ∷ drop (suc i) xs = next_item n i c.args.m.now.values.items within ∙ ap (λ x. x ∷ drop (suc i) xs) item in
    let one : suc i ≡ i + 1 = omega arith in
    let copy : c.copies-copy.result ≡ copies (suc i) = c.copies-copy.ensures ∙ ap copies (sym one) in
    let back : c.give_back.new.m ≡ given_back (copies (suc i)) c.below_or-item.result c.loop-i.next m
    = c.give_back.ensures ∙ ap (λ b. given_back b c.below_or-item.result c.loop-i.next m) copy in
    let next : c.saturating_add-next.result ≡ far (c.loop-i.next + new_size (copies (suc i)) c.below_or-item.result)
    = c.saturating_add-next.ensures ∙ ap (λ k. far (c.loop-i.next + k)) (c.size.ensures ∙ ap (λ b. new_size b c.below_or-item.result) copy) in
    let before = sym (ap (λ ys. given_back_all copies (suc i) c.loop-i.next ys m) here) ∙ c.loop-i.invariant.0 in (
      ap (λ k. given_back_all copies (suc k) c.saturating_add-next.result (drop k xs) c.give_back.new.m) (sym one)
          ∙ ap (λ k. given_back_all copies (suc (suc i)) k (drop (suc i) xs) c.give_back.new.m) next
          ∙ ap (given_back_all copies (suc (suc i)) (far (c.loop-i.next + new_size (copies (suc i)) c.below_or-item.result)) (drop (suc i) xs)) back ∙ before,
      ap (λ (s : State). s.values) (back ∙ one_back (copies (suc i)) c.below_or-item.result c.loop-i.next m) ∙ c.loop-i.invariant.1,
    )

pub returns : goal.returns
returns c =
    let n = c.args.frame.actuals in
    let copies = copies_in c.args.setting.now c.args.unit.now c.args.frame.number in
    let xs = newest_in n c.args.m.now.values.items [] in
    sym (ap (λ ys. given_back_all copies (suc c.loop-i.i) c.loop-i.next ys c.loop-i.m) (newest_done c.loop-i.i n c.args.m.now.values.items (grind arith))) ∙ c.loop-i.invariant.0
