use Rattle.std.proofs.Common.{◌≡◌, suc, ◌+◌, ◌-◌, ◌≤◌, ◌∷◌, [], drop, length, slice_index_or, sym, ap, ◌∙◌, subst, arith, length-append}
use Rattle.run_rooms.specs.Roomy.{Roomy}
use Rattle.run_state.specs.Deeds.{no_item, newest_in}
use Rattle.run_state.specs.Settings.{copies_by}
use Rattle.run_state.specs.declared.machine.Item.{Item}
use Rattle.run_state.specs.declared.machine.State.{State}
use Rattle.run_calls.specs.Calls.{HasRoomFor, held_in, handed, handed_all}
use Rattle.run_calls.proofs.Loops.{next_item, newest_done, room_now, room_then}
use Rattle.run_calls.proofs.passing.hand_all.Goals as goal

pub hand-requires-clause-extents : goal.hand-requires-clause-extents
hand-requires-clause-extents c =
    let i = c.loop-i.i in
    let n = c.args.count in
    let xs = newest_in n c.args.m.now.values.items [] in
    let item : slice_index_or c.args.m.now.values.items (n - 1 - i) no_item ≡ c.below_or-item.result
    = sym (c.below_or-item.ensures ∙ ap (λ (x : Item). slice_index_or c.loop-i.m.values.items (n - 1 - i) x) c.no_item.ensures ∙ ap (λ (s : Roomy Item). slice_index_or s.items (n - 1 - i) no_item) c.loop-i.invariant.1.1) in
    let here : drop i xs ≡ c.below_or-item.result ∷ drop (suc i) xs = next_item n i c.args.m.now.values.items c.loop-i-test.true ∙ ap (λ x. x ∷ drop (suc i) xs) item in
    (room_now c.copies-copy.result c.below_or-item.result (drop (suc i) xs) c.loop-i.m (subst (λ ys. HasRoomFor ys c.loop-i.m) here c.loop-i.invariant.1.0)).0

pub hand-requires-clause-cells : goal.hand-requires-clause-cells
hand-requires-clause-cells c =
    let i = c.loop-i.i in
    let n = c.args.count in
    let xs = newest_in n c.args.m.now.values.items [] in
    let item : slice_index_or c.args.m.now.values.items (n - 1 - i) no_item ≡ c.below_or-item.result
    = sym (c.below_or-item.ensures ∙ ap (λ (x : Item). slice_index_or c.loop-i.m.values.items (n - 1 - i) x) c.no_item.ensures ∙ ap (λ (s : Roomy Item). slice_index_or s.items (n - 1 - i) no_item) c.loop-i.invariant.1.1) in
    let here : drop i xs ≡ c.below_or-item.result ∷ drop (suc i) xs = next_item n i c.args.m.now.values.items c.loop-i-test.true ∙ ap (λ x. x ∷ drop (suc i) xs) item in
    (room_now c.copies-copy.result c.below_or-item.result (drop (suc i) xs) c.loop-i.m (subst (λ ys. HasRoomFor ys c.loop-i.m) here c.loop-i.invariant.1.0)).1

pub loop-i-preserved : goal.loop-i-preserved
loop-i-preserved c =
    let m = c.loop-i.m in
    let i = c.loop-i.i in
    let n = c.args.count in
    let base = c.len-base.result in
    let copies = copies_by c.args.setting.now.passing c.args.unit.now c.args.number in
    let xs = newest_in n c.args.m.now.values.items [] in
    let x = c.below_or-item.result in
    let item : slice_index_or c.args.m.now.values.items (n - 1 - i) no_item ≡ x
    = sym (c.below_or-item.ensures ∙ ap (λ (x : Item). slice_index_or m.values.items (n - 1 - i) x) c.no_item.ensures ∙ ap (λ (s : Roomy Item). slice_index_or s.items (n - 1 - i) no_item) c.loop-i.invariant.1.1) in
    let here : drop i xs ≡ x ∷ drop (suc i) xs = next_item n i c.args.m.now.values.items c.loop-i-test.true ∙ ap (λ y. y ∷ drop (suc i) xs) item in
    let one : suc i ≡ i + 1 = omega arith in
    let copy : c.copies-copy.result ≡ copies (suc i) = c.copies-copy.ensures ∙ ap copies (sym one) in
    let now : c.hand.new.m ≡ handed (copies (suc i)) x base m = c.hand.ensures ∙ ap (λ b. handed b x base m) copy in
    let before = sym (ap (λ ys. handed_all copies (suc i) base ys m) here) ∙ c.loop-i.invariant.0 in
    let room : HasRoomFor (drop (suc i) xs) (handed (copies (suc i)) x base m)
    = room_then (copies (suc i)) x base (drop (suc i) xs) m (subst (λ ys. HasRoomFor ys m) here c.loop-i.invariant.1.0) in
    let more : length (handed (copies (suc i)) x base m).cells.items ≡ length m.cells.items + length (held_in (copies (suc i)) x base m.cells.items)
    = length-append m.cells.items (held_in (copies (suc i)) x base m.cells.items) in
    let low : base ≤ length m.cells.items = c.loop-i.invariant.1.2 in
    let high : base ≤ length (handed (copies (suc i)) x base m).cells.items = omega arith in (
      ap (λ k. handed_all copies (suc k) base (drop k xs) c.hand.new.m) (sym one) ∙ ap (handed_all copies (suc (suc i)) base (drop (suc i) xs)) now ∙ before,
      (
        subst (λ k. HasRoomFor (drop k xs) c.hand.new.m) one (subst (HasRoomFor (drop (suc i) xs)) (sym now) room),
        ap (λ (s : State). s.values) now ∙ c.loop-i.invariant.1.1,
        subst (λ (s : State). base ≤ length s.cells.items) (sym now) high,
      ),
    )

pub returns : goal.returns
returns c =
    let n = c.args.count in
    let copies = copies_by c.args.setting.now.passing c.args.unit.now c.args.number in
    sym (ap (λ ys. handed_all copies (suc c.loop-i.i) c.len-base.result ys c.loop-i.m) (newest_done c.loop-i.i n c.args.m.now.values.items (grind arith)))
    ∙ c.loop-i.invariant.0 ∙ ap (λ base. handed_all copies 1 base (newest_in n c.args.m.now.values.items []) c.args.m.now) c.len-base.ensures
