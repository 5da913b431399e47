use Rattle.std.proofs.Common.{◌-◌, ◌<◌, ◌∷◌, List, length, subst, sym, ap, ◌∙◌}
use Rattle.formula.specs.declared.value.Cell.{Cell}
use Rattle.run_rooms.specs.Roomy.{Roomy, oldest}
use Rattle.run_state.specs.Deeds.{under_in}
use Rattle.run_state.specs.declared.machine.Item.{Item}
use Rattle.run_state.specs.declared.machine.Item.TheVariants.{Fresh}
use Rattle.run_state.specs.declared.machine.Stage.TheVariants as stage
use Rattle.run_state.proofs.Items.{under_oldest}
use Rattle.run_calls.proofs.leaving.go_back.Goals as goal

pub push-requires : goal.push-requires
push-requires c =
    let items = c.args.m.now.values.items in
    let n = c.args.frame.actuals in
    let here = c.keep.ensures ∙ ap (λ k. record c.args.m.now.values { items = oldest k items }) (c.saturating_sub-height.ensures ∙ ap (λ k. k - n) c.len.ensures)
    ∙ ap (λ (xs : List Item). record c.args.m.now.values { items = xs }) (under_oldest n items) in
    subst (λ (s : Roomy Item). length s.items < s.room) (sym here) c.requires

pub returns : goal.returns
returns c =
    let m = c.args.m.now in
    let items = m.values.items in
    let n = c.args.frame.actuals in
    let here = c.keep.ensures ∙ ap (λ k. record m.values { items = oldest k items }) (c.saturating_sub-height.ensures ∙ ap (λ k. k - n) c.len.ensures)
    ∙ ap (λ (xs : List Item). record m.values { items = xs }) (under_oldest n items) in
    let pushed = c.push.ensures ∙ ap (λ (s : Roomy Item). record s { items = Fresh c.args.value ∷ s.items }) here in
    ap (λ (s : Roomy Item). record m { stage = stage.Inside; frame = c.args.frame; values = s; cells = c.keep-2.new.self }) pushed
    ∙ ap (λ (cells : Roomy Cell). record m { stage = stage.Inside; frame = c.args.frame; values = record m.values { items = Fresh c.args.value ∷ under_in n items }; cells = cells }) c.keep-2.ensures
