use Rattle.std.proofs.Common.{◌-◌, length, Some, slice_get, ap, ◌∙◌}
use Rattle.flow_ends.proofs.Last.{last_is}
use Rattle.flow_ends.proofs.ends.off_card.Goals as goal

-- what the last statement says
pub returns-in-Some : goal.returns-in-Some
returns-in-Some c =
    let u = c.args.unit.now in
    c.card_behind.ensures
    ∙ last_is c.args.dialect u u.lines (Some c.in-Some.line.now) (c.in-Some.ensures.value ∙ ap (λ xs. slice_get xs (length xs - 1)) c.as_slice.ensures)
