use Rattle.std.proofs.Common.{◌≡◌, suc, length, get_or, ap, ◌∙◌, arith}
use Rattle.run_made.specs.Made.{names_in, unit_in}
use Rattle.run_doing.proofs.Tabled.{overs_to_long}
use Rattle.run_made.proofs.maker.Maker.place_over.Goals as goal

pub number_at-requires : goal.number_at-requires
number_at-requires c =
    let u = unit_in c.args.self.now in
    let long : length c.as_slice.result.now ≡ length u.lines =
    ap length c.as_slice.ensures.value ∙ ap length c.args.self.now.table_is.over ∙ overs_to_long u (names_in c.args.self.now) (suc (length u.lines)) in
    omega arith

pub returns : goal.returns
returns c = c.number_at.ensures ∙ ap (λ xs. get_or xs c.args.point 0) c.as_slice.ensures.value
