use Rattle.std.proofs.Common.{◌≡◌, ◌∙◌, List, length, Option, None, Some, slice_get, refl, ap, sym}
use Rattle.std.specs.Prelude.{unwrap_or}
use Rattle.std.proofs.lemmas.Option.{slice_get_read, slice_get_past, get_or_from_slice_get, unwrap_or-slice_get}
use Rattle.run_ranks.specs.Needs.{no_rank}
use Rattle.run_ranks.specs.declared.ranks.UnitRank.{UnitRank}
use Rattle.run_work.proofs.stepping.own_sizes.Goals as goal

pub returns-in-None : goal.returns-in-None
returns-in-None c =
    let rs = c.args.ranks.now.units in
    let none : slice_get rs c.args.unit ≡ None = ap (λ (xs : List UnitRank). slice_get xs c.args.unit) (sym c.as_slice.ensures) ∙ slice_get_past c.as_slice.result.now c.args.unit c.in-None.ensures.lookup.3 in
    ap (λ (o : Option UnitRank). (unwrap_or o no_rank).own) (sym none) ∙ ap (λ (r : UnitRank). r.own) (unwrap_or-slice_get rs c.args.unit no_rank)

pub returns-in-Some : goal.returns-in-Some
returns-in-Some c =
    let rs = c.args.ranks.now.units in
    let is = c.as_slice.result.now in
    let at : slice_get rs c.args.unit ≡ Some c.in-Some.rank.now
    = ap (λ (xs : List UnitRank). slice_get xs c.args.unit) (sym c.as_slice.ensures) ∙ slice_get_read is (length is) c.args.unit c.in-Some.rank.now refl c.in-Some.ensures.lookup.3.0 c.in-Some.ensures.lookup.1 in
    c.as_slice-in-Some.ensures ∙ ap (λ (r : UnitRank). r.own) (sym (get_or_from_slice_get rs c.args.unit c.in-Some.rank.now no_rank at))
