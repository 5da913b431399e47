use Rattle.std.proofs.Common.{◌≡◌, ℕ, ◌+◌, ◌^◌, ◌<◌, ◌≤◌, List, length, refl, sym, ap, ◌∙◌, subst, arith, rules}
use Rattle.fort_syntax.specs.declared.name.Name.{Name}
use Rattle.run_ranks.specs.Needs.{cells_need, rank_at}
use Rattle.run_ranks.specs.declared.ranks.UnitRank.{UnitRank}
use Rattle.run_start.specs.Filled.{ends_from, filled}
use Rattle.run_start.specs.Starts.{entities}
use Rattle.run_start.proofs.Begun.{filled_long}
use Rattle.run_start.proofs.Reading.{rank_is, segments_as}
use Rattle.run_start.proofs.states.first_state.Goals as goal

pub begin_cells-requires-clause-room : goal.begin_cells-requires-clause-room
begin_cells-requires-clause-room c =
    let a : length (filled c.args.case.now.entries.now.given.now (entities c.args.case.now.entries.now.unit.now) c.args.needed.now.sizes.now) ≡ c.args.needed.now.sum =
    filled_long c.args.case.now.entries.now.unit.now c.args.case.now.entries.now.given.now c.args.needed.now.sizes.now c.args.needed.now.sum c.requires.sizes c.requires.sum in
    let b : c.in-Some.room ≡ c.args.needed.now.sum + cells_need c.args.needed.now.most c.index-as_slice-case.result = c.in-Some.ensures in
    subst (λ (names : List Name). length (filled c.args.case.now.entries.now.given.now names c.args.needed.now.sizes.now) ≤ c.in-Some.room) (sym c.args.case.now.names_are)
    (let n : ℕ = cells_need c.args.needed.now.most c.index-as_slice-case.result in omega arith)

pub returns : goal.returns
returns c =
    let rank : c.index-as_slice-case.result ≡ rank_at c.args.deck.now.ranks.now c.args.case.now.unit =
    rank_is c.args.deck.now c.args.case.now.unit c.args.case.now.entries.now.unit.now c.requires.unit c.index-as_slice-case.result c.as_slice.result.now c.as_slice.ensures c.index-as_slice-case.is in
    let ends : c.as_slice-2.result.now ≡ ends_from 0 c.args.needed.now.sizes.now = c.as_slice-2.ensures.value ∙ c.in_ok-ends.ensures in
    let small : c.in-Some.room < 2 ^ 64 = search rules in
    let commons_long : length c.as_slice-commons.result.now ≡ length c.args.deck.now.code.now.commons = ap length c.as_slice-commons.ensures in
    let names : length c.as_slice-commons.result.now + c.index-as_slice-case.result.names ≤ c.in_ok-extents.extents.room = c.in_ok-extents.ensures.room in
    let rank_names : c.index-as_slice-case.result.names ≡ (rank_at c.args.deck.now.ranks.now c.args.case.now.unit).names = ap (λ (r : UnitRank). r.names) rank in
    record {
      stage_is = refl;
      unit_is = ap (λ f. f.unit) c.new_frame.ensures;
      extents_are = ap (λ f. f.extents) c.new_frame.ensures ∙ (search rules);
      no_callers = ap (λ s. s.items) c.in-Ok.ensures;
      no_values = ap (λ s. s.items) c.in-Ok-new.ensures;
      names_are =
          c.in_ok-extents.ensures.items
          ∙ segments_as c.args.case.now.names.now (entities c.args.case.now.entries.now.unit.now) c.as_slice-2.result.now (ends_from 0 c.args.needed.now.sizes.now) c.as_slice-commons.result.now
          c.args.deck.now.code.now.commons c.as_slice-dummies.result.now c.args.case.now.entries.now.unit.now.dummies c.args.case.now.names_are ends c.as_slice-commons.ensures c.as_slice-dummies.ensures;
      cells_are = ap (λ p. p.items) c.in_ok-cells.ensures ∙ ap (λ (ns : List Name). filled c.args.case.now.entries.now.given.now ns c.args.needed.now.sizes.now) c.args.case.now.names_are;
      callers_room = ap (λ s. s.room) c.in-Ok.ensures ∙ ap (λ (r : UnitRank). r.frames) rank;
      values_room = ap (λ s. s.room) c.in-Ok-new.ensures ∙ ap (λ (r : UnitRank). r.values) rank;
      names_room = omega arith;
      cells_room = ap (λ p. p.room) c.in_ok-cells.ensures ∙ (c.in-Some.ensures ∙ ap (λ (r : UnitRank). c.args.needed.now.sum + cells_need c.args.needed.now.most r) rank);
      small = subst (λ (n : ℕ). n < 2 ^ 64) (sym (ap (λ p. p.room) c.in_ok-cells.ensures)) small;
    }
