use Rattle.std.proofs.Common.{◌≡◌, ◌∙◌, sym, ap, subst, rules, to_z, of_z}
use Rattle.std.proofs.lemmas.Int.{to_z-of_z}
use mir.Syntax.{w128}
use mir.Val.{SFits}
use Rattle.formula.specs.declared.value.Value.TheVariants.{Cells}
use Rattle.term_worth.specs.Machine.{value_of, held_num}
use Rattle.formula.specs.Values.{are_cells, is_integer_cell}
use Rattle.term_worth.proofs.Applied.{list_is}
use Rattle.term_worth.proofs.applying.integer_cells.Goals as goal

pub returns-then-is_list : goal.returns-then-is_list
returns-then-is_list c =
    let v : value_of c.args.entries.now c.args.made.now c.args.list ≡ Cells c.cells_of-cells.result.now =
    list_is c.args.entries.now c.args.made.now c.args.list (sym c.is_list.ensures ∙ c.if-is_list.true) ∙ ap Cells (sym c.cells_of-cells.ensures) in
    let fits : SFits w128 c.number_of.result = search rules in
    let fits_least : SFits w128 c.number_of-least.result = search rules in
    let fits_greatest : SFits w128 c.number_of-greatest.result = search rules in
    let n : to_z w128 (of_z w128 c.number_of.result) ≡ held_num c.args.count = to_z-of_z w128 c.number_of.result fits ∙ c.number_of.ensures in
    let least : to_z w128 (of_z w128 c.number_of-least.result) ≡ held_num c.args.bounds.0 = to_z-of_z w128 c.number_of-least.result fits_least ∙ c.number_of-least.ensures in
    let greatest : to_z w128 (of_z w128 c.number_of-greatest.result) ≡ held_num c.args.bounds.1 = to_z-of_z w128 c.number_of-greatest.result fits_greatest ∙ c.number_of-greatest.ensures in
    subst (λ v. c.are_integer_cells.result ≡ are_cells (is_integer_cell (held_num c.args.bounds.0) (held_num c.args.bounds.1)) (held_num c.args.count) v) (sym v)
    (c.are_integer_cells.ensures ∙ (λ i. are_cells (is_integer_cell (least i) (greatest i)) (n i) (Cells c.cells_of-cells.result.now)))
