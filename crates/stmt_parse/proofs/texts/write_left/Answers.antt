use Rattle.std.proofs.Common.{◌∙◌, sym, ap, subst}
use Rattle.stmt_parse.specs.Writing.{◌⊕◌, write_name, write_expression, in_round, write_list, write_left}
use Rattle.stmt_parse.specs.Wrote.{Wrote}
use Rattle.stmt_parse.proofs.WritingTrees.{write_left_apply}
use Rattle.stmt_parse.proofs.texts.write_left.Goals as goal

pub returns-in-Apply : goal.returns-in-Apply
returns-in-Apply c =
    let old = c.args.out.now.items in
    subst (Wrote c.write_applied.result c.write_applied.new.out.items)
    (sym (ap (λ e. write_left e old) c.in-Apply.is ∙ write_left_apply c.in-Apply.name c.in-Apply.args old
    ∙ sym (λ i. (write_name c.in-Apply.name ⊕ in_round (write_list write_expression (c.as_slice.ensures i))) old)))
    c.write_applied.ensures
