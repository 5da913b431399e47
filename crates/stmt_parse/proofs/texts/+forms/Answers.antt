use Rattle.std.proofs.Common.{rules, ◌∙◌, codes, sym, ap}
use Rattle.fort_syntax.specs.Grammar.{is_carried}
use Rattle.stmt_parse.specs.Writing.{put, ◌⊕◌, write_condition, given, write_form}
use Rattle.stmt_parse.proofs.FormsAgree.{write_logical}
use Rattle.stmt_parse.proofs.WritingTrees.{first_fails, then_wrote}
use Rattle.stmt_parse.proofs.texts.+forms.Goals as goal

pub write_form-returns-in_err-write_if-in-LogicalIf : goal.write_form-returns-in_err-write_if-in-LogicalIf
write_form-returns-in_err-write_if-in-LogicalIf t c =
    let old = c.args.out.now.items in
    let d = c.args.dialect in
    let e = c.in-LogicalIf.e in
    let s = c.in-LogicalIf.carried in
    let failed = first_fails c.in_err-write_if-in-LogicalIf.field-0.0 (put (codes "IF") ⊕ write_condition e) (given (is_carried s) (write_form d s))
    old (write_form d c.args.stmt.now old)
    (ap (λ x. write_form d x old) c.in-LogicalIf.is ∙ write_logical d e s old) c.in_err-write_if-in-LogicalIf.ensures in
    search (rules, failed)

pub write_form-returns-in_ok-write_if-in-LogicalIf : goal.write_form-returns-in_ok-write_if-in-LogicalIf
write_form-returns-in_ok-write_if-in-LogicalIf t c =
    let old = c.args.out.now.items in
    let d = c.args.dialect in
    let e = c.in-LogicalIf.e in
    let s = c.get.result.now in
    then_wrote c.write_carried.result c.write_carried.new.out.items c.write_if.new.out.items old
    (put (codes "IF") ⊕ write_condition e) (given (is_carried s) (write_form d s)) (write_form d c.args.stmt.now old)
    (ap (λ x. write_form d x old) c.in-LogicalIf.is ∙ write_logical d e c.in-LogicalIf.carried old
    ∙ sym (λ i. ((put (codes "IF") ⊕ write_condition e) ⊕ given (is_carried (c.get.ensures i)) (write_form d (c.get.ensures i))) old))
    c.in_ok-write_if-in-LogicalIf.ensures c.write_carried.ensures
