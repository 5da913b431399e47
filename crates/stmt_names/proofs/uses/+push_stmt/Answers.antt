use Rattle.std.proofs.Common.{◌≡◌, ◌++◌, OnOk, subst, ap, sym, ◌∙◌}
use Rattle.fort_syntax.specs.Uses.{read, uses_in, uses_of}
use Rattle.stmt_names.proofs.Rows.{uses_of_carried, ended}
use Rattle.stmt_names.proofs.uses.+push_stmt.Goals as goal

pub returns-in_ok-push_expr-in-LogicalIf : goal.returns-in_ok-push_expr-in-LogicalIf
returns-in_ok-push_expr-in-LogicalIf t c =
    let first = uses_in read c.in-LogicalIf.e in
    let second = uses_of c.get.result.now in
    let whole : uses_of c.args.stmt.now ≡ first ++ second =
    ap uses_of c.in-LogicalIf.is ∙ uses_of_carried c.in-LogicalIf.e c.in-LogicalIf.carried ∙ sym (λ i. first ++ uses_of (c.get.ensures i)) in
    subst (λ xs. OnOk c.push_stmt.result (c.push_stmt.new.all.items ≡ xs))
    (ended c.args.all.now.items c.push_expr-in-LogicalIf.new.all.items first second (uses_of c.args.stmt.now) c.in_ok-push_expr-in-LogicalIf.ensures whole)
    c.push_stmt.ensures
