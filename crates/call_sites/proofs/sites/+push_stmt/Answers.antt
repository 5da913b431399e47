use Rattle.std.proofs.Common.{◌≡◌, List, [], ◌∷◌, ◌++◌, OnOk, subst, ap, sym, ◌∙◌}
use Rattle.std.specs.Prelude.{flat_map, false}
use Rattle.fort_model.specs.Calls.{CallSite, sites_in, sites_of}
use Rattle.call_sites.proofs.Rows.{call_site, in_carried, in_call, ended}
use Rattle.call_sites.proofs.sites.+push_stmt.Goals as goal

pub returns-in_ok-push_expr-in-LogicalIf : goal.returns-in_ok-push_expr-in-LogicalIf
returns-in_ok-push_expr-in-LogicalIf t c =
    let u = c.args.book.now.unit.now in
    let first = sites_in u c.in-LogicalIf.e in
    let second = sites_of u c.get.result.now in
    let whole : sites_of u c.args.stmt.now ≡ first ++ second =
    ap (sites_of u) c.in-LogicalIf.is ∙ in_carried u c.in-LogicalIf.e c.in-LogicalIf.carried ∙ sym (λ i. first ++ sites_of u (c.get.ensures i)) in
    subst (λ xs. OnOk c.push_stmt.result (c.push_stmt.new.all.items ≡ xs))
    (ended c.args.all.now.items c.push_expr-in-LogicalIf.new.all.items first second (sites_of u c.args.stmt.now) c.in_ok-push_expr-in-LogicalIf.ensures whole)
    c.push_stmt.ensures

pub returns-in_ok-push-in-Call : goal.returns-in_ok-push-in-Call
returns-in_ok-push-in-Call t c =
    let u = c.args.book.now.unit.now in
    let first : List CallSite = record { reference = false; callee = c.in-Call.f; actuals = c.as_slice.result.now } ∷ [] in
    let second = flat_map (sites_in u) c.as_slice-in-Call.result.now in
    let whole : sites_of u c.args.stmt.now ≡ first ++ second =
    ap (sites_of u) c.in-Call.is ∙ in_call u c.in-Call.f c.in-Call.args
    ∙ sym (λ i. call_site false c.in-Call.f (c.as_slice.ensures i) ∷ flat_map (sites_in u) (c.as_slice-in-Call.ensures i)) in
    subst (λ xs. OnOk c.push_args.result (c.push_args.new.all.items ≡ xs))
    (ended c.args.all.now.items c.push.new.all.items first second (sites_of u c.args.stmt.now) c.in_ok-push-in-Call.ensures whole)
    c.push_args.ensures
