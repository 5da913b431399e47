use Rattle.std.proofs.Common.{◌≡◌, ◌++◌, OnOk, subst, ap, sym, ◌∙◌}
use Rattle.std.specs.Prelude.{flat_map}
use Rattle.fort_model.specs.Calls.{own_site, sites_in}
use Rattle.fort_syntax.specs.Names.{applied}
use Rattle.call_sites.proofs.Rows.{in_apply, in_power, in_bin, in_rel, in_and, in_or, ended}
use Rattle.call_sites.proofs.sites.+sites.Goals as goal

pub push_expr-returns-in_ok-push_expr-in-Bin : goal.push_expr-returns-in_ok-push_expr-in-Bin
push_expr-returns-in_ok-push_expr-in-Bin t c =
    let u = c.args.book.now.unit.now in
    let first = sites_in u c.get-in-Bin.result.now in
    let second = sites_in u c.get-in-Bin-2.result.now in
    let whole : sites_in u c.args.e.now ≡ first ++ second =
    ap (sites_in u) c.in-Bin.is ∙ in_bin u c.in-Bin.field-0 c.in-Bin.a c.in-Bin.b ∙ sym (λ i. sites_in u (c.get-in-Bin.ensures i) ++ sites_in u (c.get-in-Bin-2.ensures i)) in
    subst (λ xs. OnOk c.push_expr-in-Bin-2.result (c.push_expr-in-Bin-2.new.all.items ≡ xs))
    (ended c.args.all.now.items c.push_expr-in-Bin.new.all.items first second (sites_in u c.args.e.now) c.in_ok-push_expr-in-Bin.ensures whole)
    c.push_expr-in-Bin-2.ensures

pub push_expr-returns-in_ok-push_expr-in-Rel : goal.push_expr-returns-in_ok-push_expr-in-Rel
push_expr-returns-in_ok-push_expr-in-Rel t c =
    let u = c.args.book.now.unit.now in
    let first = sites_in u c.get-in-Rel.result.now in
    let second = sites_in u c.get-in-Rel-2.result.now in
    let whole : sites_in u c.args.e.now ≡ first ++ second =
    ap (sites_in u) c.in-Rel.is ∙ in_rel u c.in-Rel.field-0 c.in-Rel.a c.in-Rel.b ∙ sym (λ i. sites_in u (c.get-in-Rel.ensures i) ++ sites_in u (c.get-in-Rel-2.ensures i)) in
    subst (λ xs. OnOk c.push_expr-in-Rel-2.result (c.push_expr-in-Rel-2.new.all.items ≡ xs))
    (ended c.args.all.now.items c.push_expr-in-Rel.new.all.items first second (sites_in u c.args.e.now) c.in_ok-push_expr-in-Rel.ensures whole)
    c.push_expr-in-Rel-2.ensures

pub push_expr-returns-in_ok-push_expr-in-And : goal.push_expr-returns-in_ok-push_expr-in-And
push_expr-returns-in_ok-push_expr-in-And t c =
    let u = c.args.book.now.unit.now in
    let first = sites_in u c.get-in-And.result.now in
    let second = sites_in u c.get-in-And-2.result.now in
    let whole : sites_in u c.args.e.now ≡ first ++ second =
    ap (sites_in u) c.in-And.is ∙ in_and u c.in-And.a c.in-And.b ∙ sym (λ i. sites_in u (c.get-in-And.ensures i) ++ sites_in u (c.get-in-And-2.ensures i)) in
    subst (λ xs. OnOk c.push_expr-in-And-2.result (c.push_expr-in-And-2.new.all.items ≡ xs))
    (ended c.args.all.now.items c.push_expr-in-And.new.all.items first second (sites_in u c.args.e.now) c.in_ok-push_expr-in-And.ensures whole)
    c.push_expr-in-And-2.ensures

pub push_expr-returns-in_ok-push_expr-in-Or : goal.push_expr-returns-in_ok-push_expr-in-Or
push_expr-returns-in_ok-push_expr-in-Or t c =
    let u = c.args.book.now.unit.now in
    let first = sites_in u c.get-in-Or.result.now in
    let second = sites_in u c.get-in-Or-2.result.now in
    let whole : sites_in u c.args.e.now ≡ first ++ second =
    ap (sites_in u) c.in-Or.is ∙ in_or u c.in-Or.a c.in-Or.b ∙ sym (λ i. sites_in u (c.get-in-Or.ensures i) ++ sites_in u (c.get-in-Or-2.ensures i)) in
    subst (λ xs. OnOk c.push_expr-in-Or-2.result (c.push_expr-in-Or-2.new.all.items ≡ xs))
    (ended c.args.all.now.items c.push_expr-in-Or.new.all.items first second (sites_in u c.args.e.now) c.in_ok-push_expr-in-Or.ensures whole)
    c.push_expr-in-Or-2.ensures

pub push_expr-returns-in-Power : goal.push_expr-returns-in-Power
push_expr-returns-in-Power t c =
    let u = c.args.book.now.unit.now in
    let whole : sites_in u c.args.e.now ≡ sites_in u c.get-in-Power.result.now =
    ap (sites_in u) c.in-Power.is ∙ in_power u c.in-Power.a c.in-Power.field-1 ∙ sym (ap (sites_in u) c.get-in-Power.ensures) in
    subst (λ xs. OnOk c.push_expr-in-Power.result (c.push_expr-in-Power.new.all.items ≡ c.args.all.now.items ++ xs)) (sym whole) c.push_expr-in-Power.ensures

pub push_expr-returns-in_ok-push_own-in-Apply : goal.push_expr-returns-in_ok-push_own-in-Apply
push_expr-returns-in_ok-push_own-in-Apply t c =
    let u = c.args.book.now.unit.now in
    let first = own_site (applied u c.in-Apply.f) c.in-Apply.f c.as_slice.result.now in
    let second = flat_map (sites_in u) c.as_slice-in-Apply.result.now in
    let whole : sites_in u c.args.e.now ≡ first ++ second =
    ap (sites_in u) c.in-Apply.is ∙ in_apply u c.in-Apply.f c.in-Apply.args
    ∙ sym (λ i. own_site (applied u c.in-Apply.f) c.in-Apply.f (c.as_slice.ensures i) ++ flat_map (sites_in u) (c.as_slice-in-Apply.ensures i)) in
    subst (λ xs. OnOk c.push_args.result (c.push_args.new.all.items ≡ xs))
    (ended c.args.all.now.items c.push_own.new.all.items first second (sites_in u c.args.e.now) c.in_ok-push_own-in-Apply.ensures whole)
    c.push_args.ensures
