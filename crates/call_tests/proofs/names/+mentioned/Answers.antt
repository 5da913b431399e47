use Rattle.std.proofs.Common.{◌≡◌, [], ◌∷◌, ◌++◌, OnOk, subst, ap, sym, ◌∙◌}
use Rattle.std.specs.Prelude.{flat_map}
use Rattle.call_tests.specs.Mentioned.{names_in}
use Rattle.call_tests.proofs.Rows.{in_apply, in_power, in_bin, in_rel, in_and, in_or, ended}
use Rattle.call_tests.proofs.names.+mentioned.Goals as goal

pub push_expr-returns-in_ok-push_expr-in-Bin : goal.push_expr-returns-in_ok-push_expr-in-Bin
push_expr-returns-in_ok-push_expr-in-Bin t c =
    let first = names_in c.get-in-Bin.result.now in
    let second = names_in c.get-in-Bin-2.result.now in
    let whole : names_in c.args.e.now ≡ first ++ second =
    ap names_in c.in-Bin.is ∙ in_bin c.in-Bin.field-0 c.in-Bin.a c.in-Bin.b ∙ sym (λ i. names_in (c.get-in-Bin.ensures i) ++ names_in (c.get-in-Bin-2.ensures i)) in
    subst (λ xs. OnOk c.push_expr-in-Bin-2.result (c.push_expr-in-Bin-2.new.all.items ≡ xs))
    (ended c.args.all.now.items c.push_expr-in-Bin.new.all.items first second (names_in c.args.e.now) c.in_ok-push_expr-in-Bin.ensures whole)
    c.push_expr-in-Bin-2.ensures

pub push_expr-returns-in_ok-push_expr-in-Rel : goal.push_expr-returns-in_ok-push_expr-in-Rel
push_expr-returns-in_ok-push_expr-in-Rel t c =
    let first = names_in c.get-in-Rel.result.now in
    let second = names_in c.get-in-Rel-2.result.now in
    let whole : names_in c.args.e.now ≡ first ++ second =
    ap names_in c.in-Rel.is ∙ in_rel c.in-Rel.field-0 c.in-Rel.a c.in-Rel.b ∙ sym (λ i. names_in (c.get-in-Rel.ensures i) ++ names_in (c.get-in-Rel-2.ensures i)) in
    subst (λ xs. OnOk c.push_expr-in-Rel-2.result (c.push_expr-in-Rel-2.new.all.items ≡ xs))
    (ended c.args.all.now.items c.push_expr-in-Rel.new.all.items first second (names_in c.args.e.now) c.in_ok-push_expr-in-Rel.ensures whole)
    c.push_expr-in-Rel-2.ensures

pub push_expr-returns-in_ok-push_expr-in-And : goal.push_expr-returns-in_ok-push_expr-in-And
push_expr-returns-in_ok-push_expr-in-And t c =
    let first = names_in c.get-in-And.result.now in
    let second = names_in c.get-in-And-2.result.now in
    let whole : names_in c.args.e.now ≡ first ++ second =
    ap names_in c.in-And.is ∙ in_and c.in-And.a c.in-And.b ∙ sym (λ i. names_in (c.get-in-And.ensures i) ++ names_in (c.get-in-And-2.ensures i)) in
    subst (λ xs. OnOk c.push_expr-in-And-2.result (c.push_expr-in-And-2.new.all.items ≡ xs))
    (ended c.args.all.now.items c.push_expr-in-And.new.all.items first second (names_in c.args.e.now) c.in_ok-push_expr-in-And.ensures whole)
    c.push_expr-in-And-2.ensures

pub push_expr-returns-in_ok-push_expr-in-Or : goal.push_expr-returns-in_ok-push_expr-in-Or
push_expr-returns-in_ok-push_expr-in-Or t c =
    let first = names_in c.get-in-Or.result.now in
    let second = names_in c.get-in-Or-2.result.now in
    let whole : names_in c.args.e.now ≡ first ++ second =
    ap names_in c.in-Or.is ∙ in_or c.in-Or.a c.in-Or.b ∙ sym (λ i. names_in (c.get-in-Or.ensures i) ++ names_in (c.get-in-Or-2.ensures i)) in
    subst (λ xs. OnOk c.push_expr-in-Or-2.result (c.push_expr-in-Or-2.new.all.items ≡ xs))
    (ended c.args.all.now.items c.push_expr-in-Or.new.all.items first second (names_in c.args.e.now) c.in_ok-push_expr-in-Or.ensures whole)
    c.push_expr-in-Or-2.ensures

pub push_expr-returns-in-Power : goal.push_expr-returns-in-Power
push_expr-returns-in-Power t c =
    let whole : names_in c.args.e.now ≡ names_in c.get-in-Power.result.now =
    ap names_in c.in-Power.is ∙ in_power c.in-Power.a c.in-Power.field-1 ∙ sym (ap names_in c.get-in-Power.ensures) in
    subst (λ xs. OnOk c.push_expr-in-Power.result (c.push_expr-in-Power.new.all.items ≡ c.args.all.now.items ++ xs)) (sym whole) c.push_expr-in-Power.ensures

pub push_expr-returns-in_ok-push-in-Apply : goal.push_expr-returns-in_ok-push-in-Apply
push_expr-returns-in_ok-push-in-Apply t c =
    let first = c.in-Apply.f ∷ [] in
    let second = flat_map names_in c.as_slice.result.now in
    let whole : names_in c.args.e.now ≡ first ++ second =
    ap names_in c.in-Apply.is ∙ in_apply c.in-Apply.f c.in-Apply.args
    ∙ sym (λ i. c.in-Apply.f ∷ flat_map names_in (c.as_slice.ensures i)) in
    subst (λ xs. OnOk c.push_args.result (c.push_args.new.all.items ≡ xs))
    (ended c.args.all.now.items c.push-in-Apply.new.all.items first second (names_in c.args.e.now) c.in_ok-push-in-Apply.ensures whole)
    c.push_args.ensures
