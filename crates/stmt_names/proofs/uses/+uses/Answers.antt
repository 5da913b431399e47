use Rattle.std.proofs.Common.{◌≡◌, [], ◌∷◌, ◌++◌, length, OnOk, subst, ap, sym, ◌∙◌}
use Rattle.std.specs.Prelude.{flat_map}
use Rattle.fort_syntax.specs.Uses.{read, argument_of, applied, occurrence, uses_in}
use Rattle.stmt_names.specs.Usings.{use_by}
use Rattle.stmt_names.proofs.Rows.{uses_in_apply, in_power, in_bin, in_rel, in_and, in_or, ended}
use Rattle.stmt_names.proofs.uses.+uses.Goals as goal

pub push_expr-returns-in_ok-push_expr-in-Bin : goal.push_expr-returns-in_ok-push_expr-in-Bin
push_expr-returns-in_ok-push_expr-in-Bin t c =
    let how = use_by c.args.how.now in
    let first = uses_in read c.get-in-Bin.result.now in
    let second = uses_in read c.get-in-Bin-2.result.now in
    let whole : uses_in how c.args.e.now ≡ first ++ second =
    ap (uses_in how) c.in-Bin.is ∙ in_bin how c.in-Bin.field-0 c.in-Bin.a c.in-Bin.b ∙ sym (λ i. uses_in read (c.get-in-Bin.ensures i) ++ uses_in read (c.get-in-Bin-2.ensures i)) in
    subst (λ xs. OnOk c.push_expr-in-Bin-2.result (c.push_expr-in-Bin-2.new.all.items ≡ xs))
    (ended c.args.all.now.items c.push_expr-in-Bin.new.all.items first second (uses_in how c.args.e.now) c.in_ok-push_expr-in-Bin.ensures whole)
    c.push_expr-in-Bin-2.ensures

pub push_expr-returns-in_ok-push_expr-in-Rel : goal.push_expr-returns-in_ok-push_expr-in-Rel
push_expr-returns-in_ok-push_expr-in-Rel t c =
    let how = use_by c.args.how.now in
    let first = uses_in read c.get-in-Rel.result.now in
    let second = uses_in read c.get-in-Rel-2.result.now in
    let whole : uses_in how c.args.e.now ≡ first ++ second =
    ap (uses_in how) c.in-Rel.is ∙ in_rel how c.in-Rel.field-0 c.in-Rel.a c.in-Rel.b ∙ sym (λ i. uses_in read (c.get-in-Rel.ensures i) ++ uses_in read (c.get-in-Rel-2.ensures i)) in
    subst (λ xs. OnOk c.push_expr-in-Rel-2.result (c.push_expr-in-Rel-2.new.all.items ≡ xs))
    (ended c.args.all.now.items c.push_expr-in-Rel.new.all.items first second (uses_in how c.args.e.now) c.in_ok-push_expr-in-Rel.ensures whole)
    c.push_expr-in-Rel-2.ensures

pub push_expr-returns-in_ok-push_expr-in-And : goal.push_expr-returns-in_ok-push_expr-in-And
push_expr-returns-in_ok-push_expr-in-And t c =
    let how = use_by c.args.how.now in
    let first = uses_in read c.get-in-And.result.now in
    let second = uses_in read c.get-in-And-2.result.now in
    let whole : uses_in how c.args.e.now ≡ first ++ second =
    ap (uses_in how) c.in-And.is ∙ in_and how c.in-And.a c.in-And.b ∙ sym (λ i. uses_in read (c.get-in-And.ensures i) ++ uses_in read (c.get-in-And-2.ensures i)) in
    subst (λ xs. OnOk c.push_expr-in-And-2.result (c.push_expr-in-And-2.new.all.items ≡ xs))
    (ended c.args.all.now.items c.push_expr-in-And.new.all.items first second (uses_in how c.args.e.now) c.in_ok-push_expr-in-And.ensures whole)
    c.push_expr-in-And-2.ensures

pub push_expr-returns-in_ok-push_expr-in-Or : goal.push_expr-returns-in_ok-push_expr-in-Or
push_expr-returns-in_ok-push_expr-in-Or t c =
    let how = use_by c.args.how.now in
    let first = uses_in read c.get-in-Or.result.now in
    let second = uses_in read c.get-in-Or-2.result.now in
    let whole : uses_in how c.args.e.now ≡ first ++ second =
    ap (uses_in how) c.in-Or.is ∙ in_or how c.in-Or.a c.in-Or.b ∙ sym (λ i. uses_in read (c.get-in-Or.ensures i) ++ uses_in read (c.get-in-Or-2.ensures i)) in
    subst (λ xs. OnOk c.push_expr-in-Or-2.result (c.push_expr-in-Or-2.new.all.items ≡ xs))
    (ended c.args.all.now.items c.push_expr-in-Or.new.all.items first second (uses_in how c.args.e.now) c.in_ok-push_expr-in-Or.ensures whole)
    c.push_expr-in-Or-2.ensures

pub push_expr-returns-in-Power : goal.push_expr-returns-in-Power
push_expr-returns-in-Power t c =
    let how = use_by c.args.how.now in
    let whole : uses_in how c.args.e.now ≡ uses_in read c.get-in-Power.result.now =
    ap (uses_in how) c.in-Power.is ∙ in_power how c.in-Power.a c.in-Power.field-1 ∙ sym (ap (uses_in read) c.get-in-Power.ensures) in
    subst (λ xs. OnOk c.push_expr-in-Power.result (c.push_expr-in-Power.new.all.items ≡ c.args.all.now.items ++ xs)) (sym whole) c.push_expr-in-Power.ensures

pub push_expr-returns-in_ok-push-in-Apply : goal.push_expr-returns-in_ok-push-in-Apply
push_expr-returns-in_ok-push-in-Apply t c =
    let how = use_by c.args.how.now in
    let first = occurrence c.in-Apply.f (applied (length c.as_slice.result.now)) ∷ [] in
    let second = flat_map (uses_in (argument_of c.in-Apply.f)) c.as_slice-in-Apply.result.now in
    let whole : uses_in how c.args.e.now ≡ first ++ second =
    ap (uses_in how) c.in-Apply.is ∙ uses_in_apply how c.in-Apply.f c.in-Apply.args
    ∙ sym (λ i. occurrence c.in-Apply.f (applied (length (c.as_slice.ensures i))) ∷ flat_map (uses_in (argument_of c.in-Apply.f)) (c.as_slice-in-Apply.ensures i)) in
    subst (λ xs. OnOk c.push_args.result (c.push_args.new.all.items ≡ xs))
    (ended c.args.all.now.items c.push-in-Apply.new.all.items first second (uses_in how c.args.e.now) c.in_ok-push-in-Apply.ensures whole)
    c.push_args.ensures
