use Rattle.std.proofs.Common.{◌≡◌, [], ◌∷◌, ◌++◌, length, OnOk, subst, ap, sym, ◌∙◌}
use Rattle.std.specs.Prelude.{flat_map}
use Rattle.fort_syntax.specs.Uses.{read, assigned_element, occurrence, uses_in, uses_on_left}
use Rattle.stmt_names.proofs.Rows.{uses_on_left_apply, ended}
use Rattle.stmt_names.proofs.uses.push_left.Goals as goal

pub returns-in_ok-push-in-Apply : goal.returns-in_ok-push-in-Apply
returns-in_ok-push-in-Apply c =
    let first = occurrence c.in-Apply.f (assigned_element (length c.as_slice.result.now)) ∷ [] in
    let second = flat_map (uses_in read) c.as_slice-in-Apply.result.now in
    let whole : uses_on_left c.args.left.now ≡ first ++ second =
    ap uses_on_left c.in-Apply.is ∙ uses_on_left_apply c.in-Apply.f c.in-Apply.args
    ∙ sym (λ i. occurrence c.in-Apply.f (assigned_element (length (c.as_slice.ensures i))) ∷ flat_map (uses_in read) (c.as_slice-in-Apply.ensures i)) in
    subst (λ xs. OnOk c.push_args.result (c.push_args.new.all.items ≡ xs))
    (ended c.args.all.now.items c.push-in-Apply.new.all.items first second (uses_on_left c.args.left.now) c.in_ok-push-in-Apply.ensures whole)
    c.push_args.ensures
