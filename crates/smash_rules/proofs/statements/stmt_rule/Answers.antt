use Rattle.std.proofs.Common.{◌≡◌, Bool, ap, ◌∙◌}
use Rattle.std.specs.List.{list_any}
use Rattle.fort_model.specs.Calls.{sites_of}
use Rattle.smash_laws.specs.Ordered.{with_table}
use Rattle.smash_rules.specs.Judged.{is_no_name, is_twice, is_common, told_of_call}
use Rattle.smash_rules.proofs.statements.stmt_rule.Goals as goal

pub returns : goal.returns
returns c =
    let p = with_table c.args.deck.now.units.now c.args.rows.now in
    let u = c.args.caller.now.unit.now in
    let calls : c.as_slice-calls.result.now ≡ sites_of u c.args.stmt.now = c.as_slice-calls.ensures.value ∙ c.in_ok-sites.ensures in
    let no_name : c.some_no_name-no_name.result ≡ list_any (is_no_name p) (sites_of u c.args.stmt.now) = c.some_no_name-no_name.ensures ∙ ap (list_any (is_no_name p)) calls in
    let twice : c.in_ok-twice.twice ≡ list_any (is_twice p) (sites_of u c.args.stmt.now) = c.in_ok-twice.ensures ∙ ap (list_any (is_twice p)) calls in
    let common : c.in_ok-common.common ≡ list_any (is_common p u) (sites_of u c.args.stmt.now) = c.in_ok-common.ensures ∙ ap (list_any (is_common p u)) calls in
    c.told_of_call.ensures
    ∙ (ap (λ (b : Bool). told_of_call b c.in_ok-twice.twice c.in_ok-common.common) no_name
    ∙ (ap (λ (b : Bool). told_of_call (list_any (is_no_name p) (sites_of u c.args.stmt.now)) b c.in_ok-common.common) twice
    ∙ ap (λ (b : Bool). told_of_call (list_any (is_no_name p) (sites_of u c.args.stmt.now)) (list_any (is_twice p) (sites_of u c.args.stmt.now)) b) common))
