use Rattle.std.proofs.Common.{◌-◌, length, take, drop, get_or, subst}
use Rattle.std.proofs.lemmas.Result.{on_ok_weaker}
use Rattle.formula.specs.Pool.{tree_of}
use Rattle.fort_syntax.specs.declared.dialect.Dialect.{Dialect}
use Rattle.fort_model.specs.Graphs.{IsComputedTarget}
use Rattle.walk_state.specs.Moments.{moment}
use Rattle.walk_choices.proofs.Facts.{first_rest}
use Rattle.walk_choices.proofs.Passing.{counts_common, counts_seventy_seven, is_not_past, is_past, passes_seventy_seven}
use Rattle.walk_choices.proofs.selectors.choose.Goals as goal

pub returns-in-Common-clause-did : goal.returns-in-Common-clause-did
returns-in-Common-clause-did c =
    let at = c.args.at.now in
    let cs = c.args.choices.now in
    let w0 = c.args.walk.now in
    on_ok_weaker c.take_equals.result
    (counts_common at.flow.now.setting.now at.card at.point (length c.args.labels.now) (tree_of w0.pool c.args.number) w0 (moment c.take_equals.new.walk) (get_or cs 0 0) (take (length cs - 1) (drop 1 cs)) cs c.in-Common.is
    (first_rest cs c.in-len1-up.len_at_least))
    c.take_equals.ensures.did

pub pass_labels-requires-clause-target : goal.pass_labels-requires-clause-target
pass_labels-requires-clause-target c =
    let at = c.args.at.now in
    let f = at.flow.now in
    subst (λ (d : Dialect). IsComputedTarget d f.setting.now.book.now.unit.now f.graph.now.forks at.point c.args.labels.now at.target) c.in-SeventySeven.is c.requires.target

pub returns-then-choice-labels-clause-did : goal.returns-then-choice-labels-clause-did
returns-then-choice-labels-clause-did c =
    let at = c.args.at.now in
    let cs = c.args.choices.now in
    let n = length c.args.labels.now in
    let w0 = c.args.walk.now in
    on_ok_weaker c.pass_labels.result
    (passes_seventy_seven at.flow.now.setting.now at.card at.point n (tree_of w0.pool c.args.number) w0 (moment c.pass_labels.new.walk) (get_or cs 0 0) (take (length cs - 1) (drop 1 cs)) cs c.in-SeventySeven.is
    (first_rest cs c.in-len1-up.len_at_least) (is_past (get_or cs 0 0) n c.if-choice-labels.true))
    c.pass_labels.ensures.did

pub returns-else-choice-labels-clause-did : goal.returns-else-choice-labels-clause-did
returns-else-choice-labels-clause-did c =
    let at = c.args.at.now in
    let cs = c.args.choices.now in
    let n = length c.args.labels.now in
    let w0 = c.args.walk.now in
    on_ok_weaker c.take_equals-in-SeventySeven.result
    (counts_seventy_seven at.flow.now.setting.now at.card at.point n (tree_of w0.pool c.args.number) w0 (moment c.take_equals-in-SeventySeven.new.walk) (get_or cs 0 0) (take (length cs - 1) (drop 1 cs)) cs c.in-SeventySeven.is
    (first_rest cs c.in-len1-up.len_at_least) (is_not_past (get_or cs 0 0) n c.if-choice-labels.false))
    c.take_equals-in-SeventySeven.ensures.did
