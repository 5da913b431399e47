use Rattle.std.proofs.Common.{subst}
use Rattle.std.proofs.lemmas.Result.{on_ok_weaker}
use Rattle.formula.specs.Pool.{tree_of}
use Rattle.fort_syntax.specs.declared.dialect.Dialect.{Dialect}
use Rattle.fort_syntax.specs.declared.dialect.Dialect.TheVariants.{Common, SeventySeven}
use Rattle.fort_model.specs.Flow.{target}
use Rattle.fort_model.specs.Graphs.{IsDoTarget}
use Rattle.walk_state.specs.Moments.{moment}
use Rattle.walk_begins.proofs.Parts.{begins_in}
use Rattle.walk_begins.proofs.begins.begin_with.Goals as goal

pub returns-in-Common-clause-did : goal.returns-in-Common-clause-did
returns-in-Common-clause-did c =
    let at = c.args.at.now in
    let l = c.args.limits in
    let w0 = c.args.walk.now in
    on_ok_weaker c.begin_common.result
    (begins_in w0.pool at.flow.now.setting.now (moment w0) (moment c.begin_common.new.walk) Common at.card at.point c.args.head.now (tree_of w0.pool l.first, tree_of w0.pool l.last, tree_of w0.pool l.step) c.args.choices.now
    c.in-Common.is) c.begin_common.ensures.did

pub begin_seventy_seven-requires-clause-target : goal.begin_seventy_seven-requires-clause-target
begin_seventy_seven-requires-clause-target c =
    let at = c.args.at.now in
    let u = at.flow.now.setting.now.book.now.unit.now in
    subst (λ (d : Dialect). IsDoTarget d u at.flow.now.graph.now.forks (target u.lines c.args.head.now.label) at.point at.target) c.in-SeventySeven.is c.requires.target

pub returns-in-SeventySeven-clause-did : goal.returns-in-SeventySeven-clause-did
returns-in-SeventySeven-clause-did c =
    let at = c.args.at.now in
    let l = c.args.limits in
    let w0 = c.args.walk.now in
    on_ok_weaker c.begin_seventy_seven.result
    (begins_in w0.pool at.flow.now.setting.now (moment w0) (moment c.begin_seventy_seven.new.walk) SeventySeven at.card at.point c.args.head.now (tree_of w0.pool l.first, tree_of w0.pool l.last, tree_of w0.pool l.step) c.args.choices.now
    c.in-SeventySeven.is) c.begin_seventy_seven.ensures.did
