use Rattle.std.proofs.Common.{refl, subst, sym}
use Rattle.std.proofs.lemmas.Result.{on_ok_weaker}
use Rattle.formula.specs.Pool.{tree_of}
use Rattle.fort_syntax.specs.declared.dialect.Dialect.{Dialect}
use Rattle.fort_model.specs.Conditions.{sight}
use Rattle.fort_model.specs.Senses.{of_terms}
use Rattle.fort_model.specs.WalkStmt.{choice_check}
use Rattle.walk_state.specs.Moments.{Did, moment}
use Rattle.walk_values.proofs.Checked.{did_see}
use Rattle.walk_choices.proofs.selectors.check_choice.Goals as goal

pub returns-in-Common-clause-did : goal.returns-in-Common-clause-did
returns-in-Common-clause-did c =
    let w0 = c.args.walk.now in
    let t = tree_of w0.pool c.args.number in
    on_ok_weaker c.check_label.result
    (λ d p i u. subst (λ (D : Dialect). Did (moment w0) (choice_check (sight of_terms p i u) D c.args.card c.args.labels t) (moment c.check_label.new.walk) tt) (sym c.in-Common.is) (d p i u)) c.check_label.ensures.did

pub returns-in-SeventySeven-clause-did : goal.returns-in-SeventySeven-clause-did
returns-in-SeventySeven-clause-did c p i u =
    let w0 = c.args.walk.now in
    let t = tree_of w0.pool c.args.number in
    subst (λ (D : Dialect). Did (moment w0) (choice_check (sight of_terms p i u) D c.args.card c.args.labels t) (moment w0) tt) (sym c.in-SeventySeven.is) (did_see (moment w0) (moment w0) tt tt refl refl)
