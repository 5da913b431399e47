use Rattle.std.proofs.Common.{IfOk, Option, refl, subst, sym}
use Rattle.formula.specs.Pool.{tree_of}
use Rattle.fort_syntax.specs.declared.stmt.Param.{Param}
use Rattle.fort_model.specs.Conditions.{sight}
use Rattle.fort_model.specs.Senses.{natural, of_terms}
use Rattle.fort_model.specs.WalkStmt as forms
use Rattle.walk_state.specs.declared.walk.Walk.{Walk}
use Rattle.walk_state.specs.Moments.{Did, moment}
use Rattle.walk_state.proofs.Parts.{grew}
use Rattle.walk_values.specs.Parts.{DoesWithin}
use Rattle.walk_values.proofs.Checked.{did_see}
use Rattle.walk_facts.proofs.parameters.step_value.Goals as goal

pub returns-in_default-natural-clause-on : goal.returns-in_default-natural-clause-on
returns-in_default-natural-clause-on c = (grew c.args.walk.now _ c.requires c.natural.ensures.grows refl refl refl).on

pub returns-in_default-clause-on : goal.returns-in_default-clause-on
returns-in_default-clause-on c = (grew c.args.walk.now _ c.requires c.natural.ensures.grows refl refl refl).on

pub returns-in_default-clause-did : goal.returns-in_default-clause-did
returns-in_default-clause-did c p i u e =
    let w0 = c.args.walk.now in
    let w1 : Walk = record { pool = c.natural.new.pool; names = w0.names; met = w0.met; calls = w0.calls; alloc = w0.alloc } in
    let m0 = moment w0 in
    let one = tree_of c.natural.new.pool c.in-Ok.one in
    subst (λ (o : Option Param). Did m0 (forms.step_value (sight of_terms p i u) c.args.card m0.now o) (moment w1) one) (sym c.in_default.is)
    (did_see m0 (moment w1) (natural of_terms 1) one (grew w0 w1 c.requires c.natural.ensures.grows refl refl refl).same c.in-Ok.ensures.tree)

pub returns-clause-did : goal.returns-clause-did
returns-clause-did c =
    let m0 = moment c.args.walk.now in
    subst (λ (o : Option Param).
    IfOk c.parameter.result (λ id. DoesWithin c.args.bound m0 (λ w. forms.step_value w c.args.card m0.now o) (moment c.parameter.new.walk) (tree_of c.parameter.new.walk.pool id)))
    (sym c.in-Some.is) c.parameter.ensures.did
