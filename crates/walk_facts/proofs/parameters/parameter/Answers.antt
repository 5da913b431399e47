use Rattle.std.proofs.Common.{IfOk, subst, sym}
use Rattle.formula.specs.Pool.{tree_of}
use Rattle.fort_syntax.specs.declared.stmt.Param.{Param}
use Rattle.fort_model.specs.Conditions.{sight}
use Rattle.fort_model.specs.Senses.{of_terms}
use Rattle.fort_model.specs.WalkStmt as forms
use Rattle.walk_state.specs.Moments.{Did, moment}
use Rattle.walk_values.specs.Parts.{DoesWithin}
use Rattle.walk_facts.proofs.parameters.parameter.Goals as goal

pub returns-in-Fixed-clause-did : goal.returns-in-Fixed-clause-did
returns-in-Fixed-clause-did c =
    let m0 = moment c.args.walk.now in
    subst (λ (q : Param).
    IfOk c.constant.result (λ id. DoesWithin c.args.bound m0 (λ w. forms.parameter w c.args.card m0.now q) (moment c.constant.new.walk) (tree_of c.constant.new.walk.pool id)))
    (sym c.in-Fixed.is) c.constant.ensures.did

pub returns-in_ok-value-in-Named-clause-did : goal.returns-in_ok-value-in-Named-clause-did
returns-in_ok-value-in-Named-clause-did c p i u e =
    let m0 = moment c.args.walk.now in
    subst (λ (q : Param).
    Did m0 (forms.parameter (sight of_terms p i u) c.args.card m0.now q) (moment c.read_name.new.walk) (tree_of c.read_name.new.walk.pool c.in_ok-value-in-Named.value))
    (sym c.in-Named.is) (c.in_ok-value-in-Named.ensures.did p i u)
