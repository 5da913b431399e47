use Rattle.std.proofs.Common.{sym, ap, ◌∙◌, subst}
use Rattle.fort_syntax.specs.Grammar.{is_carried}
use Rattle.fort_model.specs.Graphs.{IsTargetOf}
use Rattle.flow_tests.specs.Tests.{is_flowing}
use Rattle.flow_targets.specs.Leading.{IsLogicalTarget}
use Rattle.flow_targets.proofs.Knowing.{flowing_if, logical_is}
use Rattle.flow_targets.proofs.starts.target_of.Goals as goal

pub logical-requires-clause-carried : goal.logical-requires-clause-carried
logical-requires-clause-carried c =
    let u = c.args.known.now.unit.now in
    ap is_carried c.get.ensures ∙ sym (flowing_if u c.in-LogicalIf.field-0 c.in-LogicalIf.carried) ∙ sym (ap (is_flowing u) c.in-LogicalIf.is)
    ∙ c.requires.known.flowing.each c.args.at c.args.line.now c.requires.line

pub returns-in-Ok-clause-target : goal.returns-in-Ok-clause-target
returns-in-Ok-clause-target c =
    let u = c.args.known.now.unit.now in
    let d = c.args.known.now.dialect in
    let new = c.logical.new.forks.items in
    subst (λ s. IsTargetOf d u new c.args.at s c.in-Ok.target) (sym c.in-LogicalIf.is)
    (logical_is d u new c.args.at c.in-LogicalIf.field-0 c.in-LogicalIf.carried c.in-Ok.target
    (subst (λ s. IsLogicalTarget d u new c.args.at s c.in-Ok.target) c.get.ensures c.in-Ok.ensures.target))
