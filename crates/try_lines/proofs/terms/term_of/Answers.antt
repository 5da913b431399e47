use Rattle.std.proofs.Common.{◌≡◌}
use Rattle.event_text.specs.Conditions.{condition_tree}
use Rattle.formula.specs.Pool.{tree_of}
use Rattle.formula.specs.Tree.{apply, none, more}
use Rattle.formula.specs.declared.function.BuiltIn.TheVariants.{Implies}
use Rattle.formula.specs.declared.function.Func.TheVariants.{BuiltIn}
use Rattle.try_lines.specs.Tries.{condition_term}
use Rattle.try_lines.proofs.ConditionTerms.{implied, ok_weaker}
use Rattle.try_lines.proofs.terms.term_of.Goals as goal

pub returns-clause-tree : goal.returns-clause-tree
returns-clause-tree c =
    ok_weaker (λ id. tree_of c.binary.new.self id ≡ apply (BuiltIn Implies) (more (tree_of c.hyps_term.new.pool c.in-Ok.hyps) (more (tree_of c.hyps_term.new.pool c.args.condition.now.goal) none)))
    (λ id. tree_of c.binary.new.self id ≡ condition_term (condition_tree c.args.pool.now c.args.condition.now)) c.binary.result
    (λ id is. implied c.args.pool.now c.hyps_term.new.pool c.args.condition.now c.as_slice.result.now c.in-Ok.hyps (tree_of c.binary.new.self id) c.in-Ok.ensures.grows c.requires.1 c.as_slice.ensures c.in-Ok.ensures.tree is)
    c.binary.ensures.tree
