use Rattle.std.proofs.Common.{◌≡◌, map, sym, ◌∙◌}
use Rattle.formula.specs.Pool.{row_in, tree_of, trees}
use Rattle.formula.specs.Tree.{apply}
use Rattle.formula.specs.declared.function.BuiltIn.TheVariants.{And}
use Rattle.formula.specs.declared.function.Func.TheVariants.{BuiltIn}
use Rattle.try_lines.specs.Tries.{hyps_term}
use Rattle.try_lines.proofs.ConditionTerms.{and_takes, hyps_tree, ok_weaker}
use Rattle.try_lines.proofs.terms.hyps_term.Goals as goal

pub apply-requires-clause-takes : goal.apply-requires-clause-takes
apply-requires-clause-takes c = and_takes (trees c.args.pool.now) c.args.hyps.now c.in-Ok.args c.in-Ok.ensures.ok (sym c.is_empty.ensures ∙ c.if-is_empty.false)

pub returns-clause-tree : goal.returns-clause-tree
returns-clause-tree c =
    ok_weaker (λ id. tree_of c.apply.new.self id ≡ apply (BuiltIn And) (row_in (trees c.args.pool.now) c.in-Ok.args)) (λ id. tree_of c.apply.new.self id ≡ hyps_term (map (tree_of c.args.pool.now) c.args.hyps.now)) c.apply.result
    (λ id is. hyps_tree c.args.pool.now c.args.hyps.now c.in-Ok.args (tree_of c.apply.new.self id) c.in-Ok.ensures.ok (sym c.is_empty.ensures ∙ c.if-is_empty.false) is)
    c.apply.ensures.tree
