use Rattle.std.proofs.Common.{◌≡◌, ◌∙◌, All, IfOk, ap, sym, subst}
use Rattle.formula.specs.Tree.{apply}
use Rattle.formula.specs.Pool.{row_in, tree_in, tree_of, trees}
use Rattle.formula.specs.Substitution.{HasImage, changed}
use Rattle.formula.proofs.Images.{arguments_are, made_node, put-in}
use Rattle.formula.proofs.replacement.made_of.Goals as goal

pub images_of-requires-clause-known : goal.images_of-requires-clause-known
images_of-requires-clause-known c =
    subst (All (HasImage c.args.images.now))
    (arguments_are c.args.pool.now c.args.id c.node.result.now c.in-Apply.f c.in-Apply.args c.as_slice.result.now c.node.ensures.node c.in-Apply.is c.as_slice.ensures) c.requires.known

pub apply-requires-clause-below : goal.apply-requires-clause-below
apply-requires-clause-below c =
    (made_node c.args.pool.now c.args.by.now c.args.images.now c.node.result.now c.in-Apply.f c.in-Apply.args c.as_slice.result.now c.in_ok-made-in-Apply.made
    c.node.ensures.arguments c.in-Apply.is c.as_slice.ensures c.requires.right c.in_ok-made-in-Apply.ensures).below

pub apply-requires-clause-takes : goal.apply-requires-clause-takes
apply-requires-clause-takes c =
    (made_node c.args.pool.now c.args.by.now c.args.images.now c.node.result.now c.in-Apply.f c.in-Apply.args c.as_slice.result.now c.in_ok-made-in-Apply.made
    c.node.ensures.arguments c.in-Apply.is c.as_slice.ensures c.requires.right c.in_ok-made-in-Apply.ensures).taken

pub returns-in-Symbol-clause-is_in : goal.returns-in-Symbol-clause-is_in
returns-in-Symbol-clause-is_in c =
    put-in c.args.pool.now c.args.by.now.symbols c.in-Symbol.name c.term_of.result c.args.id c.unwrap_or.result c.requires.symbols c.requires.id c.term_of.ensures c.unwrap_or.ensures

pub returns-in-Old-clause-is_in : goal.returns-in-Old-clause-is_in
returns-in-Old-clause-is_in c =
    put-in c.args.pool.now c.args.by.now.entries c.in-Old.name c.term_of-in-Old.result c.args.id c.unwrap_or-in-Old.result c.requires.entries c.requires.id c.term_of-in-Old.ensures c.unwrap_or-in-Old.ensures

pub returns-in_ok-made-in-Apply-clause-tree : goal.returns-in_ok-made-in-Apply-clause-tree
returns-in_ok-made-in-Apply-clause-tree c =
    let pool = c.args.pool.now in
    let by = c.args.by.now in
    let m = made_node pool by c.args.images.now c.node.result.now c.in-Apply.f c.in-Apply.args c.as_slice.result.now c.in_ok-made-in-Apply.made
    c.node.ensures.arguments c.in-Apply.is c.as_slice.ensures c.requires.right c.in_ok-made-in-Apply.ensures in
    let tree = c.node.ensures.tree ∙ ap (tree_in (trees pool)) c.in-Apply.is ∙ ap (λ l. apply c.in-Apply.f (row_in (trees pool) l)) (sym c.as_slice.ensures) in
    subst (λ t. IfOk c.apply.result (λ r. tree_of c.apply.new.self r ≡ t)) (m.tree ∙ ap (changed pool by) (sym tree)) c.apply.ensures.tree
