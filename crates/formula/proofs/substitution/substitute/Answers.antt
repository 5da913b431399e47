use Rattle.std.proofs.Common.{◌≡◌, ◌∙◌, IfOk, length, ap, subst, sym}
use Rattle.formula.specs.Pool.{AllBelow, tree_of}
use Rattle.formula.specs.Substitution.{binding_of, term_named}
use Rattle.formula.proofs.TableTerms.{same_terms}
use Rattle.formula.proofs.substitution.substitute.Goals as goal

pub replaced-requires-clause-symbols : goal.replaced-requires-clause-symbols
replaced-requires-clause-symbols c = subst (AllBelow (length c.args.pool.now)) (sym c.as_slice.ensures.value) (c.in_ok-symbols.ensures.below c.args.pool.now c.requires.symbols)

pub replaced-requires-clause-entries : goal.replaced-requires-clause-entries
replaced-requires-clause-entries c = subst (AllBelow (length c.args.pool.now)) (sym c.as_slice-2.ensures.value) (c.in_ok-entries.ensures.below c.args.pool.now c.requires.entries)

pub returns-clause-tree : goal.returns-clause-tree
returns-clause-tree c =
    let pool = c.args.pool.now in
    let same =
    same_terms pool (tree_of pool c.args.id) (term_named c.in_ok-symbols.symbols.names c.as_slice.result.now) (binding_of c.args.symbols.now)
    (term_named c.in_ok-entries.entries.names c.as_slice-2.result.now) (binding_of c.args.entries.now)
    (λ name. ap (λ l. term_named c.in_ok-symbols.symbols.names l name) c.as_slice.ensures.value ∙ c.in_ok-symbols.ensures.terms name)
    (λ name. ap (λ l. term_named c.in_ok-entries.entries.names l name) c.as_slice-2.ensures.value ∙ c.in_ok-entries.ensures.terms name) in
    subst (λ t. IfOk c.replaced.result (λ r. tree_of c.replaced.new.pool r ≡ t)) same c.replaced.ensures.tree
