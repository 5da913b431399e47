use Rattle.std.proofs.Common.{◌<◌, ◌∙◌, ap, sym, subst, length, get_or, rules}
use Rattle.formula.specs.Facts.{facts_of}
use Rattle.formula.specs.Pool.{tree_of}
use Rattle.formula.proofs.FactsTold.{kept_at, kept_long}
use Rattle.formula.proofs.pool.TermPool.facts_of.Goals as goal

pub index-requires-2 : goal.index-requires-2
index-requires-2 c =
    let long = kept_long c.self.inside.nodes.keys c.self.inside.facts.items c.self.invariant.told in
    search rules

pub returns : goal.returns
returns c =
    c.index-2.ensures ∙ ap (λ k. get_or c.self.inside.facts.items k c.index-2.result.now) c.index.ensures
    ∙ kept_at c.self.inside.nodes.keys c.self.inside.facts.items c.index-2.result.now c.args.id.place c.self.invariant.told
    (subst (λ nodes. c.args.id.place < length nodes) (sym c.self.view_is) c.requires)
    ∙ ap (λ nodes. facts_of (tree_of nodes c.args.id)) c.self.view_is
