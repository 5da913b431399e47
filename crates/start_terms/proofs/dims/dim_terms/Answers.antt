use Rattle.std.proofs.Common.{◌≡◌, suc, ◌+◌, take, arith}
use Rattle.walk_names.proofs.NameTables.{names_grow}
use Rattle.start_terms.proofs.Started.{dims_more, taken_more}
use Rattle.start_terms.proofs.dims.dim_terms.Goals as goal

pub term-requires : goal.term-requires
term-requires c = names_grow c.args.pool.now c.loop-name.pool c.args.names.now c.loop-name.invariant.grows c.requires

pub loop-name-preserved : goal.loop-name-preserved
loop-name-preserved c =
    let k = c.loop-name.name-index in
    let next : k + 1 ≡ suc k = omega arith in
    dims_more c.args.pool.now c.loop-name.pool c.term.new.pool c.defined.new.pool c.at_least_one.new.pool c.args.names.now
    (take k c.args.dims.now) (take (k + 1) c.args.dims.now) c.name-item.result _ c.push.new.self.items c.push-in-loop-name.new.self.items
    c.in_ok-value.value c.in_ok-is_defined.is_defined c.in_ok-is_positive.is_positive c.requires c.loop-name.invariant
    c.term.ensures.grows c.in_ok-value.ensures.is_in c.in_ok-value.ensures.tree
    c.defined.ensures.grows c.in_ok-is_defined.ensures.is_in c.in_ok-is_defined.ensures.tree c.in_ok-push.ensures.items
    c.at_least_one.ensures.grows c.in_ok-is_positive.ensures.is_in c.in_ok-is_positive.ensures.tree c.in_ok-push-2.ensures.items
    (taken_more c.args.dims.now k (k + 1) c.name-item.result c.loop-name-test.true c.name-item.is next)
