use Rattle.std.proofs.Common.{◌≡◌, suc, ◌+◌, take, arith}
use Rattle.formula.proofs.Grown.{Grows-trans}
use Rattle.walk_names.proofs.NameTables.{names_grow}
use Rattle.start_terms.proofs.Started.{started_more, taken_more}
use Rattle.start_terms.proofs.starts.start_names.Goals as goal

pub set-requires-clause-kept : goal.set-requires-clause-kept
set-requires-clause-kept c = names_grow c.loop-name.pool c.start_symbol.new.pool c.loop-name.names c.start_symbol.ensures.grows c.loop-name.invariant.started.kept

pub loop-name-preserved : goal.loop-name-preserved
loop-name-preserved c =
    let k = c.loop-name.name-index in
    let next : k + 1 ≡ suc k = omega arith in
    record {
      grows = Grows-trans _ _ _ c.loop-name.invariant.grows (Grows-trans _ _ _ c.start_symbol.ensures.grows c.set.ensures.grows);
      started =
          started_more c.args.pool.now c.loop-name.pool c.start_symbol.new.pool c.set.new.pool c.args.names.now c.loop-name.names c.set.new.self
          (take k c.args.smashed.now) (take (k + 1) c.args.smashed.now) c.name-item.result _
          c.loop-name.invariant.started c.start_symbol.ensures.grows c.in_ok-id.ensures.tree c.in_ok-set.ensures.set
          (taken_more c.args.smashed.now k (k + 1) c.name-item.result c.loop-name-test.true c.name-item.is next);
    }
