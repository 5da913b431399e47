use Rattle.std.proofs.Common.{◌<◌, ◌≤◌, length, arith}
use Rattle.prover_box.proofs.Asked.{below_by, kept_at, kept_itself, kept_then, leads_first, leads_last, leads_next, leads_to, whole_by}
use Rattle.prover_box.proofs.asking.close_one.Goals as goal

pub loop-i-init : goal.loop-i-init
loop-i-init g c = record {
  leads = leads_first c.args.pool.now c.args.definitions.now c.args.c.now _;
  kept = kept_itself _;
}

pub returns-in_err-ask-clause-kept : goal.returns-in_err-ask-clause-kept
returns-in_err-ask-clause-kept g c = kept_then _ _ _ c.loop-i.invariant.kept (kept_at _ _ _ _ _ c.index_mut.ensures.value c.ask.ensures.counted)

pub returns-then-branch-clause-asked : goal.returns-then-branch-clause-asked
returns-then-branch-clause-asked g c =
    let first : c.loop-i.i < length c.args.provers.now.items = omega arith in
    let below = below_by _ _ _ _ c.loop-i.invariant.kept first in
    leads_to c.args.pool.now c.args.definitions.now c.args.c.now _ _ _ _ _ _ _ _ below c.index_mut.ensures.value c.ask.ensures.counted _ c.if-branch.true c.in_ok-ask.ensures.answer c.index.ensures
    c.letter_of.ensures c.loop-i.invariant.leads

pub returns-then-branch-clause-kept : goal.returns-then-branch-clause-kept
returns-then-branch-clause-kept g c = kept_then _ _ _ c.loop-i.invariant.kept (kept_at _ _ _ _ _ c.index_mut.ensures.value c.ask.ensures.counted)

pub loop-i-preserved : goal.loop-i-preserved
loop-i-preserved g c =
    let first : c.loop-i.i < length c.args.provers.now.items = omega arith in
    let below = below_by _ _ _ _ c.loop-i.invariant.kept first in
    record {
      leads = leads_next c.args.pool.now c.args.definitions.now c.args.c.now _ _ _ _ _ _ below c.index_mut.ensures.value c.ask.ensures.counted _ c.if-branch.false c.in_ok-ask.ensures.answer c.loop-i.invariant.leads;
      kept = kept_then _ _ _ c.loop-i.invariant.kept (kept_at _ _ _ _ _ c.index_mut.ensures.value c.ask.ensures.counted);
    }

pub returns-clause-asked : goal.returns-clause-asked
returns-clause-asked g c =
    let all : length c.args.provers.now.items ≤ c.loop-i.i = omega arith in
    leads_last c.args.pool.now c.args.definitions.now c.args.c.now _ _ _ (whole_by _ _ _ _ c.loop-i.invariant.kept all) c.loop-i.invariant.leads
