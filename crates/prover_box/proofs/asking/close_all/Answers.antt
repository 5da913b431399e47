use Rattle.std.proofs.Common.{◌<◌, ◌≤◌, ◌∙◌, ap, get_or, length, subst}
use Rattle.prover_box.proofs.Asked.{asked_first, asked_more, kept_itself, kept_then, marked_all}
use Rattle.prover_box.proofs.asking.close_all.Goals as goal

pub loop-c-init : goal.loop-c-init
loop-c-init g c = record {
  asked = asked_first c.args.pool.now c.args.definitions.now _ _ c.new-letters.ensures.items;
  kept = kept_itself _;
}

pub returns-in_err-mark-clause-kept : goal.returns-in_err-mark-clause-kept
returns-in_err-mark-clause-kept g c = kept_then _ _ _ c.loop-c.invariant.kept c.close_one.ensures.kept

pub returns-in_default-clause-kept : goal.returns-in_default-clause-kept
returns-in_default-clause-kept g c = kept_then _ _ _ c.loop-c.invariant.kept c.close_one.ensures.kept

pub loop-c-preserved : goal.loop-c-preserved
loop-c-preserved g c = record {
  asked =
      asked_more c.args.pool.now c.args.definitions.now _ c.args.conditions.now c.loop-c.c-index c.c-item.result c.c-item.result _ _ _ _ c.in_ok-mark.mark
      (subst (λ l. c.loop-c.c-index < length l) c.as_slice-c-items.ensures c.loop-c-test.true)
      (c.c-item.is ∙ ap (λ l. get_or l c.loop-c.c-index c.c-item.result) c.as_slice-c-items.ensures) c.in-Ok.ensures.items
      c.loop-c.invariant.asked c.in_ok-mark.ensures.asked;
  kept = kept_then _ _ _ c.loop-c.invariant.kept c.close_one.ensures.kept;
}

pub returns-clause-sound : goal.returns-clause-sound
returns-clause-sound g c =
    marked_all c.args.pool.now c.args.definitions.now _ c.args.conditions.now c.loop-c.c-index _ _ _
    (subst (λ l. length l ≤ c.loop-c.c-index) c.as_slice-c-items.ensures c.loop-c-test.false) c.from_vec.ensures c.loop-c.invariant.asked
