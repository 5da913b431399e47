use Rattle.std.proofs.Common.{rules, ap, sym, Global, Vec}
use Rattle.formula.proofs.Grown.{Grows-refl, Grows-trans}
use Rattle.fort_notes.specs.Judging.{judged_from}
use Rattle.note_judging.specs.Items.{judged_trees}
use Rattle.note_judging.specs.declared.noted.Noted.{Noted}
use Rattle.note_judging.proofs.Judged.{all_told, goes_to, holds_none, reseated, told_fault}
use Rattle.note_judging.proofs.judging.judge_all.Goals as goal

pub loop-note-init : goal.loop-note-init
loop-note-init c = record {
  seated = c.requires.seated;
  holds = holds_none c.args.pool.now c.args.definitions.now c.new.result c.new-2.result.items c.requires.empty c.new-2.ensures.items c.new.ensures;
  told = ap (λ l. judged_from c.args.seat.now.sites.deck.now (judged_trees c.args.pool.now l) c.args.notes.now) c.new-2.ensures.items;
  grows = Grows-refl _;
}

pub step-requires : goal.step-requires
step-requires c = record { seated = reseated _ _ c.loop-note.seat (sym c.loop-note.invariant.seated.same) c.loop-note.invariant.seated }

pub returns-in-Err-clause-tells : goal.returns-in-Err-clause-tells
returns-in-Err-clause-tells c =
    told_fault _ _ c.loop-note.invariant.seated.same (judged_trees c.loop-note.pool c.loop-note.gathered.items.items) (judged_trees c.step.new.pool c.step.new.gathered.items.items)
    c.args.notes.now c.loop-note.note-index c.note-item.result _ c.loop-note-test.true c.note-item.is
    (λ (noted : Vec Noted Global). judged_trees c.step.new.pool noted.items) _ _ c.refusal_of.ensures
    (c.in-Err.ensures.steps c.loop-note.invariant.holds) c.loop-note.invariant.told

pub returns-in-Err-clause-grows : goal.returns-in-Err-clause-grows
returns-in-Err-clause-grows c = Grows-trans _ _ _ c.loop-note.invariant.grows c.step.ensures.grows

pub loop-note-preserved : goal.loop-note-preserved
loop-note-preserved c = record {
  seated = reseated _ _ c.step.new.seat c.loop-note.invariant.seated.same c.in-Ok.ensures.seated;
  holds = c.in-Ok.ensures.holds c.loop-note.invariant.holds;
  told = goes_to _ _ c.loop-note.invariant.seated.same _ _ c.args.notes.now c.loop-note.note-index c.note-item.result _ (search rules) c.note-item.is
      (c.in-Ok.ensures.steps c.loop-note.invariant.holds) c.loop-note.invariant.told;
  grows = Grows-trans _ _ _ c.loop-note.invariant.grows c.step.ensures.grows;
}

pub returns-clause-tells : goal.returns-clause-tells
returns-clause-tells c = all_told c.args.seat.now.sites.deck.now (judged_trees c.loop-note.pool c.loop-note.gathered.items.items) c.args.notes.now c.loop-note.note-index _ (search rules) c.loop-note.invariant.told

pub returns-clause-inside : goal.returns-clause-inside
returns-clause-inside c = c.loop-note.invariant.holds.inside

pub returns-clause-defined : goal.returns-clause-defined
returns-clause-defined c = c.loop-note.invariant.holds.definitions

pub returns-clause-added : goal.returns-clause-added
returns-clause-added c = c.loop-note.invariant.holds.added

pub returns-clause-grows : goal.returns-clause-grows
returns-clause-grows c = c.loop-note.invariant.grows
