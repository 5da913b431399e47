use Rattle.std.proofs.Common.{rules, arith, ◌≡◌, ◌∙◌, ◌++◌, ◌∷◌, [], ap, sym, subst}
use Rattle.formula.specs.Pool.{Grows}
use Rattle.formula.proofs.Grown.{Grows-refl, Grows-trans}
use Rattle.fort_notes.specs.Parts.{parsed, bracket, is_over}
use Rattle.fort_notes.specs.Forms.{step_parts}
use Rattle.note_parts.proofs.Rounds.{round_first, round_ends, round_step, round_fails, round_over}
use Rattle.note_forms.specs.FormTrees.{AreStepsIn, step_tree, steps_of}
use Rattle.note_forms.proofs.GrownSteps.{steps_of-Grows, steps_of-append, AreStepsIn-Grows, AreStepsIn-append}
use Rattle.note_forms.proofs.proof_cards.steps.Goals as goal

pub loop-left-init : goal.loop-left-init
loop-left-init c =
    let none : steps_of c.args.pool.now c.new-all.result.items ≡ [] = ap (steps_of c.args.pool.now) c.new-all.ensures.items in
    record {
      same = round_first is_over (bracket (step_parts c.args.headings.now)) (steps_of c.args.pool.now c.new-all.result.items) c.args.text.now none;
      are_in = subst (AreStepsIn c.args.pool.now) (sym c.new-all.ensures.items) tt;
      grows = Grows-refl _;
    }

pub returns-then-is_over-clause-steps : goal.returns-then-is_over-clause-steps
returns-then-is_over-clause-steps c =
    sym c.loop-left.invariant.same
    ∙ round_ends is_over (bracket (step_parts c.args.headings.now)) c.loop-left.left (steps_of c.loop-left.pool c.loop-left.all.items) c.loop-left.rest.now (omega arith) (search rules)
    ∙ ap (λ l. parsed (steps_of c.loop-left.pool l) c.loop-left.rest.now) (sym c.from_vec.ensures)

pub returns-clause-steps : goal.returns-clause-steps
returns-clause-steps c =
    sym c.loop-left.invariant.same
    ∙ round_over is_over (bracket (step_parts c.args.headings.now)) c.loop-left.left (steps_of c.loop-left.pool c.loop-left.all.items) c.loop-left.rest.now (omega arith)

pub returns-in_err-s-clause-steps : goal.returns-in_err-s-clause-steps
returns-in_err-s-clause-steps c =
    let failed = round_fails is_over (bracket (step_parts c.args.headings.now)) c.loop-left.left (steps_of c.loop-left.pool c.loop-left.all.items) c.loop-left.rest.now _ c.in_err-s.field-0.0 (omega arith) (search rules) (search rules) c.loop-left.invariant.same in
    search rules

pub loop-left-preserved : goal.loop-left-preserved
loop-left-preserved c =
    let old = c.loop-left.pool in
    let new = c.step.new.pool in
    let xs = c.loop-left.all.items in
    let s = c.in_ok-s.s in
    let grows : Grows old new = c.step.ensures.grows in
    let pushed : c.push.new.self.items ≡ xs ++ s ∷ [] = search rules in
    let kept : AreStepsIn new xs = AreStepsIn-Grows old new xs grows c.loop-left.invariant.are_in in
    let more : steps_of new c.push.new.self.items ≡ steps_of old xs ++ step_tree new s ∷ [] =
    ap (steps_of new) pushed ∙ steps_of-append new xs (s ∷ []) ∙ ap (λ l. l ++ step_tree new s ∷ []) (steps_of-Grows old new xs grows c.loop-left.invariant.are_in) in
    record {
      same = round_step is_over (bracket (step_parts c.args.headings.now)) c.loop-left.left (steps_of old xs) (steps_of new c.push.new.self.items) c.loop-left.rest.now c.in_ok-s.behind.now (step_tree new s) _
          (omega arith) (search rules) (search rules) more c.loop-left.invariant.same;
      are_in = subst (AreStepsIn new) (sym pushed) (AreStepsIn-append new xs s kept (search rules));
      grows = Grows-trans _ _ _ c.loop-left.invariant.grows grows;
    }
