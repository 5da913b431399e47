use Rattle.std.proofs.Common.{rules, ◌≡◌, ◌∙◌, ◌-◌, ◌<◌, suc, true, false, ap, sym, subst, length, drop, get_or, arith}
use Rattle.std.specs.Prelude.{◌&&◌}
use Rattle.std.specs.List.{list_all}
use Rattle.fort_notes.specs.declared.certificates.Step.{Step}
use Rattle.fort_notes.specs.Judging.{has_no_old, step_terms}
use Rattle.note_forms.specs.FormTrees.{step_tree, IsStepIn}
use Rattle.note_names.proofs.StepTerms.{none_in, step_in, one_step, none_behind}
use Rattle.note_names.proofs.rules.steps_have_no_old.Goals as goal

pub step_has_no_old-requires : goal.step_has_no_old-requires
step_has_no_old-requires c =
    let steps = c.args.steps.now in
    let i = c.loop-left.left - 1 in
    let within = c.loop-left.invariant.within in
    let lt : i < length steps = omega arith in
    subst (λ (s : Step). IsStepIn c.args.pool.now s) (sym c.index-steps-left.is) (step_in c.args.pool.now steps i c.index-steps-left.result c.requires lt)

pub returns-then-not-step_has_no_old : goal.returns-then-not-step_has_no_old
returns-then-not-step_has_no_old c =
    let pool = c.args.pool.now in
    let steps = c.args.steps.now in
    let i = c.loop-left.left - 1 in
    let d = c.index-steps-left.result in
    let within = c.loop-left.invariant.within in
    let lt : i < length steps = omega arith in
    let no : list_all has_no_old (step_terms (step_tree pool d)) ≡ false = search rules in
    let here : list_all has_no_old (step_terms (step_tree pool (get_or steps i d))) ≡ false = ap (λ (s : Step). list_all has_no_old (step_terms (step_tree pool s))) (sym c.index-steps-left.is) ∙ no in
    sym (none_behind pool steps i (one_step pool steps i d lt ∙ ap (λ b. b && none_in pool (drop (suc i) steps)) here))
