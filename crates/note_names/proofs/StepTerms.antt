-- The terms of steps.
use Rattle.std.proofs.Common.{◌≡◌, ℕ, zero, suc, ◌<◌, Bool, true, false, List, [], ◌∷◌, ◌++◌, length, drop, get_or, refl, ap, ◌∙◌, arith}
use Rattle.std.specs.Prelude.{◌&&◌}
use Rattle.std.specs.List.{list_all, flat_map}
use Rattle.formula.specs.declared.node.Node.{Node}
use Rattle.fort_notes.specs.Judging.{has_no_old, step_terms}
use Rattle.fort_notes.specs.declared.certificates.Step.{Step}
use Rattle.note_forms.specs.FormTrees.{step_tree, steps_of, IsStepIn, AreStepsIn}
use Rattle.note_names.proofs.Tests.{all_of_both}

-- no entry value stands in the terms of steps
abbrev pub none_in : List Node → List Step → Bool
none_in pool steps = list_all has_no_old (flat_map step_terms (steps_of pool steps))

pub step_in : (pool : List Node) (steps : List Step) (i : ℕ) (d : Step) → AreStepsIn pool steps → i < length steps → IsStepIn pool (get_or steps i d)
step_in pool [] i d h lt = absurd (omega arith)
step_in pool (s ∷ steps) zero d h lt = h.0
step_in pool (s ∷ steps) (suc i) d h lt = step_in pool steps i d h.1 (omega arith)

pub one_step : (pool : List Node) (steps : List Step) (i : ℕ) (d : Step) → i < length steps
    → none_in pool (drop i steps) ≡ (list_all has_no_old (step_terms (step_tree pool (get_or steps i d))) && none_in pool (drop (suc i) steps))
one_step pool [] i d lt = absurd (omega arith)
one_step pool (s ∷ steps) zero d lt = all_of_both has_no_old (step_terms (step_tree pool s)) (flat_map step_terms (steps_of pool steps))
one_step pool (s ∷ steps) (suc i) d lt = one_step pool steps i d (omega arith)

last_false : (a : Bool) → (a && false) ≡ false
last_false true = refl
last_false false = refl

pub none_behind : (pool : List Node) (steps : List Step) (i : ℕ) → none_in pool (drop i steps) ≡ false → none_in pool steps ≡ false
none_behind pool steps zero e = e
none_behind pool [] (suc i) e = e
none_behind pool (s ∷ steps) (suc i) e =
    all_of_both has_no_old (step_terms (step_tree pool s)) (flat_map step_terms (steps_of pool steps))
    ∙ ap (λ b. list_all has_no_old (step_terms (step_tree pool s)) && b) (none_behind pool steps i e) ∙ last_false _
