-- Steps of certificates while the pool grows.
use Rattle.std.proofs.Common.{◌≡◌, List, [], ◌∷◌, ◌++◌, refl, ap}
use Rattle.formula.specs.declared.node.Node.{Node}
use Rattle.formula.specs.Pool.{Grows}
use Rattle.formula.proofs.Grown.{tree_of-Grows, IsIn-Grows}
use Rattle.fort_notes.specs.Forms.{StepTree, linear}
use Rattle.fort_notes.specs.declared.certificates.Step.{Step}
use Rattle.fort_notes.specs.declared.certificates.Step.TheVariants as step
use Rattle.note_forms.specs.FormTrees.{step_tree, steps_of, IsStepIn, AreStepsIn}

pub step_tree-Grows : (old new : List Node) (s : Step) → Grows old new → IsStepIn old s → step_tree new s ≡ step_tree old s
step_tree-Grows old new (step.Cases t) g h = ap StepTree.cases (tree_of-Grows old new t g h)
step_tree-Grows old new (step.Unfold t) g h = ap StepTree.unfolded (tree_of-Grows old new t g h)
step_tree-Grows old new (step.Branch t) g h = ap StepTree.branch (tree_of-Grows old new t g h)
step_tree-Grows old new (step.Linear a b) g h = λ i. linear (tree_of-Grows old new a g h.0 i) (tree_of-Grows old new b g h.1 i)
step_tree-Grows old new _ g h = refl

pub IsStepIn-Grows : (old new : List Node) (s : Step) → Grows old new → IsStepIn old s → IsStepIn new s
IsStepIn-Grows old new (step.Cases t) g h = IsIn-Grows old new t g h
IsStepIn-Grows old new (step.Unfold t) g h = IsIn-Grows old new t g h
IsStepIn-Grows old new (step.Branch t) g h = IsIn-Grows old new t g h
IsStepIn-Grows old new (step.Linear a b) g h = (IsIn-Grows old new a g h.0, IsIn-Grows old new b g h.1)
IsStepIn-Grows old new _ g h = tt

pub steps_of-Grows : (old new : List Node) (ss : List Step) → Grows old new → AreStepsIn old ss → steps_of new ss ≡ steps_of old ss
steps_of-Grows old new [] g h = refl
steps_of-Grows old new (s ∷ ss) g h = λ i. step_tree-Grows old new s g h.0 i ∷ steps_of-Grows old new ss g h.1 i

pub AreStepsIn-Grows : (old new : List Node) (ss : List Step) → Grows old new → AreStepsIn old ss → AreStepsIn new ss
AreStepsIn-Grows old new [] g h = tt
AreStepsIn-Grows old new (s ∷ ss) g h = (IsStepIn-Grows old new s g h.0, AreStepsIn-Grows old new ss g h.1)

pub steps_of-append : (pool : List Node) (xs ys : List Step) → steps_of pool (xs ++ ys) ≡ steps_of pool xs ++ steps_of pool ys
steps_of-append pool [] ys = refl
steps_of-append pool (x ∷ xs) ys = ap (λ r. step_tree pool x ∷ r) (steps_of-append pool xs ys)

pub AreStepsIn-append : (pool : List Node) (xs : List Step) (s : Step) → AreStepsIn pool xs → IsStepIn pool s → AreStepsIn pool (xs ++ s ∷ [])
AreStepsIn-append pool [] s h e = (e, tt)
AreStepsIn-append pool (x ∷ xs) s h e = (h.0, AreStepsIn-append pool xs s h.1 e)
