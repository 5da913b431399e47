-- What forms with ids of a pool stand for.
use Rattle.std.specs.Prelude.{ℕ, List, [], ◌∷◌, map, length, not, None}
use Rattle.formula.specs.Atoms.{is_among, is_symbol}
use Rattle.formula.specs.declared.definition.Heading.{Heading}
use Rattle.formula.specs.declared.node.Node.{Node}
use Rattle.formula.specs.Pool.{AllBelow, IsIn, tree_of}
use Rattle.fort_notes.specs.Forms.{Form, assertion, StepTree, hypothesis, same, closed_goal, split, suppose, sum, cases, take, cell_bounds, unfolded, branch, rewrite, linear, ProofTree, pair_parts}
use Rattle.fort_notes.specs.Parts.{Parsed, parsed, ◌>>=◌, bracket, inside, number, passing, term, word_of}
use Rattle.fort_notes.specs.declared.certificates.Step.{Step}
use Rattle.fort_notes.specs.declared.certificates.Step.TheVariants as step
use Rattle.fort_notes.specs.declared.certificates.ProofCard.{ProofCard}
use Rattle.note_parts.specs.Answers.{trees_of}
use Rattle.note_forms.specs.declared.note_form.Asserted.{Asserted}

abbrev pub assertion_of : List Node → Asserted → Form
assertion_of pool a = assertion (trees_of pool a.terms) a.has_clock (trees_of pool a.clock)

-- the terms and the parts of the clock are of the pool
abbrev pub IsAssertedIn : List Node → Asserted → Type 0
IsAssertedIn pool a = AllBelow (length pool) a.terms × AllBelow (length pool) a.clock

-- a step, its terms as trees
abbrev pub step_tree : List Node → Step → StepTree
step_tree pool (step.Hyp i) = hypothesis i
step_tree pool step.Same = same
step_tree pool step.Ground = closed_goal
step_tree pool (step.Sum n pairs) = sum n pairs
step_tree pool step.Split = split
step_tree pool step.Suppose = suppose
step_tree pool (step.Cases t) = cases (tree_of pool t)
step_tree pool (step.Take i) = take i
step_tree pool (step.Cell i j) = cell_bounds i j
step_tree pool (step.Unfold t) = unfolded (tree_of pool t)
step_tree pool (step.Branch t) = branch (tree_of pool t)
step_tree pool (step.Use i j) = rewrite i j
step_tree pool (step.Linear a b) = linear (tree_of pool a) (tree_of pool b)

-- the terms of a step are of the pool
abbrev pub IsStepIn : List Node → Step → Type 0
IsStepIn pool (step.Cases t) = IsIn pool t
IsStepIn pool (step.Unfold t) = IsIn pool t
IsStepIn pool (step.Branch t) = IsIn pool t
IsStepIn pool (step.Linear a b) = IsIn pool a × IsIn pool b
IsStepIn pool _ = Unit {0}

abbrev pub AreStepsIn : List Node → List Step → Type 0
AreStepsIn pool [] = Unit {0}
AreStepsIn pool (s ∷ rest) = IsStepIn pool s × AreStepsIn pool rest

abbrev pub steps_of : List Node → List Step → List StepTree
steps_of pool steps = map (step_tree pool) steps

-- a certificate, its terms as trees
abbrev pub proof_tree : List Node → ProofCard → ProofTree
proof_tree pool p = record { lemma = p.lemma; steps = steps_of pool p.steps }

-- ---- what stands behind SUM and LINEAR

abbrev pub sum_parts : List ℕ → Parsed StepTree
sum_parts text = number text >>= λ n left. inside (bracket pair_parts) left >>= λ pairs rest. parsed (sum n pairs) rest

abbrev pub linear_parts : List Heading → List ℕ → Parsed StepTree
linear_parts headings text = term headings None text >>= λ a left. term headings None left >>= λ b rest. parsed (linear a b) rest

-- ---- what stands behind PROOF

-- a condition's name that is none of the earlier ones
abbrev pub lemma_parts : List (List ℕ) → List ℕ → Parsed (List ℕ)
lemma_parts earlier text = word_of is_symbol text >>= λ lemma left. passing (not (is_among lemma earlier)) lemma left
