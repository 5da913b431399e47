-- The names that a call smashes, whatever its operands stand for.
use Rattle.std.proofs.Common.{◌≡◌, ℕ, Bool, cond, List, [], ◌∷◌, ◌++◌, map, Option, refl, sym, ap, ◌∙◌}
use Rattle.formula.specs.Tree.{Tree, truth}
use Rattle.std.specs.Prelude.{false}
use Rattle.fort_syntax.specs.declared.name.Name.{Name}
use Rattle.fort_syntax.specs.declared.unit.Unit.{Unit as Routine}
use Rattle.fort_model.specs.Conditions.{sight}
use Rattle.fort_model.specs.Program.{Program, is_smashed, smashed_names}
use Rattle.fort_model.specs.Senses.{of_terms}
use Rattle.fort_model.specs.WalkCalls.{Sight, Operand, Bare, Part, Computed, hits, smashed_actuals, smashed_commons}
use Rattle.call_hits.specs.Hits as trees
use Rattle.call_hits.specs.Hits.{AreHits}
use Rattle.weight_calls.specs.Operands.{bare_of}
use Rattle.weight_tallies.specs.Tallies.{weighed_at}

-- an operand of the same form that stands for some term
abbrev in_terms : Operand ℕ → Operand Tree
in_terms (Bare x n) = Bare x (truth false)
in_terms (Part n) = Part (truth false)
in_terms (Computed n) = Computed (truth false)

same_bare : (x : Operand ℕ) → trees.bare_of (in_terms x) ≡ bare_of x
same_bare (Bare x n) = refl
same_bare (Part n) = refl
same_bare (Computed n) = refl

all_bare : (xs : List (Operand ℕ)) → map trees.bare_of (map in_terms xs) ≡ map bare_of xs
all_bare [] = refl
all_bare (x ∷ xs) = λ i. same_bare x i ∷ all_bare xs i

same_actuals : (v : Sight Tree) (w : Sight ℕ) (smashed : Name → Bool) (ds : List Name) (xs : List (Operand ℕ)) → smashed_actuals v smashed ds (map in_terms xs) ≡ smashed_actuals w smashed ds xs
same_actuals v w smashed [] xs = refl
same_actuals v w smashed (d ∷ ds) [] = refl
same_actuals v w smashed (d ∷ ds) (Bare x n ∷ xs) = let rest = same_actuals v w smashed ds xs in λ i. cond (smashed d) (x ∷ rest i) (rest i)
same_actuals v w smashed (d ∷ ds) (Part n ∷ xs) = same_actuals v w smashed ds xs
same_actuals v w smashed (d ∷ ds) (Computed n ∷ xs) = same_actuals v w smashed ds xs

pub hits_so : (p : Program) (i j : ℕ) (u g : Routine) (smashed : List Name) (bare : List (Option Name)) (xs : List (Operand ℕ)) (names : List Name)
    → AreHits u g smashed bare names → smashed_names p j ≡ smashed → bare ≡ map bare_of xs → names ≡ hits (weighed_at p i u) j g xs
hits_so p i j u g smashed bare xs names h e f =
    h (sight of_terms p i u) j (map in_terms xs) refl e (all_bare xs ∙ sym f)
    ∙ ap (λ ns. ns ++ smashed_commons (weighed_at p i u) (is_smashed p j) g) (same_actuals (sight of_terms p i u) (weighed_at p i u) (is_smashed p j) g.dummies xs)
