-- Starts are those of walks.
use Rattle.std.proofs.Common.{◌≡◌, ℕ, List, [], ◌∷◌, refl, ap, ◌∙◌}
use Rattle.formula.specs.Tree.{Tree}
use Rattle.fort_syntax.specs.declared.name.Name.{Name}
use Rattle.fort_syntax.specs.declared.unit.Unit.{Unit as Routine}
use Rattle.fort_model.specs.Conditions.{sight}
use Rattle.fort_model.specs.Program.{Program, smashed_names}
use Rattle.fort_model.specs.Senses.{of_terms, is_defined}
use Rattle.fort_model.specs.Walk.{at_entry, dim_facts}
use Rattle.start_terms.specs.Starts.{DimFactsAreThoseOfWalks, StartedAreAtStart, at_least_1, facts_of_dims, started}

pub started_are_at_start : StartedAreAtStart
started_are_at_start p i u now e = λ k. started (smashed_names p i) (e k)

facts_alike : (p : Program) (i : ℕ) (u : Routine) (xs : List Name) → facts_of_dims (at_entry (sight of_terms p i u)) xs ≡ dim_facts (sight of_terms p i u) xs
facts_alike p i u [] = refl
facts_alike p i u (x ∷ xs) =
    let now = at_entry (sight of_terms p i u) in
    ap (λ (ts : List Tree). is_defined of_terms (now x) ∷ at_least_1 (now x) ∷ ts) (facts_alike p i u xs)

pub dim_facts_are_those_of_walks : DimFactsAreThoseOfWalks
dim_facts_are_those_of_walks p i u now xs e = (λ k. facts_of_dims (e k) xs) ∙ facts_alike p i u xs
