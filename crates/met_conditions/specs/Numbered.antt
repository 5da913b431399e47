-- The conditions of what a walk met, with terms of a pool.
use Rattle.std.specs.Prelude.{ℕ, suc, List, [], ◌∷◌, ◌++◌}
use Rattle.formula.specs.declared.node.TermId.{TermId}
use Rattle.fort_syntax.specs.declared.condition.Condition.{Condition}
use Rattle.fort_syntax.specs.declared.condition.Kind.{Kind}
use Rattle.fort_syntax.specs.declared.name.Name.{Name}
use Rattle.walk_state.specs.declared.walk.Met.{Met}
use Rattle.walk_state.specs.declared.walk.Met.TheVariants.{Check, Take}

abbrev pub condition_of : Name → ℕ → ℕ → List TermId → Kind → ℕ → TermId → Condition
condition_of unit path k hyps kind card goal = record {
  unit = unit;
  path = path;
  check = k;
  kind =
      kind;
  card = card;
  hyps = hyps;
  goal = goal;
}

-- The conditions of what is met behind some hypotheses and so many checks: of each check the goal, whose hypotheses are all
-- terms met before it.
abbrev pub conditions_at : Name → ℕ → ℕ → List TermId → List Met → List Condition
conditions_at unit path k hyps [] = []
conditions_at unit path k hyps (Check kind card goal ∷ ms) = condition_of unit path (suc k) hyps kind
    card goal ∷ conditions_at unit path (suc k) (hyps ++ goal ∷ []) ms
conditions_at unit path k hyps (Take fact ∷ ms) = conditions_at unit path k (hyps ++ fact ∷ []) ms

-- the number of the checks of what was met
abbrev pub checks_in : List Met → ℕ
checks_in [] = 0
checks_in (Check kind card goal ∷ ms) = suc (checks_in ms)
checks_in (Take fact ∷ ms) = checks_in ms
