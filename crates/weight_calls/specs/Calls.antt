-- What calls weigh.
use Rattle.std.specs.Prelude.{◌≡◌, ℕ, List, [], ◌∷◌}
use Rattle.fort_syntax.specs.declared.name.Name.{Name}
use Rattle.fort_model.specs.Seen.{Named}
use Rattle.fort_model.specs.WalkStmt.{with_name}
use Rattle.weight_caps.specs.declared.loads.Load.{Load}
use Rattle.weight_calls.specs.Seen.{changed_by}
use Rattle.weight_tallies.specs.Tallied.{Tally}

-- a call goes from a load to another, where some names are smashed
pub record IsWeighed (part : Tally (Named ℕ)) (old : Load) (now : Named ℕ) (new : Load) (smashed : List Name) : Type 0 where
  pub load : new ≡ (part old).load
  pub names : changed_by smashed now ≡ (part old).value

-- some names weigh 1 from now on
abbrev pub ones_set : List Name → Named ℕ → Named ℕ
ones_set [] now = now
ones_set (x ∷ xs) now = ones_set xs (with_name now x 1)
