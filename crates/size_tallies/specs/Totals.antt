-- Sizes as far as the cap, and how far units were judged.
use Rattle.std.specs.Prelude.{◌≡◌, ℕ, suc, ◌+◌, List, [], ◌∷◌}
use Rattle.fort_syntax.specs.declared.refusal.Fault.{Fault}
use Rattle.fort_syntax.specs.declared.unit.Unit.{Unit as Routine}
use Rattle.fort_model.specs.Conditions.{AreAllPaths, are_all_paths}
use Rattle.fort_model.specs.Paths.{Path}
use Rattle.fort_model.specs.Program.{Program}
use Rattle.path_cut.specs.Ways.{Way}
use Rattle.path_sizes.specs.Limits.{Sizes, AreWithin, IsSizeFault, IsWithinLimits, PassFrom, with_units}
use Rattle.weight_caps.specs.Capped.{capped}
use Rattle.weight_caps.specs.declared.loads.Load.{Load}
use Rattle.weight_tallies.specs.Tallies.{bare, load_of}

-- sizes with those of a path more, of which the load is told
abbrev pub with_load : Sizes → Load → Sizes
with_load s l = record {
  paths = suc s.paths;
  conditions = capped (s.conditions + l.conditions);
  weight = capped
      (s.weight + l.weight);
}

-- sizes with those of some ways of the unit of the number i
abbrev pub with_ways : Program → ℕ → Routine → Sizes → List Way → Sizes
with_ways p i u s [] = s
with_ways p i u s (way ∷ ways) = with_ways p i u (with_load s (load_of (bare p) i u way)) ways

-- sizes are others, with conditions and weight as far as the cap
pub record AreCapped (exact told : Sizes) : Type 0 where
  pub paths : told.paths ≡ exact.paths
  pub conditions : told.conditions ≡ capped exact.conditions
  pub weight : told.weight ≡ capped exact.weight

-- All units before those that are left, of which the first has the number i, are within the limits, and have some sizes: so a
-- fault of size of those that are left is one of the program, and where these are within the limits, the program is.
pub record AreLeft (p : Program) (i : ℕ) (before : Sizes) (us : List Routine) : Type 0 where
  pub faults : (f : Fault) → PassFrom p i before us f → IsSizeFault p f
  pub within : ((paths : List (List Path)) → are_all_paths p i us paths
      → AreWithin (with_units p i before us paths)) → (paths : List (List Path)) → AreAllPaths p paths
      → IsWithinLimits p paths
