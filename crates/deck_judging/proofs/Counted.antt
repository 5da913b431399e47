-- The number of paths.
use Rattle.std.proofs.Common.{◌≡◌, ℕ, suc, ◌+◌, List, [], ◌∷◌, length, refl, sym, ap, ◌∙◌, arith}
use Rattle.fort_syntax.specs.declared.unit.Unit.{Unit as Routine}
use Rattle.fort_model.specs.Conditions.{AreAllPaths, are_all_paths}
use Rattle.fort_model.specs.Paths.{Path}
use Rattle.fort_model.specs.Program.{Program}
use Rattle.path_sizes.specs.Limits.{Sizes, nothing, with_path, with_paths, with_units}
use Rattle.measure.specs.Sizes.{AreCountsOf}
use Rattle.measure.specs.declared.counts.Counts.{Counts}
use Rattle.deck_judging.specs.Judged.{count_of_paths}

module _ (p : Program) where
  along : (i : ℕ) (u : Routine) (s : Sizes) (paths : List Path) → (with_paths p i u s paths).paths ≡ s.paths + length paths
  along i u s [] = omega arith
  along i u s (path ∷ paths) =
      let rest = along i u (with_path p i u s path) paths in
      omega (arith, rest)

  over_units : (i : ℕ) (s : Sizes) (us : List Routine) (paths : List (List Path)) → are_all_paths p i us paths → (with_units p i s us paths).paths ≡ s.paths + count_of_paths paths
  over_units i s [] [] h = omega arith
  over_units i s [] (ps ∷ paths) h = absurd h
  over_units i s (u ∷ us) [] h = absurd h
  over_units i s (u ∷ us) (ps ∷ paths) h =
      let here = along i u s ps in
      let rest = over_units (suc i) (with_paths p i u s ps) us paths h.1 in
      omega (arith, here, rest)

  -- the count of paths that is measured
  pub paths_counted : (c : Counts) (paths : List (List Path)) → AreAllPaths p paths → AreCountsOf p paths c → c.paths ≡ count_of_paths paths
  paths_counted c paths all h =
      let whole = over_units 0 nothing p.units paths all in
      let same = h.paths in
      omega (arith, whole, same)
