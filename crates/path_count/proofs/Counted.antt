-- Counting ways is counting paths.
use Rattle.std.proofs.Common.{◌≡◌, ℕ, suc, ◌+◌, ◌<◌, ◌≤◌, List, [], ◌∷◌, map, length, sym, ap, ◌∙◌, subst, refl, arith}
use Rattle.fort_syntax.specs.declared.unit.Unit.{Unit as Routine}
use Rattle.fort_model.specs.Paths.{Path}
use Rattle.fort_model.specs.Program.{Program, notes_of}
use Rattle.path_cut.specs.Ways.{ways_of}
use Rattle.path_sizes.specs.Limits.{Sizes, with_path, with_paths}
use Rattle.path_count.specs.Counts.{PathsAreCounted}
use Rattle.way_laws.specs.PathsOf.{path_of, paths_of}
use Rattle.way_laws.proofs.Whole.{ways_are_paths}

same_count : {A B : Type 0} (f : A → B) (xs : List A) → length (map f xs) ≡ length xs
same_count f [] = refl
same_count f (x ∷ xs) = ap suc (same_count f xs)

next_count : (n m : ℕ) → suc n + m ≡ n + suc m
next_count n m = omega arith

no_count : (n : ℕ) → n ≡ n + 0
no_count n = omega arith

counted : (p : Program) (i : ℕ) (u : Routine) (ps : List Path) (s : Sizes) → (with_paths p i u s ps).paths ≡ s.paths + length ps
counted p i u [] s = no_count s.paths
counted p i u (path ∷ ps) s = counted p i u ps (with_path p i u s path) ∙ next_count s.paths (length ps)

pub paths_are_counted : PathsAreCounted
paths_are_counted p i u before graph h =
    let l = ways_are_paths p.dialect u (notes_of p i) graph h in
    let n : length (paths_of graph) ≡ length (ways_of graph) = same_count path_of (ways_of graph) in (
      λ many. (paths_of graph, l.ascending, (λ path m. (l.whole path).1 m), subst (λ k. 4096 < before.paths + k) (sym n) many),
      λ few. subst (λ k. k ≤ 4096) (sym (counted p i u (paths_of graph) before ∙ ap (λ k. before.paths + k) n)) few,
    )
