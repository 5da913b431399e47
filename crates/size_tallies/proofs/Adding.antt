-- Sizes along ways are sizes along paths.
use Rattle.std.proofs.Common.{◌≡◌, ℕ, suc, ◌+◌, List, [], ◌∷◌, map, length, refl, ap, ◌∙◌}
use Rattle.std.specs.Prelude.{sum}
use Rattle.fort_syntax.specs.declared.unit.Unit.{Unit as Routine}
use Rattle.fort_model.specs.Conditions.{checks_of}
use Rattle.fort_model.specs.Graphs.{IsGraphOf}
use Rattle.fort_model.specs.Lists.{IsAmong}
use Rattle.fort_model.specs.Program.{Program, notes_of}
use Rattle.fort_model.specs.declared.graph.Graph.{Graph}
use Rattle.path_cut.specs.Ways.{Way, ways_of}
use Rattle.path_sizes.specs.Limits.{Sizes, with_path, with_paths}
use Rattle.path_sizes.specs.Weights.{weights_of}
use Rattle.way_laws.specs.PathsOf.{path_of}
use Rattle.weight_caps.specs.Capped.{capped}
use Rattle.weight_caps.proofs.CappedSums.{cap_sums}
use Rattle.weight_laws.proofs.Walked.{weights_have_checks}
use Rattle.weight_tallies.specs.Tallies.{bare, load_of}
use Rattle.weight_tallies.proofs.Along.{tallies_are_weights}
use Rattle.size_tallies.specs.Laws.{SizesAreTallied}
use Rattle.size_tallies.specs.Totals.{AreCapped, with_load, with_ways}

added : (a b c d : ℕ) → c ≡ capped a → d ≡ capped b → capped (c + d) ≡ capped (a + b)
added a b c d e f = (λ i. capped (e i + f i)) ∙ cap_sums a b

module _ (p : Program) (i : ℕ) (u : Routine) (graph : Graph) (is : IsGraphOf p.dialect u (notes_of p i) graph) where
  one_more : (exact told : Sizes) (way : Way) → IsAmong way (ways_of graph) → AreCapped exact told → AreCapped (with_path p i u exact (path_of way)) (with_load told (load_of (bare p) i u way))
  one_more exact told way m h =
      let l = tallies_are_weights p i u graph is way m in
      record {
        paths = ap suc h.paths;
        conditions = added exact.conditions (length (checks_of p i u (path_of way))) told.conditions (load_of (bare p) i u way).conditions h.conditions
            (l.0 ∙ ap capped (weights_have_checks p i u (path_of way)));
        weight = added exact.weight (sum (weights_of p i u (path_of way))) told.weight (load_of (bare p) i u way).weight h.weight l.1;
      }

  all_more : (ways : List Way) (exact told : Sizes) → ((way : Way) → IsAmong way ways → IsAmong way (ways_of graph)) → AreCapped exact told
      → AreCapped (with_paths p i u exact (map path_of ways)) (with_ways p i u told ways)
  all_more [] exact told m h = h
  all_more (way ∷ ways) exact told m h =
      all_more ways (with_path p i u exact (path_of way)) (with_load told (load_of (bare p) i u way)) (λ w n. m w (suc n.0, n.1)) (one_more exact told way (m way (0, refl)) h)

pub sizes_are_tallied : SizesAreTallied
sizes_are_tallied p i u graph is exact told h = all_more p i u graph is (ways_of graph) exact told (λ way m. m) h
