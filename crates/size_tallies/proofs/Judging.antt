-- Units are judged one after another.
use Rattle.std.proofs.Common.{◌≡◌, inl, inr, ℕ, suc, ◌+◌, ◌<◌, ◌≤◌, List, [], ◌∷◌, length, refl, sym, subst, arith}
use Rattle.fort_syntax.specs.declared.unit.Unit.{Unit as Routine}
use Rattle.fort_laws.proofs.OnePath.{paths_are_one}
use Rattle.fort_model.specs.Conditions.{are_all_paths}
use Rattle.fort_model.specs.Graphs.{IsGraphOf}
use Rattle.fort_model.specs.Paths.{Path}
use Rattle.fort_model.specs.Program.{Program, notes_of}
use Rattle.fort_model.specs.declared.graph.Graph.{Graph}
use Rattle.path_count.proofs.Counted.{paths_are_counted}
use Rattle.path_cut.specs.Ways.{ways_of}
use Rattle.path_sizes.specs.Limits.{Sizes, AreWithin, with_paths, with_units}
use Rattle.way_laws.specs.PathsOf.{paths_of}
use Rattle.way_laws.proofs.Whole.{ways_are_paths}
use Rattle.weight_caps.specs.Capped.{capped}
use Rattle.weight_caps.proofs.CappedSums.{CapOf, cap_of}
use Rattle.size_tallies.specs.Laws.{UnitsAreJudged, UnitsFollow}
use Rattle.size_tallies.specs.Totals.{with_ways}
use Rattle.size_tallies.proofs.Adding.{sizes_are_tallied}

-- ---- numbers as far as the cap

cap_above : (m n c : ℕ) → m ≤ 2000000 → CapOf n c → m < c → m < n
cap_above m n c k (inl (h, e)) l = omega arith
cap_above m n c k (inr (h, e)) l = omega arith

cap_within : (m n c : ℕ) → m ≤ 2000000 → CapOf n c → c ≤ m → n ≤ m
cap_within m n c k (inl (h, e)) l = omega arith
cap_within m n c k (inr (h, e)) l = absurd (omega arith)

above : (m n c : ℕ) → m ≤ 2000000 → c ≡ capped n → m < c → m < n
above m n c k e l = cap_above m n c k (let T : ℕ → Type 0 = CapOf n in subst T (sym e) (cap_of n)) l

within : (m n c : ℕ) → m ≤ 2000000 → c ≡ capped n → c ≤ m → n ≤ m
within m n c k e l = cap_within m n c k (let T : ℕ → Type 0 = CapOf n in subst T (sym e) (cap_of n)) l

-- ---- a unit

pub units_are_judged : UnitsAreJudged
units_are_judged p i u graph is exact told h =
    let counted = paths_are_counted p i u exact graph is in
    let order = ways_are_paths p.dialect u (notes_of p i) graph is in
    let behind = sizes_are_tallied p i u graph is exact told h in
    let same = h.paths in
    let few_conditions : 100000 ≤ 2000000 = omega arith in
    let few_weight : 2000000 ≤ 2000000 = omega arith in
    record {
      paths = λ many.
          let much : 4096 < exact.paths + length (ways_of graph) = omega arith in
          inl (refl, counted.0 much);
      conditions = λ few many.
          let less : exact.paths + length (ways_of graph) ≤ 4096 = omega arith in
          inr (inl (refl, (paths_of graph, order, counted.1 less, above 100000 (with_paths p i u exact (paths_of graph)).conditions (with_ways p i u told (ways_of graph)).conditions few_conditions behind.conditions many)));
      weight = λ few less heavy.
          let fewer : exact.paths + length (ways_of graph) ≤ 4096 = omega arith in
          inr
          (inr (
            refl,
            (
              paths_of graph,
              order,
              counted.1 fewer,
              within 100000 (with_paths p i u exact (paths_of graph)).conditions (with_ways p i u told (ways_of graph)).conditions few_conditions behind.conditions less,
              above 2000000 (with_paths p i u exact (paths_of graph)).weight (with_ways p i u told (ways_of graph)).weight few_weight behind.weight heavy,
            ),
          ));
      within = λ few less light.
          let fewer : exact.paths + length (ways_of graph) ≤ 4096 = omega arith in (
            counted.1 fewer,
            within 100000 (with_paths p i u exact (paths_of graph)).conditions (with_ways p i u told (ways_of graph)).conditions few_conditions behind.conditions less,
            within 2000000 (with_paths p i u exact (paths_of graph)).weight (with_ways p i u told (ways_of graph)).weight few_weight behind.weight light,
          );
    }

-- ---- one unit after another

module _ (p : Program) where
  next_within : (i : ℕ) (u : Routine) (us : List Routine) (graph : Graph) (before : Sizes) → IsGraphOf p.dialect u (notes_of p i) graph
      → ((paths : List (List Path)) → are_all_paths p (suc i) us paths → AreWithin (with_units p (suc i) (with_paths p i u before (paths_of graph)) us paths))
      → (paths : List (List Path)) → are_all_paths p i (u ∷ us) paths → AreWithin (with_units p i before (u ∷ us) paths)
  next_within i u us graph before is k [] h = absurd h
  next_within i u us graph before is k (ps ∷ rest) h =
      let same : paths_of graph ≡ ps = paths_are_one p.dialect u (notes_of p i) (paths_of graph) ps (ways_are_paths p.dialect u (notes_of p i) graph is) h.0 in
      subst (λ qs. AreWithin (with_units p (suc i) (with_paths p i u before qs) us rest)) same (k rest h.1)

  last_within : (i : ℕ) (before : Sizes) → AreWithin before → (paths : List (List Path)) → are_all_paths p i [] paths → AreWithin (with_units p i before [] paths)
  last_within i before w [] h = w
  last_within i before w (ps ∷ rest) h = absurd h

pub units_follow : UnitsFollow
units_follow = record {
  first = λ p. record { faults = λ f h. h; within = λ k. k };
  next = λ p i u us graph before is left within. record {
    faults = λ f h. left.faults f (inr (paths_of graph, ways_are_paths p.dialect u (notes_of p i) graph is, within, h));
    within = λ k. left.within (next_within p i u us graph before is k);
  };
  fault = λ p i u us before f left h. left.faults f (inl h);
  last = λ p i before left within. left.within (last_within p i before within);
}
