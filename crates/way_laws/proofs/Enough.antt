-- In the graph of a unit the limit suffices.
use Rattle.std.proofs.Common.{◌≡◌, ℕ, zero, suc, ◌+◌, ◌-◌, ◌<◌, ◌≤◌, Bool, true, false, Option, Some, None, List, length, slice_get, get_or, refl, sym, ap, ◌∙◌, subst, arith}
use Rattle.fort_syntax.specs.declared.dialect.Dialect.{Dialect}
use Rattle.fort_syntax.specs.declared.unit.Line.{Line}
use Rattle.fort_syntax.specs.declared.unit.Unit.{Unit as Routine}
use Rattle.fort_model.specs.Flow.{leads_by, leads_at}
use Rattle.fort_model.specs.Graphs.{goes_to, follow, IsGraphOf, IsWithin}
use Rattle.fort_model.specs.Paths.{cut_at, Edge}
use Rattle.fort_model.specs.declared.graph.Graph.{Graph}
use Rattle.fort_model.specs.declared.graph.Target.{Target}
use Rattle.fort_model.specs.declared.graph.Target.TheVariants.{Point}
use Rattle.fort_model.proofs.GraphLeads.{graphs_lead}
use Rattle.fort_notes.specs.Assertions.{Notes}
use Rattle.path_cut.specs.Ways.{is_marked, marks_of, limit_of}
use Rattle.way_laws.proofs.Fuel.{greatest_from, fuel, fuel_some, each_below, enough, or_enough, start_enough, enough_at, start_by, or_by, chain}
use Rattle.way_laws.proofs.Few.{few_suffice}
use Rattle.way_laws.proofs.Marks.{marks_agree, unmarked_goes_on}

module _ (dialect : Dialect) (u : Routine) (notes : Notes) (graph : Graph) (h : IsGraphOf dialect u notes graph) where
  abbrev cut : ℕ → Bool
  cut = is_marked (marks_of graph)

  abbrev rank : ℕ → ℕ
  rank q = get_or graph.ranks q 0

  abbrev top : ℕ
  top = greatest_from 0 graph.ranks

  abbrev count : ℕ
  count = length graph.forks

  rank_below : (q : ℕ) → rank q ≤ top
  rank_below q = each_below graph.ranks 0 q

  -- where a statement's target leads, there is an edge
  edge : (p : ℕ) (t : Target) → slice_get graph.starts p ≡ Some t → (cs : List ℕ) (q : ℕ) → follow graph.forks t cs ≡ Some q → Edge dialect u p cs q
  edge p t s cs q f = by (slice_get u.lines p) refl
    where
      leads : leads_at dialect u p cs ≡ Some q
      leads = sym (graphs_lead dialect u notes graph h p cs) ∙ ap (λ (o : Option Target). goes_to o (λ x. follow graph.forks x cs)) s ∙ f

      by : (o : Option Line) → slice_get u.lines p ≡ o → Edge dialect u p cs q
      by None e = let none : None ≡ Some q = sym (ap (λ (o : Option Line). leads_by dialect u p o cs) e) ∙ leads in absurd cc
      by (Some line) e = record { line = line; at = e; to = sym (ap (λ (o : Option Line). leads_by dialect u p o cs) e) ∙ leads }

  -- a point without a mark that a statement leads to has a greater rank
  grows : (p : ℕ) (t : Target) → slice_get graph.starts p ≡ Some t → (cs : List ℕ) (q : ℕ) → follow graph.forks t cs ≡ Some q → cut q ≡ false → rank p < rank q
  grows p t s cs q f e = h.growing p q cs (edge p t s cs q f) (unmarked_goes_on (cut_at u notes q) (sym (marks_agree dialect u notes graph h q) ∙ e))

  -- from a cut point one step suffices
  at_cut : (n q : ℕ) → 1 ≤ n → cut q ≡ true → enough graph cut n (Point q)
  at_cut n q le e = enough_at graph cut 1 n (Point q) le (subst (λ b. or_enough graph cut b (start_enough graph cut (enough graph cut 0) (slice_get graph.starts q))) (sym e) tt)

  by_mark : (n q : ℕ) → 1 ≤ n → (cut q ≡ false → enough graph cut n (Point q)) → enough graph cut n (Point q)
  by_mark n q le f = by (cut q) refl
    where
      by : (b : Bool) → cut q ≡ b → enough graph cut n (Point q)
      by true e = at_cut n q le e
      by false e = f e

  from_point : (b q : ℕ) → ((t : Target) → slice_get graph.starts q ≡ Some t → (cs : List ℕ) (r : ℕ) → follow graph.forks t cs ≡ Some r → enough graph cut b (Point r))
      → enough graph cut (suc (count + b)) (Point q)
  from_point b q reach =
      or_by graph cut (cut q) (start_enough graph cut (enough graph cut (count + b)) (slice_get graph.starts q))
      (start_by graph cut (enough graph cut (count + b)) (slice_get graph.starts q)
      (λ t s. chain graph cut graph.size b h.falling count t (h.within q t s) (reach t s)))

  -- from a point of at least a level
  level : (j q : ℕ) → top ≤ rank q + j → enough graph cut (fuel count j) (Point q)
  level zero q le =
      let some : suc (count + 1) ≤ count + 2 = omega arith in
      enough_at graph cut (suc (count + 1)) (count + 2) (Point q) some
      (from_point 1 q (λ t s cs r f. by_mark 1 r (omega arith)
      (λ e. let lt = grows q t s cs r f e in let most = rank_below r in let none : ⊥ = omega arith in absurd none)))
  level (suc j) q le =
      let some : suc (count + fuel count j) ≤ count + 2 + fuel count j = omega arith in
      enough_at graph cut (suc (count + fuel count j)) (count + 2 + fuel count j) (Point q) some
      (from_point (fuel count j) q (λ t s cs r f. by_mark (fuel count j) r (fuel_some count j)
      (λ e. let lt = grows q t s cs r f e in let more : top ≤ rank r + j = omega arith in level j r more)))

  from_any : (q : ℕ) → enough graph cut (fuel count top) (Point q)
  from_any q = let more : top ≤ rank q + top = omega arith in level top q more

  -- so many levels suffice from any target
  from_target : (t : Target) → IsWithin graph.size count t → enough graph cut (suc (count + fuel count top)) t
  from_target t w =
      let le : count + fuel count top ≤ suc (count + fuel count top) = omega arith in
      enough_at graph cut (count + fuel count top) (suc (count + fuel count top)) t le
      (chain graph cut graph.size (fuel count top) h.falling count t w (λ cs q f. from_any q))

  -- from what a statement leads to, one step less than the limit suffices
  pub from_statement : (p : ℕ) (t : Target) → slice_get graph.starts p ≡ Some t → enough graph cut (limit_of graph - 1) t
  from_statement p t s =
      let le : graph.size + count + 2 ≤ graph.size + count + 3 - 1 = omega arith in
      enough_at graph cut (graph.size + count + 2) (limit_of graph - 1) t le
      (few_suffice graph cut (count + fuel count top) h.within h.falling from_target t (h.within p t s))

  -- and the limit is not nothing
  pub limit_some : limit_of graph ≡ suc (limit_of graph - 1)
  limit_some = omega arith
