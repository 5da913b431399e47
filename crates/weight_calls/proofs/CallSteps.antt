-- A call, step by step.
use Rattle.std.proofs.Common.{◌≡◌, ℕ, List, map, length, ◌∙◌}
use Rattle.std.specs.Prelude.{sum}
use Rattle.formula.specs.Pool.{tree_of}
use Rattle.formula.specs.declared.node.Node.{Node}
use Rattle.formula.specs.declared.node.TermId.{TermId}
use Rattle.fort_syntax.specs.declared.name.Name.{Name}
use Rattle.fort_syntax.specs.declared.unit.Unit.{Unit as Routine}
use Rattle.fort_model.specs.Program.{Program, notes_of}
use Rattle.fort_model.specs.Seen.{Named}
use Rattle.fort_model.specs.WalkCalls.{Operand, hits, seen_by, stands_for}
use Rattle.weight_caps.specs.Capped.{capped}
use Rattle.weight_caps.specs.Loads.{with_added, with_tests}
use Rattle.weight_caps.specs.declared.loads.Load.{Load}
use Rattle.weight_calls.specs.Calls.{IsWeighed}
use Rattle.weight_calls.specs.Seen.{changed_by}
use Rattle.weight_tallies.specs.Tallies as tally
use Rattle.weight_tallies.specs.Tallies.{weighed_at}
use Rattle.weight_terms.specs.Terms.{weights_told}

pub weighed_so : (p : Program) (i j : ℕ) (u g : Routine) (pool : List Node) (now before behind : Named ℕ) (xs : List (Operand ℕ)) (input output : List TermId) (smashed : List Name) (old first second third : Load) (count sums : ℕ)
    → before ≡ seen_by (weighed_at p i u) g (map stands_for xs) now 1
    → map (tree_of pool) input ≡ (notes_of p j).input → first ≡ with_tests old (weights_told pool before before input)
    → smashed ≡ hits (weighed_at p i u) j g xs → count ≡ capped (length smashed) → second ≡ with_added first count
    → behind ≡ tally.seen_after (weighed_at p i u) g (changed_by smashed now) xs
    → map (tree_of pool) output ≡ (notes_of p j).output → sums ≡ capped (sum (weights_told pool before behind output)) → third ≡ with_added second sums
    → IsWeighed (tally.unit_called (weighed_at p i u) j g now xs) old now third smashed
weighed_so p i j u g pool now before behind xs input output smashed old first second third count sums e ins f hit n s b outs m t = record {
  load = t ∙ ((λ k. with_added (s k) (m k)) ∙ ((λ k. with_added (with_added (f k) (n k)) (capped (sum (weights_told pool before (b k) output))))
      ∙ ((λ k. with_added (with_added (with_tests old (tally.notes_weights (weighed_at p i u) (e k) (e k) (ins k))) (capped (length (hit k))))
      (capped (sum (tally.notes_weights (weighed_at p i u) (e k) (tally.seen_after (weighed_at p i u) g (changed_by (hit k) now) xs) (outs k))))))));
  names = λ k. changed_by (hit k) now;
}
