-- What the nodes tell of the unit.
use Rattle.std.proofs.Common.{◌≡◌, ℕ, ◌<◌, List, Bool, true, false, length, get_or, sym, ap, ◌∙◌, subst, arith}
use Rattle.fort_syntax.specs.declared.dialect.Dialect.{Dialect}
use Rattle.fort_syntax.specs.declared.unit.Unit.{Unit as Routine}
use Rattle.fort_notes.specs.Assertions.{Notes}
use Rattle.fort_model.specs.declared.graph.Fork.{Fork}
use Rattle.fort_model.specs.declared.graph.Graph.{Graph}
use Rattle.fort_model.specs.declared.graph.Target.{Target}
use Rattle.fort_model.specs.Graphs.{IsWithin, IsGraphOf}
use Rattle.fort_model.specs.Paths.{NoCut, cut_at, Uncut}
use Rattle.fort_model.specs.Program.{notes_of}
use Rattle.flow_tests.specs.Tests.{IsFlowing}
use Rattle.flow_forks.specs.Flows.{IsFlowOf}
use Rattle.flow_nodes.specs.Nodes.{cut_marks, IsRouted}
use Rattle.flow_nodes.specs.Cycles.{TellsCycles}
use Rattle.flow_nodes.specs.declared.cycles.Cycles.{Cycles}
use Rattle.flow_nodes.specs.declared.cycles.Cycles.TheVariants.{Free, First}
use Rattle.flow_cycles.specs.declared.graphs.Routes.TheVariants.{Whole}
use Rattle.flow_cycles.specs.Routes.{StandAt, IsCutGraph, IsFirstUncut, TellsFirstUncut, TellsRoutes}
use Rattle.flow_cycles.proofs.Marking.{points, clear_unmarked, unmarked_clear}
use Rattle.flow_cycles.proofs.Ways.{targets_long, edge_reaches, uncut_cycle, edge_inside, clear_inside, cycle_uncut}

pub told : (s' s : List Target) (f' f : List Fork) (c' c : List ℕ) (cycles' cycles : Cycles) → s' ≡ s → f' ≡ f → c' ≡ c → cycles' ≡ cycles
    → TellsCycles s' f' c' cycles' → TellsCycles s f c cycles
told s' s f' f c' c cycles' cycles es ef ec ey h =
    subst (TellsCycles s f c) ey (subst (λ x. TellsCycles s f x cycles') ec (subst (λ x. TellsCycles s x c' cycles') ef (subst (λ x. TellsCycles x f' c' cycles') es h)))

module _ (dialect : Dialect) (u : Routine) (starts : List Target) (forks : List Fork) (is : IsFlowOf dialect u forks starts) where
  long : length starts ≡ length u.lines
  long = targets_long dialect u forks 0 u.lines starts is.targets

  pub routed : IsFlowing u → IsRouted starts forks
  routed flowing = record {
    within = λ pc t e. subst (λ n. IsWithin n (length forks) t) (sym long) (is.within pc t e);
    falling = λ k f t e a. subst (λ n. IsWithin n k t) (sym long) (is.falling.falls k f t e a);
    few = (let l = long in let w = is.few in omega (arith, l, w));
    small = (let l = long in let w = flowing.few in omega (arith, l, w));
  }

  module _ (cuts : List ℕ) (notes : Notes) (stand : StandAt cuts notes) where
    abbrev marks : List Bool
    marks = cut_marks (length starts) cuts

    same : (q : ℕ) → get_or (cut_marks (length starts) cuts) q true ≡ get_or (cut_marks (length u.lines) (points notes.asserts)) q true
    same q = ap (λ n. get_or (cut_marks n cuts) q true) long ∙ ap (λ cs. get_or (cut_marks (length u.lines) cs) q true) stand

    unmarked : (q : ℕ) → cut_at u notes q ≡ NoCut → get_or (cut_marks (length starts) cuts) q true ≡ false
    unmarked q n = same q ∙ clear_unmarked u notes q n

    clear : (q : ℕ) → get_or (cut_marks (length starts) cuts) q true ≡ false → cut_at u notes q ≡ NoCut
    clear q e = unmarked_clear u notes q (sym (same q) ∙ e)

    first_is : (p : ℕ) → TellsCycles starts forks cuts (First p) → IsFirstUncut dialect u notes p
    first_is p h = record {
      inside = (let lt = h.0 in let l = long in omega (arith, lt, l));
      cycle = cycle_uncut dialect u notes (cut_marks (length starts) cuts) starts forks is.targets unmarked clear p h.0 h.1.0;
      first = λ q lt c. h.1.1 q lt (uncut_cycle dialect u notes (cut_marks (length starts) cuts) starts forks is.targets unmarked clear q c);
    }

    whole_is : (ranks : List ℕ) (n : ℕ) → n ≡ length u.lines → TellsCycles starts forks cuts (Free ranks)
        → IsCutGraph dialect u notes (record { starts = starts; forks = forks; cuts = cuts; ranks = ranks; size = n })
    whole_is ranks n size h = record {
      graph_of = record {
        size = size;
        starts = is.targets;
        within = λ pc t e. subst (λ k. IsWithin k (length forks) t) (sym size) (is.within pc t e);
        falling = λ k f t e a. subst (λ s. IsWithin s k t) (sym size) (is.falling.falls k f t e a);
        cuts = stand;
        ranks = h.long ∙ long ∙ sym size;
        growing = λ p q cs e c. h.growing p q
            (edge_inside dialect u notes (cut_marks (length starts) cuts) starts forks is.targets unmarked clear p q cs e)
            (clear_inside dialect u notes (cut_marks (length starts) cuts) starts forks is.targets unmarked clear q c)
            (edge_reaches dialect u notes (cut_marks (length starts) cuts) starts forks is.targets unmarked clear p q cs e c);
      };
      free = λ p c. h.free p (uncut_cycle dialect u notes (cut_marks (length starts) cuts) starts forks is.targets unmarked clear p c);
    }

  pub tells_first : (cuts : List ℕ) (p : ℕ) → TellsCycles starts forks cuts (First p) → TellsFirstUncut dialect u cuts p
  tells_first cuts p h = λ notes stand. first_is cuts notes stand p h

  pub inside_first : (cuts : List ℕ) (p : ℕ) → TellsCycles starts forks cuts (First p) → p < length u.lines
  inside_first cuts p h = (let lt = h.0 in let l = long in omega (arith, lt, l))

  abbrev made : List ℕ → List ℕ → ℕ → Graph
  made cuts ranks n = record { starts = starts; forks = forks; cuts = cuts; ranks = ranks; size = n }

  pub tells_whole : (cuts ranks : List ℕ) (n : ℕ) → n ≡ length u.lines → TellsCycles starts forks cuts (Free ranks) → TellsRoutes dialect u cuts (Whole (made cuts ranks n))
  tells_whole cuts ranks n size h p i same stand =
      let g : IsCutGraph dialect u (notes_of p i) (made cuts ranks n) = whole_is cuts (notes_of p i) stand ranks n size h in (
        λ rule card broken. g.free broken.1.point (subst (λ d. Uncut d u (notes_of p i) broken.1.point broken.1.point) same broken.1.cycle),
        subst (λ d. IsGraphOf d u (notes_of p i) (made cuts ranks n)) (sym same) g.graph_of,
      )

  pub tells_made : (cuts ranks : List ℕ) (n : ℕ) (s : List Target) (f : List Fork) → s ≡ starts → f ≡ forks → n ≡ length u.lines → TellsCycles starts forks cuts (Free ranks)
      → TellsRoutes dialect u cuts (Whole (record { starts = s; forks = f; cuts = cuts; ranks = ranks; size = n }))
  tells_made cuts ranks n s f es ef size h =
      subst (λ (x : List Target). TellsRoutes dialect u cuts (Whole (record { starts = x; forks = f; cuts = cuts; ranks = ranks; size = n }))) (sym es)
      (subst (λ (x : List Fork). TellsRoutes dialect u cuts (Whole (record { starts = starts; forks = x; cuts = cuts; ranks = ranks; size = n }))) (sym ef) (tells_whole cuts ranks n size h))
