-- Units that can be run, with their code and needs, are what runs go by.
use Rattle.std.proofs.Common.{◌≡◌, ℕ, List, Option, Some, None, slice_get, sym, ◌∙◌, subst}
use Rattle.std.specs.Prelude.{Result, Ok, Err, IfOk}
use Rattle.edge_io.specs.declared.errors.NoMemory.{NoMemory}
use Rattle.fort_syntax.specs.declared.unit.Unit.{Unit as Routine}
use Rattle.fort_laws.proofs.DeclaredDecks.{well_at}
use Rattle.fort_model.specs.Run.{own_sizes}
use Rattle.run_calls.specs.Calls.{AreSizesOf}
use Rattle.run_shapes.specs.Coded.{IsCodeOf}
use Rattle.run_shapes.specs.declared.unit_code.Code.{Code}
use Rattle.run_ranks.specs.Needs.{rank_at}
use Rattle.run_ranks.specs.Owns.{fixed_sizes}
use Rattle.run_ranks.specs.Raised.{ranks_of}
use Rattle.run_ranks.specs.Runnable.{CanRun, IsRunnable, FitCalls}
use Rattle.run_ranks.specs.declared.ranks.Ranks.{Ranks}
use Rattle.run_ranks.proofs.Apart.{apart}
use Rattle.run_ranks.proofs.Fit.{fits}
use Rattle.run_ranks.proofs.Ranked.{IsAt, here, beyond, at_unit, ranked, ranks_long}
use Rattle.run_ranks.proofs.Sized.{own_sized}
use Rattle.run_ranks.proofs.Tabled.{of_units}

not_there : (o : Option Routine) (g : Routine) → o ≡ Some g → o ≡ None → ⊥
not_there o g a b = cc

module _ (units : List Routine) (code : Code) (order : List ℕ) (ranks : Ranks) (coded : IsCodeOf code.dialect units code) (are : ranks.units ≡ ranks_of units code order)
    (can : CanRun code.dialect units order) where
  fit : FitCalls units
  fit = fits code.dialect units order can

  sized : (i : ℕ) → AreSizesOf units i (rank_at ranks i).own
  sized i g at env st = by (at_unit units code order ranks coded are i)
    where
      by : IsAt units code ranks i → (rank_at ranks i).own ≡ own_sizes g env st
      by (here u e k) = let same : u ≡ g = (let s : Some u ≡ Some g = sym e ∙ at in cc) in k.own ∙ subst (λ (z : Routine). fixed_sizes z.names ≡ own_sizes g env st) (sym same) (own_sized code.dialect g (well_at code.dialect units i g can.formed at) env st)
      by (beyond e r c) = absurd (not_there (slice_get units i) g at e)

  pub runnable : IsRunnable units code ranks
  runnable = record {
    formed = can.formed;
    coded = coded;
    apart = λ i u at. apart code.dialect u (well_at code.dialect units i u can.formed at);
    fit_calls = fit;
    ranked = ranked units code order ranks coded are can.ordered (of_units units can.rows can.callees) fit;
    long = ranks_long units code order ranks coded are;
    sized = sized;
  }

pub if_runnable : (units : List Routine) (code : Code) (order : List ℕ) (r : Result Ranks NoMemory) → IsCodeOf code.dialect units code → CanRun code.dialect units order
    → IfOk r (λ x. x.units ≡ ranks_of units code order) → IfOk r (IsRunnable units code)
if_runnable units code order (Ok ranks) coded can are = runnable units code order ranks coded are can
if_runnable units code order (Err e) coded can are = tt
