-- What the runs of a deck go by.
use Rattle.std.specs.Prelude.{ℕ, ◌≡◌, IsTrue, List, length, Some, slice_get}
use Rattle.std.specs.List.{list_all}
use Rattle.fort_syntax.specs.WellFormed.{AreWellFormedUnits, agree_on_blocks}
use Rattle.fort_syntax.specs.declared.dialect.Dialect.{Dialect}
use Rattle.fort_syntax.specs.declared.unit.Unit.{Unit as Routine}
use Rattle.fort_model.specs.CallFacts.{sites_of_unit, IsCalleesTable}
use Rattle.fort_model.specs.CallOrder.{IsCallOrder}
use Rattle.fort_model.specs.Program.{Program}
use Rattle.fort_model.specs.Stages.{KeepsAll, rules_of_calls}
use Rattle.run_calls.specs.Calls.{AreSizesOf}
use Rattle.run_shapes.specs.Coded.{calls_coded, IsCodeOf}
use Rattle.run_shapes.specs.declared.unit_code.CallCode.{CallCode}
use Rattle.run_shapes.specs.declared.unit_code.Code.{Code}
use Rattle.run_state.specs.Shows.{HasApartNames, IsFitCall}
use Rattle.run_ranks.specs.Needs.{rank_at, IsRanked}
use Rattle.run_ranks.specs.declared.ranks.Ranks.{Ranks}

-- Units that can be run: they are well formed and agree on blocks, keep the rules on calls, call units that are
-- there, and stand in the order of calls.
pub record CanRun (dialect : Dialect) (units : List Routine) (order : List ℕ) : Type 0 where
  pub formed : AreWellFormedUnits dialect units
  pub blocks : IsTrue (list_all (λ u. list_all (agree_on_blocks u) units) units)
  pub keeps : (p : Program) → p.units ≡ units → KeepsAll p rules_of_calls
  pub rows : List (List ℕ)
  pub callees : IsCalleesTable units rows
  pub ordered : IsCallOrder units order

-- each call of code has an actual for each dummy, and hands the COMMON entities on
abbrev pub FitCalls : List Routine → Type 0
FitCalls units =
    (i j k : ℕ) (u g : Routine) (call : CallCode) → slice_get units i ≡ Some u → slice_get units j ≡ Some g
    → slice_get (calls_coded units 1 (sites_of_unit u)) k ≡ Some call → call.callee ≡ Some j → IsFitCall u g call

-- the code of units, and what their runs need
pub record IsRunnable (units : List Routine) (code : Code) (ranks : Ranks) : Type 0 where
  pub formed : AreWellFormedUnits code.dialect units
  pub coded : IsCodeOf code.dialect units code
  pub apart : (i : ℕ) (u : Routine) → slice_get units i ≡ Some u → HasApartNames u
  pub fit_calls : FitCalls units
  pub ranked : IsRanked code ranks
  pub long : length ranks.units ≡ length units
  pub sized : (i : ℕ) → AreSizesOf units i (rank_at ranks i).own
