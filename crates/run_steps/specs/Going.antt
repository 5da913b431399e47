-- States that can go on.
use Rattle.std.specs.Prelude.{ℕ}
use Rattle.run_ranks.specs.Needs.{SizesWithin, rank_at}
use Rattle.run_ranks.specs.Room.{HasRoom}
use Rattle.run_start.specs.declared.runnable.Runnable.{Runnable}
use Rattle.run_state.specs.declared.machine.State.{State}

-- There is room for the rest of a state's run, where no array has more than so many cells.
pub record CanGoOn (deck : Runnable) (m : State) : Type 0 where
  pub most : ℕ
  pub room : HasRoom deck.code.now deck.ranks.now most m
  pub own_within : (i : ℕ) → SizesWithin most (rank_at deck.ranks.now i).own
