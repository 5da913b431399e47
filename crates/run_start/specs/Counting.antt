-- A start of a unit whose names are known.
use Rattle.std.specs.Prelude.{ℕ, ◌≡◌, ◌+◌, ◌≤◌, ◌<◌, ◌^◌, nat_le, Bool, false, List, [], ◌++◌, map, length, Option, Some, None, Result, slice_get}
use Rattle.fort_syntax.specs.declared.unit.Unit.{Unit as Routine}
use Rattle.fort_notes.specs.declared.cases.Given.{Given}
use Rattle.run_ranks.specs.Needs.{rank_at, cells_need}
use Rattle.run_ranks.specs.Runnable.{IsRunnable}
use Rattle.run_state.specs.declared.machine.Setting.{Setting}
use Rattle.run_state.specs.declared.machine.Stage.TheVariants as stage
use Rattle.run_state.specs.declared.machine.State.{State}
use Rattle.run_start.specs.Counted.{number}
use Rattle.run_start.specs.Decks.{AreStarts}
use Rattle.run_start.specs.Filled.{filled, ends_from, segment_by}
use Rattle.run_start.specs.Started.{IsFirst, IsStartBy}
use Rattle.run_start.specs.Starts.{entities, has_bad_shape, size_at_start}
use Rattle.run_start.specs.declared.entries.Entries.{Entries}
use Rattle.run_start.specs.declared.refusal.RunRefusal.{RunRefusal}
use Rattle.run_start.specs.declared.runnable.Runnable.{Runnable}

-- the unit of a number of a deck
pub record IsUnitOf (deck : Runnable) (i : ℕ) (u : Routine) : Type 0 where
  pub runnable : IsRunnable deck.units.now deck.code.now deck.ranks.now
  pub starts : AreStarts deck.units.now deck.code.now deck.ranks.now deck.starts.now
  pub unit_at : slice_get deck.units.now i ≡ Some u

-- the sizes of the start entities, which are in shape
pub record AreSizes (u : Routine) (given : List Given) (sizes : List (Option ℕ)) : Type 0 where
  pub shaped : has_bad_shape u given ≡ false
  pub sizes_are : sizes ≡ map (λ x. number (size_at_start u given x)) (entities u)

-- a number that is not too great
abbrev pub is_small : Option ℕ → Bool
is_small None = false
is_small (Some n) = nat_le n 4000000

-- a start of the unit with these entries, whose first refusal is this one
abbrev pub IsStartOf : Runnable → Setting → Entries → Option RunRefusal → Result State RunRefusal → Type 0
IsStartOf deck setting e first result = IsStartBy first (IsFirst deck.units.now deck.code.now deck.ranks.now
    setting e.unit.now e.given.now) result

-- a state that is begun with cells of these sizes, of which there are so many, and none more than so many
pub record IsBegun (deck : Runnable) (i : ℕ) (u : Routine) (given : List Given) (sizes : List (Option ℕ))
    (count most : ℕ) (m : State) : Type 0 where
  pub stage_is : m.stage ≡ stage.Entering
  pub unit_is : m.frame.unit ≡ i
  pub extents_are : m.frame.extents ≡ length deck.code.now.commons
  pub no_callers : m.callers.items ≡ []
  pub no_values : m.values.items ≡ []
  pub names_are : m.extents.items ≡ segment_by (entities u) (ends_from 0 sizes) deck.code.now.commons ++ segment_by
      (entities u) (ends_from 0 sizes) u.dummies
  pub cells_are : m.cells.items ≡ filled given (entities u) sizes
  pub callers_room : m.callers.room ≡ (rank_at deck.ranks.now i).frames
  pub values_room : m.values.room ≡ (rank_at deck.ranks.now i).values
  pub names_room : length deck.code.now.commons + (rank_at deck.ranks.now i).names ≤ m.extents.room
  pub cells_room : m.cells.room ≡ count + cells_need most (rank_at deck.ranks.now i)
  pub small : m.cells.room < 2 ^ 64
