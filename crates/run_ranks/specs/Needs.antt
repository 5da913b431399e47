-- What the run of a unit needs, by the order of calls.
use Rattle.std.specs.Prelude.{ℕ, suc, ◌+◌, ◌*◌, ◌-◌, ◌≡◌, ◌≤◌, List, [], ◌∷◌, length, sum, Some, slice_get, get_or}
use Rattle.run_shapes.specs.declared.unit_code.CallCode.{CallCode}
use Rattle.run_shapes.specs.declared.unit_code.Code.{Code}
use Rattle.run_shapes.specs.declared.unit_code.LineCode.{LineCode}
use Rattle.run_state.specs.Shows.{unit_code}
use Rattle.run_ranks.specs.declared.ranks.UnitRank.{UnitRank}
use Rattle.run_ranks.specs.declared.ranks.Ranks.{Ranks}

-- the needs of a number that no unit has
abbrev pub no_rank : UnitRank
no_rank = record { own = []; cells = 0; slots = 0; long = 0; frames = 0; values = 0; names = 0; plain = 0; copies = 0 }

-- the needs of the unit of a number
abbrev pub rank_at : Ranks → ℕ → UnitRank
rank_at ranks i = get_or ranks.units i no_rank

-- the cells that a run of the unit needs behind those that there are, where no copy has more than so many
abbrev pub cells_need : ℕ → UnitRank → ℕ
cells_need most r = r.plain + r.copies * most

-- what a called unit needs is among what its caller needs
pub record HoldsCall (code : Code) (ranks : Ranks) (i j : ℕ) : Type 0 where
  pub frames : suc (rank_at ranks j).frames ≤ (rank_at ranks i).frames
  pub values : (rank_at ranks i).long + (rank_at ranks j).values ≤ (rank_at ranks i).values
  pub names : (rank_at ranks i).slots + (rank_at ranks j).names ≤ (rank_at ranks i).names
  pub plain : (rank_at ranks i).cells + (rank_at ranks j).plain ≤ (rank_at ranks i).plain
  pub copies : (unit_code code j).slots.dummies + (rank_at ranks j).copies ≤ (rank_at ranks i).copies

-- a call in a unit is one of a unit that is there, with an actual for each dummy, whose needs are among the caller's
pub record IsRankedCall (code : Code) (ranks : Ranks) (i : ℕ) (call : CallCode) : Type 0 where
  pub unit : ℕ
  pub callee_is : call.callee ≡ Some unit
  pub counted : call.actuals ≡ (unit_code code unit).slots.dummies
  pub holds : HoldsCall code ranks i unit

-- what the ranks say is enough
pub record IsRanked (code : Code) (ranks : Ranks) : Type 0 where
  pub calls : (i k : ℕ) (call : CallCode) → slice_get (unit_code code i).calls k ≡ Some call → IsRankedCall code ranks i call
  pub long : (i pc : ℕ) (l : LineCode) → slice_get (unit_code code i).lines pc ≡ Some l
      → l.stop - l.start ≤ (rank_at ranks i).long
  pub own : (i : ℕ) → sum (rank_at ranks i).own ≡ (rank_at ranks i).cells
  pub slots : (i : ℕ) → (unit_code code i).slots.dummies + length (rank_at ranks i).own + length
      (unit_code code i).shared ≡ (rank_at ranks i).slots
  pub values : (i : ℕ) → (rank_at ranks i).long ≤ (rank_at ranks i).values
  pub names : (i : ℕ) → (rank_at ranks i).slots ≤ (rank_at ranks i).names
  pub plain : (i : ℕ) → (rank_at ranks i).cells ≤ (rank_at ranks i).plain

-- no size of some is more than so many
abbrev pub SizesWithin : ℕ → List ℕ → Type 0
SizesWithin most [] = Unit {0}
SizesWithin most (size ∷ sizes) = (size ≤ most) × SizesWithin most sizes
