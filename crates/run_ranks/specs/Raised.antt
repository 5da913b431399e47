-- What units need with all that they call: in the order of calls, the greatest of what the called units need, and their own.
use Rattle.std.specs.Prelude.{ℕ, ◌+◌, max, List, [], ◌∷◌, Option, Some, None, slice_get, slice_set}
use Rattle.fort_syntax.specs.declared.unit.Unit.{Unit as Routine}
use Rattle.run_shapes.specs.declared.unit_code.CallCode.{CallCode}
use Rattle.run_shapes.specs.declared.unit_code.Code.{Code}
use Rattle.run_shapes.specs.declared.unit_code.UnitCode.{UnitCode}
use Rattle.run_ranks.specs.Owns.{own_ranks}
use Rattle.run_ranks.specs.declared.ranks.UnitRank.{UnitRank}
use Rattle.run_ranks.specs.declared.wants.Wants.{Wants}

-- what a unit wants without calls
abbrev pub own_wants : UnitRank → Wants
own_wants r = record { frames = 0; values = r.long; names = r.slots; plain = r.cells; copies = 0 }

-- and with a call of a unit that has so many dummies
abbrev pub with_callee : UnitRank → Wants → ℕ → UnitRank → Wants
with_callee r w dummies callee = record {
  frames = max w.frames (callee.frames + 1);
  values = max w.values (r.long + callee.values);
  names = max w.names (r.slots + callee.names);
  plain = max w.plain (r.cells + callee.plain);
  copies = max w.copies (dummies + callee.copies);
}

abbrev pub with_pair : UnitRank → Wants → Option UnitCode → Option UnitRank → Wants
with_pair r w (Some c) (Some callee) = with_callee r w c.slots.dummies callee
with_pair r w _ _ = w

module _ (codes : List UnitCode) (ranks : List UnitRank) (r : UnitRank) where
  abbrev pub with_call : Wants → Option ℕ → Wants
  with_call w None = w
  with_call w (Some j) = with_pair r w (slice_get codes j) (slice_get ranks j)

  -- with all of some calls
  abbrev pub with_calls : Wants → List CallCode → Wants
  with_calls w [] = w
  with_calls w (call ∷ calls) = with_calls (with_call w call.callee) calls

-- a unit's needs become what it wants
abbrev pub settled : UnitRank → Wants → UnitRank
settled r w = record r { frames = w.frames; values = w.values; names = w.names; plain = w.plain; copies = w.copies }

abbrev pub raised_by : List UnitCode → List UnitRank → ℕ → Option UnitCode → Option UnitRank → List UnitRank
raised_by codes ranks i (Some c) (Some r) = slice_set ranks i (settled r (with_calls codes ranks r (own_wants r) c.calls))
raised_by codes ranks i _ _ = ranks

-- the needs of the unit of a number are raised by those that it calls
abbrev pub raised : List UnitCode → List UnitRank → ℕ → List UnitRank
raised codes ranks i = raised_by codes ranks i (slice_get codes i) (slice_get ranks i)

-- those of all units of an order
abbrev pub all_raised : List UnitCode → List UnitRank → List ℕ → List UnitRank
all_raised codes ranks [] = ranks
all_raised codes ranks (i ∷ is) = all_raised codes (raised codes ranks i) is

-- what the units of a deck need, with all that they call
abbrev pub ranks_of : List Routine → Code → List ℕ → List UnitRank
ranks_of units code order = all_raised code.units (own_ranks units code.units) order
