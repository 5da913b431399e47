-- The names that DOs keep, and how far: a table of names with points.
use Rattle.std.specs.Prelude.{◌≡◌, ℕ, suc, max, nat_lt, Bool, cond, List, [], ◌∷◌, take}
use Rattle.std.specs.Option.{unwrap_or}
use Rattle.std.specs.Map.{lookup}
use Rattle.formula.specs.Atoms.{same_bytes, is_among}
use Rattle.fort_syntax.specs.declared.name.Name.{Name}
use Rattle.fort_syntax.specs.declared.unit.Unit.{Unit as Routine}
use Rattle.fort_model.specs.Ranges.{DoRange, dos_from}

-- the point up to which a name is kept, by a table; 0 where the table does not have it
abbrev pub kept_to : List (Name × ℕ) → Name → ℕ
kept_to table x = unwrap_or (lookup (same_bytes x) table) 0

-- at a point a name is kept
abbrev pub is_kept : List (Name × ℕ) → ℕ → Name → Bool
is_kept table at x = nat_lt at (kept_to table x)

-- a point, or a later one where that is wanted
abbrev pub further : Bool → ℕ → ℕ → ℕ
further wanted end had = cond wanted (max had end) had

-- a table keeps some names up to a point at least, and else what it kept before
abbrev pub Keeps : (old new : List (Name × ℕ)) → List Name → ℕ → Type 0
Keeps old new names end = (x : Name) → kept_to new x ≡ further (is_among x names) end (kept_to old x)

-- the point up to which DOs keep a name, each up to the end of its range, and what it was before
abbrev pub kept_by : List DoRange → Name → ℕ → ℕ
kept_by [] x had = had
kept_by (d ∷ ds) x had = kept_by ds x (further (is_among x d.names) (suc d.range.last) had)

-- a table keeps what the DOs keep that stand before a point
abbrev pub AreKept : Routine → ℕ → List (Name × ℕ) → Type 0
AreKept u at table = (x : Name) → kept_to table x ≡ kept_by (dos_from u 0 (take at u.lines)) x 0
