-- The start entities of a run, and their cells.
use Rattle.std.specs.Prelude.{ℕ, suc, List, [], ◌∷◌, ◌++◌, length, map, Option, Some, None, slice_get, slice_index_or}
use Rattle.fort_syntax.specs.declared.name.Name.{Name}
use Rattle.fort_model.specs.Storage.{Environment}
use Rattle.run_state.specs.Deeds.{no_cells}
use Rattle.run_state.specs.Near.{shortened}
use Rattle.run_state.specs.declared.machine.Extent.{Extent}
use Rattle.run_eval.specs.declared.entries.Entry.{Entry}

-- names with the cells that an environment gives them
abbrev pub entries_in : Environment → List Name → List Entry
entries_in env xs = map (λ x. record { name = x; cells = shortened (env x) }) xs

-- names with extents that stand side by side, the first one at a place
abbrev pub side_entries : List Name → ℕ → List Extent → List Entry
side_entries [] i es = []
side_entries (x ∷ xs) i es = record { name = x; cells = slice_index_or es i no_cells } ∷ side_entries xs (suc i) es

-- an entry where there is a name
abbrev pub entry_of : Option Name → Extent → List Entry
entry_of None e = []
entry_of (Some x) e = record { name = x; cells = e } ∷ []

-- the names at places among some, with the extents at these places
abbrev pub placed_entries : List ℕ → List Name → List Extent → List Entry
placed_entries [] names es = []
placed_entries (i ∷ is) names es = entry_of (slice_get names i) (slice_index_or es i no_cells) ++ placed_entries is names es

-- dummies, whose extents stand behind those of all COMMON entities of the deck, and the COMMON entities at places among these
abbrev pub entries_of : List Name → List Name → List ℕ → List Extent → List Entry
entries_of commons dummies shared es = side_entries dummies (length commons) es ++ placed_entries shared commons es
