-- What the starts of a deck go by.
use Rattle.std.specs.Prelude.{ℕ, zero, suc, ◌≡◌, nat_le, ◌&&◌, Bool, true, false, max, List, [], ◌∷◌, Option, Some, None, slice_get}
use Rattle.std.specs.List.{list_all}
use Rattle.fort_notes.specs.declared.cases.Passing.{Passing}
use Rattle.fort_notes.specs.declared.cases.Passing.TheVariants.{Reference, Copy, Listed}
use Rattle.fort_notes.specs.declared.cases.Site.{Site}
use Rattle.fort_syntax.specs.declared.unit.Unit.{Unit as Routine}
use Rattle.run_ranks.specs.declared.ranks.Ranks.{Ranks}
use Rattle.run_ranks.specs.declared.ranks.UnitRank.{UnitRank}
use Rattle.run_shapes.specs.declared.unit_code.CallCode.{CallCode}
use Rattle.run_shapes.specs.declared.unit_code.Code.{Code}
use Rattle.run_shapes.specs.declared.unit_code.UnitCode.{UnitCode}
use Rattle.run_start.specs.Counted.{plus_to}
use Rattle.run_start.specs.Places.{ArePlacesOf, names_of_units, first_place}
use Rattle.run_start.specs.declared.starts.Starts.{Starts}

-- how many own cells units have
abbrev pub own_from : Option ℕ → List UnitRank → Option ℕ
own_from q [] = q
own_from q (r ∷ rs) = own_from (plus_to q (Some r.cells)) rs

-- how many dummies
abbrev pub dummies_from : Option ℕ → List UnitCode → Option ℕ
dummies_from q [] = q
dummies_from q (c ∷ cs) = dummies_from (plus_to q (Some c.slots.dummies)) cs

-- how long the longest of their own arrays is
abbrev pub longest_size : ℕ → List ℕ → ℕ
longest_size q [] = q
longest_size q (n ∷ ns) = longest_size (max q n) ns

-- of all units
abbrev pub longest_rank : ℕ → List UnitRank → ℕ
longest_rank q [] = q
longest_rank q (r ∷ rs) = longest_rank (longest_size q r.own) rs

-- the table of units by name, and what is counted once for all starts
pub record AreStarts (units : List Routine) (code : Code) (ranks : Ranks) (starts : Starts) : Type 0 where
  pub places : ArePlacesOf (names_of_units units) starts.places
  pub own : starts.own ≡ own_from (Some 0) ranks.units
  pub dummies : starts.dummies ≡ dummies_from (Some 0) code.units
  pub longest : starts.longest ≡ longest_rank 1 ranks.units

-- ---- sites, by code

-- an argument of a call, counted from 1
abbrev pub coded_place : Option CallCode → ℕ → Bool
coded_place None k = false
coded_place (Some c) k = nat_le 1 k && nat_le k c.actuals

-- the call of a number, from 1
abbrev pub coded_call : List CallCode → ℕ → Option CallCode
coded_call calls zero = None
coded_call calls (suc k) = slice_get calls k

-- a site is that of an argument of a call in a unit
abbrev pub coded_site : Option UnitCode → Site → Bool
coded_site None s = false
coded_site (Some c) s = coded_place (coded_call c.calls s.call) s.place

-- so in the unit of a number
abbrev pub coded_site_in : List UnitCode → Option ℕ → Site → Bool
coded_site_in codes None s = false
coded_site_in codes (Some i) s = coded_site (slice_get codes i) s

-- all sites are such, with the units by name
abbrev pub all_coded : List Routine → List UnitCode → List Site → Bool
all_coded units codes sites = list_all (λ s. coded_site_in codes (first_place (names_of_units units) s.unit 0) s) sites

-- so where sites are listed
abbrev pub are_coded_sites : List Routine → List UnitCode → Passing → Bool
are_coded_sites units codes Reference = true
are_coded_sites units codes Copy = true
are_coded_sites units codes (Listed sites) = all_coded units codes sites
