-- What each unit needs itself.
use Rattle.std.specs.Prelude.{ℕ, ◌+◌, ◌-◌, ◌*◌, max, List, [], ◌∷◌, length, map}
use Rattle.fort_syntax.specs.Names.{own_in}
use Rattle.fort_syntax.specs.declared.stmt.Dim.{Dim}
use Rattle.fort_syntax.specs.declared.stmt.Dim.TheVariants.{Fixed, Named}
use Rattle.fort_syntax.specs.declared.unit.DataName.{DataName}
use Rattle.fort_syntax.specs.declared.unit.Unit.{Unit as Routine}
use Rattle.run_shapes.specs.declared.unit_code.LineCode.{LineCode}
use Rattle.run_shapes.specs.declared.unit_code.UnitCode.{UnitCode}
use Rattle.run_ranks.specs.declared.ranks.UnitRank.{UnitRank}

-- a number times all constants among dimensions
abbrev pub fixed_from : ℕ → List Dim → ℕ
fixed_from q [] = q
fixed_from q (Fixed n ∷ ds) = fixed_from (q * n) ds
fixed_from q (Named x ∷ ds) = fixed_from q ds

-- how many cells each of the own names of some data names has
abbrev pub fixed_sizes : List DataName → List ℕ
fixed_sizes ds = map (λ d. fixed_from 1 d.dims) (own_in ds)

-- a number and the sum of some
abbrev pub total_from : ℕ → List ℕ → ℕ
total_from q [] = q
total_from q (n ∷ ns) = total_from (q + n) ns

-- the greatest of a number and the lengths of statements
abbrev pub longest_from : ℕ → List LineCode → ℕ
longest_from q [] = q
longest_from q (l ∷ ls) = longest_from (max q (l.stop - l.start)) ls

-- what a unit needs itself, with own names of these sizes
abbrev pub rank_by : List ℕ → UnitCode → UnitRank
rank_by own c = record {
  own = own;
  cells = total_from 0 own;
  slots = c.slots.dummies + length own + length c.shared;
  long = longest_from 0 c.lines;
  frames = 0;
  values = longest_from 0 c.lines;
  names = c.slots.dummies + length own + length c.shared;
  plain = total_from 0 own;
  copies = 0;
}

abbrev pub own_rank : Routine → UnitCode → UnitRank
own_rank u c = rank_by (fixed_sizes u.names) c

-- so for each unit
abbrev pub own_ranks : List Routine → List UnitCode → List UnitRank
own_ranks [] cs = []
own_ranks (u ∷ us) [] = []
own_ranks (u ∷ us) (c ∷ cs) = own_rank u c ∷ own_ranks us cs
