-- What is known of a unit's ranges.
use Rattle.std.specs.Prelude.{◌≡◌, length}
use Rattle.range_cover.specs.Covers.{AreEnds, AreCovers}
use Rattle.fort_syntax.specs.declared.unit.Unit.{Unit as Routine}
use Rattle.unit_points.specs.Labels.{AreLabelsOf}
use Rattle.unit_points.specs.Turns.{AreTurnsOf}
use Rattle.do_ranges.specs.Ends.{do_ends, block_ends}
use Rattle.do_ranges.specs.declared.known.Known.{Known}
use Rattle.do_ranges.specs.declared.known.Ranges.{Ranges}

-- ends, and what covers each point by them
pub record AreRanges (r : Ranges) : Type 0 where
  pub ends : AreEnds r.ends.items
  pub covers : AreCovers r.ends.items r.covers

pub record IsKnownOf (u : Routine) (k : Known) : Type 0 where
  pub labels : AreLabelsOf u.lines k.labels
  pub turns : AreTurnsOf u k.turns
  pub dos : k.dos.ends.items ≡ do_ends u
  pub blocks : k.blocks.ends.items ≡ block_ends u
  pub do_long : length k.dos.ends.items ≡ length u.lines
  pub block_long : length k.blocks.ends.items ≡ length u.lines
  pub do_ranges : AreRanges k.dos
  pub block_ranges : AreRanges k.blocks
