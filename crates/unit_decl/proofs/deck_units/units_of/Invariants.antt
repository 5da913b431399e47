use Rattle.std.proofs.Common.{◌≡◌, ◌++◌, true, length}
use Rattle.std.specs.Prelude.{map}
use Rattle.std.specs.List.{list_all}
use Rattle.fort_syntax.specs.Units.{segments, unit_of}
use Rattle.unit_decl.specs.Heads.{is_headed}
use Rattle.unit_decl.proofs.deck_units.units_of.Given as goal

abbrev pub invariant-loop-rest : goal.invariant-loop-rest
invariant-loop-rest l = record {
  units : (l.all.items ++ map unit_of (segments l.rest)) ≡ map unit_of (segments l.lines);
  heads : list_all is_headed (segments l.rest) ≡ true;
}

abbrev pub decreases-loop-rest : goal.decreases-loop-rest
decreases-loop-rest l = length l.rest
