use Rattle.std.proofs.Common.{◌≡◌, [], drop}
use Rattle.fort_syntax.specs.Units.{blocks_by}
use Rattle.decl_faults.specs.Commons.{given_from}
use Rattle.unit_decl.proofs.unit_blocks.blocks_of.Given as goal

abbrev pub invariant-loop-line : goal.invariant-loop-line
invariant-loop-line l = given_from blocks_by l.blocks (drop l.line-index l.unit) ≡ given_from blocks_by [] l.unit
