use Rattle.fort_laws.proofs.Falling.{clocks_fall_only_so_often as law}
use Rattle.fort_laws.proofs.clocks.clocks_fall_only_so_often.Goals as goal

pub returns : goal.returns
returns c = law
