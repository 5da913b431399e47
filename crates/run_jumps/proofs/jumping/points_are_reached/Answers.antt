use Rattle.run_state.specs.Deeds.{advanced}
use Rattle.run_jumps.proofs.Plain.{left_plain}
use Rattle.run_jumps.proofs.Reached.{reached}
use Rattle.run_jumps.proofs.jumping.points_are_reached.Goals as goal

pub returns : goal.returns
returns c code setting card q m inside within at = (reached code setting card q m inside within at, left_plain (advanced m) 0 q)
