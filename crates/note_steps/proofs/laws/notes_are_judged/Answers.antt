use Rattle.note_steps.proofs.Judges.{judge_is}
use Rattle.note_steps.proofs.laws.notes_are_judged.Goals as goal

pub returns : goal.returns
returns c = judge_is
