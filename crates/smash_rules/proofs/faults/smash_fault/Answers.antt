use Rattle.std.proofs.Common.{Option, subst, sym}
use Rattle.fort_syntax.specs.FirstFaults.{TellsLeast}
use Rattle.fort_syntax.specs.declared.refusal.Fault.{Fault}
use Rattle.fort_model.specs.Stages.{IsBrokenOf, rules_of_smashing}
use Rattle.smash_rules.proofs.Telling.{least_of}
use Rattle.smash_rules.proofs.faults.smash_fault.Goals as goal

pub returns : goal.returns
returns c p e f =
    subst (λ (o : Option Fault). TellsLeast (IsBrokenOf p rules_of_smashing) o) (sym c.in_ok-fault.ensures)
    (least_of c.requires.well.0 c.args.deck.now.units.now c.args.rows.now c.requires.well.1 c.requires.ascend p e f)
