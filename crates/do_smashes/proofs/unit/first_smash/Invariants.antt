use Rattle.std.proofs.Common.{◌≡◌, drop}
use Rattle.fort_syntax.specs.declared.rule.Rule.TheVariants.{DoSmashed}
use Rattle.fort_model.specs.Rules.{breaks_do}
use Rattle.unit_faults.specs.Sooner.{first_at}
use Rattle.do_smashes.specs.Clear.{AreClear}
use Rattle.do_smashes.specs.Guards.{AreKept}
use Rattle.do_smashes.specs.Hits.{unit_of, program_of}
use Rattle.do_smashes.proofs.unit.first_smash.Given as goal

abbrev pub invariant-loop-at : goal.invariant-loop-at
invariant-loop-at l = record {
  kept : AreKept (unit_of l.caller) l.at l.guards;
  clear : AreClear (program_of l.caller) (unit_of l.caller) l.guards l.at l.clear;
  so_far : first_at DoSmashed (breaks_do (program_of l.caller) (unit_of l.caller)) l.at (drop l.at (unit_of l.caller).lines)
      ≡ first_at DoSmashed (breaks_do (program_of l.caller) (unit_of l.caller)) 0 (unit_of l.caller).lines;
}
