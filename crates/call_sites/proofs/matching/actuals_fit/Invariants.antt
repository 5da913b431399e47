use Rattle.std.proofs.Common.{◌≡◌, drop}
use Rattle.fort_model.specs.Arguments.{all_fit}
use Rattle.call_sites.proofs.matching.actuals_fit.Given as goal

abbrev pub invariant-loop-i : goal.invariant-loop-i
invariant-loop-i l = all_fit l.callee.unit.now l.actuals l.caller.unit.now (drop l.i l.dummies) (drop l.i l.actuals) ≡ all_fit l.callee.unit.now l.actuals l.caller.unit.now l.dummies l.actuals
