use Rattle.std.proofs.Common.{◌≡◌, drop}
use Rattle.fort_model.specs.Arguments.{dims_agree}
use Rattle.call_sites.proofs.matching.dims_agree.Given as goal

abbrev pub invariant-loop-i : goal.invariant-loop-i
invariant-loop-i l = dims_agree l.callee.unit.now l.actuals (drop l.i l.dummy) (drop l.i l.actual) ≡ dims_agree l.callee.unit.now l.actuals l.dummy l.actual
