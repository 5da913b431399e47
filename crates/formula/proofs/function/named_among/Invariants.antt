use Rattle.std.proofs.Common.{◌≡◌, drop}
use Rattle.formula.specs.Reading.{built_in_among}
use Rattle.formula.proofs.function.named_among.Given as goal

abbrev pub invariant-loop-f : goal.invariant-loop-f
invariant-loop-f l = built_in_among l.functions l.name ≡ built_in_among (drop l.f-index l.functions) l.name
