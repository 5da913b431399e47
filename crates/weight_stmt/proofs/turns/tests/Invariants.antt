use Rattle.std.proofs.Common.{◌≡◌, drop}
use Rattle.weight_calls.specs.Subjects.{sight_of}
use Rattle.weight_terms.specs.Held.{held, marked}
use Rattle.weight_stmt.proofs.TestSteps.{left}
use Rattle.weight_stmt.proofs.turns.tests.Given as goal

abbrev pub invariant-loop-at : goal.invariant-loop-at
invariant-loop-at l = record {
  left : left (sight_of l.subject) l.subject.book.now.unit.now.lines (held l.names) l.load (drop l.at-index l.points) (drop l.used l.choices)
      ≡ left (sight_of l.subject) l.subject.book.now.unit.now.lines (held l.fn.names) l.initial.load l.points l.choices;
  marks : marked l.names ≡ marked l.fn.names;
}
