use Rattle.std.proofs.Common.{length, true, ◌≡◌}
use Rattle.formula.specs.Pool.{tree_of}
use Rattle.event_text.specs.TermText.{term_text}
use Rattle.event_reading.specs.declared.comparing.Comparing.{Comparing}
use Rattle.event_reading.specs.Matches.{Nears}
use Rattle.event_reading.specs.Names.{known_names}
use Rattle.event_reading.specs.Rests.{pending, AreOpen}
use Rattle.event_reading.proofs.writing.is_term_text.Given as goal

-- what was passed and what is pending are the text of the term
abbrev pub invariant-loop-bracket : goal.invariant-loop-bracket
invariant-loop-bracket l = record {
  inside : AreOpen l.pool l.stack;
  nears : (start : Comparing) → start.same ≡ true → start.rest.now ≡ l.fn.text → Nears start l.out (term_text (known_names l.known) (tree_of l.pool l.fn.id)) (pending (known_names l.known) l.pool l.stack);
}

abbrev pub decreases-loop-bracket : goal.decreases-loop-bracket
decreases-loop-bracket l = length (pending (known_names l.known) l.pool l.stack)
