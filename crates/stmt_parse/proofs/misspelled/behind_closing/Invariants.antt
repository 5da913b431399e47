use Rattle.std.proofs.Common.{◌≡◌, ◌≤◌, ◌+◌, length}
use Rattle.fort_syntax.specs.Misspelled.{behind_closing}
use Rattle.stmt_parse.proofs.misspelled.behind_closing.Given as goal

abbrev pub invariant-loop-rest : goal.invariant-loop-rest
invariant-loop-rest l = (l.opened + length l.rest ≤ length l.text) × (behind_closing l.opened l.rest ≡ behind_closing 0 l.text)

abbrev pub decreases-loop-rest : goal.decreases-loop-rest
decreases-loop-rest l = length l.rest
