use Rattle.std.proofs.Common.{◌≡◌, ◌≤◌, drop}
use Rattle.fort_syntax.specs.Misspelled.{has_big_from}
use Rattle.stmt_parse.proofs.misspelled.has_big.Given as goal

abbrev pub invariant-loop-b : goal.invariant-loop-b
invariant-loop-b l = (l.n ≤ 18) × (has_big_from l.n (drop l.b-index l.text) ≡ has_big_from 0 l.text)
