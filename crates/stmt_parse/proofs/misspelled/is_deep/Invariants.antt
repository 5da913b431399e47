use Rattle.std.proofs.Common.{◌≡◌, drop}
use Rattle.fort_syntax.specs.Grammar.{is_deep_from}
use Rattle.stmt_parse.proofs.misspelled.is_deep.Given as goal

abbrev pub invariant-loop-b : goal.invariant-loop-b
invariant-loop-b l = is_deep_from l.opened (drop l.b-index l.text) ≡ is_deep_from 0 l.text
