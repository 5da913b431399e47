use Rattle.std.proofs.Common.{◌+◌, ◌*◌, ◌≡◌}
use Rattle.stmt_parse.specs.Parsing.{more_arguments, climb, parse}
use Rattle.stmt_parse.proofs.expressions.+parse.Given as goal

abbrev pub decreases-parse : goal.decreases-parse
decreases-parse l = 8 * l.rounds

abbrev pub decreases-front : goal.decreases-front
decreases-front l = 8 * l.rounds + 6

abbrev pub decreases-primary : goal.decreases-primary
decreases-primary l = 8 * l.rounds + 5

abbrev pub decreases-named : goal.decreases-named
decreases-named l = 8 * l.rounds + 4

abbrev pub decreases-bracketed_arguments : goal.decreases-bracketed_arguments
decreases-bracketed_arguments l = 8 * l.rounds + 3

abbrev pub decreases-bracket : goal.decreases-bracket
decreases-bracket l = 8 * l.rounds + 2

abbrev pub decreases-arguments : goal.decreases-arguments
decreases-arguments l = 8 * l.rounds + 2

abbrev pub decreases-more_arguments : goal.decreases-more_arguments
decreases-more_arguments l = 8 * l.rounds + 1

abbrev pub decreases-climb : goal.decreases-climb
decreases-climb l = 8 * l.rounds + 2

abbrev pub invariant-more_arguments-loop-left : goal.invariant-more_arguments-loop-left
invariant-more_arguments-loop-left l = more_arguments (parse l.rounds) l.left l.all.items l.rest ≡ more_arguments (parse l.rounds) l.rounds l.fn.first.items l.text

abbrev pub decreases-more_arguments-loop-left : goal.decreases-more_arguments-loop-left
decreases-more_arguments-loop-left l = l.left

abbrev pub invariant-climb-loop-left : goal.invariant-climb-loop-left
invariant-climb-loop-left l = climb (parse l.rounds) l.left l.k l.e l.rest ≡ climb (parse l.rounds) l.rounds l.k l.fn.first l.text

abbrev pub decreases-climb-loop-left : goal.decreases-climb-loop-left
decreases-climb-loop-left l = l.left
