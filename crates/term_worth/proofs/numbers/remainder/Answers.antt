use Rattle.std.proofs.Common.{◌∙◌, ap}
use Rattle.std.proofs.lemmas.Int.{rem_is}
use Rattle.term_worth.specs.Ranges.{in_range}
use Rattle.term_worth.proofs.Remainders.{remainder_is}
use Rattle.term_worth.proofs.numbers.remainder.Goals as goal

pub returns-in_default : goal.returns-in_default
returns-in_default c =
    c.ranged-in_default.ensures ∙ ap in_range (rem_is _ c.args.a c.args.b c.ranges.a c.ranges.b ∙ remainder_is c.args.a c.args.b)
