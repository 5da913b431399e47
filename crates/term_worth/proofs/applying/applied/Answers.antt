use Rattle.term_worth.proofs.Applied.{and_answers, or_answers, many_answers}
use Rattle.term_worth.proofs.applying.applied.Goals as goal

pub returns-in-And : goal.returns-in-And
returns-in-And c = and_answers c.args.entries.now c.args.made.now c.args.f c.args.args.now c.truth.result c.all_hold.result c.in-And.is c.all_hold.ensures c.truth.ensures

pub returns-in-Or : goal.returns-in-Or
returns-in-Or c = or_answers c.args.entries.now c.args.made.now c.args.f c.args.args.now c.truth-in-Or.result c.any_holds.result c.in-Or.is c.any_holds.ensures c.truth-in-Or.ensures

pub returns-in_default-args : goal.returns-in_default-args
returns-in_default-args c = many_answers c.args.entries.now c.args.made.now c.args.f c.args.args.now c.in_default.not-And c.in_default.not-Or c.in_default-args.len_at_least
