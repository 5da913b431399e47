use Rattle.deck_judging.specs.Judged.{IsJudgedIn}
use Rattle.deck_judging.specs.Stages.{IsFoundAs}
use Rattle.deck_judging.proofs.Texts.{judged_in, short_in}
use Rattle.deck_judging.proofs.Weaker.{ok_weaker}
use Rattle.deck_judging.proofs.text.judged.Goals as goal

pub judged_text-requires-clause-short : goal.judged_text-requires-clause-short
judged_text-requires-clause-short c = short_in c.args.dialect c.args.bytes.now c.in-Ok.deck c.in-Ok.ensures.deck

pub returns-in-Ok-clause-judged : goal.returns-in-Ok-clause-judged
returns-in-Ok-clause-judged c =
    ok_weaker (λ j. IsFoundAs c.args.dialect c.in-Ok.deck j) (λ j. IsJudgedIn c.args.dialect c.args.bytes.now j) c.judged_text.result
    (λ j h. judged_in c.args.dialect c.args.bytes.now c.in-Ok.deck j c.in-Ok.ensures.deck h) c.judged_text.ensures.judged
