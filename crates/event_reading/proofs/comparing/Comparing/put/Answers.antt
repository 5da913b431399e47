use Rattle.std.proofs.Common.{rules, true≢false, sym, ◌∙◌}
use Rattle.event_reading.proofs.Afters.{after_none, after_some}
use Rattle.event_reading.proofs.comparing.Comparing.put.Goals as goal

pub returns-in-Some : goal.returns-in-Some
returns-in-Some c = record {
  kept = λ s. (s, after_some c.args.piece.now c.args.self.now.rest.now c.in-Some.rest.now (search rules));
  lost = λ s t rest e. absurd (true≢false (sym t ∙ s));
}

pub returns-in-None : goal.returns-in-None
returns-in-None c = record {
  kept = λ s. absurd (true≢false (sym s));
  lost = λ s t rest e. after_none c.args.piece.now c.args.self.now.rest.now rest (search rules) e;
}
