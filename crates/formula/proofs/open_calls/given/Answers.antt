use Rattle.std.proofs.Common.{refl}
use Rattle.formula.proofs.Turns.{kept_later}
use Rattle.formula.proofs.open_calls.given.Goals as goal

pub returns : goal.returns
returns c = λ before pool t g below within tree. kept_later before pool t _ _ _ c.in-Some.call _ c.args.id c.in-Some.ensures c.in_ok-push-2.ensures.ok refl c.in_ok-push.ensures.items g below within tree
