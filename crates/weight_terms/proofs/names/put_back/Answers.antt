use Rattle.std.proofs.Common.{sym, true≢false}
use Rattle.weight_terms.proofs.Undone.{set_beyond}
use Rattle.weight_terms.proofs.names.put_back.Goals as goal

pub returns-in-None : goal.returns-in-None
returns-in-None c = set_beyond c.args.map.now.entries c.args.place c.args.weight (λ lt. true≢false (sym (c.in-None.ensures.found.1 lt)))
