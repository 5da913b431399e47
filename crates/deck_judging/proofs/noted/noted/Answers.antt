use Rattle.std.proofs.Common.{◌≡◌}
use Rattle.fort_syntax.specs.declared.refusal.Refusal.TheVariants.{Broken}
use Rattle.deck_judging.proofs.Told.{broken_told}
use Rattle.deck_judging.proofs.noted.noted.Goals as goal

pub returns-in-Ok-clause-notes : goal.returns-in-Ok-clause-notes
returns-in-Ok-clause-notes c = record {
  remarks = c.in-Ok.ensures.tells;
  inside = c.in-Ok.ensures.inside.units;
  bodies = c.in-Ok.ensures.bodies;
  added = c.in-Ok.ensures.added;
}

pub returns-in-Err-clause-broken : goal.returns-in-Err-clause-broken
returns-in-Err-clause-broken c f q =
    let same : c.in-Err.refusal ≡ Broken f = cc in
    broken_told c.args.deck.now c.in-Err.refusal f same c.in-Err.ensures.tells
