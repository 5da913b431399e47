use Rattle.std.proofs.Common.{◌≡◌, Err, inl, ap}
use Rattle.fort_syntax.specs.declared.refusal.Refusal.TheVariants.{Broken}
use Rattle.deck_judging.proofs.smashed.smashed.Goals as goal

pub returns-clause-broken : goal.returns-clause-broken
returns-clause-broken c f q =
    let same : c.in-Err.refusal ≡ Broken f = cc in
    inl (c.in-Err.ensures.broken f (ap Err same))
