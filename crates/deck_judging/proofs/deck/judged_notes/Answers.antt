use Rattle.std.proofs.Common.{◌≡◌, Err, ap}
use Rattle.fort_syntax.specs.declared.refusal.Refusal.TheVariants.{Broken}
use Rattle.deck_judging.proofs.Faults.{alias_fault}
use Rattle.deck_judging.proofs.deck.judged_notes.Goals as goal

pub returns-in-Err-clause-broken : goal.returns-in-Err-clause-broken
returns-in-Err-clause-broken c f q =
    let same : c.in-Err.refusal ≡ Broken f = cc in
    alias_fault c.args.dialect c.args.deck.now c.args.noted.pool c.args.noted.definitions c.args.noted.specs c.requires.well c.requires.notes f (c.in-Err.ensures.broken f (ap Err same))
