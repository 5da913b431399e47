use Rattle.card_deck.proofs.Steps.{has_label}
use Rattle.card_deck.specs.Held.{before_of}
use Rattle.std.proofs.Common.{sym, ◌∙◌}
use Rattle.card_deck.proofs.advance.go_on.Goals as goal

pub statement-requires-clause-good : goal.statement-requires-clause-good
statement-requires-clause-good c = has_label (before_of c.args.held) c.args.card.now (sym c.kind.ensures ∙ c.in-InitialCard.is) c.requires.clean
