-- The entries of bytes stand on ascending cards.
use Rattle.std.proofs.Common.{◌≡◌, ℕ, true, List, ap, ◌∙◌}
use Rattle.fort_syntax.specs.Cards.{entries_of}
use Rattle.fort_syntax.specs.declared.cards.Entry.{Entry}
use Rattle.deck_laws.specs.Ascent.{entries_ascend_above}
use Rattle.deck_laws.proofs.AscendingEntries.{entries_ascend}

pub cards_ascend : (bytes : List ℕ) (cards : List Entry) → cards ≡ entries_of bytes → entries_ascend_above 0 cards ≡ true
cards_ascend bytes cards h = ap (entries_ascend_above 0) h ∙ entries_ascend bytes
