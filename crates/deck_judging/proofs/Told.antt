-- A fault among notes that is told.
use Rattle.std.proofs.Common.{◌≡◌, [], Err, subst}
use Rattle.fort_syntax.specs.declared.deck.Deck.{Deck}
use Rattle.fort_syntax.specs.declared.refusal.Fault.{Fault}
use Rattle.fort_syntax.specs.declared.refusal.Refusal.{Refusal}
use Rattle.fort_syntax.specs.declared.refusal.Refusal.TheVariants.{Broken}
use Rattle.fort_notes.specs.Remarks.{remarks_of}
use Rattle.note_judging.specs.Items.{Tells}
use Rattle.note_units.specs.Sorting.{remarks_tree}

pub broken_told : (deck : Deck) (refusal : Refusal) (f : Fault) → refusal ≡ Broken f → Tells (remarks_tree [] []) (Err refusal) (remarks_of deck) → remarks_of deck ≡ Err f
broken_told deck refusal f e h = subst (λ (r : Refusal). Tells (remarks_tree [] []) (Err r) (remarks_of deck)) e h
