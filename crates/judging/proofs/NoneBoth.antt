-- No text is both accepted and at fault.
use Rattle.std.proofs.Common.{◌≡◌, ℕ, Option, Some, None, List, inl, inr, subst}
use Rattle.fort_syntax.specs.CardRules.{card_fault}
use Rattle.fort_syntax.specs.Cards.{entries_of}
use Rattle.fort_syntax.specs.declared.deck.Deck.{Deck}
use Rattle.fort_syntax.specs.declared.dialect.Dialect.{Dialect}
use Rattle.fort_syntax.specs.declared.refusal.Fault.{Fault}
use Rattle.fort_syntax.specs.declared.rule.Rule.TheVariants.{UncutCycle}
use Rattle.deck_entries.proofs.DeckOrFault.{deck_or_first_fault}
use Rattle.accepted_laws.specs.ModelFaults.{IsModelFault}
use Rattle.accepted_laws.proofs.NoFault.{accepted_have_no_fault}
use Rattle.path_laws.proofs.AllPaths.{all_paths_exist}
use Rattle.fort_model.specs.Program.{Program}
use Rattle.path_sizes.specs.Limits.{IsSizeFault}
use Rattle.path_sizes.proofs.Judged.{sizes_are_judged}
use Rattle.judging.specs.Judgement.{IsDeckIn, IsTextFaultIn}
use Rattle.judging.specs.Laws.{KeptHaveNoFault, AcceptedInHaveNoFault}
use Rattle.judging.proofs.OneJudgement.{deck_in_one, kept_are_one}

-- bytes with a deck have no fault in the text
pub deck_unfaulted : (d : Dialect) (bytes : List ℕ) (deck : Deck) (f : Fault) → IsDeckIn d bytes deck → IsTextFaultIn d bytes f → ⊥
deck_unfaulted d bytes deck f h (inl e) = clash (card_fault bytes) h.0 e
  where
    clash : (o : Option Fault) → o ≡ None → o ≡ Some f → ⊥
    clash o a b = absurd (cc)
deck_unfaulted d bytes deck f h (inr k) = (deck_or_first_fault d (entries_of bytes)).1 deck f h.1 k.1

pub kept_have_no_fault : KeptHaveNoFault
kept_have_no_fault d bytes deck r p f h (inl k) = deck_unfaulted d bytes deck f h.is_deck k
kept_have_no_fault d bytes deck r p f h (inr k) =
    let same = deck_in_one d bytes k.0 deck k.1 h.is_deck in
    let paths = all_paths_exist p (h.kept UncutCycle) in
    accepted_have_no_fault d deck r p paths.0 f (record { is_program = h.is_program; kept = h.kept; all_paths = paths.1 }) (subst (λ (x : Deck). IsModelFault d x f) same k.2)

pub accepted_in_have_no_fault : AcceptedInHaveNoFault
accepted_in_have_no_fault d bytes deck r p paths f h (inl k) =
    kept_have_no_fault d bytes deck r p f (record { is_deck = h.is_deck; is_program = h.accepted.is_program; kept = h.accepted.kept }) k
accepted_in_have_no_fault d bytes deck r p paths f h (inr k) =
    let one = kept_are_one d bytes k.0 deck k.1 r k.2 p k.3 (record { is_deck = h.is_deck; is_program = h.accepted.is_program; kept = h.accepted.kept }) in
    (sizes_are_judged p paths h.accepted.all_paths).1 f h.within (subst (λ (x : Program). IsSizeFault x f) one.2 k.4)
