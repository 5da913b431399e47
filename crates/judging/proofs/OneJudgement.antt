-- A text is judged in one way.
use Rattle.std.proofs.Common.{◌≡◌, ◌⊎◌, ℕ, List, inl, inr, subst}
use Rattle.fort_syntax.specs.Cards.{entries_of}
use Rattle.fort_syntax.specs.declared.deck.Deck.{Deck}
use Rattle.fort_syntax.specs.declared.dialect.Dialect.{Dialect}
use Rattle.fort_syntax.specs.declared.refusal.Fault.{Fault}
use Rattle.fort_syntax.specs.declared.rule.Rule.TheVariants.{UncutCycle}
use Rattle.deck_entries.proofs.DeckOrFault.{decks_are_one}
use Rattle.fort_model.specs.Conditions.{AreAllPaths}
use Rattle.fort_model.specs.Paths.{Path}
use Rattle.accepted_laws.specs.Accepted.{IsProgramOf, IsAcceptedAs}
use Rattle.accepted_laws.proofs.OneProgram.{programs_are_one, accepted_are_one}
use Rattle.accepted_laws.proofs.SoundDecks.{accepted_conditions_are_exact, accepted_decks_are_correct}
use Rattle.path_laws.proofs.AllPaths.{all_paths_exist}
use Rattle.path_sizes.specs.Limits.{IsWithinLimits, IsSizeFault}
use Rattle.path_sizes.proofs.Judged.{sizes_are_judged}
use Rattle.judging.specs.Judgement.{IsDeckIn, IsAcceptedIn, IsFirstFaultIn}
use Rattle.judging.specs.Laws.{KeptAreOne, AcceptedInAreOne, KeptAreAccepted, AcceptedInAreSound}

pub deck_in_one : (d : Dialect) (bytes : List ℕ) (a b : Deck) → IsDeckIn d bytes a → IsDeckIn d bytes b → a ≡ b
deck_in_one d bytes a b h k = decks_are_one d (entries_of bytes) a b h.1 k.1

pub kept_are_one : KeptAreOne
kept_are_one d bytes a b r s p q h k =
    let deck = deck_in_one d bytes a b h.is_deck k.is_deck in
    let one = programs_are_one d b r s p q (subst (λ (x : Deck). IsProgramOf d x r p) deck h.is_program) k.is_program in
    (deck, one.0, one.1)

pub accepted_in_are_one : AcceptedInAreOne
accepted_in_are_one d bytes a b r s p q paths others h k =
    let deck = deck_in_one d bytes a b h.is_deck k.is_deck in
    let one = accepted_are_one d b r s p q paths others (subst (λ (x : Deck). IsAcceptedAs d x r p paths) deck h.accepted) k.accepted in
    (deck, one.0, one.1, one.2, one.3)

pub kept_are_accepted : KeptAreAccepted
kept_are_accepted d bytes deck r p h =
    let paths = all_paths_exist p (h.kept UncutCycle) in
    by paths.0 paths.1 (sizes_are_judged p paths.0 paths.1).0
  where
    by : (paths : List (List Path)) → AreAllPaths p paths → IsWithinLimits p paths ⊎ ((f : Fault) × IsSizeFault p f)
        → ((paths : List (List Path)) × IsAcceptedIn d bytes deck r p paths) ⊎ ((f : Fault) × IsFirstFaultIn d bytes f)
    by paths all (inl within) =
        inl (paths, record { is_deck = h.is_deck; accepted = record { is_program = h.is_program; kept = h.kept; all_paths = all }; within = within })
    by paths all (inr fault) = inr (fault.0, inr (deck, r, p, h, fault.1))

pub accepted_in_are_sound : AcceptedInAreSound
accepted_in_are_sound d bytes deck r p paths h =
    (accepted_conditions_are_exact d deck r p paths h.accepted, accepted_decks_are_correct d deck r p paths h.accepted)
