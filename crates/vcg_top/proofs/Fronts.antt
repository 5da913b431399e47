-- What is judged of the bytes that are read is judged of all bytes.
use Rattle.std.proofs.Common.{◌≡◌, ◌≤◌, ◌<◌, ◌⊎◌, inl, inr, ℕ, Bool, List, length, take, ap, sym, ◌∙◌, nat_le, if◌then◌else◌, true, false, arith, subst}
use Rattle.std.proofs.lemmas.List.{take_all, length-take-le}
use Rattle.std.proofs.lemmas.Bool.{lt-ltb}
use Rattle.std.proofs.lemmas.Bool.Decides.{leb_tells}
use Rattle.std.specs.declared.option.Option.TheVariants.{Some}
use Rattle.fort_syntax.specs.CardRules.{card_fault, nothing, fault_from}
use Rattle.fort_syntax.specs.Cards.{cards_of}
use Rattle.fort_syntax.specs.declared.deck.Deck.{Deck}
use Rattle.fort_syntax.specs.declared.dialect.Dialect.{Dialect}
use Rattle.fort_syntax.specs.declared.refusal.Fault.{Fault}
use Rattle.fort_syntax.specs.declared.rule.Rule.TheVariants.{TooLong}
use Rattle.fort_notes.specs.Remarks.{Remarks}
use Rattle.fort_model.specs.Paths.{Path}
use Rattle.fort_model.specs.Program.{Program}
use Rattle.judging.specs.Judgement.{IsAcceptedIn, IsDeckIn, IsFirstFaultIn}
use Rattle.vcg_top.specs.Commands.{most_read}

abbrev too_long : Fault
too_long = record { rule = TooLong; card = 1 }

long_fault : (bytes : List ℕ) → 1048576 < length bytes → card_fault bytes ≡ Some too_long
long_fault bytes h = ap (λ (b : Bool). if b then Some too_long else fault_from nothing 1 (cards_of bytes)) (lt-ltb 1048576 (length bytes) h)

-- a front is the whole, or both are too long
abbrev Fronts : List ℕ → List ℕ → Type 0
Fronts front bytes = (front ≡ bytes) ⊎ ((card_fault front ≡ Some too_long) × (card_fault bytes ≡ Some too_long))

fronts_by : (n : ℕ) (bytes : List ℕ) → 1048576 < n → ((nat_le (length bytes) n ≡ true) × (length bytes ≤ n)) ⊎ ((nat_le (length bytes) n ≡ false) × (n < length bytes)) → Fronts (take n bytes) bytes
fronts_by n bytes h (inl short) = inl (take_all n bytes short.1)
fronts_by n bytes h (inr long) =
    let past : n < length bytes = long.1 in
    let cut : length (take n bytes) ≡ n = length-take-le n bytes (omega arith) in
    inr (long_fault (take n bytes) (omega arith), long_fault bytes (omega arith))

fronts : (n : ℕ) (front bytes : List ℕ) → 1048576 < n → front ≡ take n bytes → Fronts front bytes
fronts n front bytes h e = subst (λ (f : List ℕ). Fronts f bytes) (sym e) (fronts_by n bytes h (leb_tells (length bytes) n))

deck_by : (d : Dialect) (front bytes : List ℕ) (deck : Deck) → Fronts front bytes → IsDeckIn d front deck → IsDeckIn d bytes deck
deck_by d front bytes deck (inl e) h = subst (λ (b : List ℕ). IsDeckIn d b deck) e h
deck_by d front bytes deck (inr long) h = absurd (let no : ⊥ = cc (h.0, long.0) in no)

-- a front in which a fault of cards is told has that fault as the whole has
fault_by : (d : Dialect) (front bytes : List ℕ) (f : Fault) → Fronts front bytes → IsFirstFaultIn d front f → IsFirstFaultIn d bytes f
fault_by d front bytes f (inl e) h = subst (λ (b : List ℕ). IsFirstFaultIn d b f) e h
fault_by d front bytes f (inr long) (inl (inl (inl h))) = inl (inl (inl (long.1 ∙ sym long.0 ∙ h)))
fault_by d front bytes f (inr long) (inl (inl (inr h))) = absurd (let no : ⊥ = cc (h.0, long.0) in no)
fault_by d front bytes f (inr long) (inl (inr h)) = absurd (let is = h.1 in let no : ⊥ = cc (is.0, long.0) in no)
fault_by d front bytes f (inr long) (inr h) = absurd (let is = h.3.is_deck in let no : ⊥ = cc (is.0, long.0) in no)

pub accepted_of_front : (d : Dialect) (front bytes : List ℕ) (deck : Deck) (r : Remarks) (p : Program) (paths : List (List Path)) → front ≡ take most_read bytes
    → IsAcceptedIn d front deck r p paths → IsAcceptedIn d bytes deck r p paths
accepted_of_front d front bytes deck r p paths e h = record {
  is_deck = deck_by d front bytes deck (fronts most_read front bytes (omega arith) e) h.is_deck;
  accepted = h.accepted;
  within = h.within;
}

pub fault_of_front : (d : Dialect) (front bytes : List ℕ) (f : Fault) → front ≡ take most_read bytes → IsFirstFaultIn d front f → IsFirstFaultIn d bytes f
fault_of_front d front bytes f e h = fault_by d front bytes f (fronts most_read front bytes (omega arith) e) h
