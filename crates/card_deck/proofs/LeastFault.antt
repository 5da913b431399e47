-- The first fault of cards is the least.
use Rattle.std.proofs.Common.{◌≡◌, ℕ, ◌+◌, ◌≤◌, inl, inr, Bool, true, false, if◌then◌else◌, List, [], ◌∷◌, length, Option, Some, None, refl, sym, subst, arith, rules}
use Rattle.std.specs.Prelude.{nat_lt}
use Rattle.fort_syntax.specs.Cards.{Card, cards_of, kind_of}
use Rattle.fort_syntax.specs.CardRules.{Before, nothing, behind, broken_by, fault_from, fault_or, has_bad_byte, has_bad_label, lacks_initial, is_twentieth, is_bad_note}
use Rattle.fort_syntax.specs.CardFaults.{IsBrokenBy, bad_byte, bad_label, no_initial, many_cards, bad_note_card, IsBrokenFrom, IsCardRuleBroken, FirstCardFaultIsLeast}
use Rattle.fort_syntax.specs.FirstFaults.{IsAtMost, TellsLeast}
use Rattle.fort_syntax.specs.declared.refusal.Fault.{Fault}
use Rattle.fort_syntax.specs.declared.rule.Rule.{Rule}
use Rattle.fort_syntax.specs.declared.rule.Rule.TheVariants.{TooLong, BadByte, BadLabel, NoInitial, ManyCards, BadNoteCard}
use Rattle.fort_syntax.specs.Rules.{rule_number}

-- what the first of five tests that holds says
abbrev first_rule : Bool → Bool → Bool → Bool → Bool → Option Rule
first_rule a b c d e =
    if a then Some BadByte else if b then Some BadLabel else if c then Some NoInitial else if d then Some ManyCards else if e then Some BadNoteCard else None

-- the least rule that one card breaks
abbrev Least : Before → Card → Option Rule → Type 0
Least before card None = (rule : Rule) → ¬ IsBrokenBy before card rule
Least before card (Some r) = IsBrokenBy before card r × ((rule : Rule) → IsBrokenBy before card rule → rule_number r ≤ rule_number rule)

clash : (b : Bool) → b ≡ false → b ≡ true → ⊥
clash true h k = search rules
clash false h k = search rules

least_of : (before : Before) (card : Card) (a b c d e : Bool)
    → has_bad_byte card ≡ a → has_bad_label card ≡ b → lacks_initial before card ≡ c → is_twentieth before card ≡ d → is_bad_note before card ≡ e
    → Least before card (first_rule a b c d e)
least_of before card true b c d e ha hb hc hd he = (bad_byte ha, bound)
  where
    bound : (rule : Rule) → IsBrokenBy before card rule → 2 ≤ rule_number rule
    bound _ (bad_byte h) = omega arith
    bound _ (bad_label h) = omega arith
    bound _ (no_initial h) = omega arith
    bound _ (many_cards h) = omega arith
    bound _ (bad_note_card h) = omega arith
least_of before card false true c d e ha hb hc hd he = (bad_label hb, bound)
  where
    bound : (rule : Rule) → IsBrokenBy before card rule → 3 ≤ rule_number rule
    bound _ (bad_byte h) = absurd (clash _ ha h)
    bound _ (bad_label h) = omega arith
    bound _ (no_initial h) = omega arith
    bound _ (many_cards h) = omega arith
    bound _ (bad_note_card h) = omega arith
least_of before card false false true d e ha hb hc hd he = (no_initial hc, bound)
  where
    bound : (rule : Rule) → IsBrokenBy before card rule → 4 ≤ rule_number rule
    bound _ (bad_byte h) = absurd (clash _ ha h)
    bound _ (bad_label h) = absurd (clash _ hb h)
    bound _ (no_initial h) = omega arith
    bound _ (many_cards h) = omega arith
    bound _ (bad_note_card h) = omega arith
least_of before card false false false true e ha hb hc hd he = (many_cards hd, bound)
  where
    bound : (rule : Rule) → IsBrokenBy before card rule → 5 ≤ rule_number rule
    bound _ (bad_byte h) = absurd (clash _ ha h)
    bound _ (bad_label h) = absurd (clash _ hb h)
    bound _ (no_initial h) = absurd (clash _ hc h)
    bound _ (many_cards h) = omega arith
    bound _ (bad_note_card h) = omega arith
least_of before card false false false false true ha hb hc hd he = (bad_note_card he, bound)
  where
    bound : (rule : Rule) → IsBrokenBy before card rule → 6 ≤ rule_number rule
    bound _ (bad_byte h) = absurd (clash _ ha h)
    bound _ (bad_label h) = absurd (clash _ hb h)
    bound _ (no_initial h) = absurd (clash _ hc h)
    bound _ (many_cards h) = absurd (clash _ hd h)
    bound _ (bad_note_card h) = omega arith
least_of before card false false false false false ha hb hc hd he = none
  where
    none : (rule : Rule) → IsBrokenBy before card rule → ⊥
    none _ (bad_byte h) = clash _ ha h
    none _ (bad_label h) = clash _ hb h
    none _ (no_initial h) = clash _ hc h
    none _ (many_cards h) = clash _ hd h
    none _ (bad_note_card h) = clash _ he h

least_at : (before : Before) (card : Card) → Least before card (broken_by before card)
least_at before card = least_of before card (has_bad_byte card) (has_bad_label card) (lacks_initial before card) (is_twentieth before card) (is_bad_note before card) refl refl refl refl refl

-- the number of a rule that a card breaks is at least 2
at_least_two : (before : Before) (card : Card) (rule : Rule) → IsBrokenBy before card rule → 2 ≤ rule_number rule
at_least_two before card _ (bad_byte h) = omega arith
at_least_two before card _ (bad_label h) = omega arith
at_least_two before card _ (no_initial h) = omega arith
at_least_two before card _ (many_cards h) = omega arith
at_least_two before card _ (bad_note_card h) = omega arith

-- where rules can be broken
not_before : (before : Before) (n : ℕ) (cards : List Card) (rule : Rule) (number : ℕ) → IsBrokenFrom before n cards rule number
    → (n ≤ number) × (2 ≤ rule_number rule)
not_before before n [] rule number h = absurd h
not_before before n (card ∷ rest) rule number (inl h) = (let same = h.0 in omega arith, at_least_two before card rule h.1)
not_before before n (card ∷ rest) rule number (inr h) =
    let later = not_before (behind (kind_of card) before) (n + 1) rest rule number h in (let le = later.0 in omega arith, later.1)

-- one card more in front
stepped : (before : Before) (n : ℕ) (card : Card) (rest : List Card) (o : Option Rule) (later : Option Fault) → Least before card o
    → TellsLeast (IsBrokenFrom (behind (kind_of card) before) (n + 1) rest) later
    → TellsLeast (IsBrokenFrom before n (card ∷ rest)) (fault_or o n later)
stepped before n card rest (Some r) later least rec = (inl (refl, least.0), bound)
  where
    bound : (rule : Rule) (at : ℕ) → IsBrokenFrom before n (card ∷ rest) rule at → IsAtMost r n rule at
    bound rule at (inl h) = inr (sym h.0, least.1 rule h.1)
    bound rule at (inr h) = inl (let after = not_before _ (n + 1) rest rule at h in let le = after.0 in omega arith)
stepped before n card rest None (Some f) least rec = (inr rec.0, bound)
  where
    bound : (rule : Rule) (at : ℕ) → IsBrokenFrom before n (card ∷ rest) rule at → IsAtMost f.rule f.card rule at
    bound rule at (inl h) = absurd (least rule h.1)
    bound rule at (inr h) = rec.1 rule at h
stepped before n card rest None None least rec = none
  where
    none : (rule : Rule) (at : ℕ) → IsBrokenFrom before n (card ∷ rest) rule at → ⊥
    none rule at (inl h) = least rule h.1
    none rule at (inr h) = rec rule at h

answers_from : (before : Before) (n : ℕ) (cards : List Card) → TellsLeast (IsBrokenFrom before n cards) (fault_from before n cards)
answers_from before n [] = λ rule card h. h
answers_from before n (card ∷ rest) =
    stepped before n card rest (broken_by before card) (fault_from (behind (kind_of card) before) (n + 1) rest) (least_at before card) (answers_from (behind (kind_of card) before) (n + 1) rest)

-- the length before all cards
limited : (bytes : List ℕ) (long : Bool) (later : Option Fault) → nat_lt 1048576 (length bytes) ≡ long
    → TellsLeast (IsBrokenFrom nothing 1 (cards_of bytes)) later
    → TellsLeast (IsCardRuleBroken bytes) (if long then Some (record { rule = TooLong; card = 1 }) else later)
limited bytes true later long rec = (inl (refl, refl, search rules), bound)
  where
    bound : (rule : Rule) (at : ℕ) → IsCardRuleBroken bytes rule at → IsAtMost TooLong 1 rule at
    bound rule at (inl h) = inr (sym h.1, subst (λ (r : Rule). 1 ≤ rule_number r) (sym h.0) (omega arith))
    bound rule at (inr h) = let after = not_before nothing 1 (cards_of bytes) rule at h in search rules
limited bytes false (Some f) long rec = (inr rec.0, bound)
  where
    bound : (rule : Rule) (at : ℕ) → IsCardRuleBroken bytes rule at → IsAtMost f.rule f.card rule at
    bound rule at (inl h) = absurd (search rules)
    bound rule at (inr h) = rec.1 rule at h
limited bytes false None long rec = none
  where
    none : (rule : Rule) (at : ℕ) → IsCardRuleBroken bytes rule at → ⊥
    none rule at (inl h) = search rules
    none rule at (inr h) = rec rule at h

pub first_is_least : FirstCardFaultIsLeast
first_is_least bytes = limited bytes (nat_lt 1048576 (length bytes)) (fault_from nothing 1 (cards_of bytes)) refl (answers_from nothing 1 (cards_of bytes))
