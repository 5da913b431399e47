-- What is met on arrival at a cut point are checks, of kinds that a run knows nothing of.
use Rattle.std.proofs.Common.{◌≡◌, ℕ, ◌⊎◌, inl, inr, true, List, [], ◌∷◌, ◌++◌, map, Option, Some, None, refl, subst}
use Rattle.formula.specs.declared.value.Value.{Value}
use Rattle.formula.specs.Tree.{Tree}
use Rattle.formula.specs.Values.{holds}
use Rattle.formula.specs.Worth.{Function}
use Rattle.fort_syntax.specs.declared.condition.Kind.{Kind}
use Rattle.fort_syntax.specs.declared.condition.Kind.TheVariants.{AssertCheck, ClockCheck, FallCheck, OutputCheck}
use Rattle.fort_model.specs.Evaluate.{Scene}
use Rattle.fort_model.specs.Events.{Event, Check, Take, checks}
use Rattle.fort_model.specs.Paths.{Cut, NoCut, AtEnd, AtAssert}
use Rattle.fort_notes.specs.Assertions.{Assertion}
use Rattle.fort_model.specs.Program.{Program, notes_of}
use Rattle.fort_model.specs.Seen.{Named}
use Rattle.fort_model.specs.Senses.{note}
use Rattle.fort_model.specs.Symbols.{Symbol}
use Rattle.fort_model.specs.Walk.{arrive, fall, at_entry, not_negative}
use Rattle.fort_model.specs.WalkCalls.{Sight}
use Rattle.fort_laws.specs.Errors.{IsOnArrival}
use Rattle.fort_laws.specs.Blame.{IsAtAssert}
use Rattle.fort_laws.specs.Matches.{AllTrue, FirstFails}
use Rattle.fort_laws.specs.Segments.{seen}
use Rattle.fort_laws.proofs.ErrorsParting.{GoesOff}
use Rattle.fort_laws.proofs.Near.{known}

module _ (P : Kind → Type 0) where
  -- only checks, of kinds that are told
  abbrev pub AreChecks : List (Event Value) → Type 0
  AreChecks [] = Unit {0}
  AreChecks (Check kind card v ∷ es) = P kind × AreChecks es
  AreChecks (Take v ∷ es) = ⊥

  checks_append : (es fs : List (Event Value)) → AreChecks es → AreChecks fs → AreChecks (es ++ fs)
  checks_append [] fs h k = k
  checks_append (Check kind card v ∷ es) fs h k = (h.0, checks_append es fs h.1 k)
  checks_append (Take v ∷ es) fs h k = absurd h

  checks_of : (kind : Kind) → P kind → (card : ℕ) (vs : List Value) → AreChecks (checks kind card vs)
  checks_of kind h card [] = tt
  checks_of kind h card (v ∷ vs) = (h, checks_of kind h card vs)

  -- all of them are true, or one is the first that is false
  pub checks_fail : (es : List (Event Value)) → AreChecks es → AllTrue es ⊎ ((kind : Kind) × (card : ℕ) × P kind × FirstFails kind card es)
  checks_fail [] h = inl tt
  checks_fail (Check kind card v ∷ es) h = known (holds v) (λ t. later t (checks_fail es h.1)) (λ f. inr (kind, card, h.0, inr (f, refl, refl)))
    where
      later : holds v ≡ true → AllTrue es ⊎ ((k : Kind) × (c : ℕ) × P k × FirstFails k c es)
          → AllTrue (Check kind card v ∷ es) ⊎ ((k : Kind) × (c : ℕ) × P k × FirstFails k c (Check kind card v ∷ es))
      later t (inl all) = inl (t, all)
      later t (inr r) = inr (r.0, r.1, r.2, inl (t, r.3))
  checks_fail (Take v ∷ es) h = absurd h

  -- they fail by checks of these kinds, and never go off
  pub failing_kind : (kind : Kind) (card : ℕ) (es : List (Event Value)) → AreChecks es → FirstFails kind card es → P kind
  failing_kind kind card [] h f = absurd f
  failing_kind kind card (Check k c v ∷ es) h (inl f) = failing_kind kind card es h.1 f.1
  failing_kind kind card (Check k c v ∷ es) h (inr f) = subst P f.1 h.0
  failing_kind kind card (Take v ∷ es) h f = absurd h

  pub checks_stay : (es : List (Event Value)) → AreChecks es → GoesOff es → ⊥
  checks_stay [] h g = g
  checks_stay (Check k c v ∷ es) h g = checks_stay es h.1 g.1
  checks_stay (Take v ∷ es) h g = h

module _ (fs : List Function) (values : Symbol → Value) (program : Program) (i : ℕ) (s : Scene) where
  abbrev sight : Sight Value
  sight = seen fs values program i s

  abbrev told : Named Value → Tree → Value
  told now = note sight.sense (at_entry sight) now

  -- what is met on arrival at an ASSERT, of kinds that hold those of its checks
  module _ (P : Kind → Type 0) (asserts : P AssertCheck) (clocks : P ClockCheck) (falls : P FallCheck) where
    fall_kind : (card : ℕ) (clock : Option (List Value)) (new : List Value) → AreChecks P (fall sight card clock new)
    fall_kind card None new = tt
    fall_kind card (Some old) new = (falls, tt)

    at_assert : (clock : Option (List Value)) (card : ℕ) (a : Assertion) (now : Named Value) → AreChecks P (arrive sight clock card (AtAssert a) now [])
    at_assert clock card a now =
        checks_append P (checks AssertCheck a.card (map (told now) a.terms) ++ checks ClockCheck a.card (map (λ t. not_negative sight (told now t)) a.clock)) (fall sight a.card clock (map (told now) a.clock))
        (checks_append P (checks AssertCheck a.card (map (told now) a.terms)) (checks ClockCheck a.card (map (λ t. not_negative sight (told now t)) a.clock))
        (checks_of P AssertCheck asserts a.card (map (told now) a.terms)) (checks_of P ClockCheck clocks a.card (map (λ t. not_negative sight (told now t)) a.clock)))
        (fall_kind a.card clock (map (told now) a.clock))

  pub are_at_assert : (clock : Option (List Value)) (card : ℕ) (a : Assertion) (now : Named Value) → AreChecks IsAtAssert (arrive sight clock card (AtAssert a) now [])
  are_at_assert clock card a now = at_assert IsAtAssert tt tt tt clock card a now

  pub are_on_arrival : (clock : Option (List Value)) (card : ℕ) (c : Cut) (now : Named Value) → AreChecks IsOnArrival (arrive sight clock card c now [])
  are_on_arrival clock card NoCut now = tt
  are_on_arrival clock card AtEnd now = checks_of IsOnArrival OutputCheck tt card (map (told now) (notes_of program i).output)
  are_on_arrival clock card (AtAssert a) now = at_assert IsOnArrival tt tt tt clock card a now
