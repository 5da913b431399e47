-- The sooner of two least faults is the least of both kinds, and the first statement in order of cards has the least fault of a rule.
use Rattle.std.proofs.Common.{◌≡◌, ℕ, zero, suc, ◌<◌, ◌≤◌, ◌⊎◌, inl, inr, Bool, true, false, cond, IsTrue, List, [], ◌∷◌, Option, Some, None, refl, sym, subst, arith}
use Rattle.std.specs.Prelude.{nat_lt, ◌&&◌}
use Rattle.std.proofs.Math.Logic.{⊎_elim}
use Rattle.std.proofs.lemmas.Bool.{cases_lt}
use Rattle.std.proofs.lemmas.Bool.Decides.{nat_tests}
use Rattle.fort_syntax.specs.DeckOrder.{stand_between}
use Rattle.fort_syntax.specs.FirstFaults.{IsAtMost, TellsLeast}
use Rattle.fort_syntax.specs.Rules.{rule_number}
use Rattle.fort_syntax.specs.declared.refusal.Fault.{Fault}
use Rattle.fort_syntax.specs.declared.rule.Rule.{Rule}
use Rattle.fort_syntax.specs.declared.stmt.Stmt.{Stmt}
use Rattle.fort_syntax.specs.declared.unit.Line.{Line}
use Rattle.fort_model.specs.Lists.{IsAmong}
use Rattle.fort_model.specs.Rules.{cards_of_lines}
use Rattle.unit_faults.specs.Sooner.{comes_first, sooner, fault_at, first_at}
use Rattle.unit_faults.specs.Breaking.{IsBrokenAt}

-- ---- the sooner one

follows : (f g h : ℕ) (a b c : ℕ) → (f < g) ⊎ ((f ≡ g) × (a ≤ b)) → (g < h) ⊎ ((g ≡ h) × (b ≤ c)) → (f < h) ⊎ ((f ≡ h) × (a ≤ c))
follows f g h a b c (inl x) (inl y) = inl (omega arith)
follows f g h a b c (inl x) (inr y) = inl (omega (arith, y.0))
follows f g h a b c (inr x) (inl y) = inl (omega (arith, x.0))
follows f g h a b c (inr x) (inr y) = inr (omega (arith, x.0, y.0), omega (arith, x.1, y.1))

at_most : (f g h : Rule) (i j k : ℕ) → IsAtMost f i g j → IsAtMost g j h k → IsAtMost f i h k
at_most f g h i j k x y = follows i j k (rule_number f) (rule_number g) (rule_number h) x y

first_is : (f g : Fault) → comes_first f g ≡ true → IsAtMost f.rule f.card g.rule g.card
first_is f g e = by (cases_lt f.card g.card)
  where
    by : (f.card < g.card) ⊎ (g.card ≤ f.card) → IsAtMost f.rule f.card g.rule g.card
    by (inl lt) = inl lt
    by (inr ge) = inr (grind (arith, nat_tests), grind (arith, nat_tests))

first_is_not : (f g : Fault) → comes_first f g ≡ false → IsAtMost g.rule g.card f.rule f.card
first_is_not f g e = by (cases_lt g.card f.card)
  where
    by : (g.card < f.card) ⊎ (f.card ≤ g.card) → IsAtMost g.rule g.card f.rule f.card
    by (inl lt) = inl lt
    by (inr ge) = inr (grind (arith, nat_tests), grind (arith, nat_tests))

abbrev Either : (A B : Rule → ℕ → Type 0) → Rule → ℕ → Type 0
Either A B rule card = A rule card ⊎ B rule card

pub sooner_tells : (A B : Rule → ℕ → Type 0) (a b : Option Fault) → TellsLeast A a → TellsLeast B b → TellsLeast (λ rule card. A rule card ⊎ B rule card) (sooner a b)
sooner_tells A B None None x y = λ rule card h. ⊎_elim (x rule card) (y rule card) h
sooner_tells A B None (Some g) x y = (inr y.0, λ rule card h. ⊎_elim (λ s. absurd (x rule card s)) (y.1 rule card) h)
sooner_tells A B (Some f) None x y = (inl x.0, λ rule card h. ⊎_elim (x.1 rule card) (λ s. absurd (y rule card s)) h)
sooner_tells A B (Some f) (Some g) x y = by (comes_first f g) refl
  where
    by : (b : Bool) → comes_first f g ≡ b → TellsLeast (λ rule card. A rule card ⊎ B rule card) (cond b (Some f) (Some g))
    by true e = (inl x.0, λ rule card h. ⊎_elim (x.1 rule card) (λ s. at_most f.rule g.rule rule f.card g.card card (first_is f g e) (y.1 rule card s)) h)
    by false e = (inr y.0, λ rule card h. ⊎_elim (λ s. at_most g.rule f.rule rule g.card f.card card (first_is_not f g e) (x.1 rule card s)) (y.1 rule card) h)

-- what is broken may be said in another way
pub tells_of : (A B : Rule → ℕ → Type 0) → ((rule : Rule) (card : ℕ) → A rule card → B rule card) → ((rule : Rule) (card : ℕ) → B rule card → A rule card)
    → (o : Option Fault) → TellsLeast A o → TellsLeast B o
tells_of A B to back None h = λ rule card s. h rule card (back rule card s)
tells_of A B to back (Some f) h = (to f.rule f.card h.0, λ rule card s. h.1 rule card (back rule card s))

-- ---- the first statement

pub none_among : {X : Type 0} (x : X) → IsAmong x [] → ⊥
none_among x h = (let never = h.1 in cc)

pub among_cases : {X : Type 0} (x y : X) (ys : List X) → IsAmong x (y ∷ ys) → (x ≡ y) ⊎ IsAmong x ys
among_cases x y ys (zero, e) = inl (cc)
among_cases x y ys (suc k, e) = inr (k, e)

abbrev cards_by : Bool → ℕ → List ℕ → List ℕ
cards_by b card rest = cond b (card ∷ rest) rest

and_parts : (a b : Bool) → (a && b) ≡ true → (a ≡ true) × (b ≡ true)
and_parts true b h = (refl, h)
and_parts false b h = (cc, cc)

is_less : (a b : ℕ) → nat_lt a b ≡ true → a < b
is_less a b h = grind (arith, nat_tests)

in_front : (low card : ℕ) (rest : Bool) → (nat_lt low card && rest) ≡ true → low < card
in_front low card rest h = is_less low card (and_parts (nat_lt low card) rest h).0

behind_it : (low card : ℕ) (rest : Bool) → (nat_lt low card && rest) ≡ true → rest ≡ true
behind_it low card rest h = (and_parts (nat_lt low card) rest h).1

among_all : (b : Bool) (line card : ℕ) (rest : List ℕ) → IsAmong card (cards_by b line rest) → (card ≡ line) ⊎ IsAmong card rest
among_all true line card rest h = among_cases card line rest h
among_all false line card rest h = inr h

pub above : (test : ℕ → Stmt → Bool) (pc : ℕ) (lines : List Line) (low high : ℕ) → IsTrue (stand_between low lines high) → (card : ℕ) → IsAmong card (cards_of_lines test pc lines) → low < card
above test pc [] low high order card h = absurd (none_among card h)
above test pc (line ∷ lines) low high order card h =
    let before = in_front low line.card (stand_between line.card lines high) order in
    ⊎_elim (λ (e : card ≡ line.card). (let lt : low < card = omega (arith, before, e) in lt))
    (λ (s : IsAmong card (cards_of_lines test (suc pc) lines)).
    (let rest = above test (suc pc) lines line.card high (behind_it low line.card (stand_between line.card lines high) order) card s in
    let lt : low < card = omega (arith, before, rest) in lt))
    (among_all (test pc line.stmt) line.card card (cards_of_lines test (suc pc) lines) h)

same_number : (rule other : Rule) → other ≡ rule → rule_number rule ≤ rule_number other
same_number rule other e = subst (λ r. rule_number rule ≤ rule_number r) (sym e) (omega arith)

pub first_tells : (rule : Rule) (test : ℕ → Stmt → Bool) (pc : ℕ) (lines : List Line) (low high : ℕ) → IsTrue (stand_between low lines high)
    → TellsLeast (IsBrokenAt rule (cards_of_lines test pc lines)) (first_at rule test pc lines)
first_tells rule test pc [] low high order = λ other card h. none_among card h.1
first_tells rule test pc (line ∷ lines) low high order =
    by (test pc line.stmt) (first_tells rule test (suc pc) lines line.card high (behind_it low line.card (stand_between line.card lines high) order))
  where
    by : (b : Bool) → TellsLeast (IsBrokenAt rule (cards_of_lines test (suc pc) lines)) (first_at rule test (suc pc) lines)
        → TellsLeast (IsBrokenAt rule (cards_by b line.card (cards_of_lines test (suc pc) lines))) (cond b (Some (fault_at rule line.card)) (first_at rule test (suc pc) lines))
    by false rec = rec
    by true rec = (
      (refl, (0, refl)),
      λ other card h. ⊎_elim
          (λ (e : card ≡ line.card). inr (sym e, same_number rule other h.0))
          (λ (s : IsAmong card (cards_of_lines test (suc pc) lines)).
          inl (above test (suc pc) lines line.card high (behind_it low line.card (stand_between line.card lines high) order) card s))
          (among_cases card line.card (cards_of_lines test (suc pc) lines) h.1),
    )
