-- The cards of heads and of statements that pass a test.
use Rattle.std.proofs.Common.{◌≡◌, ℕ, zero, suc, ◌≤◌, Bool, true, false, List, [], ◌∷◌, ◌⊎◌, inl, inr, refl, sym, ap, ◌∙◌, cond, arith}
use Rattle.std.specs.Prelude.{Some, slice_get}
use Rattle.fort_syntax.specs.Rules.{rule_number}
use Rattle.fort_syntax.specs.declared.rule.Rule.{Rule}
use Rattle.fort_syntax.specs.declared.stmt.Stmt.{Stmt}
use Rattle.fort_syntax.specs.declared.unit.Line.{Line}
use Rattle.fort_syntax.specs.declared.unit.Unit.{Unit as Routine}
use Rattle.fort_model.specs.Lists.{IsAmong}
use Rattle.fort_model.specs.Rules.{cards_of_lines, at_head}
use Rattle.stage_faults.specs.Scans.{IsUpTo, first_of_two, first_of_three}

-- a statement that passes the test is among those at whose cards it is passed
pub passing : (test : Stmt → Bool) (pc : ℕ) (lines : List Line) (line : Line) → IsAmong line lines → test line.stmt ≡ true
    → IsAmong line.card (cards_of_lines (λ n s. test s) pc lines)
passing test pc [] line (k, e) h = absurd cc
passing test pc (l ∷ lines) line (k, e) h = by (λ n f. passing test (suc pc) lines line (n, f) h) (test l.stmt) refl k e
  where
    by : ((n : ℕ) → slice_get lines n ≡ Some line → IsAmong line.card (cards_of_lines (λ m s. test s) (suc pc) lines)) → (b : Bool) → test l.stmt ≡ b → (n : ℕ) → slice_get (l ∷ lines) n ≡ Some line
        → IsAmong line.card (cond b (l.card ∷ cards_of_lines (λ m s. test s) (suc pc) lines) (cards_of_lines (λ m s. test s) (suc pc) lines))
    by later true is zero f = let same : l ≡ line = cc in (zero, ap (λ (x : Line). Some x.card) same)
    by later true is (suc n) f = let found = later n f in (suc found.0, found.1)
    by later false is zero f = let same : l ≡ line = cc in absurd (cc (sym is ∙ ap (λ (x : Line). test x.stmt) same ∙ h))
    by later false is (suc n) f = later n f

-- and the other way round
pub passed : (test : Stmt → Bool) (pc : ℕ) (lines : List Line) (card : ℕ) → IsAmong card (cards_of_lines (λ n s. test s) pc lines)
    → (line : Line) × IsAmong line lines × (line.card ≡ card) × (test line.stmt ≡ true)
passed test pc [] card (k, e) = absurd cc
passed test pc (l ∷ lines) card (k, e) = by (λ n f. later (passed test (suc pc) lines card (n, f))) (test l.stmt) refl k e
  where
    later : (line : Line) × IsAmong line lines × (line.card ≡ card) × (test line.stmt ≡ true)
        → (line : Line) × IsAmong line (l ∷ lines) × (line.card ≡ card) × (test line.stmt ≡ true)
    later found = (found.0, (suc found.1.0, found.1.1), found.2, found.3)

    by : ((n : ℕ) → slice_get (cards_of_lines (λ m s. test s) (suc pc) lines) n ≡ Some card
        → (line : Line) × IsAmong line (l ∷ lines) × (line.card ≡ card) × (test line.stmt ≡ true))
        → (b : Bool) → test l.stmt ≡ b → (n : ℕ)
        → slice_get (cond b (l.card ∷ cards_of_lines (λ m s. test s) (suc pc) lines) (cards_of_lines (λ m s. test s) (suc pc) lines)) n ≡ Some card
        → (line : Line) × IsAmong line (l ∷ lines) × (line.card ≡ card) × (test line.stmt ≡ true)
    by rest true is zero f = let same : l.card ≡ card = cc in (l, (zero, refl), same, is)
    by rest true is (suc n) f = rest n f
    by rest false is n f = rest n f

pub passing_head : (u : Routine) (b : Bool) → b ≡ true → IsAmong u.head (at_head u b)
passing_head u true h = (zero, refl)
passing_head u false h = absurd cc

pub passed_head : (u : Routine) (b : Bool) (card : ℕ) → IsAmong card (at_head u b) → (u.head ≡ card) × (b ≡ true)
passed_head u true card (zero, e) = (cc, refl)
passed_head u true card (suc k, e) = absurd cc
passed_head u false card (k, e) = absurd cc

-- ---- which of two rules is told, and of three

pub of_two : (a b : Rule) (x y : Bool) (r : Rule) → first_of_two a b x y ≡ Some r → ((x ≡ true) × (a ≡ r)) ⊎ ((y ≡ true) × (b ≡ r))
of_two a b true y r h = inl (refl, cc)
of_two a b false true r h = inr (refl, cc)
of_two a b false false r h = absurd cc

pub of_three : (a b c : Rule) (x y z : Bool) (r : Rule) → first_of_three a b c x y z ≡ Some r
    → ((x ≡ true) × (a ≡ r)) ⊎ (((y ≡ true) × (b ≡ r)) ⊎ ((z ≡ true) × (c ≡ r)))
of_three a b c true y z r h = inl (refl, cc)
of_three a b c false y z r h = inr (of_two b c y z r h)

pub two_first : (a b : Rule) (x y : Bool) → x ≡ true → IsUpTo (first_of_two a b x y) a
two_first a b true y h = omega arith
two_first a b false y h = absurd cc

pub two_second : (a b : Rule) (x y : Bool) → rule_number a ≤ rule_number b → y ≡ true → IsUpTo (first_of_two a b x y) b
two_second a b true y l h = l
two_second a b false true l h = omega arith
two_second a b false false l h = absurd cc

pub three_first : (a b c : Rule) (x y z : Bool) → x ≡ true → IsUpTo (first_of_three a b c x y z) a
three_first a b c true y z h = omega arith
three_first a b c false y z h = absurd cc

pub three_second : (a b c : Rule) (x y z : Bool) → rule_number a ≤ rule_number b → y ≡ true → IsUpTo (first_of_three a b c x y z) b
three_second a b c true y z l h = l
three_second a b c false y z l h = two_first b c y z h

pub three_third : (a b c : Rule) (x y z : Bool) → rule_number a ≤ rule_number c → rule_number b ≤ rule_number c → z ≡ true
    → IsUpTo (first_of_three a b c x y z) c
three_third a b c true y z l m h = l
three_third a b c false y z l m h = two_second b c y z m h
