-- The marks of places.
use Rattle.std.proofs.Common.{◌≡◌, ℕ, zero, suc, ◌+◌, ◌*◌, ◌<◌, ◌≤◌, Bool, true, false, cond, not, Option, Some, None, List, [], ◌∷◌, length, drop, get_or, refl, sym, ap, ◌∙◌, subst, arith}
use Rattle.std.specs.Prelude.{◌&&◌, ◌||◌, ◌==◌, nat_eq, if◌then◌else◌}
use Rattle.std.specs.List.{list_any}
use Rattle.std.proofs.lemmas.List.{at_drop_more, at_drop_all}
use Rattle.std.proofs.lemmas.Bool.{eqb-true, eqb-false, eq-eqb}
use Rattle.std.proofs.lemmas.Grind.{common_steps}
use Rattle.fort_syntax.specs.declared.deck.Placed.{Placed}
use Rattle.fort_notes.specs.Judging as judging
use Rattle.fort_notes.specs.Judging.{begins_with, is_beside}
use Rattle.note_places.specs.Places.{Marks, more_marks, marks_from, has_other, is_at, key, told, AreMarksOf}

-- ---- numbers of places

decided : (b c : Bool) → (b ≡ true → c ≡ true) → (c ≡ true → b ≡ true) → b ≡ c
decided true c there back = sym (there refl)
decided false true there back = back refl
decided false false there back = refl

both : (a b : Bool) → (a && b) ≡ true → (a ≡ true) × (b ≡ true)
both true true e = (refl, refl)
both true false e = absurd (cc)
both false b e = absurd (cc)

two : (a b : Bool) → a ≡ true → b ≡ true → (a && b) ≡ true
two a b e f = (λ i. e i && f i)

-- two places have one number only where they are one
pub same_key : (a b u l : ℕ) → b < 4294967296 → l < 4294967296 → nat_eq (key a b) (key u l) ≡ ((a == u) && (b == l))
same_key a b u l lb ll = decided (nat_eq (key a b) (key u l)) ((a == u) && (b == l)) there back
  where
    there : nat_eq (key a b) (key u l) ≡ true → ((a == u) && (b == l)) ≡ true
    there e =
        let same : key a b ≡ key u l = eqb-true (key a b) (key u l) e in
        let units : a ≡ u = omega arith in
        let lines : b ≡ l = omega arith in
        two (a == u) (b == l) (eq-eqb a u units) (eq-eqb b l lines)

    back : ((a == u) && (b == l)) ≡ true → nat_eq (key a b) (key u l) ≡ true
    back e =
        let h = both (a == u) (b == l) e in
        let units : a ≡ u = eqb-true a u h.0 in
        let lines : b ≡ l = eqb-true b l h.1 in
        eq-eqb (key a b) (key u l) (λ i. key (units i) (lines i))

chosen : (b : Bool) (x y : Option Marks) → cond b x y ≡ (if b then x else y)
chosen true x y = refl
chosen false x y = refl

at_own : (t : Bool) (old : List (ℕ × Marks)) (p k card : ℕ) → nat_eq p k ≡ t
    → (if t then Some (more_marks (told old p) card) else told old k) ≡ (if t then Some (more_marks (told old k) card) else told old k)
at_own true old p k card e = ap (λ (q : ℕ). Some (more_marks (told old q) card)) (eqb-true p k e)
at_own false old p k card e = refl

-- what is told after an ASSERT more
pub put_at : (old new : List (ℕ × Marks)) (unit line card u l : ℕ) (marks : Marks) → line < 4294967296 → l < 4294967296
    → marks ≡ more_marks (told old (key unit line)) card → ((k : ℕ) → told new k ≡ cond (nat_eq (key unit line) k) (Some marks) (told old k))
    → told new (key u l) ≡ (if (unit == u) && (line == l) then Some (more_marks (told old (key u l)) card) else told old (key u l))
put_at old new unit line card u l marks lb ll m put =
    put (key u l)
    ∙ chosen (nat_eq (key unit line) (key u l)) (Some marks) (told old (key u l))
    ∙ ap (λ (x : Marks). if nat_eq (key unit line) (key u l) then Some x else told old (key u l)) m
    ∙ at_own (nat_eq (key unit line) (key u l)) old (key unit line) (key u l) card refl
    ∙ ap (λ b. if b then Some (more_marks (told old (key u l)) card) else told old (key u l)) (same_key unit line u l lb ll)

same_sides : (a b : ℕ) → (a == b) ≡ (b == a)
same_sides a b = decided (a == b) (b == a) (λ e. eq-eqb b a (sym (eqb-true a b e))) (λ e. eq-eqb a b (sym (eqb-true b a e)))

-- ---- ASSERTs of other cards

other_more : (known : Option Marks) (card c : ℕ) (same : Bool) → (c == card) ≡ same → has_other c (Some (more_marks known card)) ≡ (has_other c known || not same)
other_more None card c same e = last_false (not (c == card)) ∙ ap not e
  where
    last_false : (a : Bool) → (a || false) ≡ a
    last_false true = refl
    last_false false = refl
other_more (Some m) card c true e = ap (λ b. not (c == m.0) || (m.1 || not b)) (ap (λ (k : ℕ). m.0 == k) (sym (eqb-true c card e)) ∙ same_sides m.0 c) ∙ absorbed (c == m.0) m.1
  where
    absorbed : (x y : Bool) → (not x || (y || not x)) ≡ ((not x || y) || false)
    absorbed true true = refl
    absorbed true false = refl
    absorbed false y = refl
other_more (Some m) card c false e = differ (c == m.0) refl
  where
    differ : (x : Bool) → (c == m.0) ≡ x → (not (c == m.0) || (m.1 || not (m.0 == card))) ≡ ((not (c == m.0) || m.1) || true)
    differ true f = ap (λ b. not b || (m.1 || not (m.0 == card))) f ∙ ap (λ b. m.1 || not b) (ap (λ (k : ℕ). k == card) (sym (eqb-true c m.0 f)) ∙ e) ∙ all_true m.1 ∙ sym (last (not (c == m.0) || m.1))
      where
        all_true : (y : Bool) → (y || true) ≡ true
        all_true true = refl
        all_true false = refl

        last : (y : Bool) → (y || true) ≡ true
        last true = refl
        last false = refl
    differ false f = ap (λ b. not b || (m.1 || not (m.0 == card))) f ∙ sym (last (not (c == m.0) || m.1))
      where
        last : (y : Bool) → (y || true) ≡ true
        last true = refl
        last false = refl

or_false : (a : Bool) → (a || false) ≡ a
or_false true = refl
or_false false = refl

or_assoc : (a b c : Bool) → ((a || b) || c) ≡ (a || (b || c))
or_assoc true b c = refl
or_assoc false b c = refl

one_other : (known : Option Marks) (card c : ℕ) (b p q : Bool)
    → has_other c (if b && (p && q) then Some (more_marks known card) else known) ≡ (has_other c known || (b && (p && q && not (c == card))))
one_other known card c true true true = other_more known card c (c == card) refl
one_other known card c true true false = sym (or_false (has_other c known))
one_other known card c true false q = sym (or_false (has_other c known))
one_other known card c false p q = sym (or_false (has_other c known))

beside : (n m : Placed) (known : Option Marks) (b : Bool)
    → has_other n.card (if b && is_at n.unit n.line m then Some (more_marks known m.card) else known) ≡ (has_other n.card known || (b && is_beside n m))
beside n m known b =
    one_other known m.card n.card b (m.unit == n.unit) (m.line == n.line)
    ∙ (λ i. has_other n.card known || (b && (same_sides m.unit n.unit i && same_sides m.line n.line i && not (n.card == m.card))))

pub any_other : (n : Placed) (known : Option Marks) (notes : List Placed)
    → has_other n.card (marks_from known n.unit n.line notes) ≡ (has_other n.card known || list_any (λ m. begins_with judging.Assert m && is_beside n m) notes)
any_other n known [] = sym (or_false (has_other n.card known))
any_other n known (m ∷ notes) =
    any_other n (if begins_with judging.Assert m && is_at n.unit n.line m then Some (more_marks known m.card) else known) notes
    ∙ ap (λ b. b || list_any (λ k. begins_with judging.Assert k && is_beside n k) notes) (beside n m known (begins_with judging.Assert m))
    ∙ or_assoc (has_other n.card known) (begins_with judging.Assert m && is_beside n m) (list_any (λ k. begins_with judging.Assert k && is_beside n k) notes)

-- one more note
pub marks_step : (notes : List Placed) (i : ℕ) (e : Placed) (old new : List (ℕ × Marks)) (u l : ℕ) (rhs : Option Marks) → i < length notes → e ≡ get_or notes i e
    → told new (key u l) ≡ (if begins_with judging.Assert e && is_at u l e then Some (more_marks (told old (key u l)) e.card) else told old (key u l))
    → marks_from (told old (key u l)) u l (drop i notes) ≡ rhs → marks_from (told new (key u l)) u l (drop (i + 1) notes) ≡ rhs
marks_step notes i e old new u l rhs lt is put had =
    ap (λ (k : Option Marks). marks_from k u l (drop (i + 1) notes)) put
    ∙ ap (λ (x : Placed). marks_from (told old (key u l)) u l (x ∷ drop (i + 1) notes)) is
    ∙ sym (at_drop_more (λ (rest : List Placed). marks_from (told old (key u l)) u l rest) notes i e lt) ∙ had
