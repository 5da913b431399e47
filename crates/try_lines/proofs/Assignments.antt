-- Assignments in which a symbol stands twice.
use Rattle.std.proofs.Common.{◌≡◌, ◌<◌, ◌+◌, ℕ, Bool, true, false, if◌then◌else◌, List, [], ◌∷◌, ◌++◌, length, drop, get_or, refl, sym, ap, ◌∙◌, subst, arith, append-nil}
use Rattle.std.proofs.lemmas.List.{at_drop_more, drop_all}
use Rattle.std.specs.Cmp.Lexicographic.{same_text}
use Rattle.formula.specs.Atoms.{same_bytes}
use Rattle.formula.specs.Worth.{assigned}
use Rattle.formula.specs.declared.value.Value.{Value}
use Rattle.term_worth.specs.Sheets.{is_set}

abbrev Entries : Type 0
Entries = List (List ℕ × Value)

unless : (b : Bool) (v : Value) (x y : Value) → (b ≡ false → x ≡ y) → (if b then v else x) ≡ (if b then v else y)
unless true v x y e = refl
unless false v x y e = e refl

-- a value for another symbol does not count
other_symbol : (old rest : Entries) (w : List ℕ) (v : Value) (s : List ℕ) → same_bytes w s ≡ false → assigned (old ++ rest) s ≡ assigned (old ++ (w, v) ∷ rest) s
other_symbol [] rest w v s h = sym (ap (λ (b : Bool). if b then v else assigned rest s) h)
other_symbol (e ∷ old) rest w v s h =
    unless (same_bytes e.0 s) e.1 (assigned (old ++ rest) s) (assigned (old ++ (w, v) ∷ rest) s) (λ _. other_symbol old rest w v s h)

-- nor does one for a symbol that has one
set_by : (e : List ℕ × Value) (old rest : Entries) (w : List ℕ) (v : Value) (s : List ℕ) (here : Bool) → same_bytes e.0 w ≡ here → (here ≡ false → is_set old w ≡ true)
    → ((s : List ℕ) → is_set old w ≡ true → assigned (old ++ rest) s ≡ assigned (old ++ (w, v) ∷ rest) s)
    → same_bytes e.0 s ≡ false → assigned (old ++ rest) s ≡ assigned (old ++ (w, v) ∷ rest) s
set_by e old rest w v s false at later known h = known s (later refl)
set_by e old rest w v s true at later known h =
    let same : e.0 ≡ w = same_text e.0 w (sym at) in
    other_symbol old rest w v s (subst (λ (x : List ℕ). same_bytes x s ≡ false) same h)

later_set : (e : List ℕ × Value) (old : Entries) (w : List ℕ) (here : Bool) → same_bytes e.0 w ≡ here → is_set (e ∷ old) w ≡ true → here ≡ false → is_set old w ≡ true
later_set e old w true at h k = absurd cc
later_set e old w false at h k = cc

pub known_symbol : (old rest : Entries) (w : List ℕ) (v : Value) (s : List ℕ) → is_set old w ≡ true → assigned (old ++ rest) s ≡ assigned (old ++ (w, v) ∷ rest) s
known_symbol [] rest w v s h = absurd cc
known_symbol (e ∷ old) rest w v s h =
    unless (same_bytes e.0 s) e.1 (assigned (old ++ rest) s) (assigned (old ++ (w, v) ∷ rest) s)
    (set_by e old rest w v s (same_bytes e.0 w) refl (later_set e old w (same_bytes e.0 w) refl h) (λ x k. known_symbol old rest w v x k))

-- an entry behind others
pub one_behind : (old new rest : Entries) (w : List ℕ) (v : Value) (s : List ℕ) → new ≡ old ++ (w, v) ∷ [] → assigned (new ++ rest) s ≡ assigned (old ++ (w, v) ∷ rest) s
one_behind old new rest w v s e = ap (λ (l : Entries). assigned (l ++ rest) s) e ∙ ap (λ (l : Entries). assigned l s) (put_behind old)
  where
    put_behind : (xs : Entries) → (xs ++ (w, v) ∷ []) ++ rest ≡ xs ++ (w, v) ∷ rest
    put_behind [] = refl
    put_behind (x ∷ xs) = ap (λ (l : Entries). x ∷ l) (put_behind xs)

-- ---- one entry after another

pub first_entries : (all : Entries) (s : List ℕ) → assigned ([] ++ drop 0 all) s ≡ assigned all s
first_entries all s = refl

pub next_entries : (all old new : Entries) (i : ℕ) (e : List ℕ × Value) (w : List ℕ) (v : Value) → i < length all → e ≡ get_or all i e → w ≡ e.0 → v ≡ e.1
    → ((s : List ℕ) (rest : Entries) → assigned (new ++ rest) s ≡ assigned (old ++ (w, v) ∷ rest) s)
    → ((s : List ℕ) → assigned (old ++ drop i all) s ≡ assigned all s) → (s : List ℕ) → assigned (new ++ drop (i + 1) all) s ≡ assigned all s
next_entries all old new i e w v lt read first second put had s =
    put s (drop (i + 1) all)
    ∙ (λ j. assigned (old ++ (first j, second j) ∷ drop (i + 1) all) s)
    ∙ ap (λ (x : List ℕ × Value). assigned (old ++ x ∷ drop (i + 1) all) s) read
    ∙ sym (at_drop_more (λ (rest : Entries). assigned (old ++ rest) s) all i e lt)
    ∙ had s

pub last_entries : (all sheet : Entries) (i : ℕ) → length all ≡ i → ((s : List ℕ) → assigned (sheet ++ drop i all) s ≡ assigned all s) → (s : List ℕ) → assigned sheet s ≡ assigned all s
last_entries all sheet i past had s =
    ap (λ (l : Entries). assigned l s) (sym (ap (λ (l : Entries). sheet ++ l) (drop_all i all (omega (arith, past))) ∙ append-nil sheet)) ∙ had s
