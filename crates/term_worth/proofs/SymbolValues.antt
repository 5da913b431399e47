-- Values of symbols, held.
use Rattle.std.proofs.Common.{◌≡◌, ℕ, zero, suc, ◌+◌, ◌<◌, ◌≤◌, Bool, true, false, if◌then◌else◌, List, [], ◌∷◌, length, drop, get_or, refl, sym, ap, ◌∙◌, arith, subst, cond, Option, Some, None}
use Rattle.std.specs.Prelude.{slice_get}
use Rattle.std.specs.List.{position, position_from}
use Rattle.std.proofs.lemmas.Cmp.{nat_list_eq_equiv}
use Rattle.std.proofs.lemmas.Iterator.Adapters.{position_from-zero}
use Rattle.formula.specs.declared.definition.Definition.{Definition}
use Rattle.term_worth.specs.declared.machine.Held.{Held}
use Rattle.term_worth.specs.declared.machine.Held.TheVariants as held
use Rattle.term_worth.specs.declared.machine.Parameters.{Parameters}
use Rattle.term_worth.specs.declared.machine.Scope.{Scope}
use Rattle.term_worth.specs.declared.machine.Scope.TheVariants.{Arguments}
use Rattle.formula.specs.declared.value.Cell.{Cell}
use Rattle.formula.specs.declared.value.Value.{Value}
use Rattle.formula.specs.declared.value.Value.TheVariants.{Int, Logical, Undefined, Cells}
use Rattle.formula.specs.declared.word.Word.{Word}
use Rattle.formula.specs.Atoms.{same_bytes}
use Rattle.term_worth.specs.Machine.{argument_of, held_at, cells_of, value_of, values_of, value_of_entry, entry_at, params_in, symbols_of, IsHeld, AreHeld, IsScope}
use Rattle.formula.specs.Worth.{bound_to}

-- ---- parameters, one by one

pub argument_step : (ps : List (List ℕ)) (hs : List Held) (s d : List ℕ) (i : ℕ) → i < length ps → i < length hs → same_bytes (get_or ps i d) s ≡ false
    → argument_of (drop i ps) (drop i hs) s ≡ argument_of (drop (suc i) ps) (drop (suc i) hs) s
argument_step [] hs s d i l1 l2 e = absurd (omega arith)
argument_step (p ∷ ps) [] s d i l1 l2 e = absurd (omega arith)
argument_step (p ∷ ps) (h ∷ hs) s d zero l1 l2 e = ap (λ t. if t then h else argument_of ps hs s) e
argument_step (p ∷ ps) (h ∷ hs) s d (suc i) l1 l2 e = argument_step ps hs s d i (omega arith) (omega arith) e

pub argument_end : (ps : List (List ℕ)) (hs : List Held) (s : List ℕ) (i : ℕ) → length hs ≤ i → argument_of (drop i ps) (drop i hs) s ≡ held.Undefined
argument_end [] [] s zero l = refl
argument_end [] hs s (suc i) l = none hs
  where
    none : (hs : List Held) → argument_of [] (drop (suc i) hs) s ≡ held.Undefined
    none hs = refl
argument_end [] (h ∷ hs) s zero l = refl
argument_end (p ∷ ps) [] s zero l = refl
argument_end (p ∷ ps) [] s (suc i) l = rest (drop i ps)
  where
    rest : (qs : List (List ℕ)) → argument_of qs [] s ≡ held.Undefined
    rest [] = refl
    rest (q ∷ qs) = refl
argument_end (p ∷ ps) (h ∷ hs) s zero l = absurd (omega arith)
argument_end (p ∷ ps) (h ∷ hs) s (suc i) l = argument_end ps hs s i (omega arith)

-- ---- what they stand for

if_value : (sheet : List (Word × Value)) (made : List (List Cell)) (t : Bool) (h k : Held) → value_of sheet made (if t then h else k) ≡ (if t then value_of sheet made h else value_of sheet made k)
if_value sheet made true h k = refl
if_value sheet made false h k = refl

pub value_argument : (sheet : List (Word × Value)) (made : List (List Cell)) (ps : List (List ℕ)) (hs : List Held) (s : List ℕ)
    → value_of sheet made (argument_of ps hs s) ≡ bound_to ps (values_of sheet made hs) s
value_argument sheet made [] hs s = refl
value_argument sheet made (p ∷ ps) [] s = refl
value_argument sheet made (p ∷ ps) (h ∷ hs) s =
    if_value sheet made (same_bytes p s) h (argument_of ps hs s) ∙ ap (λ v. if same_bytes p s then value_of sheet made h else v) (value_argument sheet made ps hs s)

if_held : (n : ℕ) (t : Bool) (h k : Held) → IsHeld n h → IsHeld n k → IsHeld n (if t then h else k)
if_held n true h k p q = p
if_held n false h k p q = q

pub argument_held : (n : ℕ) (ps : List (List ℕ)) (hs : List Held) (s : List ℕ) → AreHeld n hs → IsHeld n (argument_of ps hs s)
argument_held n [] hs s p = tt
argument_held n (q ∷ ps) [] s p = tt
argument_held n (q ∷ ps) (h ∷ hs) s p = if_held n (same_bytes q s) h (argument_of ps hs s) p.0 (argument_held n ps hs s p.1)

-- an entry of the sheet
pub value_held_at : (sheet : List (Word × Value)) (made : List (List Cell)) (i : ℕ) (s : Word) (v : Value) → slice_get sheet i ≡ Some (s, v) → value_of sheet made (held_at v i) ≡ v
value_held_at sheet made i s (Int z) e = refl
value_held_at sheet made i s (Logical b) e = refl
value_held_at sheet made i s Undefined e = refl
value_held_at sheet made i s (Cells cs) e = ap (λ o. Cells (cells_of (value_of_entry o))) e

pub value_entry : (sheet : List (Word × Value)) (made : List (List Cell)) (i : ℕ) (s : Word) (v : Value) → slice_get sheet i ≡ Some (s, v) → value_of sheet made (held_at (entry_at sheet i) i) ≡ v
value_entry sheet made i s v e = ap (λ o. value_of sheet made (held_at (value_of_entry o) i)) e ∙ value_held_at sheet made i s v e

pub entry_is_held : (n i : ℕ) (v : Value) → IsHeld n (held_at v i)
entry_is_held n i (Int z) = tt
entry_is_held n i (Logical b) = tt
entry_is_held n i Undefined = tt
entry_is_held n i (Cells cs) = tt

-- ---- a scope

-- a symbol that is a parameter
pub value_in_use : (ds : List Definition) (sheet : List (Word × Value)) (made : List (List Cell)) (scope : Scope) (ps : Parameters) (hs : List Held) (s : List ℕ) → scope ≡ Arguments ps hs
    → value_of sheet made (argument_of (params_in ds ps) hs s) ≡ symbols_of ds sheet made scope s
value_in_use ds sheet made scope ps hs s is = value_argument sheet made (params_in ds ps) hs s ∙ ap (λ c. symbols_of ds sheet made c s) (sym is)

pub held_in_use : (ds : List Definition) (scope : Scope) (ps : Parameters) (hs : List Held) (s : List ℕ) (n : ℕ) → scope ≡ Arguments ps hs → IsScope n scope
    → IsHeld n (argument_of (params_in ds ps) hs s)
held_in_use ds scope ps hs s n is p = argument_held n (params_in ds ps) hs s (subst (IsScope n) is p)

-- ---- parameters by a table

-- the value at a place, counted from i, is that of the parameter; with no place it has none
abbrev pub IsAt : List (List ℕ) → List Held → List ℕ → ℕ → Option ℕ → Type 0
IsAt ps hs s i None = argument_of ps hs s ≡ held.Undefined
IsAt ps hs s i (Some k) = (j : ℕ) × (k ≡ i + j) × (get_or hs j held.Undefined ≡ argument_of ps hs s)

at_later : (p : List ℕ) (ps : List (List ℕ)) (hs : List Held) (s : List ℕ) (i : ℕ) (r : Option ℕ) → same_bytes p s ≡ false → IsAt ps (drop 1 hs) s (i + 1) r → IsAt (p ∷ ps) hs s i r
at_later p ps [] s i None other h = refl
at_later p ps [] s i (Some k) other h = let place : k ≡ i + 1 + h.0 = h.1 in (suc h.0, omega arith, refl)
at_later p ps (x ∷ hs) s i None other h = ap (λ b. if b then x else argument_of ps hs s) other ∙ h
at_later p ps (x ∷ hs) s i (Some k) other h =
    let place : k ≡ i + 1 + h.0 = h.1 in
    (suc h.0, omega arith, h.2 ∙ sym (ap (λ b. if b then x else argument_of ps hs s) other))

at_here : (p : List ℕ) (ps : List (List ℕ)) (hs : List Held) (s : List ℕ) (i : ℕ) (rest : Option ℕ) (b : Bool) → same_bytes p s ≡ b → IsAt ps (drop 1 hs) s (i + 1) rest
    → IsAt (p ∷ ps) hs s i (cond b (Some i) rest)
at_here p ps [] s i rest true same h = (0, omega arith, refl)
at_here p ps (x ∷ hs) s i rest true same h = (0, omega arith, sym (ap (λ b. if b then x else argument_of ps hs s) same))
at_here p ps hs s i rest false other h = at_later p ps hs s i rest other h

at_from : (ps : List (List ℕ)) (hs : List Held) (s : List ℕ) (i : ℕ) → IsAt ps hs s i (position_from (same_bytes s) i ps)
at_from [] hs s i = refl
at_from (p ∷ ps) hs s i = at_here p ps hs s i (position_from (same_bytes s) (i + 1) ps) (same_bytes s p) (nat_list_eq_equiv.symm p s) (at_from ps (drop 1 hs) s (i + 1))

pub found_at : (ps : List (List ℕ)) (hs : List Held) (s : List ℕ) (k : ℕ) → Some k ≡ position (same_bytes s) ps → get_or hs k held.Undefined ≡ argument_of ps hs s
found_at ps hs s k is =
    let h : IsAt ps hs s 0 (Some k) = subst (IsAt ps hs s 0) (sym (is ∙ position_from-zero (same_bytes s) ps)) (at_from ps hs s 0) in
    let same : h.0 ≡ k = omega (arith, h.1) in
    ap (λ j. get_or hs j held.Undefined) (sym same) ∙ h.2

pub found_nowhere : (ps : List (List ℕ)) (hs : List Held) (s : List ℕ) → None ≡ position (same_bytes s) ps → held.Undefined ≡ argument_of ps hs s
found_nowhere ps hs s is =
    let h : IsAt ps hs s 0 None = subst (IsAt ps hs s 0) (sym (is ∙ position_from-zero (same_bytes s) ps)) (at_from ps hs s 0) in
    sym h
