-- The notes of a unit by its number.
use Rattle.std.proofs.Common.{◌≡◌, ◌<◌, ℕ, zero, suc, Bool, true, false, cond, List, [], ◌∷◌, map, Some, None, slice_get, refl, sym, ap, ◌∙◌, arith}
use Rattle.std.specs.List.{All}
use Rattle.formula.specs.Pool.{AllBelow}
use Rattle.formula.specs.declared.node.Node.{Node}
use Rattle.fort_notes.specs.Assertions.{notes_tree}
use Rattle.fort_notes.specs.declared.notes.UnitSpec.{UnitSpec}
use Rattle.fort_model.specs.Program.{notes_in}
use Rattle.fort_notes.specs.declared.notes.AssertSpec.{AssertSpec}
use Rattle.path_scene.specs.Scenes.{AreNotesIn, IsAssertIn}
use Rattle.weight_calls.specs.Inside.{are_inside, asserts_inside, ids_inside, notes_inside}
use Rattle.formula.specs.declared.node.TermId.{TermId}
use Rattle.std.specs.Prelude.{nat_lt}
use Rattle.std.proofs.lemmas.Bool.Decides.{nat_tests}

pub notes_some : (pool : List Node) (specs : List UnitSpec) (i : ℕ) (s : UnitSpec) → slice_get specs i ≡ Some s → notes_in (slice_get (map (notes_tree pool) specs) i) ≡ notes_tree pool s
notes_some pool [] i s e = absurd cc
notes_some pool (t ∷ specs) zero s e = let same : t ≡ s = cc in ap (notes_tree pool) same
notes_some pool (t ∷ specs) (suc i) s e = notes_some pool specs i s e

pub notes_none : (pool : List Node) (specs : List UnitSpec) (i : ℕ) → slice_get specs i ≡ None → notes_in (slice_get (map (notes_tree pool) specs) i) ≡ notes_in None
notes_none pool [] i e = refl
notes_none pool (t ∷ specs) zero e = absurd cc
notes_none pool (t ∷ specs) (suc i) e = notes_none pool specs i e

-- ---- terms of the pool

pub first_of : (b d : Bool) → cond b d false ≡ true → b ≡ true
first_of true d e = refl
first_of false d e = absurd cc

pub rest_of : (b d : Bool) → cond b d false ≡ true → d ≡ true
rest_of true d e = e
rest_of false d e = absurd cc

less : (m n : ℕ) → nat_lt m n ≡ true → m < n
less m n e = grind (arith, nat_tests)

is_less : (m n : ℕ) → m < n → nat_lt m n ≡ true
is_less m n h = grind (arith, nat_tests)

pub below_of : (n : ℕ) (ids : List TermId) → ids_inside n ids ≡ true → AllBelow n ids
below_of n [] e = tt
below_of n (id ∷ ids) e = (less id.place n (first_of (nat_lt id.place n) (ids_inside n ids) e), below_of n ids (rest_of (nat_lt id.place n) (ids_inside n ids) e))

both_true : (b d : Bool) → b ≡ true → d ≡ true → cond b d false ≡ true
both_true true d e f = f
both_true false d e f = absurd cc

pub inside_of : (n : ℕ) (ids : List TermId) → AllBelow n ids → ids_inside n ids ≡ true
inside_of n [] h = refl
inside_of n (id ∷ ids) h = both_true (nat_lt id.place n) (ids_inside n ids) (is_less id.place n h.0) (inside_of n ids h.1)

pub asserts_of : (n : ℕ) (specs : List AssertSpec) → All (IsAssertIn n) specs → asserts_inside n specs ≡ true
asserts_of n [] h = refl
asserts_of n (a ∷ rest) h =
    let here : IsAssertIn n a = h zero a (omega arith) in
    both_true (ids_inside n a.terms) (cond (ids_inside n a.clock) (asserts_inside n rest) false) (inside_of n a.terms here.terms)
    (both_true (ids_inside n a.clock) (asserts_inside n rest) (inside_of n a.clock here.clock) (asserts_of n rest (λ k d lt. h (suc k) d (omega arith))))

-- notes of a scene are inside its pool
pub all_inside : (n : ℕ) (specs : List UnitSpec) → All (AreNotesIn n) specs → are_inside n specs ≡ true
all_inside n [] h = refl
all_inside n (s ∷ specs) h =
    let here : AreNotesIn n s = h zero s (omega arith) in
    both_true (notes_inside n s) (are_inside n specs)
    (both_true (ids_inside n s.input) (cond (ids_inside n s.output) (asserts_inside n s.asserts) false) (inside_of n s.input here.input)
    (both_true (ids_inside n s.output) (asserts_inside n s.asserts) (inside_of n s.output here.output) (asserts_of n s.asserts here.asserts)))
    (all_inside n specs (λ k d lt. h (suc k) d (omega arith)))

pub notes_at : (n : ℕ) (specs : List UnitSpec) (i : ℕ) (s : UnitSpec) → are_inside n specs ≡ true → slice_get specs i ≡ Some s → notes_inside n s ≡ true
notes_at n [] i s h e = absurd cc
notes_at n (t ∷ specs) zero s h e = let same : t ≡ s = cc in ap (notes_inside n) (sym same) ∙ first_of (notes_inside n t) (are_inside n specs) h
notes_at n (t ∷ specs) (suc i) s h e = notes_at n specs i s (rest_of (notes_inside n t) (are_inside n specs) h) e

pub input_below : (n : ℕ) (specs : List UnitSpec) (i : ℕ) (s : UnitSpec) → are_inside n specs ≡ true → slice_get specs i ≡ Some s → AllBelow n s.input
input_below n specs i s h e =
    below_of n s.input (first_of (ids_inside n s.input) (cond (ids_inside n s.output) (asserts_inside n s.asserts) false) (notes_at n specs i s h e))

pub output_below : (n : ℕ) (specs : List UnitSpec) (i : ℕ) (s : UnitSpec) → are_inside n specs ≡ true → slice_get specs i ≡ Some s → AllBelow n s.output
output_below n specs i s h e =
    below_of n s.output
    (first_of (ids_inside n s.output) (asserts_inside n s.asserts)
    (rest_of (ids_inside n s.input) (cond (ids_inside n s.output) (asserts_inside n s.asserts) false) (notes_at n specs i s h e)))
