-- A note more in its unit.
use Rattle.std.proofs.Common.{◌≡◌, ◌⊎◌, inl, inr, ℕ, zero, suc, ◌+◌, ◌<◌, ◌≤◌, Bool, true, false, List, [], ◌∷◌, ◌++◌, length, map, set, get_or, All, refl, sym, ap, ◌∙◌, subst, arith}
use Rattle.std.proofs.lemmas.List.{length-map, map-append}
use Rattle.std.specs.Prelude.{◌==◌, if◌then◌else◌}
use Rattle.std.proofs.lemmas.Bool.{eq-eqb, eqb-true}
use Rattle.std.proofs.lemmas.List.Elements.{All-append, All-set}
use Rattle.formula.specs.Pool.{AllBelow, tree_of}
use Rattle.formula.specs.declared.node.Node.{Node}
use Rattle.formula.specs.declared.node.TermId.{TermId}
use Rattle.fort_notes.specs.Assertions.{Notes, assertion_tree, notes_tree}
use Rattle.fort_notes.specs.Forms as forms
use Rattle.fort_notes.specs.Judging.{Judged}
use Rattle.fort_notes.specs.Remarks.{input_in, output_in, assertion_in}
use Rattle.fort_notes.specs.declared.notes.AssertSpec.{AssertSpec}
use Rattle.fort_notes.specs.declared.notes.UnitSpec.{UnitSpec}
use Rattle.note_reading.specs.declared.note_form.NoteForm.TheVariants as note
use Rattle.path_scene.specs.Scenes.{AreNotesIn, IsAssertIn}
use Rattle.note_units.specs.Sorting.{note_tree, with_note, with_note_in}

pub nil_right : {X : Type 0} (xs : List X) → xs ++ [] ≡ xs
nil_right [] = refl
nil_right (x ∷ xs) = ap (λ l. x ∷ l) (nil_right xs)

-- ---- by numbers of units

differ : (a b : ℕ) (t : Bool) → (a == b) ≡ t → (a ≡ b → ⊥) → t ≡ false
differ a b true e apart = absurd (apart (eqb-true a b e))
differ a b false e apart = refl

other : (a b : ℕ) → (a ≡ b → ⊥) → (a == b) ≡ false
other a b apart = differ a b (a == b) refl apart

-- a unit of another number keeps its notes
pub before_all : (j : Judged) (i : ℕ) (ns : List Notes) → j.unit < i → with_note_in j i ns ≡ ns
before_all j i [] lt = refl
before_all j i (n ∷ ns) lt =
    ap (λ t. (if t then with_note j n else n) ∷ with_note_in j (suc i) ns) (other j.unit i (λ e. absurd (omega arith)))
    ∙ ap (λ l. n ∷ l) (before_all j (suc i) ns (omega arith))

pub behind_all : (j : Judged) (i : ℕ) (ns : List Notes) → i + length ns ≤ j.unit → with_note_in j i ns ≡ ns
behind_all j i [] le = refl
behind_all j i (n ∷ ns) le =
    ap (λ t. (if t then with_note j n else n) ∷ with_note_in j (suc i) ns) (other j.unit i (λ e. absurd (omega arith)))
    ∙ ap (λ l. n ∷ l) (behind_all j (suc i) ns (omega arith))

-- a note that is no part of a unit changes none
pub is_of_none : (j : Judged) (i : ℕ) (ns : List Notes) → input_in j.form ≡ [] → output_in j.form ≡ [] → assertion_in j j.form ≡ [] → with_note_in j i ns ≡ ns
is_of_none j i [] p q r = refl
is_of_none j i (n ∷ ns) p q r = λ k. by (j.unit == i) k ∷ is_of_none j (suc i) ns p q r k
  where
    same : with_note j n ≡ n
    same = λ k. record {
      input = (ap (λ l. n.input ++ l) p ∙ nil_right n.input) k;
      output = (ap (λ l. n.output ++ l) q ∙ nil_right n.output) k;
      asserts = (ap (λ l. n.asserts ++ l) r ∙ nil_right n.asserts) k;
    }

    by : (t : Bool) → (if t then with_note j n else n) ≡ n
    by true = same
    by false = refl

-- the notes of the unit itself are changed
pub is_of_own : (pool : List Node) (j : Judged) (i k : ℕ) (us : List UnitSpec) (own d : UnitSpec) → k < length us → j.unit ≡ i + k
    → notes_tree pool own ≡ with_note j (notes_tree pool (get_or us k d)) → map (notes_tree pool) (set us k own) ≡ with_note_in j i (map (notes_tree pool) us)
is_of_own pool j i k [] own d lt e is = absurd (omega arith)
is_of_own pool j i zero (u ∷ us) own d lt e is =
    ap (λ n. n ∷ map (notes_tree pool) us) is
    ∙ ap (λ (l : List Notes). with_note j (notes_tree pool u) ∷ l) (sym (before_all j (suc i) (map (notes_tree pool) us) (omega arith)))
    ∙ ap (λ t. (if t then with_note j (notes_tree pool u) else notes_tree pool u) ∷ with_note_in j (suc i) (map (notes_tree pool) us)) (sym (eq-eqb j.unit i (omega arith)))
is_of_own pool j i (suc k) (u ∷ us) own d lt e is =
    ap (λ l. notes_tree pool u ∷ l) (is_of_own pool j (suc i) k us own d (omega arith) (omega arith) is)
    ∙ ap (λ t. (if t then with_note j (notes_tree pool u) else notes_tree pool u) ∷ with_note_in j (suc i) (map (notes_tree pool) us)) (sym (other j.unit i (λ f. absurd (omega arith))))

-- ---- INPUT, OUTPUT and ASSERT of a unit

input_more : (pool : List Node) (u : UnitSpec) (ts : List TermId) (j : Judged) → j.form ≡ forms.input (map (tree_of pool) ts)
    → notes_tree pool (record { input = u.input ++ ts; output = u.output; asserts = u.asserts }) ≡ with_note j (notes_tree pool u)
input_more pool u ts j e = λ k. record {
  input = (map-append (tree_of pool) u.input ts ∙ ap (λ f. map (tree_of pool) u.input ++ input_in f) (sym e)) k;
  output = (sym (nil_right (map (tree_of pool) u.output)) ∙ ap (λ f. map (tree_of pool) u.output ++ output_in f) (sym e)) k;
  asserts = (sym (nil_right (map (assertion_tree pool) u.asserts)) ∙ ap (λ f. map (assertion_tree pool) u.asserts ++ assertion_in j f) (sym e)) k;
}

output_more : (pool : List Node) (u : UnitSpec) (ts : List TermId) (j : Judged) → j.form ≡ forms.output (map (tree_of pool) ts)
    → notes_tree pool (record { input = u.input; output = u.output ++ ts; asserts = u.asserts }) ≡ with_note j (notes_tree pool u)
output_more pool u ts j e = λ k. record {
  input = (sym (nil_right (map (tree_of pool) u.input)) ∙ ap (λ f. map (tree_of pool) u.input ++ input_in f) (sym e)) k;
  output = (map-append (tree_of pool) u.output ts ∙ ap (λ f. map (tree_of pool) u.output ++ output_in f) (sym e)) k;
  asserts = (sym (nil_right (map (assertion_tree pool) u.asserts)) ∙ ap (λ f. map (assertion_tree pool) u.asserts ++ assertion_in j f) (sym e)) k;
}

assert_more : (pool : List Node) (u : UnitSpec) (a : AssertSpec) (c : Bool) (j : Judged) → j.line ≡ a.line → j.card ≡ a.card
    → j.form ≡ forms.assertion (map (tree_of pool) a.terms) c (map (tree_of pool) a.clock)
    → notes_tree pool (record { input = u.input; output = u.output; asserts = u.asserts ++ a ∷ [] }) ≡ with_note j (notes_tree pool u)
assert_more pool u a c j line card e = λ k. record {
  input = (sym (nil_right (map (tree_of pool) u.input)) ∙ ap (λ f. map (tree_of pool) u.input ++ input_in f) (sym e)) k;
  output = (sym (nil_right (map (tree_of pool) u.output)) ∙ ap (λ f. map (tree_of pool) u.output ++ output_in f) (sym e)) k;
  asserts =
      (map-append (assertion_tree pool) u.asserts (a ∷ [])
      ∙ (λ m. map (assertion_tree pool) u.asserts ++ record { point = sym line m; card = sym card m; terms = map (tree_of pool) a.terms; clock = map (tree_of pool) a.clock } ∷ [])
      ∙ ap (λ f. map (assertion_tree pool) u.asserts ++ assertion_in j f) (sym e)) k;
}

-- where the unit of the number is changed
pub input_put : (pool : List Node) (us : List UnitSpec) (unit line card k : ℕ) (ts input : List TermId) (own : UnitSpec) → k < length us → unit ≡ suc k → own ≡ get_or us k own → input ≡ own.input ++ ts
    → map (notes_tree pool) (set us k (record { input = input; output = own.output; asserts = own.asserts })) ≡ with_note_in (note_tree pool unit line card (note.Input ts)) 1 (map (notes_tree pool) us)
input_put pool us unit line card k ts input own lt e at is =
    let j : Judged = note_tree pool unit line card (note.Input ts) in
    is_of_own pool j 1 k us (record { input = input; output = own.output; asserts = own.asserts }) own lt (omega arith)
    (ap (λ (l : List TermId). notes_tree pool (record { input = l; output = own.output; asserts = own.asserts })) is ∙ input_more pool own ts j refl ∙ ap (λ (u : UnitSpec). with_note j (notes_tree pool u)) at)

pub output_put : (pool : List Node) (us : List UnitSpec) (unit line card k : ℕ) (ts output : List TermId) (own : UnitSpec) → k < length us → unit ≡ suc k → own ≡ get_or us k own → output ≡ own.output ++ ts
    → map (notes_tree pool) (set us k (record { input = own.input; output = output; asserts = own.asserts })) ≡ with_note_in (note_tree pool unit line card (note.Output ts)) 1 (map (notes_tree pool) us)
output_put pool us unit line card k ts output own lt e at is =
    let j : Judged = note_tree pool unit line card (note.Output ts) in
    is_of_own pool j 1 k us (record { input = own.input; output = output; asserts = own.asserts }) own lt (omega arith)
    (ap (λ (l : List TermId). notes_tree pool (record { input = own.input; output = l; asserts = own.asserts })) is ∙ output_more pool own ts j refl ∙ ap (λ (u : UnitSpec). with_note j (notes_tree pool u)) at)

pub assert_put : (pool : List Node) (us : List UnitSpec) (unit k : ℕ) (a : AssertSpec) (c : Bool) (asserts : List AssertSpec) (own : UnitSpec) → k < length us → unit ≡ suc k → own ≡ get_or us k own
    → asserts ≡ own.asserts ++ a ∷ []
    → map (notes_tree pool) (set us k (record { input = own.input; output = own.output; asserts = asserts })) ≡ with_note_in (note_tree pool unit a.line a.card (note.Assertion (record { terms = a.terms; has_clock = c; clock = a.clock }))) 1 (map (notes_tree pool) us)
assert_put pool us unit k a c asserts own lt e at is =
    let j : Judged = note_tree pool unit a.line a.card (note.Assertion (record { terms = a.terms; has_clock = c; clock = a.clock })) in
    is_of_own pool j 1 k us (record { input = own.input; output = own.output; asserts = asserts }) own lt (omega arith)
    (ap (λ (l : List AssertSpec). notes_tree pool (record { input = own.input; output = own.output; asserts = l })) is ∙ assert_more pool own a c j refl refl refl ∙ ap (λ (u : UnitSpec). with_note j (notes_tree pool u)) at)

-- where there is none of the number
pub no_unit : (pool : List Node) (us : List UnitSpec) (j : Judged) → (j.unit ≡ 0) ⊎ (length us < j.unit) → map (notes_tree pool) us ≡ with_note_in j 1 (map (notes_tree pool) us)
no_unit pool us j (inl e) = sym (before_all j 1 (map (notes_tree pool) us) (omega arith))
no_unit pool us j (inr lt) =
    let same : length (map (notes_tree pool) us) ≡ length us = length-map us (notes_tree pool) in
    sym (behind_all j 1 (map (notes_tree pool) us) (omega arith))

-- ---- terms stay in the pool

below_more : (n : ℕ) (xs ys : List TermId) → AllBelow n xs → AllBelow n ys → AllBelow n (xs ++ ys)
below_more n [] ys h k = k
below_more n (x ∷ xs) ys h k = (h.0, below_more n xs ys h.1 k)

own_in : (n : ℕ) (us : List UnitSpec) (k : ℕ) (own : UnitSpec) → k < length us → own ≡ get_or us k own → All (AreNotesIn n) us → AreNotesIn n own
own_in n us k own lt at h = subst (AreNotesIn n) (sym at) (h k own lt)

pub one : {X : Type 0} (P : X → Type 0) (x : X) → P x → All P (x ∷ [])
one P x h zero d lt = h
one P x h (suc k) d lt = absurd (omega arith)

pub input_in_pool : (n : ℕ) (us : List UnitSpec) (k : ℕ) (ts input : List TermId) (own : UnitSpec) → k < length us → own ≡ get_or us k own → input ≡ own.input ++ ts
    → AllBelow n ts → All (AreNotesIn n) us → All (AreNotesIn n) (set us k (record { input = input; output = own.output; asserts = own.asserts }))
input_in_pool n us k ts input own lt at is b h =
    let o = own_in n us k own lt at h in
    All-set (AreNotesIn n) us k (record { input = input; output = own.output; asserts = own.asserts })
    (record { input = subst (AllBelow n) (sym is) (below_more n own.input ts o.input b); output = o.output; asserts = o.asserts }) h

pub output_in_pool : (n : ℕ) (us : List UnitSpec) (k : ℕ) (ts output : List TermId) (own : UnitSpec) → k < length us → own ≡ get_or us k own → output ≡ own.output ++ ts
    → AllBelow n ts → All (AreNotesIn n) us → All (AreNotesIn n) (set us k (record { input = own.input; output = output; asserts = own.asserts }))
output_in_pool n us k ts output own lt at is b h =
    let o = own_in n us k own lt at h in
    All-set (AreNotesIn n) us k (record { input = own.input; output = output; asserts = own.asserts })
    (record { input = o.input; output = subst (AllBelow n) (sym is) (below_more n own.output ts o.output b); asserts = o.asserts }) h

pub assert_in_pool : (n : ℕ) (us : List UnitSpec) (k : ℕ) (a : AssertSpec) (asserts : List AssertSpec) (own : UnitSpec) → k < length us → own ≡ get_or us k own → asserts ≡ own.asserts ++ a ∷ []
    → IsAssertIn n a → All (AreNotesIn n) us → All (AreNotesIn n) (set us k (record { input = own.input; output = own.output; asserts = asserts }))
assert_in_pool n us k a asserts own lt at is b h =
    let o = own_in n us k own lt at h in
    All-set (AreNotesIn n) us k (record { input = own.input; output = own.output; asserts = asserts })
    (record { input = o.input; output = o.output; asserts = subst (All (IsAssertIn n)) (sym is) (All-append (IsAssertIn n) own.asserts (a ∷ []) o.asserts (one (IsAssertIn n) a b)) }) h
