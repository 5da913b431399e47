-- The ASSERTs of a unit.
use Rattle.std.proofs.Common.{◌≡◌, ℕ, zero, suc, ◌<◌, ◌==◌, arith, Bool, true, false, cond, List, [], ◌∷◌, map, Option, Some, None, option_map, slice_get, refl, sym, ap, ◌∙◌, subst}
use Rattle.std.specs.Prelude.{nat_lt}
use Rattle.std.proofs.lemmas.Bool.Decides.{nat_tests}
use Rattle.std.proofs.lemmas.Option.{slice_get-map}
use Rattle.formula.specs.Pool.{AllBelow}
use Rattle.formula.specs.declared.node.TermId.{TermId}
use Rattle.formula.specs.declared.node.Node.{Node}
use Rattle.fort_notes.specs.Assertions.{Assertion, assertion_tree, notes_tree}
use Rattle.fort_notes.specs.declared.notes.AssertSpec.{AssertSpec}
use Rattle.fort_notes.specs.declared.notes.UnitSpec.{UnitSpec}
use Rattle.fort_model.specs.Program.{assertion_in, notes_in}
use Rattle.path_scene.specs.Scenes.{IsAssertIn}
use Rattle.weight_calls.specs.Inside.{are_inside, asserts_inside, ids_inside, notes_inside}
use Rattle.weight_calls.proofs.NoteTerms.{below_of, first_of, notes_at, rest_of}
use Rattle.weight_path.specs.Noted.{first_at}

-- those of a unit are inside where all notes are
pub asserts_below : (n : ℕ) (specs : List UnitSpec) (i : ℕ) (s : UnitSpec) → are_inside n specs ≡ true → slice_get specs i ≡ Some s → asserts_inside n s.asserts ≡ true
asserts_below n specs i s h e =
    first_of_rest (ids_inside n s.input) (ids_inside n s.output) (asserts_inside n s.asserts) (notes_at n specs i s h e)
  where
    first_of_rest : (a b d : Bool) → cond a (cond b d false) false ≡ true → d ≡ true
    first_of_rest a b d k = rest_of b d (rest_of a (cond b d false) k)

head_in : (n : ℕ) (a : AssertSpec) (rest : List AssertSpec) → asserts_inside n (a ∷ rest) ≡ true → IsAssertIn n a
head_in n a rest h =
    let clock = rest_of (ids_inside n a.terms) (cond (ids_inside n a.clock) (asserts_inside n rest) false) h in
    record {
      terms = below_of n a.terms (first_of (ids_inside n a.terms) (cond (ids_inside n a.clock) (asserts_inside n rest) false) h);
      clock = below_of n a.clock (first_of (ids_inside n a.clock) (asserts_inside n rest) clock);
    }

tail_in : (n : ℕ) (a : AssertSpec) (rest : List AssertSpec) → asserts_inside n (a ∷ rest) ≡ true → asserts_inside n rest ≡ true
tail_in n a rest h =
    rest_of (ids_inside n a.clock) (asserts_inside n rest) (rest_of (ids_inside n a.terms) (cond (ids_inside n a.clock) (asserts_inside n rest) false) h)

none_some : {X : Type 0} (a : X) → ◌≡◌ {A = Option X} None (Some a) → ⊥
none_some a e = cc

pub nth_in : (n : ℕ) (xs : List AssertSpec) (k : ℕ) (a : AssertSpec) → asserts_inside n xs ≡ true → slice_get xs k ≡ Some a → IsAssertIn n a
nth_in n [] k a h e = absurd (none_some a e)
nth_in n (x ∷ xs) zero a h e = let same : x ≡ a = cc in subst (IsAssertIn n) same (head_in n x xs h)
nth_in n (x ∷ xs) (suc k) a h e = nth_in n xs k a (tail_in n x xs h) e

pub first_in : (n : ℕ) (xs : List AssertSpec) (pc : ℕ) (a : AssertSpec) → asserts_inside n xs ≡ true → first_at xs pc ≡ Some a → IsAssertIn n a
first_in n [] pc a h e = absurd (none_some a e)
first_in n (x ∷ xs) pc a h e = by (x.line == pc) e (first_in n xs pc a (tail_in n x xs h))
  where
    by : (b : Bool) → cond b (Some x) (first_at xs pc) ≡ Some a → (first_at xs pc ≡ Some a → IsAssertIn n a) → IsAssertIn n a
    by true f later = let same : x ≡ a = cc in subst (IsAssertIn n) same (head_in n x xs h)
    by false f later = later f

-- ---- as the model has them

first_tree : (pool : List Node) (xs : List AssertSpec) (pc : ℕ) → assertion_in (map (assertion_tree pool) xs) pc ≡ option_map (assertion_tree pool) (first_at xs pc)
first_tree pool [] pc = refl
first_tree pool (x ∷ xs) pc = by (x.line == pc) (first_tree pool xs pc)
  where
    by : (b : Bool) → assertion_in (map (assertion_tree pool) xs) pc ≡ option_map (assertion_tree pool) (first_at xs pc)
        → cond b (Some (assertion_tree pool x)) (assertion_in (map (assertion_tree pool) xs) pc) ≡ option_map (assertion_tree pool) (cond b (Some x) (first_at xs pc))
    by true e = refl
    by false e = e

pub first_is : (pool : List Node) (xs : List AssertSpec) (ts : List Assertion) (pc : ℕ) (o : Option AssertSpec) → o ≡ first_at xs pc → map (assertion_tree pool) xs ≡ ts
    → option_map (assertion_tree pool) o ≡ assertion_in ts pc
first_is pool xs ts pc o e f = ap (option_map (assertion_tree pool)) e ∙ (sym (first_tree pool xs pc) ∙ ap (λ found. assertion_in found pc) f)

pub nth_is : (pool : List Node) (xs : List AssertSpec) (ts : List Assertion) (k : ℕ) (o : Option AssertSpec) → o ≡ slice_get xs k → map (assertion_tree pool) xs ≡ ts
    → option_map (assertion_tree pool) o ≡ slice_get ts k
nth_is pool xs ts k o e f = ap (option_map (assertion_tree pool)) e ∙ (sym (slice_get-map (assertion_tree pool) xs k) ∙ ap (λ found. slice_get found k) f)
