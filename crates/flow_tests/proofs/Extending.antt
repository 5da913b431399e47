-- Forks that grow keep what they were.
use Rattle.std.proofs.Common.{◌≡◌, ℕ, zero, suc, ◌+◌, ◌<◌, ◌≤◌, ◌⊎◌, inl, inr, List, [], ◌∷◌, ◌++◌, length, set, Option, Some, None, slice_get, refl, sym, ap, subst, arith}
use Rattle.fort_model.specs.declared.graph.Fork.{Fork}
use Rattle.fort_model.specs.declared.graph.Target.{Target}
use Rattle.fort_model.specs.declared.graph.Target.TheVariants.{Point, Fork as AtFork}
use Rattle.fort_model.specs.Flow.{Loop}
use Rattle.fort_model.specs.Graphs.{IsForkTo, AreTests, IsWithin}
use Rattle.fort_model.specs.Lists.{IsAmong}
use Rattle.flow_tests.specs.Growing.{Extends, AreFalling, AreWithin, Grown}

-- ---- lists

pub same_some : {X : Type 0} (a b : X) → ◌≡◌ {A = Option X} (Some a) (Some b) → a ≡ b
same_some a b e = cc

pub none_some : {X : Type 0} (a : X) → ◌≡◌ {A = Option X} None (Some a) → ⊥
none_some a e = cc

pub at_front : {X : Type 0} (xs ys : List X) (k : ℕ) (x : X) → slice_get xs k ≡ Some x → slice_get (xs ++ ys) k ≡ Some x
at_front [] ys k x e = absurd (none_some x e)
at_front (y ∷ xs) ys zero x e = e
at_front (y ∷ xs) ys (suc k) x e = at_front xs ys k x e

pub at_seam : {X : Type 0} (xs : List X) (y : X) → slice_get (xs ++ y ∷ []) (length xs) ≡ Some y
at_seam [] y = refl
at_seam (x ∷ xs) y = at_seam xs y

pub pushed : {X : Type 0} (xs : List X) (y : X) (k : ℕ) (x : X) → slice_get (xs ++ y ∷ []) k ≡ Some x → (slice_get xs k ≡ Some x) ⊎ ((k ≡ length xs) × (y ≡ x))
pushed [] y zero x e = inr (refl, same_some y x e)
pushed [] y (suc k) x e = absurd (none_some x e)
pushed (z ∷ xs) y zero x e = inl e
pushed (z ∷ xs) y (suc k) x e = by (pushed xs y k x e)
  where
    by : (slice_get xs k ≡ Some x) ⊎ ((k ≡ length xs) × (y ≡ x)) → (slice_get xs k ≡ Some x) ⊎ ((suc k ≡ suc (length xs)) × (y ≡ x))
    by (inl h) = inl h
    by (inr h) = inr (ap suc h.0, h.1)

pub was_set : {X : Type 0} (xs : List X) (i : ℕ) (v : X) (k : ℕ) (x : X) → slice_get (set xs i v) k ≡ Some x → ((k ≡ i) × (v ≡ x)) ⊎ ((k ≡ i → ⊥) × (slice_get xs k ≡ Some x))
was_set [] i v k x e = absurd (none_some x e)
was_set (y ∷ xs) zero v zero x e = inl (refl, same_some v x e)
was_set (y ∷ xs) zero v (suc k) x e = inr (λ h. omega (arith, h), e)
was_set (y ∷ xs) (suc i) v zero x e = inr (λ h. omega (arith, h), e)
was_set (y ∷ xs) (suc i) v (suc k) x e = by (was_set xs i v k x e)
  where
    by : ((k ≡ i) × (v ≡ x)) ⊎ ((k ≡ i → ⊥) × (slice_get xs k ≡ Some x)) → ((suc k ≡ suc i) × (v ≡ x)) ⊎ ((suc k ≡ suc i → ⊥) × (slice_get xs k ≡ Some x))
    by (inl h) = inl (ap suc h.0, h.1)
    by (inr h) = inr (λ s. h.0 (omega (arith, s)), h.1)

-- what stands at a place of a list
pub stands : {X : Type 0} (xs : List X) (k : ℕ) → k < length xs → (x : X) × (slice_get xs k ≡ Some x)
stands [] k lt = absurd (omega arith)
stands (x ∷ xs) zero lt = (x, refl)
stands (x ∷ xs) (suc k) lt = stands xs k (omega (arith, lt))

-- ---- forks

pub extends_self : (forks : List Fork) → Extends forks forks
extends_self forks = record { stays = λ k f e. e }

pub extends_on : (a b c : List Fork) → Extends a b → Extends b c → Extends a c
extends_on a b c x y = record { stays = λ k f e. y.stays k f (x.stays k f e) }

pub extends_push : (forks more : List Fork) → Extends forks (forks ++ more)
extends_push forks more = record { stays = λ k f e. at_front forks more k f e }

pub fork_kept : (old new : List Fork) → Extends old new → (t : Target) (tested : Option ℕ) (targets : List Target) → IsForkTo old t tested targets → IsForkTo new t tested targets
fork_kept old new x (Point q) tested targets h = h
fork_kept old new x (AtFork k) tested targets h = x.stays k (record { tested = tested; targets = targets }) h

pub tests_kept : (old new : List Fork) → Extends old new → (q : ℕ) (ds : List Loop) (t : Target) → AreTests old q ds t → AreTests new q ds t
tests_kept old new x q [] t h = h
tests_kept old new x q (d ∷ ds) t h = (h.0, fork_kept old new x t (Some d.at) (Point (suc d.at) ∷ h.0 ∷ []) h.1, tests_kept old new x q ds h.0 h.2)

pub within_more : (size count more : ℕ) (t : Target) → count ≤ more → IsWithin size count t → IsWithin size more t
within_more size count more (Point q) le h = h
within_more size count more (AtFork k) le h = omega (arith, le, h)

pub two_within : (size count : ℕ) (a b : Target) → IsWithin size count a → IsWithin size count b → AreWithin size count (a ∷ b ∷ [])
two_within size count a b x y = record { each = λ t h. by t h.0 h.1 }
  where
    by : (t : Target) (k : ℕ) → slice_get (a ∷ b ∷ []) k ≡ Some t → IsWithin size count t
    by t zero e = subst (IsWithin size count) (same_some a t e) x
    by t (suc zero) e = subst (IsWithin size count) (same_some b t e) y
    by t (suc (suc k)) e = absurd (none_some t e)

pub grown_self : (size : ℕ) (forks : List Fork) (t : Target) (most : ℕ) → AreFalling size forks → IsWithin size (length forks) t → Grown size most forks forks t
grown_self size forks t most falling within = record { extends = extends_self forks; falling = falling; within = within; longer = omega arith; few = omega arith }

pub long_push : {X : Type 0} (forks : List X) (f : X) → length (forks ++ f ∷ []) ≡ length forks + 1
long_push [] f = refl
long_push (g ∷ forks) f = (let r = long_push forks f in omega (arith, r))

pub grown_push : (size : ℕ) (forks : List Fork) (f : Fork) (number : ℕ) → number ≡ length forks → AreFalling size forks → AreWithin size (length forks) f.targets → Grown size 1 forks (forks ++ f ∷ []) (AtFork number)
grown_push size forks f number same falling within = record {
  extends = extends_push forks (f ∷ []);
  falling = record { falls = λ k g t e h. by k g t h (pushed forks f k g e) };
  within = (let l = long_push forks f in omega (arith, l, same));
  longer = (let l = long_push forks f in omega (arith, l));
  few = (let l = long_push forks f in omega (arith, l));
}
  where
    by : (k : ℕ) (g : Fork) (t : Target) → IsAmong t g.targets → (slice_get forks k ≡ Some g) ⊎ ((k ≡ length forks) × (f ≡ g)) → IsWithin size k t
    by k g t h (inl e) = falling.falls k g t e h
    by k g t h (inr e) = subst (λ n. IsWithin size n t) (sym e.0) (within.each t (subst (λ (x : Fork). IsAmong t x.targets) (sym e.1) h))

pub pushed_fork : (forks : List Fork) (number : ℕ) (tested : Option ℕ) (targets : List Target) → number ≡ length forks
    → IsForkTo (forks ++ record { tested = tested; targets = targets } ∷ []) (AtFork number) tested targets
pushed_fork forks number tested targets same =
    subst (λ n. slice_get (forks ++ record { tested = tested; targets = targets } ∷ []) n ≡ Some (record { tested = tested; targets = targets })) (sym same)
    (at_seam forks (record { tested = tested; targets = targets }))
