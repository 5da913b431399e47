-- One part of a run follows another: where that one ends, it ends so too, and uses no more steps.
use Rattle.std.proofs.Common.{◌≡◌, ℕ, zero, suc, ◌+◌, ◌-◌, ◌≤◌, Bool, true, false, cond, refl, sym, ap, ◌∙◌, subst, arith}
use Rattle.fort_model.specs.Outcome.{Outcome, Ended, Erred, Running, and_then, Act, ◌>>=◌, ◌>>◌, give}
use Rattle.fort_model.specs.Storage.{Storage}
use Rattle.step_laws.specs.Steps.{IsRunning}
use Rattle.fort_laws.proofs.Kept.{Comes, Does}
use Rattle.step_laws.proofs.Tied.{Behaves, ends, errs, runs, Tied, tied_give}
use Rattle.step_laws.proofs.TiedRuns.{IsEnded, left_of, with_left}

-- what a part with a stock n ended with, the other part ends with too, with a greater stock, and uses no more steps
pub record Ahead {A : Type 0} (g : ℕ → Outcome A) (n : ℕ) (v : A) (after : Storage) (left more : ℕ) : Type 0 where
  pub rest : ℕ
  pub ended : g more ≡ Ended v after rest
  pub no_more : left + more ≤ rest + n
  pub fewer : left ≤ n

abbrev pub Follows : {A : Type 0} → (ℕ → Outcome A) → (ℕ → Outcome A) → Type 0
Follows {A} f g =
    (n : ℕ) (v : A) (after : Storage) (left : ℕ) → f n ≡ Ended v after left
    → (more : ℕ) → n ≤ more → Ahead g n v after left more

-- from some storage
pub record FollowsAt {A : Type 0} (st : Storage) (a b : Act A) : Type 0 where
  pub from : Follows (a st) (b st)

-- from whatever storage
abbrev pub FollowsAll : {A : Type 0} → Act A → Act A → Type 0
FollowsAll a b = (st : Storage) → FollowsAt st a b

-- one part behind another
pub follows_both : {A B : Type 0} {a b : Act A} {c d : A → Act B} (st : Storage) → FollowsAt st a b
    → ((n : ℕ) (w : A) (mid : Storage) (k : ℕ) → a st n ≡ Ended w mid k → FollowsAt mid (c w) (d w))
    → FollowsAt st (a >>= c) (b >>= d)
follows_both {A} {B} {a} {b} {c} {d} st first rest =
    record { from = λ n v after left e more le. by_outcome n v after left more le (a st n) refl e }
  where
    by_outcome : (n : ℕ) (v : B) (after : Storage) (left more : ℕ) → n ≤ more → (o : Outcome A) → a st n ≡ o
        → and_then o c ≡ Ended v after left → Ahead ((b >>= d) st) n v after left more
    by_outcome n v after left more le (Ended w mid k) q h =
        let f : Ahead (b st) n w mid k more = first.from n w mid k q more le in
        let enough : k ≤ f.rest = let s = f.no_more in omega arith in
        let g : Ahead (d w mid) k v after left f.rest = (rest n w mid k q).from k v after left h f.rest enough in
        record {
          rest = g.rest;
          ended = ap (λ (o : Outcome A). and_then o d) f.ended ∙ g.ended;
          no_more = let s = f.no_more in let t = g.no_more in omega arith;
          fewer = let s = f.fewer in let t = g.fewer in omega arith;
        }
    by_outcome n v after left more le (Erred kind card mid) q h = absurd (cc)
    by_outcome n v after left more le (Running mid) q h = absurd (cc)

-- what is behind follows from whatever storage
pub follows_on : {A B : Type 0} {a b : Act A} {c d : A → Act B} (st : Storage) → FollowsAt st a b
    → ((v : A) → FollowsAll (c v) (d v)) → FollowsAt st (a >>= c) (b >>= d)
follows_on st first rest = follows_both st first (λ n w mid k q. rest w mid)

pub all_then : {A B : Type 0} {a b : Act A} {c d : A → Act B} → FollowsAll a b → ((v : A) → FollowsAll (c v) (d v))
    → FollowsAll (a >>= c) (b >>= d)
all_then first rest st = follows_on st (first st) rest

pub all_before : {A B : Type 0} {a b : Act A} {c d : Act B} → FollowsAll a b → FollowsAll c d → FollowsAll (a >> c) (b >> d)
all_before first rest = all_then first (λ _. rest)

pub follows_cond : {A : Type 0} {a b c d : Act A} (st : Storage) (t : Bool) → FollowsAt st a b → FollowsAt st c d
    → FollowsAt st (cond t a c) (cond t b d)
follows_cond st true h k = h
follows_cond st false h k = k

-- a part without calls
pub sure : {A : Type 0} (a : Act A) → ((bound : ℕ) → Tied bound a a) → FollowsAll a a
sure {A} a tied st =
    record { from = λ n v after left e more le. by_behaviour n v after left e more le (tied (suc more) st n (omega arith)).0 }
  where
    by_behaviour : (n : ℕ) (v : A) (after : Storage) (left : ℕ) → a st n ≡ Ended v after left → (more : ℕ) → n ≤ more
        → Behaves (suc more) (a st) n → Ahead (a st) n v after left more
    by_behaviour n v after left e more le (ends w last used few at before) =
        let same : Ended w last (n - used) ≡ Ended v after left = sym (at n few (omega arith)) ∙ e in
        let rest : n - used ≡ left = ap (left_of 0) same in
        record {
          rest = more - used;
          ended = at more (omega arith) (omega arith) ∙ ap (λ (o : Outcome A). with_left o (more - used)) same;
          no_more = omega arith;
          fewer = omega arith;
        }
    by_behaviour n v after left e more le (errs kind card last used few at before) =
        absurd (subst IsEnded (sym (sym (at n few (omega arith)) ∙ e)) tt)
    by_behaviour n v after left e more le (runs all) = absurd (subst IsRunning e (all n (omega arith)))

pub all_give : {A : Type 0} (v : A) → FollowsAll (give v) (give v)
all_give v = sure (give v) (λ bound. tied_give bound v)

-- parts that begin with a step
pub follows_stepped : {A : Type 0} (f g : ℕ → Outcome A) → IsRunning (f 0) → Follows (λ n. f (suc n)) (λ n. g (suc n))
    → Follows f g
follows_stepped f g none rest zero v after left e more le = absurd (subst IsRunning e none)
follows_stepped f g none rest (suc n) v after left e zero le = absurd (omega arith)
follows_stepped f g none rest (suc n) v after left e (suc more) le =
    let h : Ahead (λ k. g (suc k)) n v after left more = rest n v after left e more (omega arith) in
    record { rest = h.rest; ended = h.ended; no_more = let s = h.no_more in omega arith; fewer = let s = h.fewer in omega arith }

-- ---- parts from whose storage something is known

module _ (Kept Late : Storage → Type 0) (late : (st : Storage) → Kept st → Late st) where
  pub ended_with : {A : Type 0} (Q : A → Type 0) (a : Act A) → Does Kept Late late Q a → (st : Storage) → Kept st
      → (n : ℕ) (v : A) (after : Storage) (left : ℕ) → a st n ≡ Ended v after left → Kept after × Q v
  ended_with Q a does st kept n v after left e = subst (λ o. Comes Kept Late late Q o) e (does.from st n kept)

-- ---- parts that change nothing

abbrev pub IsSame : Storage → Storage → Type 0
IsSame st0 st = st ≡ st0

abbrev pub Any : Storage → Type 0
Any st = Unit {0}

module _ (st0 : Storage) where
  abbrev pub Leaves : {A : Type 0} → (A → Type 0) → Act A → Type 0
  Leaves Q a = Does (IsSame st0) Any (λ _ _. tt) Q a

  pub follows_then : {A B : Type 0} {Q : A → Type 0} {a b : Act A} {c d : A → Act B} → Leaves Q a → FollowsAt st0 a b
      → ((v : A) → Q v → FollowsAt st0 (c v) (d v)) → FollowsAt st0 (a >>= c) (b >>= d)
  follows_then {Q = Q} {a = a} {c = c} {d = d} leaves first rest =
      follows_both st0 first λ n w mid k q.
      let h = ended_with (IsSame st0) Any (λ _ _. tt) Q a leaves st0 refl n w mid k q in
      subst (λ (st : Storage). FollowsAt st (c w) (d w)) (sym h.0) (rest w h.1)

  -- a part whose answer does not matter may be left out
  pub follows_without : {A B : Type 0} {a b : Act A} (v : B) → Leaves (λ _. Unit {0}) a → FollowsAt st0 a b
      → FollowsAt st0 (a >>= λ _. give v) (give v)
  follows_without {A} {B} {a} {b} v leaves first =
      record { from = λ n w after left e more le. by_outcome n w after left more le (a st0 n) refl e }
    where
      by_outcome : (n : ℕ) (w : B) (after : Storage) (left more : ℕ) → n ≤ more → (o : Outcome A) → a st0 n ≡ o
          → and_then o (λ _. give v) ≡ Ended w after left → Ahead (give v st0) n w after left more
      by_outcome n w after left more le (Ended x mid k) q h =
          let same : mid ≡ st0 = (ended_with (IsSame st0) Any (λ _ _. tt) (λ _. Unit {0}) a leaves st0 refl n x mid k q).0 in
          let rest : k ≡ left = ap (left_of 0) h in
          let fewer : k ≤ n = (first.from n x mid k q n (omega arith)).fewer in
          record {
            rest = more;
            ended = ap (λ (st : Storage). Ended v st more) (sym same) ∙ ap (λ (o : Outcome B). with_left o more) h;
            no_more = omega arith;
            fewer = omega arith;
          }
      by_outcome n w after left more le (Erred kind card mid) q h = absurd (cc)
      by_outcome n w after left more le (Running mid) q h = absurd (cc)
