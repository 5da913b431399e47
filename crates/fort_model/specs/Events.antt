-- What a walk meets, and what it comes to.
use Rattle.std.specs.Prelude.{ℕ, suc, Bool, true, false, cond, nat_le, ◌==◌, List, [], ◌∷◌}
use Rattle.formula.specs.declared.value.Value.{Value}
use Rattle.formula.specs.Values.{holds}
use Rattle.fort_syntax.specs.declared.condition.Kind.{Kind}

-- a check, with its kind and card, that is to hold; or a fact, without which the walk goes off
pub data Event (V : Type 0) : Type 0 where
  Check : Kind → ℕ → V → Event V
  Take : V → Event V

abbrev pub checks : {V : Type 0} → Kind → ℕ → List V → List (Event V)
checks kind card [] = []
checks kind card (t ∷ ts) = Check kind card t ∷ checks kind card ts

abbrev pub takes : {V : Type 0} → List V → List (Event V)
takes [] = []
takes (t ∷ ts) = Take t ∷ takes ts

-- all checks hold; the k-th check fails; or the walk goes off behind k checks that held
pub data Verdict : Type 0 where
  Good : Verdict
  Fails Off : ℕ → Verdict

-- the first event that is false decides; k checks held before
abbrev pub verdict_from : ℕ → List (Event Value) → Verdict
verdict_from k [] = Good
verdict_from k (Check kind card v ∷ es) = cond (holds v) (verdict_from (suc k) es) (Fails (suc k))
verdict_from k (Take v ∷ es) = cond (holds v) (verdict_from k es) (Off k)

abbrev pub verdict : List (Event Value) → Verdict
verdict es = verdict_from 0 es

-- a walk reaches its k-th check: it is good, or it went at least so far
abbrev pub reaches : Verdict → ℕ → Bool
reaches Good k = true
reaches (Fails m) k = nat_le k m
reaches (Off m) k = nat_le k m

-- a walk fails at its k-th check
abbrev pub fails_at : Verdict → ℕ → Bool
fails_at Good k = false
fails_at (Fails m) k = m == k
fails_at (Off m) k = false

-- the kinds and cards of the checks, in order
abbrev pub labels : {V : Type 0} → List (Event V) → List (Kind × ℕ)
labels [] = []
labels (Check kind card v ∷ es) = (kind, card) ∷ labels es
labels (Take v ∷ es) = labels es
