-- What a part of a path does to a load: its running weight, its conditions and their weight, each as far as the cap.
use Rattle.std.specs.Prelude.{ℕ, ◌+◌, List, sum}
use Rattle.weight_caps.specs.Capped.{capped}
use Rattle.weight_caps.specs.Loads.{with_added, with_decided, with_test, with_tests}
use Rattle.weight_caps.specs.declared.loads.Load.{Load}

-- what a part comes to, and the load behind it
pub record Tallied (A : Type 0) : Type 0 where
  pub value : A
  pub load : Load

-- by the load before it
abbrev pub Tally : Type 0 → Type 0
Tally A = Load → Tallied A

infixr 1 ◌>>=◌ ◌>>◌
-- one part follows another
abbrev pub ◌>>=◌ : {A B : Type 0} → Tally A → (A → Tally B) → Tally B
◌>>=◌ part next load = let a = part load in next a.value a.load

abbrev pub ◌>>◌ : {A B : Type 0} → Tally A → Tally B → Tally B
◌>>◌ part next = part >>= λ _. next

-- a value, to which nothing is added
abbrev pub tallied : {A : Type 0} → A → Tally A
tallied a load = record { value = a; load = load }

abbrev pub added : ℕ → Tally (Unit {0})
added n load = record { value = tt; load = with_added load n }

abbrev pub decided : ℕ → Tally (Unit {0})
decided n load = record { value = tt; load = with_decided load n }

abbrev pub tested : ℕ → Tally (Unit {0})
tested n load = record { value = tt; load = with_test load n }

abbrev pub all_tested : List ℕ → Tally (Unit {0})
all_tested ns load = record { value = tt; load = with_tests load ns }

-- ---- weights as far as the cap

-- a weight and one
abbrev pub next : ℕ → ℕ
next a = capped (a + 1)

-- two weights
abbrev pub both : ℕ → ℕ → ℕ
both a b = capped (a + b)

-- two weights and one
abbrev pub pair : ℕ → ℕ → ℕ
pair a b = next (both a b)

-- some weights
abbrev pub all : List ℕ → ℕ
all ns = capped (sum ns)
