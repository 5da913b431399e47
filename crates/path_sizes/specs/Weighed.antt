-- What a part of a path weighs. A path has a running weight, to which each check and each choice adds; the condition of a
-- check weighs the running weight behind it.
use Rattle.std.specs.Prelude.{ℕ, suc, ◌+◌, List, [], ◌∷◌, ◌++◌}

-- what a part comes to, the running weight behind it, and the weights of its conditions in order
pub record Weighed (A : Type 0) : Type 0 where
  pub value : A
  pub running : ℕ
  pub weights : List ℕ

-- by the running weight before it
abbrev pub Weigh : Type 0 → Type 0
Weigh A = ℕ → Weighed A

infixr 1 ◌>>=◌ ◌>>◌
-- one part follows another
abbrev pub ◌>>=◌ : {A B : Type 0} → Weigh A → (A → Weigh B) → Weigh B
◌>>=◌ part next running =
    let a = part running in
    let b = next a.value a.running in
    record { value = b.value; running = b.running; weights = a.weights ++ b.weights }

abbrev pub ◌>>◌ : {A B : Type 0} → Weigh A → Weigh B → Weigh B
◌>>◌ part next = part >>= λ _. next

-- a value, to which nothing is added
abbrev pub weighed : {A : Type 0} → A → Weigh A
weighed a running = record { value = a; running = running; weights = [] }

-- so much is added
abbrev pub added : ℕ → Weigh (Unit {0})
added n running = record { value = tt; running = running + n; weights = [] }

-- a choice adds 1 and the weight of what decides it
abbrev pub decided : ℕ → Weigh (Unit {0})
decided n = added (suc n)

-- a check adds 1 and the weight of what it tests, and its condition weighs the running weight then
abbrev pub tested : ℕ → Weigh (Unit {0})
tested n running = record { value = tt; running = running + suc n; weights = (running + suc n) ∷ [] }

abbrev pub all_tested : List ℕ → Weigh (Unit {0})
all_tested [] = weighed tt
all_tested (n ∷ ns) = tested n >> all_tested ns
