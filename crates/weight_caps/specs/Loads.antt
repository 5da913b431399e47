-- What a path comes to, as far as a cap, and what its parts do to that.
use Rattle.std.specs.Prelude.{◌≡◌, ℕ, ◌+◌, List, [], ◌∷◌, length, sum}
use Rattle.path_sizes.specs.Weighed.{Weigh}
use Rattle.weight_caps.specs.Capped.{capped}
use Rattle.weight_caps.specs.declared.loads.Load.{Load}

abbrev pub nothing_yet : Load
nothing_yet = record { running = 0; conditions = 0; weight = 0 }

-- so much is added to the running weight
abbrev pub with_added : Load → ℕ → Load
with_added l n = record { running = capped (l.running + n); conditions = l.conditions; weight = l.weight }

-- a choice is decided
abbrev pub with_decided : Load → ℕ → Load
with_decided l n = with_added l (capped (n + 1))

-- a check is met
abbrev pub with_test : Load → ℕ → Load
with_test l n = record {
  running = capped (l.running + capped (n + 1));
  conditions = capped (l.conditions + 1);
  weight = capped (l.weight + capped (l.running + capped (n + 1)));
}

-- some checks are met, one after another
abbrev pub with_tests : Load → List ℕ → Load
with_tests l [] = l
with_tests l (n ∷ ns) = with_tests (with_test l n) ns

-- ---- exact loads

-- what a part of a path does to an exact load
abbrev pub behind : {A : Type 0} → Load → Weigh A → Load
behind l part = let w = part l.running in record {
  running = w.running;
  conditions = l.conditions + length w.weights;
  weight = l.weight + sum w.weights;
}

-- a load is an exact one, as far as the cap
abbrev pub IsCappedLoad : Load → Load → Type 0
IsCappedLoad l exact = l ≡ record {
  running = capped exact.running;
  conditions = capped exact.conditions;
  weight = capped exact.weight;
}

-- a load goes over into another, and a value is reached, just as a part of a path does with each exact load that it
-- may stand for; values correspond by R
abbrev pub Weighs : {A B : Type 0} → (A → B → Type 0) → Load → Weigh A → Load → B → Type 0
Weighs R old part new value = (exact : Load) → IsCappedLoad old exact → IsCappedLoad new (behind exact part)
    × R (part exact.running).value value

-- a value is a weight, as far as the cap
abbrev pub IsCapped : ℕ → ℕ → Type 0
IsCapped n m = m ≡ capped n
