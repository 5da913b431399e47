-- What capped weights are to weights.
use Rattle.std.specs.Prelude.{◌≡◌, ℕ, ◌+◌, List, map, sum}
use Rattle.formula.specs.Tree.{Tree}
use Rattle.path_sizes.specs.Weighed.{added, decided, tested, all_tested}
use Rattle.path_sizes.specs.Weights.{term_weight}
use Rattle.weight_caps.specs.Capped.{capped}
use Rattle.weight_caps.specs.Loads.{nothing_yet, with_added, with_decided, with_test, with_tests, IsCapped, IsCappedLoad, Weighs}
use Rattle.weight_caps.specs.declared.loads.Load.{Load}

abbrev pub CapTwice : Type 0
CapTwice = (n : ℕ) → capped (capped n) ≡ capped n

abbrev pub CapSums : Type 0
CapSums = (a b : ℕ) → capped (capped a + capped b) ≡ capped (a + b)

abbrev pub CapLists : Type 0
CapLists = (ns : List ℕ) → capped (sum (map capped ns)) ≡ capped (sum ns)

-- terms of notes, whose names have capped weights
abbrev pub CapTerms : Type 0
CapTerms = (now past : List ℕ → ℕ) (t : Tree) → capped (term_weight (λ x. capped (now x)) (λ x. capped (past x)) t)
    ≡ capped (term_weight now past t)

abbrev pub CappedWeightsAreWeights : Type 0
CappedWeightsAreWeights = CapTwice × CapSums × CapLists × CapTerms

-- ---- loads

abbrev pub Done : Unit {0} → Unit {0} → Type 0
Done a b = Unit {0}

-- nothing stands for nothing
abbrev pub NothingIsCapped : Type 0
NothingIsCapped = IsCappedLoad nothing_yet nothing_yet

abbrev pub Adding : Type 0
Adding = (l : Load) (n m : ℕ) → IsCapped n m → Weighs Done l (added n) (with_added l m) tt

abbrev pub Deciding : Type 0
Deciding = (l : Load) (n m : ℕ) → IsCapped n m → Weighs Done l (decided n) (with_decided l m) tt

abbrev pub Testing : Type 0
Testing = (l : Load) (n m : ℕ) → IsCapped n m → Weighs Done l (tested n) (with_test l m) tt

abbrev pub TestingAll : Type 0
TestingAll = (l : Load) (ns ms : List ℕ) → ms ≡ map capped ns → Weighs Done l (all_tested ns) (with_tests l ms) tt

abbrev pub LoadsAreThoseOfParts : Type 0
LoadsAreThoseOfParts = NothingIsCapped × Adding × Deciding × Testing × TestingAll
