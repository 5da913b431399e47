-- The limits of a program: the numbers of its paths and conditions, and their weight; and the fault where one is passed.
use Rattle.std.specs.Prelude.{◌≡◌, ◌⊎◌, ℕ, suc, ◌+◌, ◌<◌, ◌≤◌, List, [], ◌∷◌, length, sum}
use Rattle.fort_syntax.specs.declared.refusal.Fault.{Fault}
use Rattle.fort_syntax.specs.declared.rule.Rule.TheVariants.{ManyPaths, ManyConditions, Heavy}
use Rattle.fort_syntax.specs.declared.unit.Unit.{Unit as Routine}
use Rattle.fort_model.specs.Conditions.{checks_of}
use Rattle.fort_model.specs.Lists.{IsAmong}
use Rattle.fort_model.specs.Paths.{Path, IsPath, Ascend, ArePathsInOrder}
use Rattle.fort_model.specs.Program.{Program, notes_of}
use Rattle.path_sizes.specs.Weights.{weights_of}

-- numbers of paths and of conditions, and a weight
pub record Sizes : Type 0 where
  pub paths : ℕ
  pub conditions : ℕ
  pub weight : ℕ

abbrev pub nothing : Sizes
nothing = record { paths = 0; conditions = 0; weight = 0 }

-- sizes with those of one path more
abbrev pub with_path : Program → ℕ → Routine → Sizes → Path → Sizes
with_path p i u s path = record {
  paths = suc s.paths;
  conditions = s.conditions + length (checks_of p i u path);
  weight = s.weight + sum (weights_of p i u path);
}

-- sizes with those of some paths of the unit of the number i
abbrev pub with_paths : Program → ℕ → Routine → Sizes → List Path → Sizes
with_paths p i u s [] = s
with_paths p i u s (path ∷ paths) = with_paths p i u (with_path p i u s path) paths

-- sizes with those of units, the first of which has the number i, along a list of paths for each
abbrev pub with_units : Program → ℕ → Sizes → List Routine → List (List Path) → Sizes
with_units p i s [] paths = s
with_units p i s (u ∷ us) [] = s
with_units p i s (u ∷ us) (paths ∷ rest) = with_units p (suc i) (with_paths p i u s paths) us rest

abbrev pub FewPaths : Sizes → Type 0
FewPaths s = s.paths ≤ 4096

abbrev pub FewConditions : Sizes → Type 0
FewConditions s = s.conditions ≤ 100000

abbrev pub IsLight : Sizes → Type 0
IsLight s = s.weight ≤ 2000000

abbrev pub AreWithin : Sizes → Type 0
AreWithin s = FewPaths s × FewConditions s × IsLight s

-- a program with these paths is within the limits
abbrev pub IsWithinLimits : Program → List (List Path) → Type 0
IsWithinLimits p paths = AreWithin (with_units p 0 nothing p.units paths)

-- ---- faults

-- a unit of the number i has more paths than are left, where the units before it have some sizes; it is told by an
-- ascending list of some of them
abbrev pub HasManyPaths : Program → ℕ → Routine → Sizes → Type 0
HasManyPaths p i u before =
    (paths : List Path) × Ascend paths × ((path : Path) → IsAmong path paths
    → IsPath p.dialect u (notes_of p i) path) × (4096 < before.paths + length paths)

-- its paths are not too many, but their conditions are
abbrev pub HasManyConditions : Program → ℕ → Routine → Sizes → Type 0
HasManyConditions p i u before =
    (paths : List Path) × ArePathsInOrder p.dialect u (notes_of p i) paths × FewPaths (with_paths p i u before paths)
    × (100000 < (with_paths p i u before paths).conditions)

-- its paths and conditions are not too many, but they are too heavy
abbrev pub IsHeavy : Program → ℕ → Routine → Sizes → Type 0
IsHeavy p i u before =
    (paths : List Path) × ArePathsInOrder p.dialect u (notes_of p i) paths × FewPaths (with_paths p i u before paths)
    × FewConditions (with_paths p i u before paths) × (2000000 < (with_paths p i u before paths).weight)

-- a unit passes a limit: the fault of the first that it passes, at its head
abbrev pub Passes : Program → ℕ → Routine → Sizes → Fault → Type 0
Passes p i u before f =
    ((f ≡ record { rule = ManyPaths; card = u.head }) × HasManyPaths p i u before)
    ⊎ (((f ≡ record { rule = ManyConditions; card = u.head }) × HasManyConditions p i u before)
    ⊎ ((f ≡ record { rule = Heavy; card = u.head }) × IsHeavy p i u before))

-- units, the first of which has the number i, pass a limit, where those before them have some sizes: the first does, or a
-- later one behind units that are within the limits
abbrev pub PassFrom : Program → ℕ → Sizes → List Routine → Fault → Type 0
PassFrom p i before [] f = ⊥
PassFrom p i before (u ∷ us) f =
    Passes p i u before f
    ⊎ ((paths : List Path) × ArePathsInOrder p.dialect u (notes_of p i) paths × AreWithin (with_paths p i u before paths)
    × PassFrom p (suc i) (with_paths p i u before paths) us f)

-- the fault of a program that passes a limit: at the head of the first unit that does, the first limit that it passes
abbrev pub IsSizeFault : Program → Fault → Type 0
IsSizeFault p f = PassFrom p 0 nothing p.units f
