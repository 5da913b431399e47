-- The conditions of a program, and lists of conditions that are exact.
use Rattle.std.specs.Prelude.{◌≡◌, ℕ, suc, List, [], ◌∷◌, ◌++◌}
use Rattle.std.specs.List.{list_all}
use Rattle.fort_syntax.specs.Conditions.{ConditionTree}
use Rattle.formula.specs.declared.value.Value.{Value}
use Rattle.formula.specs.Tree.{Tree}
use Rattle.formula.specs.Worth.{Function, Valuation, nothing_known, is_true_under, is_false_under, IsValid}
use Rattle.fort_syntax.specs.declared.name.Name.{Name}
use Rattle.fort_syntax.specs.declared.condition.Kind.{Kind}
use Rattle.fort_syntax.specs.declared.unit.Unit.{Unit as Routine}
use Rattle.fort_model.specs.Program.{Program, notes_of}
use Rattle.fort_model.specs.Senses.{Sense, of_values, by_words, of_terms, of_nothing}
use Rattle.fort_model.specs.Symbols.{Symbol}
use Rattle.fort_model.specs.Events.{Event, Check, Take, verdict, reaches, fails_at, labels}
use Rattle.fort_model.specs.Paths.{Path, ArePathsInOrder}
use Rattle.fort_model.specs.WalkCalls.{Sight}
use Rattle.fort_model.specs.Walk.{walk}

-- the unit of a number, seen in a sense
abbrev pub sight : {V : Type 0} → Sense V → Program → ℕ → Routine → Sight V
sight s p i u = record { sense = s; program = p; number = i; unit = u }

-- the walk along a path of a unit, by the values of symbols
abbrev pub walked_by : Program → ℕ → Routine → (Symbol → Value) → Path → List (Event Value)
walked_by p i u values path = walk (sight (of_values p.functions values) p i u) path

-- the walk along a path of a unit, by the values of words
abbrev pub walked : Program → ℕ → Routine → Valuation → Path → List (Event Value)
walked p i u words path = walked_by p i u (by_words words) path

-- the kinds and cards of the checks of a path
abbrev pub checks_of : Program → ℕ → Routine → Path → List (Kind × ℕ)
checks_of p i u path = labels (walk (sight of_nothing p i u) path)

-- ---- the conditions

-- The conditions of what a walk in the sense of terms meets: the goal of each check, whose hypotheses are all terms met
-- before it. The first of these events is behind `hyps`, and its check would have the number k.
abbrev pub conditions_from : Name → ℕ → ℕ → List Tree → List (Event Tree) → List ConditionTree
conditions_from unit path k hyps [] = []
conditions_from unit path k hyps (Check kind card t ∷ es) =
    record { unit = unit; path = path; check = k; kind = kind; card = card; hyps = hyps; goal = t } ∷
    conditions_from unit path (suc k) (hyps ++ t ∷ []) es
conditions_from unit path k hyps (Take t ∷ es) = conditions_from unit path k (hyps ++ t ∷ []) es

-- the conditions of a unit along some paths, the first of which has the number n
abbrev pub conditions_along : Program → ℕ → Routine → ℕ → List Path → List ConditionTree
conditions_along p i u n [] = []
conditions_along p i u n (path ∷ paths) =
    conditions_from u.name n 1 [] (walk (sight of_terms p i u) path) ++ conditions_along p i u (suc n) paths

-- the conditions of units, the first of which has the number i, along a list of paths for each
abbrev pub conditions_of_units : Program → ℕ → List Routine → List (List Path) → List ConditionTree
conditions_of_units p i [] paths = []
conditions_of_units p i (u ∷ us) [] = []
conditions_of_units p i (u ∷ us) (paths ∷ rest) = conditions_along p i u 1 paths ++ conditions_of_units p (suc i) us rest

-- the conditions of a program: unit after unit, path after path, check after check
abbrev pub conditions_of : Program → List (List Path) → List ConditionTree
conditions_of p paths = conditions_of_units p 0 p.units paths

-- lists of paths, one for each unit from the number i on, are the paths of these units in order
abbrev pub are_all_paths : Program → ℕ → List Routine → List (List Path) → Type 0
are_all_paths p i [] [] = Unit {0}
are_all_paths p i [] (paths ∷ rest) = ⊥
are_all_paths p i (u ∷ us) [] = ⊥
are_all_paths p i (u ∷ us) (paths ∷ rest) = ArePathsInOrder p.dialect u (notes_of p i) paths × are_all_paths p (suc i) us rest

abbrev pub AreAllPaths : Program → List (List Path) → Type 0
AreAllPaths p paths = are_all_paths p 0 p.units paths

-- ---- exactness

-- a check of a walk: what a condition of it tells, and the walk by the values of words
pub record CheckSite : Type 0 where
  pub unit : Name
  pub path : ℕ
  pub check : ℕ
  pub kind : Kind
  pub card : ℕ
  pub walk : Valuation → List (Event Value)

abbrev pub sites_from : Name → ℕ → ℕ → List (Kind × ℕ) → (Valuation → List (Event Value)) → List CheckSite
sites_from unit path k [] walk = []
sites_from unit path k (l ∷ ls) walk =
    record { unit = unit; path = path; check = k; kind = l.0; card = l.1; walk = walk } ∷ sites_from unit path (suc k) ls walk

abbrev pub sites_along : Program → ℕ → Routine → ℕ → List Path → List CheckSite
sites_along p i u n [] = []
sites_along p i u n (path ∷ paths) =
    sites_from u.name n 1 (checks_of p i u path) (λ words. walked p i u words path) ++ sites_along p i u (suc n) paths

abbrev pub sites_of_units : Program → ℕ → List Routine → List (List Path) → List CheckSite
sites_of_units p i [] paths = []
sites_of_units p i (u ∷ us) [] = []
sites_of_units p i (u ∷ us) (paths ∷ rest) = sites_along p i u 1 paths ++ sites_of_units p (suc i) us rest

-- A condition is exact for a check: it tells the check; and whatever values words have, its hypotheses are all true just
-- where the walk reaches that check, and it is false just where the walk fails there.
pub record IsExactFor (fs : List Function) (c : ConditionTree) (site : CheckSite) : Type 0 where
  pub unit : c.unit ≡ site.unit
  pub path : c.path ≡ site.path
  pub check : c.check ≡ site.check
  pub kind : c.kind ≡ site.kind
  pub card : c.card ≡ site.card
  pub reached : (words : Valuation) → list_all (is_true_under fs words nothing_known) c.hyps ≡ reaches
      (verdict (site.walk words)) site.check
  pub false : (words : Valuation) → is_false_under fs words nothing_known c.hyps c.goal ≡ fails_at
      (verdict (site.walk words)) site.check

abbrev pub AreExactFor : List Function → List ConditionTree → List CheckSite → Type 0
AreExactFor fs [] [] = Unit {0}
AreExactFor fs [] (site ∷ sites) = ⊥
AreExactFor fs (c ∷ cs) [] = ⊥
AreExactFor fs (c ∷ cs) (site ∷ sites) = IsExactFor fs c site × AreExactFor fs cs sites

-- a list of conditions is exact: it has one condition for each check of each path of each unit, in order, each of them exact
pub record IsExact (p : Program) (list : List ConditionTree) : Type 0 where
  pub paths : List (List Path)
  pub all : AreAllPaths p paths
  pub exact : AreExactFor p.functions list (sites_of_units p 0 p.units paths)

-- all conditions of a list are valid
abbrev pub AreValid : List Function → List ConditionTree → Type 0
AreValid fs [] = Unit {0}
AreValid fs (c ∷ cs) = IsValid fs c.hyps c.goal × AreValid fs cs
