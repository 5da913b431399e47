-- The parts of statements without calls, on a processor and on the lazy one.
use Rattle.std.proofs.Common.{◌≡◌, ℕ, zero, suc, Bool, cond, ℤ, List, [], ◌∷◌, Option, Some, None, refl, subst}
use Rattle.fort_syntax.specs.Names.{Intrinsic, Absolute, Modulo, Greatest, Least}
use Rattle.formula.specs.declared.value.Cell.{Cell}
use Rattle.fort_syntax.specs.declared.name.Name.{Name}
use Rattle.fort_syntax.specs.declared.condition.Kind.TheVariants.{LoopCheck}
use Rattle.fort_syntax.specs.declared.dialect.BinOp.{BinOp}
use Rattle.fort_syntax.specs.declared.dialect.BinOp.TheVariants.{Add, Sub, Mul, Div}
use Rattle.fort_syntax.specs.declared.dialect.Dialect.{Dialect}
use Rattle.fort_syntax.specs.declared.dialect.Dialect.TheVariants.{Common, SeventySeven}
use Rattle.fort_syntax.specs.declared.stmt.Param.{Param}
use Rattle.fort_syntax.specs.declared.stmt.Param.TheVariants.{Fixed, Named}
use Rattle.fort_model.specs.Evaluate.{Scene, ranged, operate, power_on, intrinsic_value}
use Rattle.fort_model.specs.Flow.{Loop}
use Rattle.fort_model.specs.Outcome.{Act}
use Rattle.fort_model.specs.Perform.{write_cell, parameter, step_value, tests, go_on, begin, select}
use Rattle.fort_model.specs.Processor.{Processor}
use Rattle.fort_laws.specs.Lazy.{lazy_one}
use Rattle.fort_laws.proofs.LazyFollows.{FollowsAll, follows_cond, all_then, all_before, all_give, sure}
use Rattle.step_laws.proofs.Tied.{tied_check, tied_step}
use Rattle.step_laws.proofs.TiedParts.{sure_ranged, sure_intrinsic, sure_operate, sure_write, sure_variable, sure_constant, sure_begin, sure_select}

-- the scene with the lazy processor
abbrev pub lazy_scene : Scene → Scene
lazy_scene s = record { processor = lazy_one s.processor; units = s.units; unit = s.unit; environment = s.environment }

all_cond : {A : Type 0} {a b c d : Act A} (t : Bool) → FollowsAll a b → FollowsAll c d → FollowsAll (cond t a c) (cond t b d)
all_cond t h k st = follows_cond st t (h st) (k st)

all_write : (i : ℕ) (c : Cell) → FollowsAll (write_cell i c) (write_cell i c)
all_write i c = sure (write_cell i c) (λ bound. sure_write bound i c)

pub all_ranged : (p : Processor) (card : ℕ) (z : ℤ) → FollowsAll (ranged p card z) (ranged (lazy_one p) card z)
all_ranged p card z = sure (ranged p card z) (λ bound. sure_ranged bound p card z)

pub all_operate : (p : Processor) (card : ℕ) (o : BinOp) (a b : Cell)
    → FollowsAll (operate p card o a b) (operate (lazy_one p) card o a b)
all_operate p card Add a b = all_ranged p card _
all_operate p card Sub a b = all_ranged p card _
all_operate p card Mul a b = all_ranged p card _
all_operate p card Div a b = sure (operate p card Div a b) (λ bound. sure_operate bound p card Div a b)

pub all_power_on : (p : Processor) (card : ℕ) (base : ℤ) (more : ℕ) (product : ℤ)
    → FollowsAll (power_on p card base more product) (power_on (lazy_one p) card base more product)
all_power_on p card base zero product = all_give _
all_power_on p card base (suc more) product = all_then (all_ranged p card _) (λ c. all_power_on p card base more _)

same_intrinsic : (p : Processor) (card : ℕ) (i : Intrinsic) (cs : List Cell)
    → intrinsic_value p card i cs ≡ intrinsic_value (lazy_one p) card i cs
same_intrinsic p card Absolute [] = refl
same_intrinsic p card Absolute (a ∷ []) = refl
same_intrinsic p card Absolute (a ∷ b ∷ cs) = refl
same_intrinsic p card Modulo [] = refl
same_intrinsic p card Modulo (a ∷ []) = refl
same_intrinsic p card Modulo (a ∷ b ∷ []) = refl
same_intrinsic p card Modulo (a ∷ b ∷ c ∷ cs) = refl
same_intrinsic p card Greatest [] = refl
same_intrinsic p card Greatest (a ∷ cs) = refl
same_intrinsic p card Least [] = refl
same_intrinsic p card Least (a ∷ cs) = refl

pub all_intrinsic : (p : Processor) (card : ℕ) (i : Intrinsic) (cs : List Cell)
    → FollowsAll (intrinsic_value p card i cs) (intrinsic_value (lazy_one p) card i cs)
all_intrinsic p card i cs =
    subst (λ b. FollowsAll (intrinsic_value p card i cs) b) (same_intrinsic p card i cs)
    (sure _ (λ bound. sure_intrinsic bound p card i cs))

module _ (s : Scene) where
  pub all_parameter : (card : ℕ) (m : Param) → FollowsAll (parameter s card m) (parameter (lazy_scene s) card m)
  all_parameter card (Fixed c) = sure (parameter s card (Fixed c)) (λ bound. sure_constant bound s.processor card c)
  all_parameter card (Named x) = sure (parameter s card (Named x)) (λ bound. sure_variable bound s card x)

  pub all_step_value : (card : ℕ) (m : Option Param) → FollowsAll (step_value s card m) (step_value (lazy_scene s) card m)
  all_step_value card None = all_give _
  all_step_value card (Some m) = all_parameter card m

  all_tests : (card : ℕ) (ds : List Loop) → FollowsAll (tests s card ds) (tests (lazy_scene s) card ds)
  all_tests card [] = all_give _
  all_tests card (d ∷ ds) =
      all_before (sure _ (λ bound. tied_step bound))
      (all_then (sure _ (λ bound. sure_variable bound s card d.variable)) λ i.
      all_then (all_step_value card d.step) λ by.
      all_then (all_ranged s.processor card _) λ sum.
      all_then (all_parameter card d.last) λ last.
      all_cond _
      (all_before (all_write _ _) (all_give _))
      (all_before (all_write _ _) (all_then (all_tests card ds) λ choices. all_give _)))

  pub all_go_on : (card pc : ℕ) → FollowsAll (go_on s card pc) (go_on (lazy_scene s) card pc)
  all_go_on card pc = all_tests card _

  pub all_begin : (d : Dialect) (card last pc : ℕ) (x : Name) (m1 m2 m3 : ℤ)
      → FollowsAll (begin d s card last pc x m1 m2 m3) (begin d (lazy_scene s) card last pc x m1 m2 m3)
  all_begin Common card last pc x m1 m2 m3 =
      sure (begin Common s card last pc x m1 m2 m3) (λ bound. sure_begin bound Common s card last pc x m1 m2 m3)
  all_begin SeventySeven card last pc x m1 m2 m3 =
      all_before (sure _ (λ bound. tied_check bound LoopCheck card _))
      (all_before (all_ranged s.processor card _)
      (all_before (all_ranged s.processor card _)
      (all_before (all_write _ _)
      (all_cond _ (all_give _) (all_then (all_tests _ _) λ choices. all_give _)))))

  pub all_select : (d : Dialect) (card pc labels : ℕ) (i : ℤ)
      → FollowsAll (select d s card pc labels i) (select d (lazy_scene s) card pc labels i)
  all_select Common card pc labels i =
      sure (select Common s card pc labels i) (λ bound. sure_select bound Common s card pc labels i)
  all_select SeventySeven card pc labels i =
      all_cond _ (all_give _) (all_then (all_go_on card pc) λ choices. all_give _)
