-- Where statements stand.
use Rattle.std.proofs.Common.{◌≡◌, ℕ, ◌<◌, List, [], ◌∷◌, Option, Some, None, sym, ◌∙◌, subst, rules}
use Rattle.formula.specs.Tree.{Tree}
use Rattle.formula.specs.declared.node.Node.{Node}
use Rattle.fort_model.specs.Graphs.{IsBehind, IsForkTo, IsTargetOf}
use Rattle.fort_model.specs.Program.{Program}
use Rattle.fort_model.specs.Seen.{Named, See}
use Rattle.fort_model.specs.WalkCalls.{Sight}
use Rattle.fort_model.specs.declared.graph.Fork.{Fork}
use Rattle.fort_model.specs.declared.graph.Target.{Target}
use Rattle.fort_syntax.specs.declared.dialect.Dialect.{Dialect}
use Rattle.fort_syntax.specs.declared.expr.Expr.{Expr}
use Rattle.fort_syntax.specs.declared.stmt.Stmt.{Stmt, size-Stmt, the_lemmas}
use Rattle.fort_syntax.specs.declared.stmt.Stmt.TheViews as stmt
use Rattle.fort_syntax.specs.declared.unit.Unit.{Unit as Routine}
use Rattle.path_scene.specs.Scenes.{IsReady}
use Rattle.walk_flow.specs.declared.flow.UnitFlow.{UnitFlow}
use Rattle.walk_setting.specs.declared.setting.Setting.{Setting}
use Rattle.walk_setting.specs.Settings.{DoesIn, PerformsIn}
use Rattle.walk_state.specs.Moments.{Moment}

-- ---- at the card of a statement

pub does_at : {A : Type 0} (pool : List Node) (m0 m1 : Moment) (part : ℕ → Sight Tree → See Tree A) (a : A) (told s : Setting) (number card : ℕ) → told ≡ s → number ≡ card
    → DoesIn pool told m0 (part number) m1 a → DoesIn pool s m0 (part card) m1 a
does_at pool m0 m1 part a told s number card same is d =
    subst (λ (k : ℕ). DoesIn pool s m0 (part k) m1 a) is (subst (λ (x : Setting). DoesIn pool x m0 (part number) m1 a) same d)

pub performs_at : (pool : List Node) (m0 m1 : Moment) (part : ℕ → Sight Tree → See Tree (Named Tree)) (told s : Setting) (number card : ℕ) → told ≡ s → number ≡ card
    → PerformsIn pool told m0 (part number) m1 → PerformsIn pool s m0 (part card) m1
performs_at pool m0 m1 part told s number card same is d =
    subst (λ (k : ℕ). PerformsIn pool s m0 (part k) m1) is (subst (λ (x : Setting). PerformsIn pool x m0 (part number) m1) same d)

pub ready_at : (pool : List Node) (told s : Setting) → told ≡ s → ((p : Program) × IsReady pool s.scene.now p) → (p : Program) × IsReady pool told.scene.now p
ready_at pool told s same r = subst (λ (x : Setting). (p : Program) × IsReady pool x.scene.now p) (sym same) r

-- ---- where the flow goes on elsewhere

module _ (told flow : UnitFlow) (same : told ≡ flow) where
  pub ready_to : (pool : List Node) → ((p : Program) × IsReady pool flow.setting.now.scene.now p) → (p : Program) × IsReady pool told.setting.now.scene.now p
  ready_to pool r = subst (λ (x : UnitFlow). (p : Program) × IsReady pool x.setting.now.scene.now p) (sym same) r

  pub behind_to : (number pc : ℕ) (t on : Target) → number ≡ pc → t ≡ on → IsBehind flow.setting.now.book.now.unit.now flow.graph.now.forks pc on
      → IsBehind told.setting.now.book.now.unit.now told.graph.now.forks number t
  behind_to number pc t on at goes h =
      subst (λ (x : UnitFlow). IsBehind x.setting.now.book.now.unit.now x.graph.now.forks number t) (sym same)
      (subst (λ (k : ℕ). IsBehind flow.setting.now.book.now.unit.now flow.graph.now.forks k t) (sym at)
      (subst (λ (x : Target). IsBehind flow.setting.now.book.now.unit.now flow.graph.now.forks pc x) (sym goes) h))

  pub target_to : (number pc : ℕ) (s : Stmt) (t on : Target) → number ≡ pc → t ≡ on → IsTargetOf flow.setting.now.scene.now.dialect flow.setting.now.book.now.unit.now flow.graph.now.forks pc s on
      → IsTargetOf told.setting.now.scene.now.dialect told.setting.now.book.now.unit.now told.graph.now.forks number s t
  target_to number pc s t on at goes h =
      subst (λ (x : UnitFlow). IsTargetOf x.setting.now.scene.now.dialect x.setting.now.book.now.unit.now x.graph.now.forks number s t) (sym same)
      (subst (λ (k : ℕ). IsTargetOf flow.setting.now.scene.now.dialect flow.setting.now.book.now.unit.now flow.graph.now.forks k s t) (sym at)
      (subst (λ (x : Target). IsTargetOf flow.setting.now.scene.now.dialect flow.setting.now.book.now.unit.now flow.graph.now.forks pc s x) (sym goes) h))

  pub performs_to : (pool : List Node) (m0 m1 : Moment) (part : ℕ → ℕ → Sight Tree → See Tree (Named Tree)) (number card place pc : ℕ) → number ≡ card → place ≡ pc
      → PerformsIn pool told.setting.now m0 (part number place) m1 → PerformsIn pool flow.setting.now m0 (part card pc) m1
  performs_to pool m0 m1 part number card place pc is at d =
      subst (λ (x : UnitFlow). PerformsIn pool x.setting.now m0 (part card pc) m1) same
      (subst (λ (k : ℕ). PerformsIn pool told.setting.now m0 (part card k) m1) at
      (subst (λ (k : ℕ). PerformsIn pool told.setting.now m0 (part k place) m1) is d))

-- ---- the targets of statements

pub target_as : (dialect : Dialect) (u : Routine) (forks : List Fork) (pc : ℕ) (is told : Stmt) (t : Target) → is ≡ told → IsTargetOf dialect u forks pc is t → IsTargetOf dialect u forks pc told t
target_as dialect u forks pc is told t e h = subst (λ (x : Stmt). IsTargetOf dialect u forks pc x t) e h

-- where a logical IF goes on
pub record IsIf (dialect : Dialect) (u : Routine) (forks : List Fork) (pc : ℕ) (s : Stmt) (t : Target) : Type 0 where
  pub then : Target
  pub on : Target
  pub fork : IsForkTo forks t None (then ∷ on ∷ [])
  pub carried : IsTargetOf dialect u forks pc s then
  pub passed : IsBehind u forks pc on

pub if_goes : (dialect : Dialect) (u : Routine) (forks : List Fork) (pc : ℕ) (e : Expr) (s : Stmt) (t : Target) → IsTargetOf dialect u forks pc (stmt.LogicalIf e s) t → IsIf dialect u forks pc s t
unfolding Rattle.fort_syntax.specs.declared.stmt.Stmt.TheBlock.hidden-the_row-Stmt-0 denote.Hole.Carrier.hidden
if_goes dialect u forks pc e s t h = record { then = h.0; on = h.1; fork = h.2; carried = h.3; passed = h.4 }

none_some : {X : Type 0} (a : X) → ◌≡◌ {A = Option X} None (Some a) → ⊥
none_some a e = cc

same_some : {X : Type 0} (a b : X) → ◌≡◌ {A = Option X} (Some a) (Some b) → a ≡ b
same_some a b e = cc

-- a turn that is there
pub turn_is : (o : Option Target) (t on : Target) → o ≡ Some on → o ≡ Some t → t ≡ on
turn_is o t on e is = same_some t on (sym is ∙ e)

pub turn_there : (o : Option Target) (on : Target) → o ≡ Some on → o ≡ None → ⊥
turn_there o on e is = none_some on (sym is ∙ e)

-- a line that is there
pub same_line : {X : Type 0} {o : Option X} (a b : X) → o ≡ Some a → o ≡ Some b → a ≡ b
same_line a b e h = same_some a b (sym e ∙ h)

-- ---- sizes

-- the statement that a logical IF carries is smaller than it
pub carried_smaller : (e : Expr) (s : Stmt) → size-Stmt s < size-Stmt (stmt.LogicalIf e s)
carried_smaller e s = search (rules, the_lemmas)

-- the same of statements that are told otherwise
pub smaller_as : (e : Expr) (s is carried : Stmt) → is ≡ stmt.LogicalIf e s → carried ≡ s → size-Stmt carried < size-Stmt is
smaller_as e s is carried h k = subst (λ (x : Stmt). size-Stmt carried < size-Stmt x) (sym h) (subst (λ (x : Stmt). size-Stmt x < size-Stmt (stmt.LogicalIf e s)) (sym k) (carried_smaller e s))
