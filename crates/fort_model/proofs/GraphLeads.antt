-- A graph says where choices lead.
use Rattle.std.proofs.Common.{◌≡◌, ℕ, zero, suc, Bool, false, cond, List, [], ◌∷◌, ◌++◌, map, length, ◌+◌, Option, Some, None, slice_get, refl, sym, ap, ◌∙◌, arith}
use Rattle.std.specs.Prelude.{◌==◌}
use Rattle.std.proofs.lemmas.Bool.Decides.{nat_tests}
use Rattle.fort_syntax.specs.TreePatterns.{carried}
use Rattle.fort_syntax.specs.declared.dialect.Dialect.{Dialect}
use Rattle.fort_syntax.specs.declared.dialect.Dialect.TheVariants.{Common, SeventySeven}
use Rattle.fort_syntax.specs.declared.stmt.Stmt.{Stmt}
use Rattle.fort_syntax.specs.declared.stmt.Stmt.TheVariants.{Subroutine, Function, Declare, Dimension, Common as CommonBlock, Assign, GoTo, Computed, ArithIf, LogicalIf', Do, Continue, Call, Return, End, BlockIf, ElseIf, Else, EndIf}
use Rattle.fort_syntax.specs.declared.unit.Line.{Line}
use Rattle.fort_syntax.specs.declared.unit.Unit.{Unit as Routine}
use Rattle.fort_model.specs.declared.graph.Fork.{Fork}
use Rattle.fort_model.specs.declared.graph.Target.{Target}
use Rattle.fort_model.specs.declared.graph.Target.TheVariants.{Point, Fork as AtFork}
use Rattle.fort_model.specs.Flow.{target, Loop, one_way, one_of, through, behind, leads_do, leads_computed, leads, leads_by, loops_at, loops_around, next_point, next_branch}
use Rattle.fort_model.specs.Graphs.{taken, goes_to, follow, IsForkTo, AreTests, IsBehind, IsDoTarget, IsComputedTarget, IsTargetOf, AreTargetsOf, GraphsLead}

module _ (forks : List Fork) where
  -- ---- a choice at a fork

  at_fork : (t : Target) (tested : Option ℕ) (targets : List Target) → IsForkTo forks t tested targets → (c : ℕ) (cs : List ℕ)
      → follow forks t (c ∷ cs) ≡ goes_to (taken (Some (record { tested = tested; targets = targets })) c) (λ t. follow forks t cs)
  at_fork (Point q) tested targets h c cs = absurd h
  at_fork (AtFork k) tested targets h c cs = ap (λ (o : Option Fork). goes_to (taken o c) (λ t. follow forks t cs)) h

  no_choice : (t : Target) (tested : Option ℕ) (targets : List Target) → IsForkTo forks t tested targets → follow forks t [] ≡ None
  no_choice (Point q) tested targets h = absurd h
  no_choice (AtFork k) tested targets h = refl

  at_point : (q : ℕ) (t : Target) → t ≡ Point q → (cs : List ℕ) → follow forks t cs ≡ one_way q cs
  at_point q t e [] = ap (λ (x : Target). follow forks x []) e
  at_point q t e (c ∷ cs) = ap (λ (x : Target). follow forks x (c ∷ cs)) e

  -- ---- tests of DOs

  at_tests : (q : ℕ) (ds : List Loop) (t : Target) → AreTests forks q ds t → (cs : List ℕ) → follow forks t cs ≡ through q ds cs
  at_tests q [] t h cs = at_point q t h cs
  at_tests q (d ∷ ds) t h [] = no_choice t _ _ h.1
  at_tests q (d ∷ ds) t h (zero ∷ cs) = at_fork t _ _ h.1 zero cs
  at_tests q (d ∷ ds) t h (suc zero ∷ cs) = at_fork t _ _ h.1 (suc zero) cs ∙ at_point (suc d.at) (Point (suc d.at)) refl cs
  at_tests q (d ∷ ds) t h (suc (suc zero) ∷ cs) = at_fork t _ _ h.1 (suc (suc zero)) cs ∙ at_tests q ds h.0 h.2 cs
  at_tests q (d ∷ ds) t h (suc (suc (suc i)) ∷ cs) = at_fork t _ _ h.1 (suc (suc (suc i))) cs

  -- ---- forks to points

  abbrev points : (ℕ → ℕ) → List ℕ → List Target
  points g labels = map (λ label. Point (g label)) labels

  one_point : (g : ℕ → ℕ) (labels : List ℕ) (i : ℕ) → goes_to (slice_get (points g labels) i) (λ t. follow forks t []) ≡ slice_get (map g labels) i
  one_point g [] i = refl
  one_point g (label ∷ labels) zero = refl
  one_point g (label ∷ labels) (suc i) = one_point g labels i

  past_point : (g : ℕ → ℕ) (labels : List ℕ) (i d : ℕ) (cs : List ℕ) → goes_to (slice_get (points g labels) i) (λ t. follow forks t (d ∷ cs)) ≡ None
  past_point g [] i d cs = refl
  past_point g (label ∷ labels) zero d cs = refl
  past_point g (label ∷ labels) (suc i) d cs = past_point g labels i d cs

  at_points : (g : ℕ → ℕ) (labels : List ℕ) (t : Target) (tested : Option ℕ) → IsForkTo forks t tested (points g labels) → (cs : List ℕ) → follow forks t cs ≡ one_of (map g labels) cs
  at_points g labels t tested h [] = no_choice t tested _ h
  at_points g labels t tested h (zero ∷ []) = at_fork t tested _ h zero []
  at_points g labels t tested h (suc i ∷ []) = at_fork t tested _ h (suc i) [] ∙ one_point g labels i
  at_points g labels t tested h (zero ∷ (d ∷ cs)) = at_fork t tested _ h zero (d ∷ cs)
  at_points g labels t tested h (suc i ∷ (d ∷ cs)) = at_fork t tested _ h (suc i) (d ∷ cs) ∙ past_point g labels i d cs

  at_two : (p q : ℕ) (t : Target) (tested : Option ℕ) → IsForkTo forks t tested (Point p ∷ Point q ∷ []) → (cs : List ℕ) → follow forks t cs ≡ one_of (p ∷ q ∷ []) cs
  at_two p q t tested h cs = at_points (λ x. x) (p ∷ q ∷ []) t tested h cs

  -- ---- points, and behind them something else

  same_test : (a b : ℕ) → (suc a == suc b) ≡ (a == b)
  same_test a b = grind (arith, nat_tests)

  not_one : (a : ℕ) → (1 == suc (suc a)) ≡ false
  not_one a = grind (arith, nat_tests)

  beyond : (a : ℕ) → (suc (suc a) == 1) ≡ false
  beyond a = grind (arith, nat_tests)

  one_fewer : (q : ℕ) (qs : List ℕ) (k : ℕ) (cs : List ℕ) → one_of qs (suc k ∷ cs) ≡ one_of (q ∷ qs) (suc (suc k) ∷ cs)
  one_fewer q qs k [] = refl
  one_fewer q qs k (d ∷ cs) = refl

  none_of : (k : ℕ) (cs : List ℕ) → one_of [] (suc k ∷ cs) ≡ None
  none_of k [] = refl
  none_of k (d ∷ cs) = refl

  first_of_all : (q : ℕ) (qs : List ℕ) (cs : List ℕ) → one_way q cs ≡ one_of (q ∷ qs) (1 ∷ cs)
  first_of_all q qs [] = refl
  first_of_all q qs (d ∷ cs) = refl

  zeroth : (qs : List ℕ) (cs : List ℕ) → one_of qs (zero ∷ cs) ≡ None
  zeroth qs [] = refl
  zeroth qs (d ∷ cs) = refl

  abbrev by_test : Bool → Option ℕ → Option ℕ → Option ℕ
  by_test b x y = cond b x y

  point_or_on : (g : ℕ → ℕ) (labels : List ℕ) (on : Target) (k : ℕ) (cs : List ℕ)
      → goes_to (slice_get (points g labels ++ on ∷ []) k) (λ t. follow forks t cs) ≡ by_test (suc k == suc (length (map g labels))) (follow forks on cs) (one_of (map g labels) (suc k ∷ cs))
  point_or_on g [] on zero cs = refl
  point_or_on g [] on (suc k) cs = sym (ap (λ (b : Bool). by_test b (follow forks on cs) (one_of [] (suc (suc k) ∷ cs))) (beyond k) ∙ none_of (suc k) cs)
  point_or_on g (label ∷ labels) on zero cs =
      at_point (g label) (Point (g label)) refl cs ∙ first_of_all (g label) (map g labels) cs
      ∙ sym (ap (λ (b : Bool). by_test b (follow forks on cs) (one_of (g label ∷ map g labels) (1 ∷ cs))) (not_one (length (map g labels))))
  point_or_on g (label ∷ labels) on (suc k) cs =
      point_or_on g labels on k cs
      ∙ ap (λ (b : Bool). by_test b (follow forks on cs) (one_of (map g labels) (suc k ∷ cs))) (sym (same_test (suc k) (suc (length (map g labels)))))
      ∙ ap (λ (o : Option ℕ). by_test (suc (suc k) == suc (suc (length (map g labels)))) (follow forks on cs) o) (one_fewer (g label) (map g labels) k cs)

  module _ (u : Routine) (pc : ℕ) where
    at_behind : (t : Target) → IsBehind u forks pc t → (cs : List ℕ) → follow forks t cs ≡ behind u pc cs
    at_behind t h cs = at_tests (next_point u pc) (loops_at u pc) t h cs

    zero_test : (n : ℕ) → (zero == suc n) ≡ false
    zero_test n = grind (arith, nat_tests)

    at_computed : (dialect : Dialect) (labels : List ℕ) (t : Target) → IsComputedTarget dialect u forks pc labels t → (cs : List ℕ)
        → follow forks t cs ≡ leads_computed dialect u pc (map (target u.lines) labels) cs
    at_computed Common labels t h cs = at_points (target u.lines) labels t None h cs
    at_computed SeventySeven labels t h [] = no_choice t None _ h.1
    at_computed SeventySeven labels t h (zero ∷ cs) =
        at_fork t None _ h.1 zero cs ∙ sym (ap (λ (b : Bool). cond b (behind u pc cs) (one_of (map (target u.lines) labels) (zero ∷ cs))) (zero_test (length (map (target u.lines) labels))) ∙ zeroth (map (target u.lines) labels) cs)
    at_computed SeventySeven labels t h (suc k ∷ cs) =
        at_fork t None _ h.1 (suc k) cs ∙ point_or_on (target u.lines) labels h.0 k cs
        ∙ ap (λ (o : Option ℕ). by_test (suc k == suc (length (map (target u.lines) labels))) o (one_of (map (target u.lines) labels) (suc k ∷ cs))) (at_behind h.0 h.2 cs)

    at_do : (dialect : Dialect) (last : ℕ) (t : Target) → IsDoTarget dialect u forks last pc t → (cs : List ℕ) → follow forks t cs ≡ leads_do dialect u last pc cs
    at_do Common last t h cs = at_point (suc pc) t h cs
    at_do SeventySeven last t h [] = no_choice t None _ h.1
    at_do SeventySeven last t h (zero ∷ cs) = at_fork t None _ h.1 zero cs
    at_do SeventySeven last t h (suc zero ∷ cs) = at_fork t None _ h.1 (suc zero) cs ∙ at_point (suc pc) (Point (suc pc)) refl cs
    at_do SeventySeven last t h (suc (suc zero) ∷ cs) = at_fork t None _ h.1 (suc (suc zero)) cs ∙ at_tests (next_point u last) (loops_around u last pc) h.0 h.2 cs
    at_do SeventySeven last t h (suc (suc (suc i)) ∷ cs) = at_fork t None _ h.1 (suc (suc (suc i))) cs

    nowhere : (t : Target) → IsForkTo forks t None [] → (cs : List ℕ) → follow forks t cs ≡ None
    nowhere t h [] = no_choice t None [] h
    nowhere t h (zero ∷ cs) = at_fork t None [] h zero cs
    nowhere t h (suc c ∷ cs) = at_fork t None [] h (suc c) cs

    -- the target of a statement leads where the statement does
    pub at_target : (dialect : Dialect) (s : Stmt) (t : Target) → IsTargetOf dialect u forks pc s t → (cs : List ℕ) → follow forks t cs ≡ leads dialect u pc s cs
    at_target dialect (Assign left right) t h cs = at_behind t h cs
    at_target dialect (GoTo label) t h cs = at_point (target u.lines label) t h cs
    at_target dialect (Computed labels x) t h cs = at_computed dialect labels t h cs
    at_target dialect (ArithIf e l m n) t h cs = at_points (target u.lines) (l ∷ m ∷ n ∷ []) t None h cs
    at_target dialect (LogicalIf' e _ (carried s)) t h [] = no_choice t None _ h.2
    at_target dialect (LogicalIf' e _ (carried s)) t h (zero ∷ cs) = at_fork t None _ h.2 zero cs
    at_target dialect (LogicalIf' e _ (carried s)) t h (suc zero ∷ cs) = at_fork t None _ h.2 (suc zero) cs ∙ at_target dialect s h.0 h.3 cs
    at_target dialect (LogicalIf' e _ (carried s)) t h (suc (suc zero) ∷ cs) = at_fork t None _ h.2 (suc (suc zero)) cs ∙ at_behind h.1 h.4 cs
    at_target dialect (LogicalIf' e _ (carried s)) t h (suc (suc (suc i)) ∷ cs) = at_fork t None _ h.2 (suc (suc (suc i))) cs
    at_target dialect (Do label x first last step) t h cs = at_do dialect (target u.lines label) t h cs
    at_target dialect Continue t h cs = at_behind t h cs
    at_target dialect (Call f args) t h cs = at_behind t h cs
    at_target dialect Return t h cs = at_point (length u.lines) t h cs
    at_target dialect (BlockIf e) t h cs = at_two (next_point u pc) (next_branch u pc) t None h cs
    at_target dialect (ElseIf e) t h cs = at_two (next_point u pc) (next_branch u pc) t None h cs
    at_target dialect Else t h cs = at_behind t h cs
    at_target dialect EndIf t h cs = at_behind t h cs
    at_target dialect (Subroutine x xs) t h cs = nowhere t h cs
    at_target dialect (Function o x xs) t h cs = nowhere t h cs
    at_target dialect (Declare o items) t h cs = nowhere t h cs
    at_target dialect (Dimension items) t h cs = nowhere t h cs
    at_target dialect (CommonBlock groups) t h cs = nowhere t h cs
    at_target dialect End t h cs = nowhere t h cs

-- ---- all points of a unit

next_by_one : (n k : ℕ) → suc n + k ≡ n + suc k
next_by_one n k = omega arith

-- the targets of statements, the first of which stands at the point n
at_targets : (dialect : Dialect) (u : Routine) (forks : List Fork) (n : ℕ) (lines : List Line) (ts : List Target) → AreTargetsOf dialect u forks n lines ts → (k : ℕ) (cs : List ℕ)
    → goes_to (slice_get ts k) (λ t. follow forks t cs) ≡ leads_by dialect u (n + k) (slice_get lines k) cs
at_targets dialect u forks n [] [] h k cs = refl
at_targets dialect u forks n [] (t ∷ ts) h k cs = absurd h
at_targets dialect u forks n (line ∷ lines) [] h k cs = absurd h
at_targets dialect u forks n (line ∷ lines) (t ∷ ts) h zero cs =
    at_target forks u n dialect line.stmt t h.0 cs ∙ ap (λ (pc : ℕ). leads dialect u pc line.stmt cs) (same n)
  where
    same : (n : ℕ) → n ≡ n + 0
    same n = omega arith
at_targets dialect u forks n (line ∷ lines) (t ∷ ts) h (suc k) cs =
    at_targets dialect u forks (suc n) lines ts h.1 k cs ∙ ap (λ (pc : ℕ). leads_by dialect u pc (slice_get lines k) cs) (next_by_one n k)

pub graphs_lead : GraphsLead
graphs_lead dialect u notes graph h pc cs =
    at_targets dialect u graph.forks 0 u.lines graph.starts h.starts pc cs ∙ ap (λ (k : ℕ). leads_by dialect u k (slice_get u.lines pc) cs) (same pc)
  where
    same : (n : ℕ) → 0 + n ≡ n
    same n = omega arith
