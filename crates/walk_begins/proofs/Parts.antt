-- Parts of how DOs begin, one behind another.
use Rattle.std.proofs.Common.{◌≡◌, ℕ, zero, suc, ◌-◌, ◌≤◌, length, take, drop, get_or, ◌∷◌, List, [], Bool, true, false, cond, Option, slice_get, refl, sym, ap, ◌∙◌, subst, arith}
use Rattle.std.specs.Prelude.{◌==◌}
use Rattle.std.proofs.lemmas.Grind.{common_steps}
use Rattle.formula.specs.declared.node.Node.{Node}
use Rattle.formula.specs.declared.node.TermId.{TermId}
use Rattle.formula.specs.declared.function.BuiltIn.TheVariants.{AtMost, Difference, Less, Plus}
use Rattle.formula.specs.Pool.{IsIn, tree_of}
use Rattle.formula.specs.Tree.{Tree}
use Rattle.formula.proofs.Grown.{Grows-trans, tree_of-Grows}
use Rattle.fort_syntax.specs.declared.condition.Kind.TheVariants.{LoopCheck}
use Rattle.fort_syntax.specs.declared.dialect.BinOp.TheVariants.{Add, Sub}
use Rattle.fort_syntax.specs.declared.dialect.Dialect.{Dialect}
use Rattle.fort_syntax.specs.declared.dialect.Dialect.TheVariants.{Common, SeventySeven}
use Rattle.fort_syntax.specs.declared.stmt.Param.{Param}
use Rattle.fort_model.specs.Conditions.{sight}
use Rattle.fort_model.specs.Flow.{loops_around, target}
use Rattle.fort_model.specs.Perform.{card_in}
use Rattle.fort_model.specs.Seen.{Named, See, ◌>>=◌, ◌>>◌, see}
use Rattle.fort_model.specs.Senses.{make2, natural, of_terms}
use Rattle.fort_model.specs.WalkCalls.{Sight}
use Rattle.fort_model.specs.WalkExpr.{checked, operate, ranged}
use Rattle.fort_model.specs.WalkStmt.{entered, parameter, passed_over, step_value, taken, tests, with_name}
use Rattle.walk_loops.specs.Loops.{fits}
use Rattle.walk_setting.specs.declared.setting.Setting.{Setting}
use Rattle.walk_setting.specs.Settings.{DoesIn, PerformsIn, seen_from}
use Rattle.walk_setting.proofs.Done.{bind_assoc, does_here, does_then, performs_as, performs_not, performs_on, performs_past, performs_set, performs_then, within_here}
use Rattle.walk_state.specs.declared.walk.Walk.{Walk}
use Rattle.walk_state.specs.Moments.{Did, Follows, Moment, moment, with_names}
use Rattle.walk_state.proofs.Parts.{did_then}
use Rattle.walk_values.specs.Parts.{Does, DoesWithin}
use Rattle.walk_values.proofs.Checked.{did_see}
use Rattle.walk_begins.specs.declared.begins.DoHead.{DoHead}
use Rattle.walk_begins.specs.Begins.{begins, begins_with, begun, limits_of, trips_checked}

-- the first value, the last value and the step are read in order
pub limits_then : (s : Setting) (card : ℕ) (first last : Param) (step : Option Param) (w0 w1 w2 w3 : Walk) (i1 i2 i3 : TermId)
    → Follows w0 w1 → Follows w1 w2 → Follows w2 w3 → IsIn w1.pool i1 → IsIn w2.pool i2
    → DoesWithin s.scene.now.bound (moment w0) (λ w. parameter w card (moment w0).now first) (moment w1) (tree_of w1.pool i1)
    → DoesWithin s.scene.now.bound (moment w1) (λ w. parameter w card (moment w1).now last) (moment w2) (tree_of w2.pool i2)
    → DoesWithin s.scene.now.bound (moment w2) (λ w. step_value w card (moment w2).now step) (moment w3) (tree_of w3.pool i3)
    → DoesIn w0.pool s (moment w0) (λ w. limits_of w card (moment w0).now first last step) (moment w3) (tree_of w3.pool i1, tree_of w3.pool i2, tree_of w3.pool i3)
limits_then s card first last step w0 w1 w2 w3 i1 i2 i3 f1 f2 f3 in1 in2 d1 d2 d3 =
    let m3 = moment w3 in
    let t1 = tree_of w1.pool i1 in
    let t2 = tree_of w2.pool i2 in
    let t3 = tree_of w3.pool i3 in
    let all : Tree × Tree × Tree = (tree_of w3.pool i1, tree_of w3.pool i2, t3) in
    let same1 = tree_of-Grows w1.pool w3.pool i1 (Grows-trans w1.pool w2.pool w3.pool f2.grows f3.grows) in1 in
    let same2 = tree_of-Grows w2.pool w3.pool i2 f3.grows in2 in
    does_then s w0 w1 w3 (λ w. parameter w card (moment w0).now first) (λ w now a. parameter w card now last >>= λ b. step_value w card now step >>= λ c. see (a, b, c)) t1 all f1.grows
    (within_here w0.pool s (moment w0) (moment w1) (λ w. parameter w card (moment w0).now first) t1 d1)
    (does_then s w1 w2 w3 (λ w. parameter w card (moment w1).now last) (λ w now b. step_value w card now step >>= λ c. see (t1, b, c)) t2 all f2.grows
    (within_here w1.pool s (moment w1) (moment w2) (λ w. parameter w card (moment w1).now last) t2 d2)
    (does_then s w2 w3 w3 (λ w. step_value w card (moment w2).now step) (λ w now c. see (t1, t2, c)) t3 all f3.grows
    (within_here w2.pool s (moment w2) m3 (λ w. step_value w card (moment w2).now step) t3 d3)
    (λ p r. did_see m3 m3 (t1, t2, t3) all refl (λ i. (same1 i, same2 i, t3)))))

-- the checks of how often a DO is performed, in order
pub trips_then : (card : ℕ) (w0 w1 w2 w3 : Walk) (first last step distance sum : TermId) → Follows w0 w1 → Follows w1 w2 → IsIn w0.pool first → IsIn w0.pool last → IsIn w0.pool step
    → Does (moment w0) (λ w. checked w LoopCheck card (make2 of_terms AtMost (natural of_terms 1) (tree_of w0.pool step))) (moment w1) tt
    → Does (moment w1) (λ w. operate w card Sub (tree_of w1.pool last) (tree_of w1.pool first)) (moment w2) (tree_of w2.pool distance)
    → Does (moment w2) (λ w. operate w card Add (tree_of w2.pool distance) (tree_of w2.pool step)) (moment w3) (tree_of w3.pool sum)
    → Does (moment w0) (λ w. trips_checked w card (tree_of w0.pool first) (tree_of w0.pool last) (tree_of w0.pool step)) (moment w3) tt
trips_then card w0 w1 w2 w3 first last step distance sum f1 f2 in1 in2 in3 d1 d2 d3 p i u =
    let v = sight of_terms p i u in
    let a = tree_of w0.pool first in
    let b = tree_of w0.pool last in
    let c = tree_of w0.pool step in
    let apart = make2 of_terms Difference b a in
    let same1 = tree_of-Grows w0.pool w1.pool first f1.grows in1 in
    let same2 = tree_of-Grows w0.pool w1.pool last f1.grows in2 in
    let same3 = tree_of-Grows w0.pool w2.pool step (Grows-trans w0.pool w1.pool w2.pool f1.grows f2.grows) in3 in
    let second = subst (λ (x : Tree). Did (moment w1) (operate v card Sub b x) (moment w2) (tree_of w2.pool distance)) same1
    (subst (λ (x : Tree). Did (moment w1) (operate v card Sub x (tree_of w1.pool first)) (moment w2) (tree_of w2.pool distance)) same2 (d2 p i u)) in
    let third = subst (λ (x : Tree). Did (moment w2) (operate v card Add apart x) (moment w3) (tree_of w3.pool sum)) same3
    (subst (λ (x : Tree). Did (moment w2) (operate v card Add x (tree_of w2.pool step)) (moment w3) (tree_of w3.pool sum)) second.gives (d3 p i u)) in
    did_then (moment w0) (moment w1) (moment w3) (checked v LoopCheck card (make2 of_terms AtMost (natural of_terms 1) c))
    (λ _. ranged v card apart >> ranged v card (make2 of_terms Plus apart c) >> see tt) tt tt (d1 p i u)
    (did_then (moment w1) (moment w2) (moment w3) (ranged v card apart) (λ _. ranged v card (make2 of_terms Plus apart c) >> see tt) (tree_of w2.pool distance) tt second
    (did_then (moment w2) (moment w3) (moment w3) (ranged v card (make2 of_terms Plus apart c)) (λ _. see tt) (tree_of w3.pool sum) tt third (did_see (moment w3) (moment w3) tt tt refl refl)))

-- what follows the checks
trips_on : (w : Sight Tree) (card : ℕ) (a b c : Tree) (next : See Tree (Named Tree))
    → (trips_checked w card a b c >> next)
    ≡ (checked w LoopCheck card (make2 w.sense AtMost (natural w.sense 1) c) >> ranged w card (make2 w.sense Difference b a) >> ranged w card (make2 w.sense Plus (make2 w.sense Difference b a) c) >> next)
trips_on w card a b c next =
    let first = checked w LoopCheck card (make2 w.sense AtMost (natural w.sense 1) c) in
    let second = ranged w card (make2 w.sense Difference b a) in
    let third = ranged w card (make2 w.sense Plus (make2 w.sense Difference b a) c) in
    bind_assoc first (λ _. second >> third >> see (tt {0})) (λ _. next)
    ∙ (λ i. first >>= λ _. bind_assoc second (λ _. third >> see (tt {0})) (λ _. next) i)
    ∙ (λ i. first >>= λ _. second >>= λ _. bind_assoc third (λ _. see (tt {0})) (λ _. next) i)

module _ (s : Setting) (card pc : ℕ) (head : DoHead) (cs : List ℕ) where
  -- without 77 a DO is entered behind its check
  pub begun_common : (w0 w1 w2 : Walk) (i1 i2 i3 : TermId) → Follows w0 w1 → IsIn w0.pool i1
      → Does (moment w0) (λ w. checked w LoopCheck card (fits (tree_of w0.pool i1) (tree_of w0.pool i2) (tree_of w0.pool i3))) (moment w1) tt
      → moment w2 ≡ with_names (moment w1) (with_name (moment w1).now head.variable (tree_of w1.pool i1))
      → PerformsIn w0.pool s (moment w0) (λ w. begun w Common card pc (moment w0).now head (tree_of w0.pool i1, tree_of w0.pool i2, tree_of w0.pool i3) cs) (moment w2)
  begun_common w0 w1 w2 i1 i2 i3 f1 in1 d1 set =
      let a = tree_of w0.pool i1 in
      let check = fits a (tree_of w0.pool i2) (tree_of w0.pool i3) in
      let same = tree_of-Grows w0.pool w1.pool i1 f1.grows in1 in
      performs_then s w0 w1 w2 (λ w. checked w LoopCheck card check) (λ w now _. see (with_name now head.variable a)) tt f1.grows
      (does_here w0.pool s (moment w0) (moment w1) (λ w. checked w LoopCheck card check) tt d1)
      (performs_set w1.pool s (moment w1) (moment w2) (with_name (moment w1).now head.variable a) (set ∙ (λ i. with_names (moment w1) (with_name (moment w1).now head.variable (same i)))))

  -- under 77 whether it is entered comes behind the checks
  pub begun_seventy_seven : (w0 w1 w2 w3 : Walk) (i1 i2 i3 : TermId) → Follows w0 w1 → Follows w1 w2 → IsIn w0.pool i1 → IsIn w0.pool i2
      → Does (moment w0) (λ w. trips_checked w card (tree_of w0.pool i1) (tree_of w0.pool i2) (tree_of w0.pool i3)) (moment w1) tt
      → moment w2 ≡ with_names (moment w1) (with_name (moment w1).now head.variable (tree_of w1.pool i1))
      → PerformsIn w2.pool s (moment w2) (λ w. entered w (target w.unit.lines head.label) pc (moment w2).now (tree_of w2.pool i1) (tree_of w2.pool i2) cs) (moment w3)
      → PerformsIn w0.pool s (moment w0) (λ w. begun w SeventySeven card pc (moment w0).now head (tree_of w0.pool i1, tree_of w0.pool i2, tree_of w0.pool i3) cs) (moment w3)
  begun_seventy_seven w0 w1 w2 w3 i1 i2 i3 f1 f2 in1 in2 d1 set rest =
      let x = head.variable in
      let a = tree_of w0.pool i1 in
      let b = tree_of w0.pool i2 in
      let c = tree_of w0.pool i3 in
      let same = tree_of-Grows w0.pool w1.pool i1 f1.grows in1 in
      let all = Grows-trans w0.pool w1.pool w2.pool f1.grows f2.grows in
      let same1 = tree_of-Grows w0.pool w2.pool i1 all in1 in
      let same2 = tree_of-Grows w0.pool w2.pool i2 all in2 in
      performs_as w0.pool s (moment w0) (moment w3)
      (λ w. trips_checked w card a b c >> entered w (target w.unit.lines head.label) pc (with_name (moment w0).now x a) a b cs)
      (λ w. begun w SeventySeven card pc (moment w0).now head (a, b, c) cs)
      (λ p r. trips_on (seen_from s p) card a b c (entered (seen_from s p) (target s.book.now.unit.now.lines head.label) pc (with_name (moment w0).now x a) a b cs))
      (performs_then s w0 w1 w3 (λ w. trips_checked w card a b c) (λ w now _. entered w (target w.unit.lines head.label) pc (with_name now x a) a b cs) tt f1.grows
      (does_here w0.pool s (moment w0) (moment w1) (λ w. trips_checked w card a b c) tt d1)
      (performs_on s w1 w2 w3 (λ w. see (with_name (moment w1).now x a)) (λ w now. entered w (target w.unit.lines head.label) pc now a b cs) f2.grows
      (performs_set w1.pool s (moment w1) (moment w2) (with_name (moment w1).now x a) (set ∙ (λ i. with_names (moment w1) (with_name (moment w1).now x (same i)))))
      (performs_as w2.pool s (moment w2) (moment w3)
      (λ w. entered w (target w.unit.lines head.label) pc (moment w2).now (tree_of w2.pool i1) (tree_of w2.pool i2) cs)
      (λ w. entered w (target w.unit.lines head.label) pc (moment w2).now a b cs)
      (λ p r i. entered (seen_from s p) (target s.book.now.unit.now.lines head.label) pc (moment w2).now (same1 i) (same2 i) cs) rest)))

  -- the limits, and how the DO begins with them
  pub begins_then : (w0 w1 w2 : Walk) (m : Tree × Tree × Tree) → Follows w0 w1
      → DoesIn w0.pool s (moment w0) (λ w. limits_of w card (moment w0).now head.first head.last head.step) (moment w1) m
      → PerformsIn w1.pool s (moment w1) (λ w. begins_with w card pc (moment w1).now head m cs) (moment w2)
      → PerformsIn w0.pool s (moment w0) (λ w. begins w card pc (moment w0).now head cs) (moment w2)
  begins_then w0 w1 w2 m f1 d1 rest =
      let now0 = (moment w0).now in
      performs_as w0.pool s (moment w0) (moment w2) (λ w. limits_of w card now0 head.first head.last head.step >>= λ k. begins_with w card pc now0 head k cs) (λ w. begins w card pc now0 head cs)
      (λ p r.
      let v = seen_from s p in
      let on : Tree × Tree × Tree → See Tree (Named Tree) = λ k. begins_with v card pc now0 head k cs in
      bind_assoc (parameter v card now0 head.first) (λ a. parameter v card now0 head.last >>= λ b. step_value v card now0 head.step >>= λ c. see (a, b, c)) on
      ∙ (λ i. parameter v card now0 head.first >>= λ a. bind_assoc (parameter v card now0 head.last) (λ b. step_value v card now0 head.step >>= λ c. see (a, b, c)) on i)
      ∙ (λ i. parameter v card now0 head.first >>= λ a. parameter v card now0 head.last >>= λ b. bind_assoc (step_value v card now0 head.step) (λ c. see (a, b, c)) on i))
      (performs_then s w0 w1 w2 (λ w. limits_of w card now0 head.first head.last head.step) (λ w now k. begins_with w card pc now head k cs) m f1.grows d1 rest)

-- the limits, at a card that is that of a statement
pub limits_at : (pool : List Node) (told s : Setting) (number card : ℕ) (m0 m1 : Moment) (first last : Param) (step : Option Param) (m : Tree × Tree × Tree) → told ≡ s → number ≡ card
    → DoesIn pool told m0 (λ w. limits_of w number m0.now first last step) m1 m → DoesIn pool s m0 (λ w. limits_of w card m0.now first last step) m1 m
limits_at pool told s number card m0 m1 first last step m same is h =
    subst (λ (k : ℕ). DoesIn pool s m0 (λ w. limits_of w k m0.now first last step) m1 m) is (subst (λ (x : Setting). DoesIn pool x m0 (λ w. limits_of w number m0.now first last step) m1 m) same h)

-- the dialect of a scene is that of its program
pub begins_in : (pool : List Node) (s : Setting) (m0 m1 : Moment) (dialect : Dialect) (card pc : ℕ) (head : DoHead) (m : Tree × Tree × Tree) (cs : List ℕ) → s.scene.now.dialect ≡ dialect
    → PerformsIn pool s m0 (λ w. begun w dialect card pc m0.now head m cs) m1 → PerformsIn pool s m0 (λ w. begins_with w card pc m0.now head m cs) m1
begins_in pool s m0 m1 dialect card pc head m cs is h =
    performs_as pool s m0 m1 (λ w. begun w dialect card pc m0.now head m cs) (λ w. begins_with w card pc m0.now head m cs)
    (λ p r i. begun (seen_from s p) ((sym is ∙ r.is_scene.dialect) i) card pc m0.now head m cs) h

-- ---- whether a DO is entered

module _ (s : Setting) (label pc c : ℕ) (cs : List ℕ) (w0 w1 : Walk) (i1 i2 : TermId) where
  -- by the choice 1 it is
  pub is_entered : (c == 1) ≡ true → Does (moment w0) (λ w. taken w (make2 of_terms AtMost (tree_of w0.pool i1) (tree_of w0.pool i2))) (moment w1) tt
      → PerformsIn w0.pool s (moment w0) (λ w. entered w (target w.unit.lines label) pc (moment w0).now (tree_of w0.pool i1) (tree_of w0.pool i2) (c ∷ cs)) (moment w1)
  is_entered one d =
      let a = tree_of w0.pool i1 in
      let b = tree_of w0.pool i2 in
      let now = (moment w0).now in
      performs_as w0.pool s (moment w0) (moment w1) (λ w. taken w (make2 w.sense AtMost a b) >> see now) (λ w. entered w (target w.unit.lines label) pc now a b (c ∷ cs))
      (λ p r.
      let v = seen_from s p in
      let last = target s.book.now.unit.now.lines label in
      ap (λ (x : Bool). cond x (taken v (make2 v.sense AtMost a b) >> see now) (taken v (make2 v.sense Less b a) >> passed_over v last pc now cs)) (sym one))
      (performs_past w0.pool s (moment w0) (moment w1) (λ w. taken w (make2 w.sense AtMost a b)) tt (does_here w0.pool s (moment w0) (moment w1) (λ w. taken w (make2 w.sense AtMost a b)) tt d))

  -- by another one it is passed over
  pub not_entered : (w2 : Walk) → (c == 1) ≡ false → Follows w0 w1 → Does (moment w0) (λ w. taken w (make2 of_terms Less (tree_of w0.pool i2) (tree_of w0.pool i1))) (moment w1) tt
      → PerformsIn w1.pool s (moment w1) (λ w. passed_over w (target w.unit.lines label) pc (moment w1).now cs) (moment w2)
      → PerformsIn w0.pool s (moment w0) (λ w. entered w (target w.unit.lines label) pc (moment w0).now (tree_of w0.pool i1) (tree_of w0.pool i2) (c ∷ cs)) (moment w2)
  not_entered w2 other f1 d rest =
      let a = tree_of w0.pool i1 in
      let b = tree_of w0.pool i2 in
      let now = (moment w0).now in
      performs_as w0.pool s (moment w0) (moment w2) (λ w. taken w (make2 w.sense Less b a) >> passed_over w (target w.unit.lines label) pc now cs) (λ w. entered w (target w.unit.lines label) pc now a b (c ∷ cs))
      (λ p r.
      let v = seen_from s p in
      let last = target s.book.now.unit.now.lines label in
      ap (λ (x : Bool). cond x (taken v (make2 v.sense AtMost a b) >> see now) (taken v (make2 v.sense Less b a) >> passed_over v last pc now cs)) (sym other))
      (performs_then s w0 w1 w2 (λ w. taken w (make2 w.sense Less b a)) (λ w k _. passed_over w (target w.unit.lines label) pc k cs) tt f1.grows
      (does_here w0.pool s (moment w0) (moment w1) (λ w. taken w (make2 w.sense Less b a)) tt d) rest)

  -- whichever choices there are
  pub entered_by : (choices : List ℕ) → choices ≡ c ∷ cs → (m : Moment) → PerformsIn w0.pool s (moment w0) (λ w. entered w (target w.unit.lines label) pc (moment w0).now (tree_of w0.pool i1) (tree_of w0.pool i2) (c ∷ cs)) m
      → PerformsIn w0.pool s (moment w0) (λ w. entered w (target w.unit.lines label) pc (moment w0).now (tree_of w0.pool i1) (tree_of w0.pool i2) choices) m
  entered_by choices e m h =
      subst (λ (xs : List ℕ). PerformsIn w0.pool s (moment w0) (λ w. entered w (target w.unit.lines label) pc (moment w0).now (tree_of w0.pool i1) (tree_of w0.pool i2) xs) m) (sym e) h

-- the tests of the DOs around one that is passed over, at the card of its last statement
pub passes_over : (s : Setting) (label pc card : ℕ) (cs : List ℕ) (w0 : Walk) (m : Moment) → card ≡ card_in (slice_get s.book.now.unit.now.lines (target s.book.now.unit.now.lines label))
    → PerformsIn w0.pool s (moment w0) (λ w. tests w card (moment w0).now (loops_around s.book.now.unit.now (target s.book.now.unit.now.lines label) pc) cs) m
    → PerformsIn w0.pool s (moment w0) (λ w. passed_over w (target w.unit.lines label) pc (moment w0).now cs) m
passes_over s label pc card cs w0 m is h =
    let u = s.book.now.unit.now in
    performs_as w0.pool s (moment w0) m (λ w. tests w card (moment w0).now (loops_around u (target u.lines label) pc) cs) (λ w. passed_over w (target w.unit.lines label) pc (moment w0).now cs)
    (λ p r i. tests (seen_from s p) (is i) (moment w0).now (loops_around u (target u.lines label) pc) cs) h

pub is_one : (c : ℕ) → c ≡ 1 → (c == 1) ≡ true
is_one c e = ap (λ (k : ℕ). k == 1) e

pub is_other : (c : ℕ) → (c ≡ 1 → ⊥) → (c == 1) ≡ false
is_other zero h = grind arith
is_other (suc zero) h = absurd (h refl)
is_other (suc (suc c)) h = grind arith

-- the first choice and the others
pub first_rest : (cs : List ℕ) → 1 ≤ length cs → cs ≡ get_or cs 0 0 ∷ take (length cs - 1) (drop 1 cs)
first_rest [] h = absurd (omega arith)
first_rest (c ∷ cs) h = grind (arith, common_steps)
