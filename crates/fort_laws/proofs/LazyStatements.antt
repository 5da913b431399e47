-- Statements on a strict processor and on the lazy one, where the lazy one's calls follow the strict one's.
use Rattle.std.proofs.Common.{◌≡◌, ℕ, suc, ◌+◌, Bool, true, false, cond, not, ◌&&◌, ◌||◌, ℤ, List, [], ◌∷◌, ◌++◌, length, refl, subst}
use Rattle.fort_syntax.specs.TreePatterns.{listed, only, carried, row_of}
use Rattle.fort_syntax.specs.Names.{Applied, Element, BuiltIn, Reference, applied, unit_at}
use mathlib.Core.Former.{Count}
use Rattle.formula.specs.declared.value.Cell.{Cell}
use Rattle.formula.specs.declared.value.Cell.TheVariants.{Logical}
use Rattle.fort_syntax.specs.declared.name.Name.{Name}
use Rattle.fort_syntax.specs.declared.expr.Expr.{Expr, Row_of-Expr, end_of-Expr, more_of-Expr}
use Rattle.fort_syntax.specs.declared.expr.Expr.TheVariants.{Const, Truth, Var, Apply', Paren', Pos', Neg', Power', Bin', Rel', Not', And', Or'}
use Rattle.fort_syntax.specs.declared.stmt.Dim.{Dim}
use Rattle.fort_syntax.specs.declared.stmt.Param.TheVariants.{Fixed, Named}
use Rattle.fort_syntax.specs.declared.stmt.Stmt.{Stmt}
use Rattle.fort_syntax.specs.declared.stmt.Stmt.TheVariants.{Subroutine, Function, Declare, Dimension, Common as CommonBlock, Assign, GoTo, Computed, ArithIf, LogicalIf', Do, Continue, Call, Return, End, BlockIf, ElseIf, Else, EndIf}
use Rattle.fort_model.specs.Calls.{CallSite, own_site, sites_in, sites_in_row, sites_of, callee_of}
use Rattle.fort_model.specs.Cells.{num, holds}
use Rattle.fort_model.specs.Evaluate.{Scene, valued, fresh, call_at, apply, taken, values, actuals, evaluate}
use Rattle.fort_model.specs.Flow.{target}
use Rattle.fort_model.specs.Lists.{IsAmong}
use Rattle.fort_model.specs.Outcome.{Act, ◌>>=◌, give, step, stuck}
use Rattle.fort_model.specs.Passing.{Taken, Fresh, passed, Caller, call}
use Rattle.fort_model.specs.Perform.{perform}
use Rattle.fort_model.specs.Places.{dim_values}
use Rattle.fort_model.specs.Sites.{calls_in}
use Rattle.fort_model.specs.Storage.{Storage, Extent}
use Rattle.fort_laws.specs.Actuals.{IsTakenAs, AreTakenAs}
use Rattle.fort_laws.proofs.Kept.{among_left, among_right, AreIn, listed_row, element_at, does_taken, does_actuals, keeps_valued, keeps_step}
use Rattle.fort_laws.proofs.LazyFollows.{FollowsAt, FollowsAll, follows_on, follows_cond, all_then, all_before, all_give, sure, IsSame, Any, Leaves, follows_then, follows_without}
use Rattle.fort_laws.proofs.LazyParts.{lazy_scene, all_ranged, all_operate, all_power_on, all_intrinsic, all_parameter, all_step_value, all_go_on, all_begin, all_select}
use Rattle.fort_laws.proofs.References.{sites_are_references, row_references}
use Rattle.step_laws.proofs.Tied.{tied_stuck, tied_step}
use Rattle.step_laws.proofs.TiedParts.{sure_value_of, sure_element, sure_assign, sure_result}

follows_valued : {a b : Act Taken} (st : Storage) (card : ℕ) → FollowsAt st a b → FollowsAt st (valued card a) (valued card b)
follows_valued st card h = follows_on st h (λ x. sure _ (λ bound. sure_value_of bound card x))

follows_fresh : {a b : Act Cell} (st : Storage) → FollowsAt st a b → FollowsAt st (fresh a) (fresh b)
follows_fresh st h = follows_on st h (λ c. all_give _)

all_fresh : {a b : Act Cell} → FollowsAll a b → FollowsAll (fresh a) (fresh b)
all_fresh h st = follows_fresh st (h st)

-- storage is that from which the statement is performed
module _ (s : Scene) (strict : s.processor.lazy ≡ false) (run other : Caller) (st0 : Storage) (Part : Name → Extent → Type 0)
    (parts_lie : (f : Name) (dims : List Dim) → applied s.unit f ≡ Element dims → (st : Storage) → st ≡ st0 → (ss : List ℤ) → AreIn ss (dim_values s.environment st dims)
    → Part f (element_at (s.environment f) ss (dim_values s.environment st dims)))
    (Called : CallSite → Type 0)
    (references_leave : (site : CallSite) → Called site × (site.reference ≡ true) → (k : ℕ) (xs : List Taken) → AreTakenAs s.environment Part site.actuals xs
    → Leaves st0 (λ _. Unit {0}) (call run s.environment (unit_at s.units (callee_of s.units site)) (passed (s.processor.copies s.unit.name k) 1 xs)))
    (calls_follow : (site : CallSite) → Called site → (k : ℕ) (xs : List Taken) → AreTakenAs s.environment Part site.actuals xs
    → FollowsAt st0 (call run s.environment (unit_at s.units (callee_of s.units site)) (passed (s.processor.copies s.unit.name k) 1 xs))
    (call other s.environment (unit_at s.units (callee_of s.units site)) (passed (s.processor.copies s.unit.name k) 1 xs))) where
  -- the same on the lazy processor
  abbrev relaxed : Scene
  relaxed = lazy_scene s

  abbrev Sited : List CallSite → Type 0
  Sited sites = (site : CallSite) → IsAmong site sites → Called site

  left_sited : (xs ys : List CallSite) → Sited (xs ++ ys) → Sited xs
  left_sited xs ys h site m = h site (among_left site xs ys m)

  right_sited : (xs ys : List CallSite) → Sited (xs ++ ys) → Sited ys
  right_sited xs ys h site m = h site (among_right site xs ys m)

  -- ---- what expressions leave as it was

  abbrev IsReference : CallSite → Type 0
  IsReference site = Called site × (site.reference ≡ true)

  abbrev Fit : Expr → Taken → Type 0
  Fit e x = IsTakenAs s.environment Part e x

  abbrev AllFit : List Expr → List Taken → Type 0
  AllFit es xs = AreTakenAs s.environment Part es xs

  taken_leaves : (card k : ℕ) (e : Expr) → Sited (sites_in s.unit e) → Leaves st0 (Fit e) (taken s run card k e)
  taken_leaves card k e h =
      does_taken (IsSame st0) Any (λ _ _. tt) s run Part parts_lie IsReference references_leave card k e
      (λ site m. (h site m, sites_are_references s.unit e site m))

  valued_leaves : (card k : ℕ) (e : Expr) → Sited (sites_in s.unit e) → Leaves st0 (λ _. Unit {0}) (evaluate s run card k e)
  valued_leaves card k e h = keeps_valued (IsSame st0) Any (λ _ _. tt) card (Fit e) _ (taken_leaves card k e h)

  actuals_leave : (card k : ℕ) {m : Count} (es : Row_of-Expr m) → Sited (sites_in_row s.unit es)
      → Leaves st0 (AllFit (listed es)) (actuals s run card k es)
  actuals_leave card k es h =
      does_actuals (IsSame st0) Any (λ _ _. tt) s run Part parts_lie IsReference references_leave card k es
      (λ site m. (h site m, row_references s.unit es site m))

  -- ---- expressions

  follows_call_at : (site : CallSite) → Called site → (k : ℕ) (xs ys : Act (List Taken))
      → Leaves st0 (AllFit site.actuals) xs → FollowsAt st0 xs ys
      → FollowsAt st0 (call_at s run k xs (callee_of s.units site)) (call_at relaxed other k ys (callee_of s.units site))
  follows_call_at site called k xs ys leave h = follows_then st0 leave h (λ zs fit. calls_follow site called k zs fit)

  follows_apply : (card k : ℕ) (f : Name) (es : List Expr) (kind : Applied) (vs ws : Act (List Cell)) (xs ys : Act (List Taken))
      → Sited (own_site kind f es)
      → FollowsAt st0 vs ws → Leaves st0 (AllFit es) xs → FollowsAt st0 xs ys
      → FollowsAt st0 (apply s run card k f kind vs xs) (apply relaxed other card k f kind ws ys)
  follows_apply card k f es (Element dims) vs ws xs ys sited hv leave hx =
      follows_on st0 hv (λ cs. sure _ (λ bound. sure_element bound s.environment card (s.environment f) dims cs))
  follows_apply card k f es (BuiltIn i) vs ws xs ys sited hv leave hx =
      follows_on st0 hv (λ cs. all_fresh (all_intrinsic s.processor card i cs))
  follows_apply card k f es Reference vs ws xs ys sited hv leave hx =
      let site : CallSite = record { reference = true; callee = f; actuals = es } in
      follows_fresh st0 (follows_call_at site (sited site (0, refl)) (suc k) xs ys leave hx)

  -- the lazy one leaves out a right operand that decides nothing
  follows_and : (lazy : Bool) → lazy ≡ false → (h : Bool) (b c : Act Cell) → Leaves st0 (λ _. Unit {0}) b
      → FollowsAt st0 b c
      → FollowsAt st0 (cond (lazy && not h) (give (Fresh (Logical false))) (b >>= λ w. give (Fresh (Logical (h && holds w)))))
      (cond (not h) (give (Fresh (Logical false))) (c >>= λ w. give (Fresh (Logical (h && holds w)))))
  follows_and true e h b c leave f = absurd (cc)
  follows_and false e true b c leave f = follows_on st0 f (λ w. all_give _)
  follows_and false e false b c leave f = follows_without st0 _ leave f

  follows_or : (lazy : Bool) → lazy ≡ false → (h : Bool) (b c : Act Cell) → Leaves st0 (λ _. Unit {0}) b → FollowsAt st0 b c
      → FollowsAt st0 (cond (lazy && h) (give (Fresh (Logical true))) (b >>= λ w. give (Fresh (Logical (h || holds w)))))
      (cond h (give (Fresh (Logical true))) (c >>= λ w. give (Fresh (Logical (h || holds w)))))
  follows_or true e h b c leave f = absurd (cc)
  follows_or false e true b c leave f = follows_without st0 _ leave f
  follows_or false e false b c leave f = follows_on st0 f (λ w. all_give _)

  mutual
    follows_taken : (card k : ℕ) (e : Expr) → Sited (sites_in s.unit e)
        → FollowsAt st0 (taken s run card k e) (taken relaxed other card k e)
    follows_taken card k (Const c) h = all_fresh (all_parameter s card (Fixed c)) st0
    follows_taken card k (Truth b) h = all_give _ st0
    follows_taken card k (Var x) h = all_give _ st0
    follows_taken card k (Apply' f shape args) h =
        let own = own_site (applied s.unit f) f (listed args) in
        let in_row : Sited (sites_in_row s.unit args) = right_sited own (sites_in_row s.unit args) h in
        follows_apply card k f (listed args) (applied s.unit f) _ _ _ _ (left_sited own (sites_in_row s.unit args) h)
        (follows_values card k args in_row) (actuals_leave card (suc k) args in_row) (follows_actuals card (suc k) args in_row)
    follows_taken card k (Paren' _ (only a)) h = follows_fresh st0 (follows_valued st0 card (follows_taken card k a h))
    follows_taken card k (Pos' _ (only a)) h = follows_fresh st0 (follows_valued st0 card (follows_taken card k a h))
    follows_taken card k (Neg' _ (only a)) h = follows_on st0 (follows_valued st0 card (follows_taken card k a h)) (λ v. all_fresh (all_ranged s.processor card _))
    follows_taken card k (Power' _ (only a) n) h = follows_on st0 (follows_valued st0 card (follows_taken card k a h)) (λ v. all_fresh (all_power_on s.processor card _ _ _))
    follows_taken card k (Bin' o _ (only a) _ (only b)) h =
        let l : Sited (sites_in s.unit a) = left_sited (sites_in s.unit a) (sites_in s.unit b) h in
        let r : Sited (sites_in s.unit b) = right_sited (sites_in s.unit a) (sites_in s.unit b) h in
        follows_then st0 (valued_leaves card k a l) (follows_valued st0 card (follows_taken card k a l)) λ v _.
        follows_on st0 (follows_valued st0 card (follows_taken card _ b r)) λ w. all_fresh (all_operate s.processor card o v w)
    follows_taken card k (Rel' o _ (only a) _ (only b)) h =
        let l : Sited (sites_in s.unit a) = left_sited (sites_in s.unit a) (sites_in s.unit b) h in
        let r : Sited (sites_in s.unit b) = right_sited (sites_in s.unit a) (sites_in s.unit b) h in
        follows_then st0 (valued_leaves card k a l) (follows_valued st0 card (follows_taken card k a l)) λ v _.
        follows_on st0 (follows_valued st0 card (follows_taken card _ b r)) λ w. all_give _
    follows_taken card k (Not' _ (only a)) h = follows_on st0 (follows_valued st0 card (follows_taken card k a h)) (λ v. all_give _)
    follows_taken card k (And' _ (only a) _ (only b)) h =
        let l : Sited (sites_in s.unit a) = left_sited (sites_in s.unit a) (sites_in s.unit b) h in
        let r : Sited (sites_in s.unit b) = right_sited (sites_in s.unit a) (sites_in s.unit b) h in
        follows_then st0 (valued_leaves card k a l) (follows_valued st0 card (follows_taken card k a l)) λ v _.
        follows_and s.processor.lazy strict (holds v) _ _ (valued_leaves card _ b r) (follows_valued st0 card (follows_taken card _ b r))
    follows_taken card k (Or' _ (only a) _ (only b)) h =
        let l : Sited (sites_in s.unit a) = left_sited (sites_in s.unit a) (sites_in s.unit b) h in
        let r : Sited (sites_in s.unit b) = right_sited (sites_in s.unit a) (sites_in s.unit b) h in
        follows_then st0 (valued_leaves card k a l) (follows_valued st0 card (follows_taken card k a l)) λ v _.
        follows_or s.processor.lazy strict (holds v) _ _ (valued_leaves card _ b r) (follows_valued st0 card (follows_taken card _ b r))

    follows_values : (card k : ℕ) {m : Count} (es : Row_of-Expr m) → Sited (sites_in_row s.unit es)
        → FollowsAt st0 (values s run card k es) (values relaxed other card k es)
    follows_values card k end_of-Expr h = all_give _ st0
    follows_values card k (more_of-Expr e es) h =
        let l : Sited (sites_in s.unit e) = left_sited (sites_in s.unit e) (sites_in_row s.unit es) h in
        follows_then st0 (valued_leaves card k e l) (follows_valued st0 card (follows_taken card k e l)) λ c _.
        follows_on st0 (follows_values card _ es (right_sited (sites_in s.unit e) (sites_in_row s.unit es) h)) (λ cs. all_give _)

    follows_actuals : (card k : ℕ) {m : Count} (es : Row_of-Expr m) → Sited (sites_in_row s.unit es)
        → FollowsAt st0 (actuals s run card k es) (actuals relaxed other card k es)
    follows_actuals card k end_of-Expr h = all_give _ st0
    follows_actuals card k (more_of-Expr e es) h =
        let l : Sited (sites_in s.unit e) = left_sited (sites_in s.unit e) (sites_in_row s.unit es) h in
        follows_then st0 (taken_leaves card k e l) (follows_taken card k e l) λ x _.
        follows_on st0 (follows_actuals card _ es (right_sited (sites_in s.unit e) (sites_in_row s.unit es) h)) (λ xs. all_give _)

  follows_evaluate : (card k : ℕ) (e : Expr) → Sited (sites_in s.unit e)
      → FollowsAt st0 (evaluate s run card k e) (evaluate relaxed other card k e)
  follows_evaluate card k e h = follows_valued st0 card (follows_taken card k e h)

  -- ---- statements

  pub follows_perform : (card pc k : ℕ) (stmt : Stmt) → Sited (sites_of s.unit stmt)
      → FollowsAt st0 (perform s run card pc k stmt) (perform relaxed other card pc k stmt)
  follows_perform card pc k (Assign left right) h =
      let r : Sited (sites_in s.unit right) = right_sited (sites_in s.unit left) (sites_in s.unit right) h in
      follows_then st0 (valued_leaves card _ right r) (follows_evaluate card _ right r) λ c _.
      follows_on st0 (follows_taken card k left (left_sited (sites_in s.unit left) (sites_in s.unit right) h)) λ x.
      all_before (sure _ (λ bound. sure_assign bound x c)) (all_go_on s card pc)
  follows_perform card pc k (GoTo label) h = all_give _ st0
  follows_perform card pc k (Computed labels x) h =
      follows_on st0 (all_parameter s card (Named x) st0) (λ i. all_select s s.processor.dialect card pc (length labels) (num i))
  follows_perform card pc k (ArithIf e l m n) h = follows_on st0 (follows_evaluate card k e h) (λ v. all_give _)
  follows_perform card pc k (LogicalIf' e _ (carried b)) h =
      let l : Sited (sites_in s.unit e) = left_sited (sites_in s.unit e) (sites_of s.unit b) h in
      let r : Sited (sites_of s.unit b) = right_sited (sites_in s.unit e) (sites_of s.unit b) h in
      follows_then st0 (valued_leaves card k e l) (follows_evaluate card k e l) λ v _.
      follows_cond st0 (holds v)
      (follows_then st0 (keeps_step (IsSame st0) Any (λ _ _. tt)) (sure step tied_step st0) λ _ _.
      follows_on st0 (follows_perform card pc (k + calls_in s.unit e) b r) (λ choices. all_give _))
      (follows_on st0 (all_go_on s card pc st0) (λ choices. all_give _))
  follows_perform card pc k (Do label x first last by) h =
      all_then (all_parameter s card first)
      (λ m1. all_then (all_parameter s card last)
      (λ m2. all_then (all_step_value s card by)
      (λ m3. all_begin s s.processor.dialect card (target s.unit.lines label) pc x (num m1) (num m2) (num m3)))) st0
  follows_perform card pc k Continue h = all_go_on s card pc st0
  follows_perform card pc k (Call f args) h =
      let site : CallSite = record { reference = false; callee = f; actuals = args } in
      let in_row : Sited (sites_in_row s.unit (row_of args)) = right_sited (site ∷ []) (sites_in_row s.unit (row_of args)) h in
      follows_on st0
      (follows_call_at site (h site (0, refl)) (suc k) _ _
      (subst (λ (es : List Expr). Leaves st0 (AllFit es) (actuals s run card (suc k) (row_of args))) (listed_row args)
      (actuals_leave card (suc k) (row_of args) in_row))
      (follows_actuals card (suc k) (row_of args) in_row))
      (λ _. all_go_on s card pc)
  follows_perform card pc k Return h = all_before (sure _ (λ bound. sure_result bound s card _)) (all_give _) st0
  follows_perform card pc k (BlockIf e) h = follows_on st0 (follows_evaluate card k e h) (λ v. all_give _)
  follows_perform card pc k (ElseIf e) h = follows_on st0 (follows_evaluate card k e h) (λ v. all_give _)
  follows_perform card pc k Else h = all_go_on s card pc st0
  follows_perform card pc k EndIf h = all_go_on s card pc st0
  follows_perform card pc k (Subroutine x xs) h = sure stuck tied_stuck st0
  follows_perform card pc k (Function t x xs) h = sure stuck tied_stuck st0
  follows_perform card pc k (Declare t items) h = sure stuck tied_stuck st0
  follows_perform card pc k (Dimension items) h = sure stuck tied_stuck st0
  follows_perform card pc k (CommonBlock groups) h = sure stuck tied_stuck st0
  follows_perform card pc k End h = sure stuck tied_stuck st0
