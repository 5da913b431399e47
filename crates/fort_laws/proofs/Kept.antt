-- Parts of runs that keep a property of storage, where parts of statements without calls do, and calls do.
use Rattle.std.proofs.Common.{◌≡◌, ℕ, zero, suc, ◌+◌, Bool, true, false, cond, ℤ, pos, ◌-ℤ◌, List, [], ◌∷◌, ◌++◌, length, Option, Some, None, slice_get, nat_lt, refl, sym, ap, subst}
use Rattle.fort_syntax.specs.TreePatterns.{only, carried, row_of, listed}
use Rattle.fort_syntax.specs.Names.{Intrinsic, Absolute, Modulo, Greatest, Least, Applied, Element, BuiltIn, Reference, applied, unit_at}
use mathlib.Core.Former.{Count}
use Rattle.formula.specs.Values.{count, is_between}
use Rattle.formula.specs.declared.value.Cell.{Cell}
use Rattle.formula.specs.declared.value.Cell.TheVariants.{Int}
use Rattle.fort_syntax.specs.declared.name.Name.{Name}
use Rattle.fort_syntax.specs.declared.condition.Kind.{Kind}
use Rattle.fort_syntax.specs.declared.condition.Kind.TheVariants.{DefinedCheck, RangeCheck, DivisorCheck, SubscriptCheck, ChoiceCheck, LoopCheck, ResultCheck}
use Rattle.fort_syntax.specs.declared.dialect.BinOp.{BinOp}
use Rattle.fort_syntax.specs.declared.dialect.BinOp.TheVariants.{Add, Sub, Mul, Div}
use Rattle.fort_syntax.specs.declared.dialect.Dialect.{Dialect}
use Rattle.fort_syntax.specs.declared.dialect.Dialect.TheVariants.{Common, SeventySeven}
use Rattle.fort_syntax.specs.declared.expr.Expr.{Expr, Row_of-Expr, end_of-Expr, more_of-Expr}
use Rattle.fort_syntax.specs.declared.expr.Expr.TheVariants.{Const, Truth, Var, Apply', Paren', Pos', Neg', Power', Bin', Rel', Not', And', Or'}
use Rattle.fort_syntax.specs.declared.stmt.Dim.{Dim}
use Rattle.fort_syntax.specs.declared.stmt.Param.{Param}
use Rattle.fort_syntax.specs.declared.stmt.Param.TheVariants.{Fixed, Named}
use Rattle.fort_syntax.specs.declared.stmt.Stmt.{Stmt}
use Rattle.fort_syntax.specs.declared.stmt.Stmt.TheVariants.{Subroutine, Function, Declare, Dimension, Common as CommonBlock, Assign, GoTo, Computed, ArithIf, LogicalIf', Do, Continue, Call, Return, End, BlockIf, ElseIf, Else, EndIf}
use Rattle.fort_model.specs.Lists.{IsAmong}
use Rattle.fort_model.specs.Sites.{calls_in}
use Rattle.fort_model.specs.Flow.{target, Loop, loops_at, around}
use Rattle.fort_model.specs.Calls.{CallSite, own_site, sites_in, sites_in_row, sites_of, callee_of}
use Rattle.fort_model.specs.Cells.{num, is_defined}
use Rattle.fort_model.specs.Storage.{Storage, Extent, load, store}
use Rattle.fort_model.specs.Places.{dim_values, place}
use Rattle.fort_model.specs.Processor.{Processor}
use Rattle.fort_model.specs.Smashes.{set_name, set_by}
use Rattle.fort_model.specs.Outcome.{Outcome, Ended, Erred, Running, and_then, Act, ◌>>=◌, ◌>>◌, give, check, step, stuck, held, put}
use Rattle.fort_model.specs.Passing.{Taken, Cells, Fresh, passed, Caller, call}
use Rattle.fort_model.specs.Evaluate.{Scene, read, value_of, valued, ranged, constant, divisor, operate, power_on, intrinsic_value, numbers, subscripts_in, element, fresh, call_at, apply, taken, values, actuals, evaluate}
use Rattle.fort_laws.specs.Actuals.{IsTakenAs, AreTakenAs}
use Rattle.fort_model.specs.Perform.{write_cell, assign, parameter, step_value, tests, go_on, pass_over, begin, select, result, perform}

-- ---- what stands in joined lists

pub among_left : {A : Type 0} (a : A) (xs ys : List A) → IsAmong a xs → IsAmong a (xs ++ ys)
among_left {A = A} a xs ys h = (h.0, at xs h.0 h.1)
  where
    at : (zs : List A) (k : ℕ) → slice_get zs k ≡ Some a → slice_get (zs ++ ys) k ≡ Some a
    at [] k e = absurd (cc)
    at (z ∷ zs) zero e = e
    at (z ∷ zs) (suc k) e = at zs k e

pub among_right : {A : Type 0} (a : A) (xs ys : List A) → IsAmong a ys → IsAmong a (xs ++ ys)
among_right a [] ys h = h
among_right a (x ∷ xs) ys h = let r = among_right a xs ys h in (suc r.0, r.1)

-- subscripts lie within the dimensions that stand beside them
abbrev pub AreIn : List ℤ → List ℤ → Type 0
AreIn [] ds = Unit {0}
AreIn (s ∷ ss) [] = Unit {0}
AreIn (s ∷ ss) (d ∷ ds) = (is_between (pos 1) d s ≡ true) × AreIn ss ds

pub listed_row : (es : List Expr) → listed (row_of es) ≡ es
listed_row [] = refl
listed_row (e ∷ es) = ap (λ (rest : List Expr). e ∷ rest) (listed_row es)

-- the element of an array at subscripts
abbrev pub element_at : Extent → List ℤ → List ℤ → Extent
element_at array ss ds = record { first = array.first + count (place ss ds -ℤ pos 1); size = 1 }

-- Kept holds of the storage between parts; Late of the storage in which a run errs or is running
module _ (Kept Late : Storage → Type 0) (late : (st : Storage) → Kept st → Late st) where
  abbrev pub Comes : {A : Type 0} → (A → Type 0) → Outcome A → Type 0
  Comes Q (Ended a st n) = Kept st × Q a
  Comes Q (Erred kind card st) = Late st
  Comes Q (Running st) = Late st

  -- from storage that is kept a part ends with storage that is kept, and with an answer of which Q holds
  pub record Does {A : Type 0} (Q : A → Type 0) (act : Act A) : Type 0 where
    pub from : (st : Storage) (n : ℕ) → Kept st → Comes Q (act st n)

  abbrev pub Keeps : {A : Type 0} → Act A → Type 0
  Keeps act = Does (λ _. Unit {0}) act

  comes_then : {A B : Type 0} (Q : A → Type 0) (R : B → Type 0) (next : A → Act B) (o : Outcome A) → Comes Q o → ((v : A) → Q v → Does R (next v)) → Comes R (and_then o next)
  comes_then Q R next (Ended a st n) h rest = (rest a h.1).from st n h.0
  comes_then Q R next (Erred kind card st) h rest = h
  comes_then Q R next (Running st) h rest = h

  pub does_then : {A B : Type 0} (Q : A → Type 0) (R : B → Type 0) (a : Act A) (next : A → Act B) → Does Q a → ((v : A) → Q v → Does R (next v)) → Does R (a >>= next)
  does_then Q R a next first rest = record { from = λ st n k. comes_then Q R next (a st n) (first.from st n k) rest }

  pub keeps_then : {A B : Type 0} (a : Act A) (next : A → Act B) → Keeps a → ((v : A) → Keeps (next v)) → Keeps (a >>= next)
  keeps_then a next first rest = does_then (λ _. Unit {0}) (λ _. Unit {0}) a next first (λ v _. rest v)

  pub keeps_before : {A B : Type 0} (a : Act A) (next : Act B) → Keeps a → Keeps next → Keeps (a >> next)
  keeps_before a next first rest = does_then (λ _. Unit {0}) (λ _. Unit {0}) a (λ _. next) first (λ v _. rest)

  comes_any : {A : Type 0} (Q R : A → Type 0) → ((v : A) → Q v → R v) → (o : Outcome A) → Comes Q o → Comes R o
  comes_any Q R f (Ended a st n) h = (h.0, f a h.1)
  comes_any Q R f (Erred kind card st) h = h
  comes_any Q R f (Running st) h = h

  pub does_also : {A : Type 0} (Q R : A → Type 0) (a : Act A) → ((v : A) → Q v → R v) → Does Q a → Does R a
  does_also Q R a f h = record { from = λ st n k. comes_any Q R f (a st n) (h.from st n k) }

  pub keeps_any : {A : Type 0} (Q : A → Type 0) (a : Act A) → Does Q a → Keeps a
  keeps_any Q a h = does_also Q (λ _. Unit {0}) a (λ _ _. tt) h

  -- ---- single parts

  pub does_give : {A : Type 0} (Q : A → Type 0) (v : A) → Q v → Does Q (give v)
  does_give Q v q = record { from = λ st n k. (k, q) }

  pub keeps_give : {A : Type 0} (v : A) → Keeps (give v)
  keeps_give v = record { from = λ st n k. (k, tt) }

  pub does_stuck : {A : Type 0} (Q : A → Type 0) → Does Q stuck
  does_stuck Q = record { from = λ st n k. late st k }

  pub does_held : Does Kept held
  does_held = record { from = λ st n k. (k, k) }

  pub keeps_put : (new : Storage) → Kept new → Keeps (put new)
  keeps_put new h = record { from = λ st n k. (h, tt) }

  pub does_check : (kind : Kind) (card : ℕ) (b : Bool) → Does (λ _. b ≡ true) (check kind card b)
  does_check kind card true = record { from = λ st n k. (k, refl) }
  does_check kind card false = record { from = λ st n k. late st k }

  pub keeps_check : (kind : Kind) (card : ℕ) (b : Bool) → Keeps (check kind card b)
  keeps_check kind card b = keeps_any (λ _. b ≡ true) _ (does_check kind card b)

  pub keeps_step : Keeps step
  keeps_step = record { from = only_step }
    where
      only_step : (st : Storage) (n : ℕ) → Kept st → Comes (λ _. Unit {0}) (step st n)
      only_step st zero k = late st k
      only_step st (suc n) k = (k, tt)

  pub does_cond : {A : Type 0} (Q : A → Type 0) (t : Bool) (a b : Act A) → Does Q a → Does Q b → Does Q (cond t a b)
  does_cond Q true a b h k = h
  does_cond Q false a b h k = k

  pub keeps_cond : {A : Type 0} (t : Bool) (a b : Act A) → Keeps a → Keeps b → Keeps (cond t a b)
  keeps_cond t a b h k = does_cond (λ _. Unit {0}) t a b h k

  -- ---- parts that change no storage

  pub keeps_read : (card i : ℕ) → Keeps (read card i)
  keeps_read card i = does_then Kept (λ _. Unit {0}) held (λ st. check DefinedCheck card (is_defined (load st i)) >> give (load st i)) does_held
      (λ st _. keeps_before _ _ (keeps_check DefinedCheck card _) (keeps_give _))

  keeps_value_of : (card : ℕ) (x : Taken) → Keeps (value_of card x)
  keeps_value_of card (Cells e) = keeps_read card e.first
  keeps_value_of card (Fresh c) = keeps_give c

  keeps_ranged : (p : Processor) (card : ℕ) (z : ℤ) → Keeps (ranged p card z)
  keeps_ranged p card z = keeps_before _ _ (keeps_check RangeCheck card _) (keeps_give _)

  does_constant : (p : Processor) (card c : ℕ) → Does (λ v. v ≡ Int (pos c)) (constant p card c)
  does_constant p card c = does_then (λ _. Unit {0}) (λ v. v ≡ Int (pos c)) _ _ (keeps_check RangeCheck card _) (λ _ _. does_give (λ v. v ≡ Int (pos c)) _ refl)

  keeps_divisor : (card : ℕ) (c : Cell) → Keeps (divisor card c)
  keeps_divisor card c = keeps_check DivisorCheck card _

  keeps_operate : (p : Processor) (card : ℕ) (o : BinOp) (a b : Cell) → Keeps (operate p card o a b)
  keeps_operate p card Add a b = keeps_ranged p card _
  keeps_operate p card Sub a b = keeps_ranged p card _
  keeps_operate p card Mul a b = keeps_ranged p card _
  keeps_operate p card Div a b = keeps_before _ _ (keeps_divisor card b) (keeps_ranged p card _)

  keeps_power_on : (p : Processor) (card : ℕ) (base : ℤ) (more : ℕ) (product : ℤ) → Keeps (power_on p card base more product)
  keeps_power_on p card base zero product = keeps_give _
  keeps_power_on p card base (suc more) product = keeps_then _ _ (keeps_ranged p card _) (λ c. keeps_power_on p card base more _)

  keeps_intrinsic : (p : Processor) (card : ℕ) (i : Intrinsic) (cs : List Cell) → Keeps (intrinsic_value p card i cs)
  keeps_intrinsic p card Absolute [] = keeps_give _
  keeps_intrinsic p card Absolute (a ∷ []) = keeps_ranged p card _
  keeps_intrinsic p card Absolute (a ∷ b ∷ cs) = keeps_give _
  keeps_intrinsic p card Modulo [] = keeps_give _
  keeps_intrinsic p card Modulo (a ∷ []) = keeps_give _
  keeps_intrinsic p card Modulo (a ∷ b ∷ []) = keeps_before _ _ (keeps_divisor card b) (keeps_then _ _ (keeps_ranged p card _) (λ q. keeps_give _))
  keeps_intrinsic p card Modulo (a ∷ b ∷ c ∷ cs) = keeps_give _
  keeps_intrinsic p card Greatest [] = keeps_give _
  keeps_intrinsic p card Greatest (a ∷ cs) = keeps_give _
  keeps_intrinsic p card Least [] = keeps_give _
  keeps_intrinsic p card Least (a ∷ cs) = keeps_give _

  does_subscripts : (card : ℕ) (ss ds : List ℤ) → Does (λ _. AreIn ss ds) (subscripts_in card ss ds)
  does_subscripts card [] ds = does_give (λ _. AreIn [] ds) tt tt
  does_subscripts card (s ∷ ss) [] = does_give (λ _. AreIn (s ∷ ss) []) tt tt
  does_subscripts card (s ∷ ss) (d ∷ ds) =
      does_then (λ _. is_between (pos 1) d s ≡ true) (λ _. AreIn (s ∷ ss) (d ∷ ds)) _ _ (does_check SubscriptCheck card (is_between (pos 1) d s)) λ _ first.
      does_also (λ _. AreIn ss ds) (λ _. AreIn (s ∷ ss) (d ∷ ds)) _ (λ _ rest. (first, rest)) (does_subscripts card ss ds)

  keeps_parameter : (s : Scene) (card : ℕ) (m : Param) → Keeps (parameter s card m)
  keeps_parameter s card (Fixed c) = keeps_any (λ v. v ≡ Int (pos c)) _ (does_constant s.processor card c)
  keeps_parameter s card (Named x) = keeps_read card _

  keeps_step_value : (s : Scene) (card : ℕ) (m : Option Param) → Keeps (step_value s card m)
  keeps_step_value s card None = keeps_give _
  keeps_step_value s card (Some m) = keeps_parameter s card m

  keeps_result : (s : Scene) (card : ℕ) (b : Bool) → Keeps (result s card b)
  keeps_result s card false = keeps_give tt
  keeps_result s card true = does_then Kept (λ _. Unit {0}) held (λ st. check ResultCheck card (is_defined (load st (s.environment s.unit.name).first))) does_held
      (λ st _. keeps_check ResultCheck card _)

  pub keeps_valued : (card : ℕ) (Q : Taken → Type 0) (a : Act Taken) → Does Q a → Keeps (valued card a)
  keeps_valued card Q a h = does_then Q (λ _. Unit {0}) a _ h (λ x _. keeps_value_of card x)

  -- ---- parts with calls, where each call in the text keeps the property

  module _ (s : Scene) (run : Caller) (Part : Name → Extent → Type 0)
      (parts_lie : (f : Name) (dims : List Dim) → applied s.unit f ≡ Element dims → (st : Storage) → Kept st → (ss : List ℤ) → AreIn ss (dim_values s.environment st dims)
      → Part f (element_at (s.environment f) ss (dim_values s.environment st dims)))
      (Called : CallSite → Type 0)
      (calls_keep : (site : CallSite) → Called site → (k : ℕ) (xs : List Taken) → AreTakenAs s.environment Part site.actuals xs
      → Keeps (call run s.environment (unit_at s.units (callee_of s.units site)) (passed (s.processor.copies s.unit.name k) 1 xs))) where
    abbrev pub Fit : Expr → Taken → Type 0
    Fit e x = IsTakenAs s.environment Part e x

    abbrev pub AllFit : List Expr → List Taken → Type 0
    AllFit es xs = AreTakenAs s.environment Part es xs

    -- each call among some is one of the text
    abbrev pub Sited : List CallSite → Type 0
    Sited sites = (site : CallSite) → IsAmong site sites → Called site

    sited_left : (xs ys : List CallSite) → Sited (xs ++ ys) → Sited xs
    sited_left xs ys h site m = h site (among_left site xs ys m)

    sited_right : (xs ys : List CallSite) → Sited (xs ++ ys) → Sited ys
    sited_right xs ys h site m = h site (among_right site xs ys m)

    does_element : (Q : Taken → Type 0) (f : Name) (card : ℕ) (dims : List Dim) (cs : List Cell) → applied s.unit f ≡ Element dims → ((e : Extent) → Part f e → Q (Cells e))
        → Does Q (element s.environment card (s.environment f) dims cs)
    does_element Q f card dims cs is part =
        does_then Kept Q held
        (λ st. subscripts_in card (numbers cs) (dim_values s.environment st dims) >> give (Cells (element_at (s.environment f) (numbers cs) (dim_values s.environment st dims)))) does_held
        (λ st k. does_then (λ _. AreIn (numbers cs) (dim_values s.environment st dims)) Q _ _ (does_subscripts card (numbers cs) (dim_values s.environment st dims))
        (λ _ within. does_give Q _ (part _ (parts_lie f dims is st k (numbers cs) within))))

    does_fresh : (Q : Taken → Type 0) (R : Cell → Type 0) (a : Act Cell) → Does R a → ((c : Cell) → R c → Q (Fresh c)) → Does Q (fresh a)
    does_fresh Q R a h q = does_then R Q a _ h (λ c r. does_give Q _ (q c r))

    keeps_call_at : (site : CallSite) → Called site → (k : ℕ) (actuals : Act (List Taken)) → Does (AllFit site.actuals) actuals → Keeps (call_at s run k actuals (callee_of s.units site))
    keeps_call_at site called k actuals h = does_then (AllFit site.actuals) (λ _. Unit {0}) actuals _ h (λ xs fit. calls_keep site called k xs fit)

    does_apply : (Q : Taken → Type 0) (f : Name) (es : List Expr) (card k : ℕ) (kind : Applied) (vs : Act (List Cell)) (xs : Act (List Taken)) → applied s.unit f ≡ kind
        → ((e : Extent) → Part f e → Q (Cells e)) → ((c : Cell) → Q (Fresh c))
        → Sited (own_site kind f es) → Keeps vs → Does (AllFit es) xs → Does Q (apply s run card k f kind vs xs)
    does_apply Q f es card k (Element dims) vs xs is part value sited hv hx =
        does_then (λ _. Unit {0}) Q vs _ hv (λ cs _. does_element Q f card dims cs is part)
    does_apply Q f es card k (BuiltIn i) vs xs is part value sited hv hx =
        does_then (λ _. Unit {0}) Q vs _ hv (λ cs _. does_fresh Q (λ _. Unit {0}) _ (keeps_intrinsic s.processor card i cs) (λ c _. value c))
    does_apply Q f es card k Reference vs xs is part value sited hv hx =
        let site : CallSite = record { reference = true; callee = f; actuals = es } in
        does_fresh Q (λ _. Unit {0}) _ (keeps_call_at site (sited site (0, refl)) (suc k) xs hx) (λ c _. value c)

    mutual
      pub does_taken : (card k : ℕ) (e : Expr) → Sited (sites_in s.unit e) → Does (Fit e) (taken s run card k e)
      does_taken card k (Const c) h = does_fresh (Fit (Const c)) (λ v. v ≡ Int (pos c)) _ (does_constant s.processor card c) (λ v e. ap Fresh e)
      does_taken card k (Truth b) h = does_give (Fit (Truth b)) _ tt
      does_taken card k (Var x) h = does_give (Fit (Var x)) _ refl
      does_taken card k (Apply' f shape args) h =
          does_apply (Fit (Apply' f shape args)) f (listed args) card k (applied s.unit f) _ _ refl (λ e part. part) (λ c. tt)
          (sited_left (own_site (applied s.unit f) f (listed args)) (sites_in_row s.unit args) h)
          (keeps_values card k args (sited_right (own_site (applied s.unit f) f (listed args)) (sites_in_row s.unit args) h))
          (does_actuals card (suc k) args (sited_right (own_site (applied s.unit f) f (listed args)) (sites_in_row s.unit args) h))
      does_taken card k (Paren' shape (only a)) h = does_fresh (Fit (Paren' shape (only a))) (λ _. Unit {0}) _ (keeps_valued card (Fit a) _ (does_taken card k a h)) (λ _ _. tt)
      does_taken card k (Pos' shape (only a)) h = does_fresh (Fit (Pos' shape (only a))) (λ _. Unit {0}) _ (keeps_valued card (Fit a) _ (does_taken card k a h)) (λ _ _. tt)
      does_taken card k (Neg' shape (only a)) h =
          does_then (λ _. Unit {0}) (Fit (Neg' shape (only a))) _ _ (keeps_valued card (Fit a) _ (does_taken card k a h))
          (λ v _. does_fresh (Fit (Neg' shape (only a))) (λ _. Unit {0}) _ (keeps_ranged s.processor card _) (λ _ _. tt))
      does_taken card k (Power' shape (only a) n) h =
          does_then (λ _. Unit {0}) (Fit (Power' shape (only a) n)) _ _ (keeps_valued card (Fit a) _ (does_taken card k a h))
          (λ v _. does_fresh (Fit (Power' shape (only a) n)) (λ _. Unit {0}) _ (keeps_power_on s.processor card _ _ _) (λ _ _. tt))
      does_taken card k (Bin' o q (only a) r (only b)) h =
          does_then (λ _. Unit {0}) (Fit (Bin' o q (only a) r (only b))) _ _ (keeps_valued card (Fit a) _ (does_taken card k a (sited_left (sites_in s.unit a) (sites_in s.unit b) h))) λ v _.
          does_then (λ _. Unit {0}) (Fit (Bin' o q (only a) r (only b))) _ _ (keeps_valued card (Fit b) _ (does_taken card _ b (sited_right (sites_in s.unit a) (sites_in s.unit b) h))) λ w _.
          does_fresh (Fit (Bin' o q (only a) r (only b))) (λ _. Unit {0}) _ (keeps_operate s.processor card o v w) (λ _ _. tt)
      does_taken card k (Rel' o q (only a) r (only b)) h =
          does_then (λ _. Unit {0}) (Fit (Rel' o q (only a) r (only b))) _ _ (keeps_valued card (Fit a) _ (does_taken card k a (sited_left (sites_in s.unit a) (sites_in s.unit b) h))) λ v _.
          does_then (λ _. Unit {0}) (Fit (Rel' o q (only a) r (only b))) _ _ (keeps_valued card (Fit b) _ (does_taken card _ b (sited_right (sites_in s.unit a) (sites_in s.unit b) h))) λ w _.
          does_give (Fit (Rel' o q (only a) r (only b))) _ tt
      does_taken card k (Not' shape (only a)) h =
          does_then (λ _. Unit {0}) (Fit (Not' shape (only a))) _ _ (keeps_valued card (Fit a) _ (does_taken card k a h)) (λ v _. does_give (Fit (Not' shape (only a))) _ tt)
      does_taken card k (And' q (only a) r (only b)) h =
          does_then (λ _. Unit {0}) (Fit (And' q (only a) r (only b))) _ _ (keeps_valued card (Fit a) _ (does_taken card k a (sited_left (sites_in s.unit a) (sites_in s.unit b) h))) λ v _.
          does_cond (Fit (And' q (only a) r (only b))) _ _ _ (does_give (Fit (And' q (only a) r (only b))) _ tt)
          (does_then (λ _. Unit {0}) (Fit (And' q (only a) r (only b))) _ _ (keeps_valued card (Fit b) _ (does_taken card _ b (sited_right (sites_in s.unit a) (sites_in s.unit b) h))) λ w _.
          does_give (Fit (And' q (only a) r (only b))) _ tt)
      does_taken card k (Or' q (only a) r (only b)) h =
          does_then (λ _. Unit {0}) (Fit (Or' q (only a) r (only b))) _ _ (keeps_valued card (Fit a) _ (does_taken card k a (sited_left (sites_in s.unit a) (sites_in s.unit b) h))) λ v _.
          does_cond (Fit (Or' q (only a) r (only b))) _ _ _ (does_give (Fit (Or' q (only a) r (only b))) _ tt)
          (does_then (λ _. Unit {0}) (Fit (Or' q (only a) r (only b))) _ _ (keeps_valued card (Fit b) _ (does_taken card _ b (sited_right (sites_in s.unit a) (sites_in s.unit b) h))) λ w _.
          does_give (Fit (Or' q (only a) r (only b))) _ tt)

      keeps_values : (card k : ℕ) {m : Count} (es : Row_of-Expr m) → Sited (sites_in_row s.unit es) → Keeps (values s run card k es)
      keeps_values card k end_of-Expr h = keeps_give _
      keeps_values card k (more_of-Expr e es) h =
          keeps_then _ _ (keeps_valued card (Fit e) _ (does_taken card k e (sited_left (sites_in s.unit e) (sites_in_row s.unit es) h))) λ c.
          keeps_then _ _ (keeps_values card _ es (sited_right (sites_in s.unit e) (sites_in_row s.unit es) h)) λ cs. keeps_give _

      pub does_actuals : (card k : ℕ) {m : Count} (es : Row_of-Expr m) → Sited (sites_in_row s.unit es) → Does (AllFit (listed es)) (actuals s run card k es)
      does_actuals card k end_of-Expr h = does_give (AllFit []) _ tt
      does_actuals card k (more_of-Expr e es) h =
          does_then (Fit e) (AllFit (e ∷ listed es)) _ _ (does_taken card k e (sited_left (sites_in s.unit e) (sites_in_row s.unit es) h)) λ x fit.
          does_then (AllFit (listed es)) (AllFit (e ∷ listed es)) _ _ (does_actuals card _ es (sited_right (sites_in s.unit e) (sites_in_row s.unit es) h)) λ xs fits.
          does_give (AllFit (e ∷ listed es)) _ (fit, fits)

    pub keeps_evaluate : (card k : ℕ) (e : Expr) → Sited (sites_in s.unit e) → Keeps (evaluate s run card k e)
    keeps_evaluate card k e h = keeps_valued card (Fit e) _ (does_taken card k e h)

    -- ---- parts that write, where some cells may be written to: those of names that may be set

    module _ (Open : ℕ → Type 0) (writes : (st : Storage) (i : ℕ) (c : Cell) → Open i → Kept st → Kept (store st i c))
        (Sets : Name → Type 0) (sets_free : (x : Name) → Sets x → Open (s.environment x).first) (parts_free : (f : Name) (e : Extent) → Sets f → Part f e → Open e.first)
        (loops_set : (pc : ℕ) (d : Loop) → IsAmong d (loops_at s.unit pc) → Sets d.variable) where
      keeps_write : (i : ℕ) (c : Cell) → Open i → Keeps (write_cell i c)
      keeps_write i c free = does_then Kept (λ _. Unit {0}) held (λ st. put (store st i c)) does_held (λ st k. keeps_put _ (writes st i c free k))

      keeps_tests : (card : ℕ) (ds : List Loop) → ((d : Loop) → IsAmong d ds → Sets d.variable) → Keeps (tests s card ds)
      keeps_tests card [] h = keeps_give _
      keeps_tests card (d ∷ ds) h =
          let free = sets_free d.variable (h d (0, refl)) in
          keeps_before _ _ keeps_step
          (keeps_then _ _ (keeps_read card _) λ i.
          keeps_then _ _ (keeps_step_value s card d.step) λ by.
          keeps_then _ _ (keeps_ranged s.processor card _) λ sum.
          keeps_then _ _ (keeps_parameter s card d.last) λ last.
          keeps_cond _ _ _
          (keeps_before _ _ (keeps_write _ _ free) (keeps_give _))
          (keeps_before _ _ (keeps_write _ _ free) (keeps_then _ _ (keeps_tests card ds (λ e m. h e (suc m.0, m.1))) λ choices. keeps_give _)))

      keeps_go_on : (card pc : ℕ) → Keeps (go_on s card pc)
      keeps_go_on card pc = keeps_tests card _ (loops_set pc)

      among_more : (t : Bool) (d e : Loop) (ds fewer : List Loop) → (IsAmong d fewer → IsAmong d ds) → IsAmong d (cond t (e ∷ fewer) fewer) → IsAmong d (e ∷ ds)
      among_more true d e ds fewer h (zero, q) = (0, q)
      among_more true d e ds fewer h (suc j, q) = let r = h (j, q) in (suc r.0, r.1)
      among_more false d e ds fewer h m = let r = h m in (suc r.0, r.1)

      around_among : (pc : ℕ) (ds : List Loop) (d : Loop) → IsAmong d (around pc ds) → IsAmong d ds
      around_among pc [] d m = m
      around_among pc (e ∷ ds) d m = among_more (nat_lt e.at pc) d e ds (around pc ds) (around_among pc ds d) m

      keeps_pass_over : (last pc : ℕ) → Keeps (pass_over s last pc)
      keeps_pass_over last pc = keeps_tests _ _ (λ d m. loops_set last d (around_among pc (loops_at s.unit last) d m))

      keeps_begin : (d : Dialect) (card last pc : ℕ) (x : Name) (m1 m2 m3 : ℤ) → Sets x → Keeps (begin d s card last pc x m1 m2 m3)
      keeps_begin Common card last pc x m1 m2 m3 set =
          keeps_before _ _ (keeps_check LoopCheck card _) (keeps_before _ _ (keeps_write _ _ (sets_free x set)) (keeps_give _))
      keeps_begin SeventySeven card last pc x m1 m2 m3 set =
          keeps_before _ _ (keeps_check LoopCheck card _)
          (keeps_before _ _ (keeps_ranged s.processor card _)
          (keeps_before _ _ (keeps_ranged s.processor card _)
          (keeps_before _ _ (keeps_write _ _ (sets_free x set))
          (keeps_cond _ _ _ (keeps_give _) (keeps_then _ _ (keeps_pass_over last pc) λ choices. keeps_give _)))))

      keeps_select : (d : Dialect) (card pc labels : ℕ) (i : ℤ) → Keeps (select d s card pc labels i)
      keeps_select Common card pc labels i = keeps_before _ _ (keeps_check ChoiceCheck card _) (keeps_give _)
      keeps_select SeventySeven card pc labels i =
          keeps_cond _ _ _ (keeps_give _) (keeps_then _ _ (keeps_go_on card pc) λ choices. keeps_give _)

      keeps_assign : (left : Expr) (x : Taken) (c : Cell) → ((y : Name) → IsAmong y (set_name left) → Sets y) → Fit left x → Keeps (assign x c)
      keeps_assign left (Fresh v) c sets fit = does_stuck (λ _. Unit {0})
      keeps_assign (Const n) (Cells e) c sets fit = absurd (cc)
      keeps_assign (Var y) (Cells e) c sets fit =
          let same : e ≡ s.environment y = cc in
          keeps_write e.first c (subst (λ (z : Extent). Open z.first) (sym same) (sets_free y (sets y (0, refl))))
      keeps_assign (Apply' f shape args) (Cells e) c sets fit = keeps_write e.first c (parts_free f e (sets f (0, refl)) fit)
      keeps_assign (Truth b) (Cells e) c sets fit = absurd fit
      keeps_assign (Paren' shape a) (Cells e) c sets fit = absurd fit
      keeps_assign (Pos' shape a) (Cells e) c sets fit = absurd fit
      keeps_assign (Neg' shape a) (Cells e) c sets fit = absurd fit
      keeps_assign (Power' shape a n) (Cells e) c sets fit = absurd fit
      keeps_assign (Bin' o q a r b) (Cells e) c sets fit = absurd fit
      keeps_assign (Rel' o q a r b) (Cells e) c sets fit = absurd fit
      keeps_assign (Not' shape a) (Cells e) c sets fit = absurd fit
      keeps_assign (And' q a r b) (Cells e) c sets fit = absurd fit
      keeps_assign (Or' q a r b) (Cells e) c sets fit = absurd fit

      pub keeps_perform : (card pc k : ℕ) (stmt : Stmt) → Sited (sites_of s.unit stmt) → ((y : Name) → IsAmong y (set_by stmt) → Sets y) → Keeps (perform s run card pc k stmt)
      keeps_perform card pc k (Assign left right) h sets =
          keeps_then _ _ (keeps_evaluate card _ right (sited_right (sites_in s.unit left) (sites_in s.unit right) h)) λ c.
          does_then (Fit left) (λ _. Unit {0}) _ _ (does_taken card k left (sited_left (sites_in s.unit left) (sites_in s.unit right) h)) λ x fit.
          keeps_before _ _ (keeps_assign left x c sets fit) (keeps_go_on card pc)
      keeps_perform card pc k (GoTo label) h sets = keeps_give _
      keeps_perform card pc k (Computed labels x) h sets = keeps_then _ _ (keeps_read card _) (λ i. keeps_select s.processor.dialect card pc (length labels) (num i))
      keeps_perform card pc k (ArithIf e l m n) h sets = keeps_then _ _ (keeps_evaluate card k e h) (λ v. keeps_give _)
      keeps_perform card pc k (LogicalIf' e shape (carried b)) h sets =
          keeps_then _ _ (keeps_evaluate card k e (sited_left (sites_in s.unit e) (sites_of s.unit b) h)) λ v.
          keeps_cond _ _ _
          (keeps_before _ _ keeps_step (keeps_then _ _ (keeps_perform card pc (k + calls_in s.unit e) b (sited_right (sites_in s.unit e) (sites_of s.unit b) h) sets) λ choices. keeps_give _))
          (keeps_then _ _ (keeps_go_on card pc) λ choices. keeps_give _)
      keeps_perform card pc k (Do label x first last by) h sets =
          keeps_then _ _ (keeps_parameter s card first) λ m1.
          keeps_then _ _ (keeps_parameter s card last) λ m2.
          keeps_then _ _ (keeps_step_value s card by) λ m3.
          keeps_begin s.processor.dialect card (target s.unit.lines label) pc x (num m1) (num m2) (num m3) (sets x (0, refl))
      keeps_perform card pc k Continue h sets = keeps_go_on card pc
      keeps_perform card pc k (Call f args) h sets =
          let site : CallSite = record { reference = false; callee = f; actuals = args } in
          keeps_before _ _
          (keeps_call_at site (h site (0, refl)) (suc k) _
          (subst (λ (es : List Expr). Does (AllFit es) (actuals s run card (suc k) (row_of args))) (listed_row args)
          (does_actuals card (suc k) (row_of args) (sited_right (site ∷ []) (sites_in_row s.unit (row_of args)) h))))
          (keeps_go_on card pc)
      keeps_perform card pc k Return h sets = keeps_before _ _ (keeps_result s card _) (keeps_give _)
      keeps_perform card pc k (BlockIf e) h sets = keeps_then _ _ (keeps_evaluate card k e h) (λ v. keeps_give _)
      keeps_perform card pc k (ElseIf e) h sets = keeps_then _ _ (keeps_evaluate card k e h) (λ v. keeps_give _)
      keeps_perform card pc k Else h sets = keeps_go_on card pc
      keeps_perform card pc k EndIf h sets = keeps_go_on card pc
      keeps_perform card pc k (Subroutine x xs) h sets = does_stuck (λ _. Unit {0})
      keeps_perform card pc k (Function t x xs) h sets = does_stuck (λ _. Unit {0})
      keeps_perform card pc k (Declare t items) h sets = does_stuck (λ _. Unit {0})
      keeps_perform card pc k (Dimension items) h sets = does_stuck (λ _. Unit {0})
      keeps_perform card pc k (CommonBlock groups) h sets = does_stuck (λ _. Unit {0})
      keeps_perform card pc k End h sets = does_stuck (λ _. Unit {0})
