-- What the code of an expression does is what the expression does.
use Rattle.std.proofs.Common.{◌≡◌, ℕ, suc, ◌+◌, Bool, true, false, cond, not, ◌&&◌, List, [], ◌∷◌, ◌++◌, length, Option, refl, sym, ap, ◌∙◌, arith}
use Rattle.std.specs.Prelude.{neg_ℤ, ◌||◌}
use mathlib.Core.Former.{Count}
use Rattle.formula.specs.declared.value.Cell.{Cell}
use Rattle.formula.specs.declared.value.Cell.TheVariants.{Logical}
use Rattle.fort_syntax.specs.declared.name.Name.{Name}
use Rattle.fort_syntax.specs.declared.expr.Expr.{Expr, Row_of-Expr, end_of-Expr, more_of-Expr}
use Rattle.fort_syntax.specs.declared.expr.Expr.TheVariants.{Const, Truth, Var, Apply', Paren', Pos', Neg', Power', Bin', Rel', Not', And', Or'}
use Rattle.fort_syntax.specs.TreePatterns.{only}
use Rattle.fort_syntax.specs.Names.{Applied, Element, BuiltIn, Reference, applied, function, unit_at}
use Rattle.fort_model.specs.Sites.{calls_in}
use Rattle.fort_model.specs.Cells.{num, holds, compares}
use Rattle.fort_model.specs.Storage.{Storage}
use Rattle.fort_model.specs.Outcome.{Outcome, Ended, Erred, Running, Act, ◌>>=◌, give, and_then}
use Rattle.fort_model.specs.Passing.{Taken, Cells, Fresh, passed, Caller, call}
use Rattle.fort_model.specs.Evaluate.{Scene, read, value_of, valued, fresh, call_at, ranged, constant, operate, power, intrinsic_value, element, taken, values, actuals, apply, evaluate}
use Rattle.run_code.specs.Code.{Instr, number, truth, place, load, value, negate, raise, operation, comparison, negation, skip_false, both, skip_true, either, array, built_in, refer, count, size_by, size, values_size, actuals_size, code_by, code, values_code, actuals_code, cells_of, newest, under, exec, taken_so, ExpressionsAreTaken}

pub assoc : {A B C : Type 0} (o : Outcome A) (f : A → Act B) (g : B → Act C) → and_then (and_then o f) g ≡ and_then o (λ a st n. and_then (f a st n) g)
assoc (Ended a st n) f g = refl
assoc (Erred kind card st) f g = refl
assoc (Running st) f g = refl

pub alike : {A B : Type 0} (o : Outcome A) (f g : A → Act B) → ((a : A) (st : Storage) (n : ℕ) → f a st n ≡ g a st n) → and_then o f ≡ and_then o g
alike (Ended a st n) f g same = same a st n
alike (Erred kind card st) f g same = refl
alike (Running st) f g same = refl

-- what was pushed from the left
abbrev pub pushed : List Taken → List Taken → List Taken
pushed [] xs = xs
pushed (y ∷ ys) xs = pushed ys (y ∷ xs)

abbrev all_fresh : List Cell → List Taken
all_fresh [] = []
all_fresh (c ∷ cs) = Fresh c ∷ all_fresh cs

module _ {A : Type 0} (s : Scene) (run : Caller) (card : ℕ) (next : ℕ → List Taken → Act A) where
  abbrev does : List Instr → ℕ → List Taken → Act A
  does = exec s run card next

  shifted : (is : List Instr) (i j : ℕ) (xs : List Taken) → i ≡ j → does is i xs ≡ does is j xs
  shifted is i j xs e = ap (λ k. does is k xs) e

  read_skipped : (reads : Bool) (is : List Instr) (j : ℕ) (xs : List Taken) → does (cond reads (value ∷ is) is) (cond reads 1 0 + j) xs ≡ does is j xs
  read_skipped true is j xs = shifted (value ∷ is) (1 + j) (suc j) xs (omega arith)
  read_skipped false is j xs = shifted is (0 + j) j xs (omega arith)

  by_applied : (reads : Bool) (a : Applied) (k : ℕ) (f : Name) (n v w : ℕ) (vs ws : List Instr → List Instr) (is : List Instr) (j : ℕ) (xs : List Taken)
      → ((is : List Instr) (j : ℕ) → does (vs is) (v + j) xs ≡ does is j xs) → ((is : List Instr) (j : ℕ) → does (ws is) (w + j) xs ≡ does is j xs)
      → does (code_by s.units reads k f a n vs ws is) (size_by reads a v w + j) xs ≡ does is j xs
  by_applied reads (Element dims) k f n v w vs ws is j xs p q =
      shifted (vs (array f dims n ∷ cond reads (value ∷ is) is)) _ (v + suc (cond reads 1 0 + j)) xs (omega arith)
      ∙ p (array f dims n ∷ cond reads (value ∷ is) is) (suc (cond reads 1 0 + j)) ∙ read_skipped reads is j xs
  by_applied reads (BuiltIn i) k f n v w vs ws is j xs p q = shifted (vs (built_in i n ∷ is)) _ (v + suc j) xs (omega arith) ∙ p (built_in i n ∷ is) (suc j)
  by_applied reads Reference k f n v w vs ws is j xs p q =
      shifted (ws (refer (suc k) (function s.units f) n ∷ is)) _ (w + suc j) xs (omega arith) ∙ q (refer (suc k) (function s.units f) n ∷ is) (suc j)

  mutual
    skipped : (reads : Bool) (k : ℕ) (e : Expr) (is : List Instr) (j : ℕ) (xs : List Taken) → does (code s.unit s.units reads k e is) (size s.unit reads e + j) xs ≡ does is j xs
    skipped reads k (Const c) is j xs = shifted (number c ∷ is) (1 + j) (suc j) xs (omega arith)
    skipped reads k (Truth b) is j xs = shifted (truth b ∷ is) (1 + j) (suc j) xs (omega arith)
    skipped reads k (Var x) is j xs = shifted (cond reads (load x) (place x) ∷ is) (1 + j) (suc j) xs (omega arith)
    skipped reads k (Apply' f _ args) is j xs =
        by_applied reads (applied s.unit f) k f (count args) (values_size s.unit args) (actuals_size s.unit args) _ _ is j xs
        (λ is j. values_skipped k args is j xs) (λ is j. actuals_skipped (suc k) args is j xs)
    skipped reads k (Paren' _ (only a)) is j xs = skipped true k a is j xs
    skipped reads k (Pos' _ (only a)) is j xs = skipped true k a is j xs
    skipped reads k (Neg' _ (only a)) is j xs = shifted (code s.unit s.units true k a (negate ∷ is)) _ (size s.unit true a + suc j) xs (omega arith) ∙ skipped true k a (negate ∷ is) (suc j) xs
    skipped reads k (Power' _ (only a) n) is j xs = shifted (code s.unit s.units true k a (raise n ∷ is)) _ (size s.unit true a + suc j) xs (omega arith) ∙ skipped true k a (raise n ∷ is) (suc j) xs
    skipped reads k (Bin' o _ (only a) _ (only b)) is j xs =
        let rest = code s.unit s.units true (k + calls_in s.unit a) b (operation o ∷ is) in
        shifted (code s.unit s.units true k a rest) _ (size s.unit true a + (size s.unit true b + suc j)) xs (omega arith)
        ∙ skipped true k a rest (size s.unit true b + suc j) xs ∙ skipped true (k + calls_in s.unit a) b (operation o ∷ is) (suc j) xs
    skipped reads k (Rel' o _ (only a) _ (only b)) is j xs =
        let rest = code s.unit s.units true (k + calls_in s.unit a) b (comparison o ∷ is) in
        shifted (code s.unit s.units true k a rest) _ (size s.unit true a + (size s.unit true b + suc j)) xs (omega arith)
        ∙ skipped true k a rest (size s.unit true b + suc j) xs ∙ skipped true (k + calls_in s.unit a) b (comparison o ∷ is) (suc j) xs
    skipped reads k (Not' _ (only a)) is j xs = shifted (code s.unit s.units true k a (negation ∷ is)) _ (size s.unit true a + suc j) xs (omega arith) ∙ skipped true k a (negation ∷ is) (suc j) xs
    skipped reads k (And' _ (only a) _ (only b)) is j xs =
        let rest = skip_false (suc (size s.unit true b)) ∷ code s.unit s.units true (k + calls_in s.unit a) b (both ∷ is) in
        shifted (code s.unit s.units true k a rest) _ (size s.unit true a + suc (size s.unit true b + suc j)) xs (omega arith)
        ∙ skipped true k a rest (suc (size s.unit true b + suc j)) xs ∙ skipped true (k + calls_in s.unit a) b (both ∷ is) (suc j) xs
    skipped reads k (Or' _ (only a) _ (only b)) is j xs =
        let rest = skip_true (suc (size s.unit true b)) ∷ code s.unit s.units true (k + calls_in s.unit a) b (either ∷ is) in
        shifted (code s.unit s.units true k a rest) _ (size s.unit true a + suc (size s.unit true b + suc j)) xs (omega arith)
        ∙ skipped true k a rest (suc (size s.unit true b + suc j)) xs ∙ skipped true (k + calls_in s.unit a) b (either ∷ is) (suc j) xs

    values_skipped : (k : ℕ) {m : Count} (es : Row_of-Expr m) (is : List Instr) (j : ℕ) (xs : List Taken) → does (values_code s.unit s.units k es is) (values_size s.unit es + j) xs ≡ does is j xs
    values_skipped k end_of-Expr is j xs = shifted is (0 + j) j xs (omega arith)
    values_skipped k (more_of-Expr e es) is j xs =
        let rest = values_code s.unit s.units (k + calls_in s.unit e) es is in
        shifted (code s.unit s.units true k e rest) _ (size s.unit true e + (values_size s.unit es + j)) xs (omega arith)
        ∙ skipped true k e rest (values_size s.unit es + j) xs ∙ values_skipped (k + calls_in s.unit e) es is j xs

    actuals_skipped : (k : ℕ) {m : Count} (es : Row_of-Expr m) (is : List Instr) (j : ℕ) (xs : List Taken) → does (actuals_code s.unit s.units k es is) (actuals_size s.unit es + j) xs ≡ does is j xs
    actuals_skipped k end_of-Expr is j xs = shifted is (0 + j) j xs (omega arith)
    actuals_skipped k (more_of-Expr e es) is j xs =
        let rest = actuals_code s.unit s.units (k + calls_in s.unit e) es is in
        shifted (code s.unit s.units false k e rest) _ (size s.unit false e + (actuals_size s.unit es + j)) xs (omega arith)
        ∙ skipped false k e rest (actuals_size s.unit es + j) xs ∙ actuals_skipped (k + calls_in s.unit e) es is j xs

  -- ---- rows and stacks

  nil_right : (ys : List Taken) → ys ++ [] ≡ ys
  nil_right [] = refl
  nil_right (y ∷ ys) = ap (λ zs. y ∷ zs) (nil_right ys)

  newest_on : (ys xs acc : List Taken) (m : ℕ) → newest (length ys + m) (pushed ys xs) acc ≡ newest m xs (ys ++ acc)
  newest_on [] xs acc m = ap (λ i. newest i xs acc) (let same : 0 + m ≡ m = omega arith in same)
  newest_on (y ∷ ys) xs acc m =
      ap (λ i. newest i (pushed ys (y ∷ xs)) acc) (let same : suc (length ys) + m ≡ length ys + suc m = omega arith in same) ∙ newest_on ys (y ∷ xs) acc (suc m)

  pub newest_all : (ys xs : List Taken) → newest (length ys) (pushed ys xs) [] ≡ ys
  newest_all ys xs = ap (λ i. newest i (pushed ys xs) []) (let same : length ys ≡ length ys + 0 = omega arith in same) ∙ newest_on ys xs [] 0 ∙ nil_right ys

  under_on : (ys xs : List Taken) (m : ℕ) → under (length ys + m) (pushed ys xs) ≡ under m xs
  under_on [] xs m = ap (λ i. under i xs) (let same : 0 + m ≡ m = omega arith in same)
  under_on (y ∷ ys) xs m = ap (λ i. under i (pushed ys (y ∷ xs))) (let same : suc (length ys) + m ≡ length ys + suc m = omega arith in same) ∙ under_on ys (y ∷ xs) (suc m)

  pub under_all : (ys xs : List Taken) → under (length ys) (pushed ys xs) ≡ xs
  under_all ys xs = ap (λ i. under i (pushed ys xs)) (let same : length ys ≡ length ys + 0 = omega arith in same) ∙ under_on ys xs 0

  cells_back : (cs : List Cell) → cells_of (all_fresh cs) ≡ cs
  cells_back [] = refl
  cells_back (c ∷ cs) = ap (λ ds. c ∷ ds) (cells_back cs)

  fresh_long : (cs : List Cell) → length (all_fresh cs) ≡ length cs
  fresh_long [] = refl
  fresh_long (c ∷ cs) = ap suc (fresh_long cs)

-- what holds of an answer
abbrev pub Ends : {B : Type 0} → (B → Type 0) → Outcome B → Type 0
Ends P (Ended b st n) = P b
Ends P (Erred kind card st) = Unit {0}
Ends P (Running st) = Unit {0}

ends_then : {B C : Type 0} (P : C → Type 0) (o : Outcome B) (f : B → Act C) → ((b : B) (st : Storage) (n : ℕ) → Ends P (f b st n)) → Ends P (and_then o f)
ends_then P (Ended b st n) f h = h b st n
ends_then P (Erred kind card st) f h = tt
ends_then P (Running st) f h = tt

ends_cons : {B : Type 0} (b : B) (m : ℕ) (o : Outcome (List B)) → Ends (λ bs. length bs ≡ m) o → Ends (λ bs. length bs ≡ suc m) (and_then o (λ bs. give (b ∷ bs)))
ends_cons b m (Ended bs st n) h = ap suc h
ends_cons b m (Erred kind card st) h = tt
ends_cons b m (Running st) h = tt

pub alike_if : {B C : Type 0} (P : B → Type 0) (o : Outcome B) → Ends P o → (f g : B → Act C) → ((b : B) → P b → (st : Storage) (n : ℕ) → f b st n ≡ g b st n) → and_then o f ≡ and_then o g
alike_if P (Ended b st n) h f g same = same b h st n
alike_if P (Erred kind card st) h f g same = refl
alike_if P (Running st) h f g same = refl

-- ---- fresh values

abbrev IsFresh : Taken → Type 0
IsFresh (Fresh c) = Unit {0}
IsFresh (Cells e) = ⊥

fresh_ends : (act : Act Cell) (st : Storage) (n : ℕ) → Ends IsFresh (fresh act st n)
fresh_ends act st n = ends_then IsFresh (act st n) (λ c. give (Fresh c)) (λ c st n. tt)

cond_ends : (b : Bool) (x y : Act Taken) (st : Storage) (n : ℕ) → Ends IsFresh (x st n) → Ends IsFresh (y st n) → Ends IsFresh (cond b x y st n)
cond_ends true x y st n h g = h
cond_ends false x y st n h g = g

-- what is fresh is read as it is
refreshed : (card : ℕ) (o : Outcome Taken) → Ends IsFresh o → and_then (and_then o (value_of card)) (λ c. give (Fresh c)) ≡ o
refreshed card (Ended (Fresh c) st n) h = refl
refreshed card (Ended (Cells e) st n) h = absurd (h)
refreshed card (Erred kind c st) h = refl
refreshed card (Running st) h = refl

module _ {A : Type 0} (s : Scene) (run : Caller) (card : ℕ) (next : ℕ → List Taken → Act A) where
  values_count : (k : ℕ) {m : Count} (es : Row_of-Expr m) (st : Storage) (n : ℕ) → Ends (λ (cs : List Cell). length cs ≡ count es) (values s run card k es st n)
  values_count k end_of-Expr st n = refl
  values_count k (more_of-Expr e es) st n =
      ends_then _ (evaluate s run card k e st n) _ (λ c st n. ends_cons c (count es) (values s run card (k + calls_in s.unit e) es st n) (values_count (k + calls_in s.unit e) es st n))

  pub actuals_count : (k : ℕ) {m : Count} (es : Row_of-Expr m) (st : Storage) (n : ℕ) → Ends (λ (xs : List Taken). length xs ≡ count es) (actuals s run card k es st n)
  actuals_count k end_of-Expr st n = refl
  actuals_count k (more_of-Expr e es) st n =
      ends_then _ (taken s run card k e st n) _ (λ x st n. ends_cons x (count es) (actuals s run card (k + calls_in s.unit e) es st n) (actuals_count (k + calls_in s.unit e) es st n))

  -- with arguments on the stack
  array_on : (f : Name) (dims : _) (m : ℕ) (is : List Instr) (xs : List Taken) (cs : List Cell) → length cs ≡ m → (st : Storage) (n : ℕ)
      → exec s run card next (array f dims m ∷ is) 0 (pushed (all_fresh cs) xs) st n
      ≡ and_then (element s.environment card (s.environment f) dims cs st n) (λ x. exec s run card next is 0 (x ∷ xs))
  array_on f dims m is xs cs long st n =
      ap (λ i. exec s run card next (array f dims i ∷ is) 0 (pushed (all_fresh cs) xs) st n) (sym (fresh_long s run card next cs ∙ long))
      ∙ ap (λ ys. and_then (element s.environment card (s.environment f) dims (cells_of ys) st n) (λ x. exec s run card next is 0 (x ∷ under (length (all_fresh cs)) (pushed (all_fresh cs) xs)))) (newest_all s run card next (all_fresh cs) xs)
      ∙ ap (λ ds. and_then (element s.environment card (s.environment f) dims ds st n) (λ x. exec s run card next is 0 (x ∷ under (length (all_fresh cs)) (pushed (all_fresh cs) xs)))) (cells_back s run card next cs)
      ∙ ap (λ ys. and_then (element s.environment card (s.environment f) dims cs st n) (λ x. exec s run card next is 0 (x ∷ ys))) (under_all s run card next (all_fresh cs) xs)

  built_in_on : (i : _) (m : ℕ) (is : List Instr) (xs : List Taken) (cs : List Cell) → length cs ≡ m → (st : Storage) (n : ℕ)
      → exec s run card next (built_in i m ∷ is) 0 (pushed (all_fresh cs) xs) st n
      ≡ and_then (intrinsic_value s.processor card i cs st n) (λ v. exec s run card next is 0 (Fresh v ∷ xs))
  built_in_on i m is xs cs long st n =
      ap (λ j. exec s run card next (built_in i j ∷ is) 0 (pushed (all_fresh cs) xs) st n) (sym (fresh_long s run card next cs ∙ long))
      ∙ ap (λ ys. and_then (intrinsic_value s.processor card i (cells_of ys) st n) (λ v. exec s run card next is 0 (Fresh v ∷ under (length (all_fresh cs)) (pushed (all_fresh cs) xs)))) (newest_all s run card next (all_fresh cs) xs)
      ∙ ap (λ ds. and_then (intrinsic_value s.processor card i ds st n) (λ v. exec s run card next is 0 (Fresh v ∷ under (length (all_fresh cs)) (pushed (all_fresh cs) xs)))) (cells_back s run card next cs)
      ∙ ap (λ ys. and_then (intrinsic_value s.processor card i cs st n) (λ v. exec s run card next is 0 (Fresh v ∷ ys))) (under_all s run card next (all_fresh cs) xs)

  abbrev called : ℕ → Option ℕ → List Taken → Act Cell
  called k callee ys = call run s.environment (unit_at s.units callee) (passed (s.processor.copies s.unit.name k) 1 ys)

  refer_on : (k : ℕ) (callee : Option ℕ) (m : ℕ) (is : List Instr) (xs ys : List Taken) → length ys ≡ m → (st : Storage) (n : ℕ)
      → exec s run card next (refer k callee m ∷ is) 0 (pushed ys xs) st n ≡ and_then (called k callee ys st n) (λ v. exec s run card next is 0 (Fresh v ∷ xs))
  refer_on k callee m is xs ys long st n =
      ap (λ j. exec s run card next (refer k callee j ∷ is) 0 (pushed ys xs) st n) (sym long)
      ∙ ap (λ zs. and_then (called k callee zs st n) (λ v. exec s run card next is 0 (Fresh v ∷ under (length ys) (pushed ys xs)))) (newest_all s run card next ys xs)
      ∙ ap (λ zs. and_then (called k callee ys st n) (λ v. exec s run card next is 0 (Fresh v ∷ zs))) (under_all s run card next ys xs)

  -- what was taken is read, or only taken
  abbrev so : Bool → ℕ → Expr → Act Taken
  so reads k e = taken_so reads s run card k e

  so_fresh : (reads : Bool) (k : ℕ) (e : Expr) (st : Storage) (n : ℕ) → Ends IsFresh (taken s run card k e st n) → so reads k e st n ≡ taken s run card k e st n
  so_fresh true k e st n h = refreshed card (taken s run card k e st n) h
  so_fresh false k e st n h = refl

  -- the code of a fresh value
  freshly : (reads : Bool) (k : ℕ) (e : Expr) (is : List Instr) (xs : List Taken) (st : Storage) (n : ℕ) (o : Outcome A) → Ends IsFresh (taken s run card k e st n)
      → o ≡ and_then (taken s run card k e st n) (λ x. exec s run card next is 0 (x ∷ xs)) → o ≡ and_then (so reads k e st n) (λ x. exec s run card next is 0 (x ∷ xs))
  freshly reads k e is xs st n o h g = g ∙ sym (ap (λ (o : Outcome Taken). and_then o (λ x. exec s run card next is 0 (x ∷ xs))) (so_fresh reads k e st n h))

  -- an element
  read_element : (reads : Bool) (act : Act Taken) (is : List Instr) (xs : List Taken) (st : Storage) (n : ℕ)
      → and_then (act st n) (λ x. exec s run card next (cond reads (value ∷ is) is) 0 (x ∷ xs))
      ≡ and_then (cond reads (fresh (valued card act)) act st n) (λ x. exec s run card next is 0 (x ∷ xs))
  read_element true act is xs st n = sym (assoc (act st n) (value_of card) _) ∙ sym (assoc (and_then (act st n) (value_of card)) _ _)
  read_element false act is xs st n = refl

  abbrev seen : Bool → Act Taken → Act Taken
  seen reads act = cond reads (fresh (valued card act)) act

  seen_fresh : (reads : Bool) (act : Act Taken) (st : Storage) (n : ℕ) → Ends IsFresh (act st n) → seen reads act st n ≡ act st n
  seen_fresh true act st n h = refreshed card (act st n) h
  seen_fresh false act st n h = refl

  applied_right : (reads : Bool) (a : Applied) (k : ℕ) (f : Name) {m : Count} (args : Row_of-Expr m) (is : List Instr) (xs : List Taken) (st : Storage) (n : ℕ)
      → ((js : List Instr) → exec s run card next (values_code s.unit s.units k args js) 0 xs st n ≡ and_then (values s run card k args st n) (λ cs. exec s run card next js 0 (pushed (all_fresh cs) xs)))
      → ((js : List Instr) → exec s run card next (actuals_code s.unit s.units (suc k) args js) 0 xs st n ≡ and_then (actuals s run card (suc k) args st n) (λ ys. exec s run card next js 0 (pushed ys xs)))
      → exec s run card next (code_by s.units reads k f a (count args) (values_code s.unit s.units k args) (actuals_code s.unit s.units (suc k) args) is) 0 xs st n
      ≡ and_then (seen reads (apply s run card k f a (values s run card k args) (actuals s run card (suc k) args)) st n) (λ x. exec s run card next is 0 (x ∷ xs))
  applied_right reads (Element dims) k f args is xs st n p q =
      p (array f dims (count args) ∷ cond reads (value ∷ is) is)
      ∙ alike_if _ (values s run card k args st n) (values_count k args st n) _ _ (λ cs long st n. array_on f dims (count args) (cond reads (value ∷ is) is) xs cs long st n)
      ∙ sym (assoc (values s run card k args st n) _ _)
      ∙ read_element reads (apply s run card k f (Element dims) (values s run card k args) (actuals s run card (suc k) args)) is xs st n
  applied_right reads (BuiltIn i) k f args is xs st n p q =
      p (built_in i (count args) ∷ is)
      ∙ alike_if _ (values s run card k args st n) (values_count k args st n) _ _
      (λ cs long st n. built_in_on i (count args) is xs cs long st n ∙ sym (assoc (intrinsic_value s.processor card i cs st n) _ _))
      ∙ sym (assoc (values s run card k args st n) _ _)
      ∙ sym (ap (λ (o : Outcome Taken). and_then o (λ x. exec s run card next is 0 (x ∷ xs)))
      (seen_fresh reads (apply s run card k f (BuiltIn i) (values s run card k args) (actuals s run card (suc k) args)) st n
      (ends_then IsFresh (values s run card k args st n) (λ cs. fresh (intrinsic_value s.processor card i cs)) (λ cs st n. fresh_ends (intrinsic_value s.processor card i cs) st n))))
  applied_right reads Reference k f args is xs st n p q =
      q (refer (suc k) (function s.units f) (count args) ∷ is)
      ∙ alike_if _ (actuals s run card (suc k) args st n) (actuals_count (suc k) args st n) _ _ (λ ys long st n. refer_on (suc k) (function s.units f) (count args) is xs ys long st n)
      ∙ sym (assoc (actuals s run card (suc k) args st n) (called (suc k) (function s.units f)) _)
      ∙ sym (assoc (and_then (actuals s run card (suc k) args st n) (called (suc k) (function s.units f))) _ _)
      ∙ sym (ap (λ (o : Outcome Taken). and_then o (λ x. exec s run card next is 0 (x ∷ xs)))
      (seen_fresh reads (apply s run card k f Reference (values s run card k args) (actuals s run card (suc k) args)) st n
      (fresh_ends (call_at s run (suc k) (actuals s run card (suc k) args) (function s.units f)) st n)))

  tested : (t : Bool) (first rest : Act A) (known : Taken) (part : Act Taken) (is : List Instr) (xs : List Taken) (st : Storage) (n : ℕ)
      → first st n ≡ exec s run card next is 0 (known ∷ xs) st n → rest st n ≡ and_then (part st n) (λ x. exec s run card next is 0 (x ∷ xs))
      → cond t first rest st n ≡ and_then (cond t (give known) part st n) (λ x. exec s run card next is 0 (x ∷ xs))
  tested true first rest known part is xs st n e f = e
  tested false first rest known part is xs st n e f = f

  over : (k : ℕ) (b : Expr) (c : Instr) (is : List Instr) (xs : List Taken) (st : Storage) (n : ℕ)
      → exec s run card next (code s.unit s.units true k b (c ∷ is)) (suc (size s.unit true b)) xs st n ≡ exec s run card next is 0 xs st n
  over k b c is xs st n =
      ap (λ j. exec s run card next (code s.unit s.units true k b (c ∷ is)) j xs st n) (let same : suc (size s.unit true b) ≡ size s.unit true b + 1 = omega arith in same)
      ∙ ap (λ (x : Act A). x st n) (skipped s run card next true k b (c ∷ is) 1 xs)

  mutual
    pub computed : (reads : Bool) (k : ℕ) (e : Expr) (is : List Instr) (xs : List Taken) (st : Storage) (n : ℕ)
        → exec s run card next (code s.unit s.units reads k e is) 0 xs st n ≡ and_then (taken_so reads s run card k e st n) (λ x. exec s run card next is 0 (x ∷ xs))
    computed reads k (Const c) is xs st n =
        freshly reads k (Const c) is xs st n _ (fresh_ends (constant s.processor card c) st n) (sym (assoc (constant s.processor card c st n) _ _))
    computed reads k (Truth b) is xs st n = freshly reads k (Truth b) is xs st n _ tt refl
    computed true k (Var x) is xs st n = sym (assoc (read card (s.environment x).first st n) _ _)
    computed false k (Var x) is xs st n = refl
    computed true k (Apply' f r args) is xs st n = applied_right true (applied s.unit f) k f args is xs st n (λ js. valuing k args js xs st n) (λ js. taking (suc k) args js xs st n)
    computed false k (Apply' f r args) is xs st n = applied_right false (applied s.unit f) k f args is xs st n (λ js. valuing k args js xs st n) (λ js. taking (suc k) args js xs st n)
    computed reads k (Paren' r (only a)) is xs st n =
        freshly reads k (Paren' r (only a)) is xs st n _ (fresh_ends (evaluate s run card k a) st n) (computed true k a is xs st n)
    computed reads k (Pos' r (only a)) is xs st n =
        freshly reads k (Pos' r (only a)) is xs st n _ (fresh_ends (evaluate s run card k a) st n) (computed true k a is xs st n)
    computed reads k (Neg' r (only a)) is xs st n =
        freshly reads k (Neg' r (only a)) is xs st n _ (ends_then IsFresh (evaluate s run card k a st n) (λ v. fresh (ranged s.processor card (neg_ℤ (num v)))) (λ v st n. fresh_ends (ranged s.processor card (neg_ℤ (num v))) st n))
        (computed true k a (negate ∷ is) xs st n ∙ assoc (evaluate s run card k a st n) _ _
        ∙ alike (evaluate s run card k a st n) _ _ (λ v st n. sym (assoc (ranged s.processor card (neg_ℤ (num v)) st n) _ _)) ∙ sym (assoc (evaluate s run card k a st n) _ _))
    computed reads k (Power' r (only a) m) is xs st n =
        freshly reads k (Power' r (only a) m) is xs st n _ (ends_then IsFresh (evaluate s run card k a st n) (λ v. fresh (power s.processor card (num v) m)) (λ v st n. fresh_ends (power s.processor card (num v) m) st n))
        (computed true k a (raise m ∷ is) xs st n ∙ assoc (evaluate s run card k a st n) _ _
        ∙ alike (evaluate s run card k a st n) _ _ (λ v st n. sym (assoc (power s.processor card (num v) m st n) _ _)) ∙ sym (assoc (evaluate s run card k a st n) _ _))
    computed reads k (Bin' o r (only a) q (only b)) is xs st n =
        let kb = k + calls_in s.unit a in
        freshly reads k (Bin' o r (only a) q (only b)) is xs st n _
        (ends_then IsFresh (evaluate s run card k a st n) (λ v. evaluate s run card kb b >>= (λ w. fresh (operate s.processor card o v w)))
        (λ v st n. ends_then IsFresh (evaluate s run card kb b st n) (λ w. fresh (operate s.processor card o v w)) (λ w st n. fresh_ends (operate s.processor card o v w) st n)))
        (computed true k a (code s.unit s.units true kb b (operation o ∷ is)) xs st n ∙ assoc (evaluate s run card k a st n) _ _
        ∙ alike (evaluate s run card k a st n) _ _
        (λ v st n.
        computed true kb b (operation o ∷ is) (Fresh v ∷ xs) st n ∙ assoc (evaluate s run card kb b st n) _ _
        ∙ alike (evaluate s run card kb b st n) _ _ (λ w st n. sym (assoc (operate s.processor card o v w st n) _ _)) ∙ sym (assoc (evaluate s run card kb b st n) _ _))
        ∙ sym (assoc (evaluate s run card k a st n) _ _))
    computed reads k (Rel' o r (only a) q (only b)) is xs st n =
        let kb = k + calls_in s.unit a in
        freshly reads k (Rel' o r (only a) q (only b)) is xs st n _
        (ends_then IsFresh (evaluate s run card k a st n) (λ v. evaluate s run card kb b >>= (λ w. give (Fresh (Logical (compares o v w)))))
        (λ v st n. ends_then IsFresh (evaluate s run card kb b st n) (λ w. give (Fresh (Logical (compares o v w)))) (λ w st n. tt)))
        (computed true k a (code s.unit s.units true kb b (comparison o ∷ is)) xs st n ∙ assoc (evaluate s run card k a st n) _ _
        ∙ alike (evaluate s run card k a st n) _ _
        (λ v st n.
        computed true kb b (comparison o ∷ is) (Fresh v ∷ xs) st n ∙ assoc (evaluate s run card kb b st n) _ _ ∙ sym (assoc (evaluate s run card kb b st n) _ _))
        ∙ sym (assoc (evaluate s run card k a st n) _ _))
    computed reads k (Not' r (only a)) is xs st n =
        freshly reads k (Not' r (only a)) is xs st n _ (ends_then IsFresh (evaluate s run card k a st n) (λ v. give (Fresh (Logical (not (holds v))))) (λ v st n. tt))
        (computed true k a (negation ∷ is) xs st n ∙ assoc (evaluate s run card k a st n) _ _ ∙ sym (assoc (evaluate s run card k a st n) _ _))
    computed reads k (And' r (only a) q (only b)) is xs st n =
        let kb = k + calls_in s.unit a in
        let last = λ (v : Cell). evaluate s run card kb b >>= (λ w. give (Fresh (Logical (holds v && holds w)))) in
        freshly reads k (And' r (only a) q (only b)) is xs st n _
        (ends_then IsFresh (evaluate s run card k a st n) (λ v. cond (s.processor.lazy && not (holds v)) (give (Fresh (Logical false))) (last v))
        (λ v st n.
        cond_ends (s.processor.lazy && not (holds v)) (give (Fresh (Logical false))) (last v) st n tt
        (ends_then IsFresh (evaluate s run card kb b st n) (λ w. give (Fresh (Logical (holds v && holds w)))) (λ w st n. tt))))
        (computed true k a (skip_false (suc (size s.unit true b)) ∷ code s.unit s.units true kb b (both ∷ is)) xs st n ∙ assoc (evaluate s run card k a st n) _ _
        ∙ alike (evaluate s run card k a st n) _ _
        (λ v st n. tested (s.processor.lazy && not (holds v)) _ _ (Fresh (Logical false)) _ is xs st n (over kb b both is (Fresh (Logical false) ∷ xs) st n)
        (computed true kb b (both ∷ is) (Fresh v ∷ xs) st n ∙ assoc (evaluate s run card kb b st n) _ _ ∙ sym (assoc (evaluate s run card kb b st n) _ _)))
        ∙ sym (assoc (evaluate s run card k a st n) _ _))
    computed reads k (Or' r (only a) q (only b)) is xs st n =
        let kb = k + calls_in s.unit a in
        let last = λ (v : Cell). evaluate s run card kb b >>= (λ w. give (Fresh (Logical (holds v || holds w)))) in
        freshly reads k (Or' r (only a) q (only b)) is xs st n _
        (ends_then IsFresh (evaluate s run card k a st n) (λ v. cond (s.processor.lazy && holds v) (give (Fresh (Logical true))) (last v))
        (λ v st n.
        cond_ends (s.processor.lazy && holds v) (give (Fresh (Logical true))) (last v) st n tt
        (ends_then IsFresh (evaluate s run card kb b st n) (λ w. give (Fresh (Logical (holds v || holds w)))) (λ w st n. tt))))
        (computed true k a (skip_true (suc (size s.unit true b)) ∷ code s.unit s.units true kb b (either ∷ is)) xs st n ∙ assoc (evaluate s run card k a st n) _ _
        ∙ alike (evaluate s run card k a st n) _ _
        (λ v st n. tested (s.processor.lazy && holds v) _ _ (Fresh (Logical true)) _ is xs st n (over kb b either is (Fresh (Logical true) ∷ xs) st n)
        (computed true kb b (either ∷ is) (Fresh v ∷ xs) st n ∙ assoc (evaluate s run card kb b st n) _ _ ∙ sym (assoc (evaluate s run card kb b st n) _ _)))
        ∙ sym (assoc (evaluate s run card k a st n) _ _))

    valuing : (k : ℕ) {m : Count} (es : Row_of-Expr m) (js : List Instr) (xs : List Taken) (st : Storage) (n : ℕ)
        → exec s run card next (values_code s.unit s.units k es js) 0 xs st n ≡ and_then (values s run card k es st n) (λ cs. exec s run card next js 0 (pushed (all_fresh cs) xs))
    valuing k end_of-Expr js xs st n = refl
    valuing k (more_of-Expr e es) js xs st n =
        let ke = k + calls_in s.unit e in
        computed true k e (values_code s.unit s.units ke es js) xs st n ∙ assoc (evaluate s run card k e st n) _ _
        ∙ alike (evaluate s run card k e st n) _ _ (λ c st n. valuing ke es js (Fresh c ∷ xs) st n ∙ sym (assoc (values s run card ke es st n) _ _))
        ∙ sym (assoc (evaluate s run card k e st n) _ _)

    pub taking : (k : ℕ) {m : Count} (es : Row_of-Expr m) (js : List Instr) (xs : List Taken) (st : Storage) (n : ℕ)
        → exec s run card next (actuals_code s.unit s.units k es js) 0 xs st n ≡ and_then (actuals s run card k es st n) (λ ys. exec s run card next js 0 (pushed ys xs))
    taking k end_of-Expr js xs st n = refl
    taking k (more_of-Expr e es) js xs st n =
        let ke = k + calls_in s.unit e in
        computed false k e (actuals_code s.unit s.units ke es js) xs st n
        ∙ alike (taken s run card k e st n) _ _ (λ x st n. taking ke es js (x ∷ xs) st n ∙ sym (assoc (actuals s run card ke es st n) _ _))
        ∙ sym (assoc (taken s run card k e st n) _ _)

  -- the code of an expression that is read
  pub read_on : (k : ℕ) (e : Expr) (is : List Instr) (xs : List Taken) (st : Storage) (n : ℕ)
      → exec s run card next (code s.unit s.units true k e is) 0 xs st n ≡ and_then (evaluate s run card k e st n) (λ v. exec s run card next is 0 (Fresh v ∷ xs))
  read_on k e is xs st n = computed true k e is xs st n ∙ assoc (evaluate s run card k e st n) _ _

pub expressions_are_taken : ExpressionsAreTaken
expressions_are_taken s run card k next reads e is xs st n = computed s run card next reads k e is xs st n
