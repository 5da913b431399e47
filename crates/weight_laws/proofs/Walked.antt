-- Along each path there are as many weights as checks.
use Rattle.std.proofs.Common.{◌≡◌, ℕ, zero, suc, pred, ◌+◌, ◌*◌, Bool, true, false, cond, List, [], ◌∷◌, ◌++◌, map, length, Option, Some, None, slice_get, refl, sym, ap, ◌∙◌}
use Rattle.std.specs.Prelude.{nat_lt, ◌==◌, sum}
use Rattle.std.proofs.lemmas.List.{length-append, append_assoc}
use mathlib.Core.Former.{Count}
use Rattle.fort_syntax.specs.TreePatterns.{only, carried, row_of}
use Rattle.fort_syntax.specs.Names.{Intrinsic, Absolute, Modulo, Greatest, Least, Applied, Element, BuiltIn, Reference, applied, function, subroutine, unit_at, is_function, dims_of}
use Rattle.fort_syntax.specs.declared.condition.Kind.{Kind}
use Rattle.fort_syntax.specs.declared.condition.Kind.TheVariants.{DefinedCheck, RangeCheck, DivisorCheck, SubscriptCheck, ChoiceCheck, LoopCheck, ResultCheck, InputCheck, AssertCheck, ClockCheck, OutputCheck}
use Rattle.fort_syntax.specs.declared.dialect.BinOp.{BinOp}
use Rattle.fort_syntax.specs.declared.dialect.BinOp.TheVariants.{Add, Sub, Mul, Div}
use Rattle.fort_syntax.specs.declared.dialect.Dialect.{Dialect}
use Rattle.fort_syntax.specs.declared.dialect.Dialect.TheVariants.{Common, SeventySeven}
use Rattle.fort_syntax.specs.declared.expr.Expr.{Expr, Row_of-Expr, end_of-Expr, more_of-Expr}
use Rattle.fort_syntax.specs.declared.expr.Expr.TheVariants.{Const, Truth, Var, Apply', Paren', Pos', Neg', Power', Bin', Rel', Not', And', Or'}
use Rattle.fort_syntax.specs.declared.name.Name.{Name}
use Rattle.fort_syntax.specs.declared.stmt.Dim.{Dim}
use Rattle.fort_syntax.specs.declared.stmt.Param.{Param}
use Rattle.fort_syntax.specs.declared.stmt.Param.TheVariants as param
use Rattle.fort_syntax.specs.declared.stmt.Stmt.{Stmt}
use Rattle.fort_syntax.specs.declared.stmt.Stmt.TheVariants.{Subroutine, Function, Declare, Dimension, Common as CommonBlock, Assign, GoTo, Computed as ComputedGoTo, ArithIf, LogicalIf', Do, Continue, Call, Return, End, BlockIf, ElseIf, Else, EndIf}
use Rattle.fort_syntax.specs.declared.unit.Line.{Line}
use Rattle.fort_syntax.specs.declared.unit.Unit.{Unit as Routine}
use Rattle.fort_notes.specs.Assertions.{Assertion}
use Rattle.fort_model.specs.Conditions.{sight}
use Rattle.fort_model.specs.Events.{Event, Check, checks, takes, labels}
use Rattle.fort_model.specs.Flow.{Loop, target, loops_at, loops_around, leads}
use Rattle.fort_model.specs.Paths.{Cut, NoCut, AtEnd, AtAssert, cut_at}
use Rattle.fort_model.specs.Perform.{card_in}
use Rattle.fort_model.specs.Program.{Program, notes_of}
use Rattle.fort_model.specs.Seen.{Named, Answers, See, ◌>>=◌, ◌>>◌, see, meet, symbols_of_calls}
use Rattle.fort_model.specs.Senses.{of_nothing, note}
use Rattle.fort_model.specs.Walk as walks
use Rattle.fort_model.specs.WalkCalls.{Sight, Operand, Bare, Part, Computed, seen_by, stands_for, hits, changed, stands_after, result_facts, notes_told, call_unit, call_in, call}
use Rattle.fort_model.specs.WalkExpr as e
use Rattle.fort_model.specs.WalkPlaces.{subscripts_fit, sorts}
use Rattle.fort_model.specs.WalkStmt as s
use Rattle.path_sizes.specs.Weighed as h
use Rattle.path_sizes.specs.Weights as g
use Rattle.weight_laws.specs.Laws.{WeightsHaveChecks}
use Rattle.weight_laws.proofs.Counting.{labels_append, no_labels, Nil, Any, Counted, then, seen, check, take, after_takes, after_added, after_answer, AsMany, as_many_mapped, all_checks}

-- an operand is computed, or both are not read yet
abbrev Alike : Operand Nil → Operand ℕ → Type 0
Alike (Bare x t) (Bare y n) = Unit {0}
Alike (Part t) (Part n) = Unit {0}
Alike (Computed t) (Computed n) = Unit {0}
Alike _ _ = ⊥

module _ (p : Program) (i : ℕ) (u : Routine) where
  abbrev w : Sight Nil
  w = sight of_nothing p i u

  abbrev v : Sight ℕ
  v = record { sense = g.of_weights; program = p; number = i; unit = u }

  undefined_counts : Counted {A = Nil} {B = ℕ} Any (see tt) (h.weighed 1)
  undefined_counts answers running = (refl, tt)

  -- ---- expressions

  read_counts : (card : ℕ) (t : Nil) (n : ℕ) → Counted Any (e.read w card t) (g.read v n)
  read_counts card t n =
      then Any Any (e.checked w DefinedCheck card tt) (h.tested n) (λ x. see t) (λ x. h.weighed n) (check DefinedCheck card tt n) (λ a b q. seen Any t n tt)

  ranged_counts : (card : ℕ) (t : Nil) (n : ℕ) → Counted Any (e.ranged w card t) (g.ranged v n)
  ranged_counts card t n =
      then Any Any (e.checked w RangeCheck card tt) (h.tested n) (λ x. see t) (λ x. h.weighed n) (check RangeCheck card tt n) (λ a b q. seen Any t n tt)

  operand_read : (card : ℕ) (x : Operand Nil) (y : Operand ℕ) → Alike x y → Counted Any (e.read_operand w card x) (g.read_operand v y)
  operand_read card (Bare x t) (Bare y n) q = read_counts card t n
  operand_read card (Part t) (Part n) q = read_counts card t n
  operand_read card (Computed t) (Computed n) q = seen Any t n tt
  operand_read card (Bare x t) (Part n) q = absurd q
  operand_read card (Bare x t) (Computed n) q = absurd q
  operand_read card (Part t) (Bare y n) q = absurd q
  operand_read card (Part t) (Computed n) q = absurd q
  operand_read card (Computed t) (Bare y n) q = absurd q
  operand_read card (Computed t) (Part n) q = absurd q

  valued_counts : (card : ℕ) (part : See Nil (Operand Nil)) (other : h.Weigh (Operand ℕ)) → Counted Alike part other → Counted Any (e.valued w card part) (g.valued v other)
  valued_counts card part other k = then Alike Any part other (λ x. e.read_operand w card x) (λ y. g.read_operand v y) k (λ x y q. operand_read card x y q)

  computed_counts : (part : See Nil Nil) (other : h.Weigh ℕ) → Counted Any part other → Counted Alike (e.computed w part) (g.reckoned v other)
  computed_counts part other k = then Any Alike part other (λ t. see (Computed t)) (λ n. h.weighed (Computed n)) k (λ t n q. seen Alike (Computed t) (Computed n) tt)

  constant_by : (card : ℕ) (b : Bool) → Counted Any (meet (cond b (Check RangeCheck card tt ∷ []) [])) (h.all_tested (cond b (1 ∷ []) []))
  constant_by card true answers running = (refl, tt)
  constant_by card false answers running = (refl, tt)

  constant_counts : (card c : ℕ) → Counted Any (e.constant w card c) (g.constant v c)
  constant_counts card c =
      then {C = Nil} {D = ℕ} Any Any (meet (cond (nat_lt p.bound c) (Check RangeCheck card tt ∷ []) [])) (h.all_tested (cond (nat_lt p.bound c) (1 ∷ []) [])) (λ x. see tt) (λ x. h.weighed 1)
      (constant_by card (nat_lt p.bound c)) (λ a b q. undefined_counts)

  divided : (card : ℕ) (t r : Nil) (m n : ℕ) → Counted Any (e.divisor w card t >> e.ranged w card r) (h.◌>>◌ (h.tested m) (g.ranged v n))
  divided card t r m n = then Any Any (e.divisor w card t) (h.tested m) (λ x. e.ranged w card r) (λ x. g.ranged v n) (check DivisorCheck card tt m) (λ a b q. ranged_counts card r n)

  operate_counts : (card : ℕ) (o : BinOp) (a b : Nil) (n m : ℕ) → Counted Any (e.operate w card o a b) (g.operate v o n m)
  operate_counts card Add a b n m = ranged_counts card tt (suc (n + m))
  operate_counts card Sub a b n m = ranged_counts card tt (suc (n + m))
  operate_counts card Mul a b n m = ranged_counts card tt (suc (n + m))
  operate_counts card Div a b n m = divided card tt tt m (suc (n + m))

  power_counts : (card : ℕ) (others : ℕ) (t r : Nil) (n k : ℕ) → Counted Any (e.power_from w card t others r) (g.power_from v n k others)
  power_counts card zero t r n k = seen Any r (k * n + k) tt
  power_counts card (suc others) t r n k =
      then Any Any (e.ranged w card tt) (h.tested (suc k * n + suc k)) (λ x. e.power_from w card t others x) (λ x. g.power_from v n (suc k) others)
      (λ answers running. (refl, tt)) (λ a b q. power_counts card others t a n (suc k))

  intrinsic_counts : (card : ℕ) (f : Intrinsic) (ts : List Nil) (ns : List ℕ) → AsMany ts ns → Counted Any (e.intrinsic_value w card f ts) (g.intrinsic_weight v f ns)
  intrinsic_counts card Absolute [] [] k = undefined_counts
  intrinsic_counts card Absolute [] (n ∷ ns) k = absurd k
  intrinsic_counts card Absolute (t ∷ ts) [] k = absurd k
  intrinsic_counts card Absolute (t ∷ []) (n ∷ []) k = ranged_counts card tt (suc n)
  intrinsic_counts card Absolute (t ∷ []) (n ∷ (m ∷ ns)) k = absurd k
  intrinsic_counts card Absolute (t ∷ (r ∷ ts)) (n ∷ []) k = absurd k
  intrinsic_counts card Absolute (t ∷ (r ∷ ts)) (n ∷ (m ∷ ns)) k = undefined_counts
  intrinsic_counts card Modulo [] [] k = undefined_counts
  intrinsic_counts card Modulo [] (n ∷ ns) k = absurd k
  intrinsic_counts card Modulo (t ∷ ts) [] k = absurd k
  intrinsic_counts card Modulo (t ∷ []) (n ∷ []) k = undefined_counts
  intrinsic_counts card Modulo (t ∷ []) (n ∷ (m ∷ ns)) k = absurd k
  intrinsic_counts card Modulo (t ∷ (r ∷ ts)) (n ∷ []) k = absurd k
  intrinsic_counts card Modulo (t ∷ (r ∷ [])) (n ∷ (m ∷ [])) k =
      then {C = Nil} {D = ℕ} Any Any (e.divisor w card r) (h.tested m) (λ x. e.ranged w card tt >> see tt) (λ x. h.◌>>◌ (g.ranged v (suc (n + m))) (h.weighed (suc (n + m)))) (check DivisorCheck card tt m)
      (λ a b q. then {C = Nil} {D = ℕ} Any Any (e.ranged w card tt) (g.ranged v (suc (n + m))) (λ x. see tt) (λ x. h.weighed (suc (n + m))) (ranged_counts card tt (suc (n + m))) (λ a b q. seen {A = Nil} {B = ℕ} Any tt (suc (n + m)) tt))
  intrinsic_counts card Modulo (t ∷ (r ∷ [])) (n ∷ (m ∷ (l ∷ ns))) k = absurd k
  intrinsic_counts card Modulo (t ∷ (r ∷ (x ∷ ts))) (n ∷ (m ∷ [])) k = absurd k
  intrinsic_counts card Modulo (t ∷ (r ∷ (x ∷ ts))) (n ∷ (m ∷ (l ∷ ns))) k = undefined_counts
  intrinsic_counts card Greatest [] [] k = undefined_counts
  intrinsic_counts card Greatest [] (n ∷ ns) k = absurd k
  intrinsic_counts card Greatest (t ∷ ts) [] k = absurd k
  intrinsic_counts card Greatest (t ∷ ts) (n ∷ ns) k = λ answers running. (refl, tt)
  intrinsic_counts card Least [] [] k = undefined_counts
  intrinsic_counts card Least [] (n ∷ ns) k = absurd k
  intrinsic_counts card Least (t ∷ ts) [] k = absurd k
  intrinsic_counts card Least (t ∷ ts) (n ∷ ns) k = λ answers running. (refl, tt)

  subscripts_counted : (now : Named Nil) (is : List Nil) (js : List ℕ) (dims : List Dim) → AsMany is js → AsMany (subscripts_fit of_nothing now is dims) (g.subscripts v js dims)
  subscripts_counted now [] [] dims k = tt
  subscripts_counted now [] (j ∷ js) dims k = absurd k
  subscripts_counted now (t ∷ is) [] dims k = absurd k
  subscripts_counted now (t ∷ is) (j ∷ js) [] k = tt
  subscripts_counted now (t ∷ is) (j ∷ js) (d ∷ ds) k = subscripts_counted now is js ds k

  -- subscripts are checked, and something follows
  placed : {A B : Type 0} (Q : A → B → Type 0) (card : ℕ) (now : Named Nil) (dims : List Dim) (is : List Nil) (js : List ℕ) (f : Nil → See Nil A) (k : h.Weigh B) → AsMany is js
      → ((t : Nil) → Counted Q (f t) k) → Counted Q (e.place_checked w card now dims is >>= f) (h.◌>>◌ (h.all_tested (g.subscripts v js dims)) k)
  placed Q card now dims is js f k m l answers running =
      let a = then Any Q (meet (checks SubscriptCheck card (subscripts_fit of_nothing now is dims))) (h.all_tested (g.subscripts v js dims)) (λ x. f tt) (λ x. k)
      (all_checks SubscriptCheck card (subscripts_fit of_nothing now is dims) (g.subscripts v js dims) (subscripts_counted now is js dims m)) (λ x y q. l tt) answers running in
      (a.0 ∙ ap (λ es. length (labels es)) (behind_nothing (checks SubscriptCheck card (subscripts_fit of_nothing now is dims)) (f tt answers).events), a.1)
    where
      behind_nothing : (es fs : List (Event Nil)) → es ++ fs ≡ (es ++ []) ++ fs
      behind_nothing [] fs = refl
      behind_nothing (x ∷ es) fs = ap (λ rest. x ∷ rest) (behind_nothing es fs)

  -- ---- calls

  module _ (card j : ℕ) (r : Routine) (now : Named Nil) (xs : List (Operand Nil)) (answer : Named Nil) (now' : Named ℕ) (ys : List (Operand ℕ)) where
    abbrev before : Named Nil
    before = seen_by w r (map stands_for xs) now tt

    abbrev after : Named Nil
    after = changed w (hits w j r xs) answer now

    abbrev answered : See Nil (Named Nil × Nil)
    answered = see (after, answer r.name)

    abbrev told : List Nil
    told = notes_told w before (seen_by w r (map (stands_after w after) xs) after (answer r.name)) (notes_of p j).output

    abbrev third : See Nil (Named Nil × Nil)
    third = meet (takes told) >> answered

    abbrev second : See Nil (Named Nil × Nil)
    second = meet (takes (result_facts w r.sort (answer r.name))) >> third

    abbrev first : See Nil (Named Nil × Nil)
    first = meet (takes (sorts of_nothing u after (hits w j r xs))) >> second

    abbrev before' : Named ℕ
    before' = seen_by v r (map stands_for ys) now' 1

    abbrev after' : Named ℕ
    after' = changed v (hits v j r ys) g.all_one now'

    abbrev answered' : h.Weigh (Named ℕ)
    answered' = h.weighed after'

    abbrev output' : ℕ
    output' = sum (g.notes_weights v before' (seen_by v r (map (stands_after v after') ys) after' 1) (notes_of p j).output)

    abbrev second' : h.Weigh (Named ℕ)
    second' = h.◌>>◌ (h.added output') answered'

    abbrev first' : h.Weigh (Named ℕ)
    first' = h.◌>>◌ (h.added (length (hits v j r ys))) second'

    unit_counts : Counted Any (call_unit w card j r now xs answer) (g.unit_called v j r now' ys)
    unit_counts =
        then Any Any (meet (checks InputCheck card (notes_told w before before (notes_of p j).input))) (h.all_tested (g.notes_weights v before' before' (notes_of p j).input)) (λ x. first) (λ x. first')
        (all_checks InputCheck card (notes_told w before before (notes_of p j).input) (g.notes_weights v before' before' (notes_of p j).input)
        (as_many_mapped (note of_nothing before before) (note g.of_weights before' before') (notes_of p j).input))
        (λ a b q.
        after_takes Any (sorts of_nothing u after (hits w j r xs)) second first'
        (after_takes Any (result_facts w r.sort (answer r.name)) third first'
        (after_takes Any told answered first'
        (after_added Any (length (hits v j r ys)) answered second' (after_added Any output' answered answered' (seen {A = Named Nil × Nil} {B = Named ℕ} Any (after, answer r.name) after' tt))))))

  in_counts : (card j : ℕ) (o : Option Routine) (now : Named Nil) (xs : List (Operand Nil)) (now' : Named ℕ) (ys : List (Operand ℕ))
      → Counted Any (call_in w card j o now xs) (g.called_in v j o now' ys)
  in_counts card j None now xs now' ys = seen {A = Named Nil × Nil} {B = Named ℕ} Any (now, tt) now' tt
  in_counts card j (Some r) now xs now' ys = after_answer Any (λ answer. call_unit w card j r now xs answer) (g.unit_called v j r now' ys) (λ answer. unit_counts card j r now xs answer now' ys)

  call_counts : (card : ℕ) (o : Option ℕ) (now : Named Nil) (xs : List (Operand Nil)) (now' : Named ℕ) (ys : List (Operand ℕ))
      → Counted Any (call w card o now xs) (g.called v o now' ys)
  call_counts card None now xs now' ys = seen {A = Named Nil × Nil} {B = Named ℕ} Any (now, tt) now' tt
  call_counts card (Some j) now xs now' ys = in_counts card j (unit_at p.units (Some j)) now xs now' ys

  -- ---- expressions as a whole

  apply_counts : (card : ℕ) (now : Named Nil) (now' : Named ℕ) (a : Name) (o : Applied) (values : See Nil (List Nil)) (values' : h.Weigh (List ℕ)) (actuals : See Nil (List (Operand Nil))) (actuals' : h.Weigh (List (Operand ℕ)))
      → Counted AsMany values values' → Counted Any actuals actuals' → Counted Alike (e.apply w card now a o values actuals) (g.apply_weight v now' a o values' actuals')
  apply_counts card now now' a (Element dims) values values' actuals actuals' k l =
      then AsMany Alike values values' (λ is. e.place_checked w card now dims is >>= λ t. see (Part tt)) (λ is. h.◌>>◌ (h.all_tested (g.subscripts v is dims)) (h.weighed (Part (suc (now' a + sum is))))) k
      (λ is js m. placed Alike card now dims is js (λ t. see (Part tt)) (h.weighed (Part (suc (now' a + sum js)))) m (λ t. seen Alike (Part tt) (Part (suc (now' a + sum js))) tt))
  apply_counts card now now' a (BuiltIn f) values values' actuals actuals' k l =
      then AsMany Alike values values' (λ ts. e.computed w (e.intrinsic_value w card f ts)) (λ ns. g.reckoned v (g.intrinsic_weight v f ns)) k
      (λ ts ns m. computed_counts (e.intrinsic_value w card f ts) (g.intrinsic_weight v f ns) (intrinsic_counts card f ts ns m))
  apply_counts card now now' a Reference values values' actuals actuals' k l =
      then Any Alike actuals actuals' (λ xs. call w card (function p.units a) now xs >>= λ c. see (Computed (c.1))) (λ xs. h.◌>>◌ (g.called v (function p.units a) now' xs) (h.weighed (Computed 1))) l
      (λ xs ys m. then Any Alike (call w card (function p.units a) now xs) (g.called v (function p.units a) now' ys) (λ c. see (Computed (c.1))) (λ c. h.weighed (Computed 1))
      (call_counts card (function p.units a) now xs now' ys) (λ c d q. seen Alike (Computed (c.1)) (Computed 1) tt))

  -- two operands are read, and something follows
  both_counts : {A B : Type 0} (Q : A → B → Type 0) (card : ℕ) (x y : See Nil (Operand Nil)) (x' y' : h.Weigh (Operand ℕ)) (f : Nil → Nil → See Nil A) (k : ℕ → ℕ → h.Weigh B)
      → Counted Alike x x' → Counted Alike y y' → ((t r : Nil) (n m : ℕ) → Counted Q (f t r) (k n m))
      → Counted Q (e.valued w card x >>= λ t. e.valued w card y >>= λ r. f t r) (h.◌>>=◌ (g.valued v x') (λ n. h.◌>>=◌ (g.valued v y') (λ m. k n m)))
  both_counts Q card x y x' y' f k l m o =
      then Any Q (e.valued w card x) (g.valued v x') (λ t. e.valued w card y >>= λ r. f t r) (λ n. h.◌>>=◌ (g.valued v y') (λ m. k n m)) (valued_counts card x x' l)
      (λ t n q. then Any Q (e.valued w card y) (g.valued v y') (λ r. f t r) (λ j. k n j) (valued_counts card y y' m) (λ r j q. o t r n j))

  one_counts : {A B : Type 0} (Q : A → B → Type 0) (card : ℕ) (x : See Nil (Operand Nil)) (x' : h.Weigh (Operand ℕ)) (f : Nil → See Nil A) (k : ℕ → h.Weigh B)
      → Counted Alike x x' → ((t : Nil) (n : ℕ) → Counted Q (f t) (k n)) → Counted Q (e.valued w card x >>= λ t. f t) (h.◌>>=◌ (g.valued v x') (λ n. k n))
  one_counts Q card x x' f k l o = then Any Q (e.valued w card x) (g.valued v x') f k (valued_counts card x x' l) (λ t n q. o t n)

  mutual
    operand_counts : (card : ℕ) (now : Named Nil) (now' : Named ℕ) (x : Expr) → Counted Alike (e.operand w card now x) (g.operand v now' x)
    operand_counts card now now' (Const c) = computed_counts (e.constant w card c) (g.constant v c) (constant_counts card c)
    operand_counts card now now' (Truth b) = seen Alike (Computed tt) (Computed 1) tt
    operand_counts card now now' (Var x) = seen Alike (Bare x (now x)) (Bare x (now' x)) tt
    operand_counts card now now' (Apply' a _ args) =
        apply_counts card now now' a (applied u a) (e.values w card now args) (g.values v now' args) (e.operands w card now args) (g.operands v now' args)
        (values_counts card now now' args) (operands_counts card now now' args)
    operand_counts card now now' (Paren' _ (only a)) = computed_counts (e.valued w card (e.operand w card now a)) (g.valued v (g.operand v now' a)) (valued_counts card (e.operand w card now a) (g.operand v now' a) (operand_counts card now now' a))
    operand_counts card now now' (Pos' _ (only a)) = computed_counts (e.valued w card (e.operand w card now a)) (g.valued v (g.operand v now' a)) (valued_counts card (e.operand w card now a) (g.operand v now' a) (operand_counts card now now' a))
    operand_counts card now now' (Neg' _ (only a)) =
        one_counts Alike card (e.operand w card now a) (g.operand v now' a) (λ t. e.computed w (e.ranged w card tt)) (λ n. g.reckoned v (g.ranged v (suc n))) (operand_counts card now now' a)
        (λ t n. computed_counts (e.ranged w card tt) (g.ranged v (suc n)) (ranged_counts card tt (suc n)))
    operand_counts card now now' (Power' _ (only a) k) =
        one_counts Alike card (e.operand w card now a) (g.operand v now' a) (λ t. e.computed w (e.power w card t k)) (λ n. g.reckoned v (g.power v n k)) (operand_counts card now now' a)
        (λ t n. computed_counts (e.power w card t k) (g.power v n k) (power_counts card (pred k) t t n 1))
    operand_counts card now now' (Bin' o _ (only a) _ (only b)) =
        both_counts Alike card (e.operand w card now a) (e.operand w card now b) (g.operand v now' a) (g.operand v now' b)
        (λ t r. e.computed w (e.operate w card o t r)) (λ n m. g.reckoned v (g.operate v o n m)) (operand_counts card now now' a) (operand_counts card now now' b)
        (λ t r n m. computed_counts (e.operate w card o t r) (g.operate v o n m) (operate_counts card o t r n m))
    operand_counts card now now' (Rel' o _ (only a) _ (only b)) =
        both_counts Alike card (e.operand w card now a) (e.operand w card now b) (g.operand v now' a) (g.operand v now' b)
        (λ t r. see (Computed (e.relation w o t r))) (λ n m. h.weighed (Computed (suc (n + m)))) (operand_counts card now now' a) (operand_counts card now now' b)
        (λ t r n m. seen Alike (Computed (e.relation w o t r)) (Computed (suc (n + m))) tt)
    operand_counts card now now' (Not' _ (only a)) =
        one_counts Alike card (e.operand w card now a) (g.operand v now' a) (λ t. see (Computed tt)) (λ n. h.weighed (Computed (suc n))) (operand_counts card now now' a)
        (λ t n. seen Alike (Computed tt) (Computed (suc n)) tt)
    operand_counts card now now' (And' _ (only a) _ (only b)) =
        both_counts Alike card (e.operand w card now a) (e.operand w card now b) (g.operand v now' a) (g.operand v now' b)
        (λ t r. see (Computed tt)) (λ n m. h.weighed (Computed (suc (n + m)))) (operand_counts card now now' a) (operand_counts card now now' b)
        (λ t r n m. seen Alike (Computed tt) (Computed (suc (n + m))) tt)
    operand_counts card now now' (Or' _ (only a) _ (only b)) =
        both_counts Alike card (e.operand w card now a) (e.operand w card now b) (g.operand v now' a) (g.operand v now' b)
        (λ t r. see (Computed tt)) (λ n m. h.weighed (Computed (suc (n + m)))) (operand_counts card now now' a) (operand_counts card now now' b)
        (λ t r n m. seen Alike (Computed tt) (Computed (suc (n + m))) tt)

    values_counts : (card : ℕ) (now : Named Nil) (now' : Named ℕ) {m : Count} (row : Row_of-Expr m) → Counted AsMany (e.values w card now row) (g.values v now' row)
    values_counts card now now' end_of-Expr = λ answers running. (refl, tt)
    values_counts card now now' (more_of-Expr x es) =
        one_counts AsMany card (e.operand w card now x) (g.operand v now' x) (λ t. e.values w card now es >>= λ ts. see (t ∷ ts)) (λ n. h.◌>>=◌ (g.values v now' es) (λ ns. h.weighed (n ∷ ns))) (operand_counts card now now' x)
        (λ t n. then AsMany AsMany (e.values w card now es) (g.values v now' es) (λ ts. see (t ∷ ts)) (λ ns. h.weighed (n ∷ ns)) (values_counts card now now' es)
        (λ ts ns q. seen AsMany (t ∷ ts) (n ∷ ns) q))

    operands_counts : (card : ℕ) (now : Named Nil) (now' : Named ℕ) {m : Count} (row : Row_of-Expr m) → Counted Any (e.operands w card now row) (g.operands v now' row)
    operands_counts card now now' end_of-Expr = λ answers running. (refl, tt)
    operands_counts card now now' (more_of-Expr x es) =
        then Alike Any (e.operand w card now x) (g.operand v now' x) (λ t. e.operands w card now es >>= λ ts. see (t ∷ ts)) (λ n. h.◌>>=◌ (g.operands v now' es) (λ ns. h.weighed (n ∷ ns))) (operand_counts card now now' x)
        (λ t n q. then Any Any (e.operands w card now es) (g.operands v now' es) (λ ts. see (t ∷ ts)) (λ ns. h.weighed (n ∷ ns)) (operands_counts card now now' es)
        (λ ts ns q. seen Any (t ∷ ts) (n ∷ ns) tt))

  value_counts : (card : ℕ) (now : Named Nil) (now' : Named ℕ) (x : Expr) → Counted Any (e.value w card now x) (g.value v now' x)
  value_counts card now now' x = valued_counts card (e.operand w card now x) (g.operand v now' x) (operand_counts card now now' x)

  -- ---- statements

  stays : (now : Named Nil) (now' : Named ℕ) → Counted {A = Named Nil} {B = Named ℕ} Any (see now) (h.weighed now')
  stays now now' answers running = (refl, tt)

  assign_counts : (card : ℕ) (now : Named Nil) (now' : Named ℕ) (left : Expr) (t : Nil) (n : ℕ) → Counted Any (s.assign w card now left t) (g.assign v now' left n)
  assign_counts card now now' (Var x) t n = stays (s.with_name now x t) (s.with_name now' x (suc n))
  assign_counts card now now' (Apply' a _ args) t n =
      then {C = Named Nil} {D = Named ℕ} AsMany Any (e.values w card now args) (g.values v now' args)
      (λ is. e.place_checked w card now (dims_of u a) is >>= λ r. see (s.with_name now a tt))
      (λ js. h.◌>>◌ (h.all_tested (g.subscripts v js (dims_of u a))) (h.weighed (s.with_name now' a (suc (now' a + sum js + n))))) (values_counts card now now' args)
      (λ is js m. placed {A = Named Nil} {B = Named ℕ} Any card now (dims_of u a) is js (λ r. see (s.with_name now a tt)) (h.weighed (s.with_name now' a (suc (now' a + sum js + n)))) m
      (λ r. stays (s.with_name now a tt) (s.with_name now' a (suc (now' a + sum js + n)))))
  assign_counts card now now' (Const c) t n = stays now now'
  assign_counts card now now' (Truth b) t n = stays now now'
  assign_counts card now now' (Paren' _ x) t n = stays now now'
  assign_counts card now now' (Pos' _ x) t n = stays now now'
  assign_counts card now now' (Neg' _ x) t n = stays now now'
  assign_counts card now now' (Power' _ x k) t n = stays now now'
  assign_counts card now now' (Bin' o _ x _ y) t n = stays now now'
  assign_counts card now now' (Rel' o _ x _ y) t n = stays now now'
  assign_counts card now now' (Not' _ x) t n = stays now now'
  assign_counts card now now' (And' _ x _ y) t n = stays now now'
  assign_counts card now now' (Or' _ x _ y) t n = stays now now'

  parameter_counts : (card : ℕ) (now : Named Nil) (now' : Named ℕ) (m : Param) → Counted Any (s.parameter w card now m) (g.parameter v now' m)
  parameter_counts card now now' (param.Fixed c) = constant_counts card c
  parameter_counts card now now' (param.Named x) = read_counts card (now x) (now' x)

  step_counts : (card : ℕ) (now : Named Nil) (now' : Named ℕ) (o : Option Param) → Counted Any (s.step_value w card now o) (g.step_weight v now' o)
  step_counts card now now' None = undefined_counts
  step_counts card now now' (Some m) = parameter_counts card now now' m

  -- a choice is a fact on each way
  choice : {A B : Type 0} (Q : A → B → Type 0) (b : Bool) (t r : Nil) (n : ℕ) (x y : See Nil A) (x' y' : h.Weigh B) → Counted Q x x' → Counted Q y y'
      → Counted Q (cond b (s.taken w t >> x) (s.taken w r >> y)) (h.◌>>◌ (h.decided n) (cond b x' y'))
  choice Q true t r n x y x' y' k l = then Any Q (s.taken w t) (h.decided n) (λ z. x) (λ z. x') (take t (suc n)) (λ a b q. k)
  choice Q false t r n x y x' y' k l = then Any Q (s.taken w r) (h.decided n) (λ z. y) (λ z. y') (take r (suc n)) (λ a b q. l)

  one_choice : {A B : Type 0} (Q : A → B → Type 0) (t : Nil) (n : ℕ) (x : See Nil A) (x' : h.Weigh B) → Counted Q x x' → Counted Q (s.taken w t >> x) (h.◌>>◌ (h.decided n) x')
  one_choice Q t n x x' k = then Any Q (s.taken w t) (h.decided n) (λ z. x) (λ z. x') (take t (suc n)) (λ a b q. k)

  abbrev ByNames : Named Nil → Named ℕ → Type 0
  ByNames now now' = Unit {0}

  tests_counts : (ds : List Loop) (card : ℕ) (now : Named Nil) (now' : Named ℕ) (cs : List ℕ) → Counted ByNames (s.tests w card now ds cs) (g.tests v now' ds cs)
  tests_counts [] card now now' cs = stays now now'
  tests_counts (d ∷ ds) card now now' [] = stays now now'
  tests_counts (d ∷ ds) card now now' (c ∷ cs) =
      then Any ByNames (e.read w card (now d.variable)) (g.read v (now' d.variable))
      (λ i. s.step_value w card now d.step >>= λ by. e.ranged w card tt >>= λ r. s.parameter w card now d.last >>= λ last. on)
      (λ i. h.◌>>=◌ (g.step_weight v now' d.step) (λ by. h.◌>>=◌ (g.ranged v (suc (i + by))) (λ n. h.◌>>=◌ (g.parameter v now' d.last) (λ last. on' n last))))
      (read_counts card (now d.variable) (now' d.variable))
      (λ i i' q. then Any ByNames (s.step_value w card now d.step) (g.step_weight v now' d.step)
      (λ by. e.ranged w card tt >>= λ r. s.parameter w card now d.last >>= λ last. on)
      (λ by. h.◌>>=◌ (g.ranged v (suc (i' + by))) (λ n. h.◌>>=◌ (g.parameter v now' d.last) (λ last. on' n last)))
      (step_counts card now now' d.step)
      (λ by by' q. then Any ByNames (e.ranged w card tt) (g.ranged v (suc (i' + by')))
      (λ r. s.parameter w card now d.last >>= λ last. on)
      (λ n. h.◌>>=◌ (g.parameter v now' d.last) (λ last. on' n last))
      (ranged_counts card tt (suc (i' + by')))
      (λ r n q. then Any ByNames (s.parameter w card now d.last) (g.parameter v now' d.last) (λ last. on) (λ last. on' n last) (parameter_counts card now now' d.last)
      (λ last last' q. choice ByNames (c == 1) tt tt (suc (n + last')) (see (s.with_name now d.variable tt)) (s.tests w card (s.with_name now d.variable (s.left_with w p.dialect tt)) ds cs)
      (h.weighed (s.with_name now' d.variable (suc n))) (g.tests v (s.with_name now' d.variable (g.left_with v p.dialect n)) ds cs)
      (stays (s.with_name now d.variable tt) (s.with_name now' d.variable (suc n)))
      (tests_counts ds card (s.with_name now d.variable (s.left_with w p.dialect tt)) (s.with_name now' d.variable (g.left_with v p.dialect n)) cs)))))
    where
      on : See Nil (Named Nil)
      on = cond (c == 1) (s.taken w tt >> see (s.with_name now d.variable tt)) (s.taken w tt >> s.tests w card (s.with_name now d.variable (s.left_with w p.dialect tt)) ds cs)

      on' : ℕ → ℕ → h.Weigh (Named ℕ)
      on' n last = h.◌>>◌ (h.decided (suc (n + last))) (cond (c == 1) (h.weighed (s.with_name now' d.variable (suc n))) (g.tests v (s.with_name now' d.variable (g.left_with v p.dialect n)) ds cs))

  entered_counts : (card last pc : ℕ) (now : Named Nil) (now' : Named ℕ) (m1 m2 : Nil) (n1 n2 : ℕ) (cs : List ℕ) → Counted ByNames (s.entered w last pc now m1 m2 cs) (g.entered v last pc now' n1 n2 cs)
  entered_counts card last pc now now' m1 m2 n1 n2 [] = stays now now'
  entered_counts card last pc now now' m1 m2 n1 n2 (c ∷ cs) =
      choice ByNames (c == 1) tt tt (n1 + n2) (see now) (s.passed_over w last pc now cs) (h.weighed now') (g.passed_over v last pc now' cs) (stays now now')
      (tests_counts (loops_around u last pc) (card_in (slice_get u.lines last)) now now' cs)

  begin_counts : (dialect : Dialect) (card last pc : ℕ) (now : Named Nil) (now' : Named ℕ) (x : Name) (m1 m2 m3 : Nil) (n1 n2 n3 : ℕ) (cs : List ℕ)
      → Counted ByNames (s.begin w dialect card last pc now x m1 m2 m3 cs) (g.begin v dialect last pc now' x n1 n2 n3 cs)
  begin_counts Common card last pc now now' x m1 m2 m3 n1 n2 n3 cs =
      then Any ByNames (e.checked w LoopCheck card tt) (h.tested (n1 + n2 + n3)) (λ z. see (s.with_name now x m1)) (λ z. h.weighed (s.with_name now' x (suc n1))) (check LoopCheck card tt (n1 + n2 + n3))
      (λ a b q. stays (s.with_name now x m1) (s.with_name now' x (suc n1)))
  begin_counts SeventySeven card last pc now now' x m1 m2 m3 n1 n2 n3 cs =
      then Any ByNames (e.checked w LoopCheck card tt) (h.tested n3) (λ z. e.ranged w card tt >> e.ranged w card tt >> on)
      (λ z. h.◌>>◌ (g.ranged v (suc (n2 + n1))) (h.◌>>◌ (g.ranged v (suc (suc (n2 + n1) + n3))) on')) (check LoopCheck card tt n3)
      (λ a b q. then Any ByNames (e.ranged w card tt) (g.ranged v (suc (n2 + n1))) (λ z. e.ranged w card tt >> on) (λ z. h.◌>>◌ (g.ranged v (suc (suc (n2 + n1) + n3))) on') (ranged_counts card tt (suc (n2 + n1)))
      (λ a b q. then Any ByNames (e.ranged w card tt) (g.ranged v (suc (suc (n2 + n1) + n3))) (λ z. on) (λ z. on') (ranged_counts card tt (suc (suc (n2 + n1) + n3)))
      (λ a b q. entered_counts card last pc (s.with_name now x m1) (s.with_name now' x (suc n1)) m1 m2 n1 n2 cs)))
    where
      on : See Nil (Named Nil)
      on = s.entered w last pc (s.with_name now x m1) m1 m2 cs

      on' : h.Weigh (Named ℕ)
      on' = g.entered v last pc (s.with_name now' x (suc n1)) n1 n2 cs

  behind_counts : (card pc : ℕ) (now : Named Nil) (now' : Named ℕ) (cs : List ℕ) → Counted ByNames (s.behind w card pc now cs) (g.behind v pc now' cs)
  behind_counts card pc now now' cs = tests_counts (loops_at u pc) card now now' cs

  select_counts : (dialect : Dialect) (card pc : ℕ) (now : Named Nil) (now' : Named ℕ) (many : ℕ) (t : Nil) (n c : ℕ) (cs : List ℕ)
      → Counted ByNames (s.select w dialect card pc now many t c cs) (g.select v dialect pc now' many n c cs)
  select_counts Common card pc now now' many t n c cs = one_choice ByNames tt n (see now) (h.weighed now') (stays now now')
  select_counts SeventySeven card pc now now' many t n c cs =
      choice ByNames (c == suc many) tt tt n (s.behind w card pc now cs) (see now) (g.behind v pc now' cs) (h.weighed now') (behind_counts card pc now now' cs) (stays now now')

  selected_counts : (card pc : ℕ) (now : Named Nil) (now' : Named ℕ) (many : ℕ) (t : Nil) (n : ℕ) (cs : List ℕ)
      → Counted ByNames (s.selected w card pc now many t cs) (g.selected v pc now' many n cs)
  selected_counts card pc now now' many t n [] = stays now now'
  selected_counts card pc now now' many t n (c ∷ cs) = select_counts p.dialect card pc now now' many t n c cs

  selector_counts : (dialect : Dialect) (card many : ℕ) (t : Nil) (n : ℕ) → Counted Any (s.choice_check w dialect card many t) (g.selector v dialect n)
  selector_counts Common card many t n = check ChoiceCheck card tt n
  selector_counts SeventySeven card many t n = λ answers running. (refl, tt)

  result_counts : (card : ℕ) (now : Named Nil) (now' : Named ℕ) (b : Bool) → Counted Any (s.result w card now b) (g.result v now' b)
  result_counts card now now' false = λ answers running. (refl, tt)
  result_counts card now now' true = check ResultCheck card tt (now' u.name)

  performed_counts : (card pc : ℕ) (now : Named Nil) (now' : Named ℕ) (stmt : Stmt) (cs : List ℕ) → Counted ByNames (s.performed w card pc now stmt cs) (g.performed v pc now' stmt cs)
  performed_counts card pc now now' (Assign left right) cs =
      then Any ByNames (e.value w card now right) (g.value v now' right) (λ t. s.assign w card now left t >>= λ after. s.behind w card pc after cs) (λ n. h.◌>>=◌ (g.assign v now' left n) (λ after. g.behind v pc after cs))
      (value_counts card now now' right)
      (λ t n q. then ByNames ByNames (s.assign w card now left t) (g.assign v now' left n) (λ after. s.behind w card pc after cs) (λ after. g.behind v pc after cs) (assign_counts card now now' left t n)
      (λ after after' q. behind_counts card pc after after' cs))
  performed_counts card pc now now' (GoTo label) cs = stays now now'
  performed_counts card pc now now' (ComputedGoTo labels x) cs =
      then Any ByNames (e.read w card (now x)) (g.read v (now' x)) (λ t. s.choice_check w p.dialect card (length labels) t >> s.selected w card pc now (length labels) t cs)
      (λ n. h.◌>>◌ (g.selector v p.dialect n) (g.selected v pc now' (length labels) n cs)) (read_counts card (now x) (now' x))
      (λ t n q. then Any ByNames (s.choice_check w p.dialect card (length labels) t) (g.selector v p.dialect n) (λ z. s.selected w card pc now (length labels) t cs) (λ z. g.selected v pc now' (length labels) n cs)
      (selector_counts p.dialect card (length labels) t n) (λ a b q. selected_counts card pc now now' (length labels) t n cs))
  performed_counts card pc now now' (ArithIf x l m n) cs =
      then Any ByNames (e.value w card now x) (g.value v now' x) (λ t. s.taken w tt >> see now) (λ k. h.◌>>◌ (h.decided k) (h.weighed now')) (value_counts card now now' x)
      (λ t k q. one_choice ByNames tt k (see now) (h.weighed now') (stays now now'))
  performed_counts card pc now now' (LogicalIf' x _ (carried stmt)) [] = stays now now'
  performed_counts card pc now now' (LogicalIf' x _ (carried stmt)) (c ∷ cs) =
      then Any ByNames (e.value w card now x) (g.value v now' x) (λ t. cond (c == 1) (s.taken w t >> s.performed w card pc now stmt cs) (s.taken w tt >> s.behind w card pc now cs))
      (λ n. h.◌>>◌ (h.decided n) (cond (c == 1) (g.performed v pc now' stmt cs) (g.behind v pc now' cs))) (value_counts card now now' x)
      (λ t n q. choice ByNames (c == 1) t tt n (s.performed w card pc now stmt cs) (s.behind w card pc now cs) (g.performed v pc now' stmt cs) (g.behind v pc now' cs)
      (performed_counts card pc now now' stmt cs) (behind_counts card pc now now' cs))
  performed_counts card pc now now' (Do label x first last by) cs =
      then Any ByNames (s.parameter w card now first) (g.parameter v now' first)
      (λ m1. s.parameter w card now last >>= λ m2. s.step_value w card now by >>= λ m3. s.begin w p.dialect card (target u.lines label) pc now x m1 m2 m3 cs)
      (λ n1. h.◌>>=◌ (g.parameter v now' last) (λ n2. h.◌>>=◌ (g.step_weight v now' by) (λ n3. g.begin v p.dialect (target u.lines label) pc now' x n1 n2 n3 cs))) (parameter_counts card now now' first)
      (λ m1 n1 q. then Any ByNames (s.parameter w card now last) (g.parameter v now' last)
      (λ m2. s.step_value w card now by >>= λ m3. s.begin w p.dialect card (target u.lines label) pc now x m1 m2 m3 cs)
      (λ n2. h.◌>>=◌ (g.step_weight v now' by) (λ n3. g.begin v p.dialect (target u.lines label) pc now' x n1 n2 n3 cs)) (parameter_counts card now now' last)
      (λ m2 n2 q. then Any ByNames (s.step_value w card now by) (g.step_weight v now' by)
      (λ m3. s.begin w p.dialect card (target u.lines label) pc now x m1 m2 m3 cs) (λ n3. g.begin v p.dialect (target u.lines label) pc now' x n1 n2 n3 cs) (step_counts card now now' by)
      (λ m3 n3 q. begin_counts p.dialect card (target u.lines label) pc now now' x m1 m2 m3 n1 n2 n3 cs)))
  performed_counts card pc now now' Continue cs = behind_counts card pc now now' cs
  performed_counts card pc now now' (Call f args) cs =
      then Any ByNames (e.operands w card now (row_of args)) (g.operands v now' (row_of args)) (λ xs. call w card (subroutine p.units f) now xs >>= λ after. s.behind w card pc (after.0) cs)
      (λ xs. h.◌>>=◌ (g.called v (subroutine p.units f) now' xs) (λ after. g.behind v pc after cs)) (operands_counts card now now' (row_of args))
      (λ xs ys q. then Any ByNames (call w card (subroutine p.units f) now xs) (g.called v (subroutine p.units f) now' ys) (λ after. s.behind w card pc (after.0) cs) (λ after. g.behind v pc after cs)
      (call_counts card (subroutine p.units f) now xs now' ys) (λ after after' q. behind_counts card pc (after.0) after' cs))
  performed_counts card pc now now' Return cs =
      then Any ByNames (s.result w card now (is_function u)) (g.result v now' (is_function u)) (λ z. see now) (λ z. h.weighed now') (result_counts card now now' (is_function u)) (λ a b q. stays now now')
  performed_counts card pc now now' (BlockIf x) cs =
      then Any ByNames (e.value w card now x) (g.value v now' x) (λ t. s.taken w (s.truth_fact w t cs) >> see now) (λ k. h.◌>>◌ (h.decided k) (h.weighed now')) (value_counts card now now' x)
      (λ t k q. one_choice ByNames (s.truth_fact w t cs) k (see now) (h.weighed now') (stays now now'))
  performed_counts card pc now now' (ElseIf x) cs =
      then Any ByNames (e.value w card now x) (g.value v now' x) (λ t. s.taken w (s.truth_fact w t cs) >> see now) (λ k. h.◌>>◌ (h.decided k) (h.weighed now')) (value_counts card now now' x)
      (λ t k q. one_choice ByNames (s.truth_fact w t cs) k (see now) (h.weighed now') (stays now now'))
  performed_counts card pc now now' Else cs = behind_counts card pc now now' cs
  performed_counts card pc now now' EndIf cs = behind_counts card pc now now' cs
  performed_counts card pc now now' (Subroutine f xs) cs = stays now now'
  performed_counts card pc now now' (Function sort f xs) cs = stays now now'
  performed_counts card pc now now' (Declare sort items) cs = stays now now'
  performed_counts card pc now now' (Dimension items) cs = stays now now'
  performed_counts card pc now now' (CommonBlock groups) cs = stays now now'
  performed_counts card pc now now' End cs = stays now now'

  -- ---- paths

  -- as many checks among events as weights
  abbrev Told : List (Event Nil) → h.Weigh Nil → Type 0
  Told es other = (running : ℕ) → length (other running).weights ≡ length (labels es)

  told_then : (es fs : List (Event Nil)) (other next : h.Weigh Nil) → Told es other → Told fs next → Told (es ++ fs) (h.◌>>◌ other next)
  told_then es fs other next k l running =
      length-append (other running).weights (next (other running).running).weights
      ∙ (λ j. k running j + l (other running).running j) ∙ sym (length-append (labels es) (labels fs)) ∙ ap length (sym (labels_append es fs))

  told_checks : (kind : Kind) (card : ℕ) (ts : List Nil) (ns : List ℕ) → AsMany ts ns → Told (checks kind card ts) (h.all_tested ns)
  told_checks kind card ts ns k running = (all_checks kind card ts ns k (λ j x. tt) running).0

  told_takes : (ts : List Nil) (es : List (Event Nil)) (n : ℕ) (other : h.Weigh Nil) → Told es other → Told (takes ts ++ es) (h.◌>>◌ (h.added n) other)
  told_takes ts es n other k running = k (running + n) ∙ ap length (sym (no_labels ts es))

  only_takes : (ts : List Nil) (es : List (Event Nil)) (other : h.Weigh Nil) → Told es other → Told (takes ts ++ es) other
  only_takes ts es other k running = k running ∙ ap length (sym (no_labels ts es))

  abbrev SameClock : Option (List Nil) → Option (List ℕ) → Type 0
  SameClock None None = Unit {0}
  SameClock (Some xs) (Some ys) = Unit {0}
  SameClock _ _ = ⊥

  fall_counts : (card : ℕ) (o : Option (List Nil)) (o' : Option (List ℕ)) (new : List Nil) (new' : List ℕ) → SameClock o o' → Told (walks.fall w card o new) (g.fall v o' new')
  fall_counts card None None new new' k running = refl
  fall_counts card (Some xs) (Some ys) new new' k running = refl
  fall_counts card None (Some ys) new new' k running = absurd k
  fall_counts card (Some xs) None new new' k running = absurd k

  arrive_counts : (clock : Option (List Nil)) (clock' : Option (List ℕ)) (card : ℕ) (cut : Cut) (now : Named Nil) (now' : Named ℕ) (es : List (Event Nil)) (other : h.Weigh Nil) → SameClock clock clock' → Told es other
      → Told (walks.arrive w clock card cut now es) (g.arrive v clock' cut now' other)
  arrive_counts clock clock' card NoCut now now' es other c k = k
  arrive_counts clock clock' card AtEnd now now' es other c k =
      told_checks OutputCheck card (map (note of_nothing (walks.at_entry w) now) (notes_of p i).output) (g.told v now' (notes_of p i).output)
      (as_many_mapped (note of_nothing (walks.at_entry w) now) (note g.of_weights g.all_one now') (notes_of p i).output)
  arrive_counts clock clock' card (AtAssert a) now now' es other c k = λ running.
      told_then (checks AssertCheck a.card terms) (checks ClockCheck a.card parts ++ last) (h.all_tested (g.told v now' a.terms)) (h.◌>>◌ (h.all_tested (g.told v now' a.clock)) last')
      (told_checks AssertCheck a.card terms (g.told v now' a.terms) (as_many_mapped (note of_nothing (walks.at_entry w) now) (note g.of_weights g.all_one now') a.terms))
      (told_then (checks ClockCheck a.card parts) last (h.all_tested (g.told v now' a.clock)) last'
      (told_checks ClockCheck a.card parts (g.told v now' a.clock) (as_many_mapped (λ t. walks.not_negative w (note of_nothing (walks.at_entry w) now t)) (note g.of_weights g.all_one now') a.clock))
      (fall_counts a.card clock clock' (map (note of_nothing (walks.at_entry w) now) a.clock) (g.told v now' a.clock) c)) running
      ∙ ap (λ fs. length (labels fs)) (sym (append_assoc (checks AssertCheck a.card terms) (checks ClockCheck a.card parts) last))
    where
      terms : List Nil
      terms = map (note of_nothing (walks.at_entry w) now) a.terms

      parts : List Nil
      parts = map (λ t. walks.not_negative w (note of_nothing (walks.at_entry w) now t)) a.clock

      last : List (Event Nil)
      last = walks.fall w a.card clock (map (note of_nothing (walks.at_entry w) now) a.clock)

      last' : h.Weigh Nil
      last' = g.fall v clock' (g.told v now' a.clock)

  on_counts : (clock : Option (List Nil)) (clock' : Option (List ℕ)) (card : ℕ) (o : Option ℕ) (now : Named Nil) (now' : Named ℕ) (es : ℕ → List (Event Nil)) (other : ℕ → h.Weigh Nil) → SameClock clock clock'
      → ((q : ℕ) → Told (es q) (other q)) → Told (walks.go_on w clock card o now es) (g.go_on v clock' o now' other)
  on_counts clock clock' card None now now' es other c k = λ running. refl
  on_counts clock clock' card (Some q) now now' es other c k = arrive_counts clock clock' card (cut_at u (notes_of p i) q) now now' (es q) (other q) c (k q)

  line_counts : (clock : Option (List Nil)) (clock' : Option (List ℕ)) (o : Option Line) (pc : ℕ) (now : Named Nil) (now' : Named ℕ) (answers : Answers Nil) (cs : List ℕ)
      (on : ℕ → Named Nil → Answers Nil → List (Event Nil)) (on' : ℕ → Named ℕ → h.Weigh Nil) → SameClock clock clock' → ((q : ℕ) (x : Named Nil) (y : Named ℕ) (rest : Answers Nil) → Told (on q x rest) (on' q y))
      → Told (walks.perform_line w clock o pc now answers cs on) (g.perform_line v clock' o pc now' cs on')
  line_counts clock clock' None pc now now' answers cs on on' c k running = refl
  line_counts clock clock' (Some line) pc now now' answers cs on on' c k running =
      length-append (g.performed v pc now' line.stmt cs running).weights
      (g.go_on v clock' (leads p.dialect u pc line.stmt cs) (g.performed v pc now' line.stmt cs running).value (λ q. on' q (g.performed v pc now' line.stmt cs running).value) (g.performed v pc now' line.stmt cs running).running).weights
      ∙ (λ j. (performed_counts line.card pc now now' line.stmt cs answers running).0 j
      + on_counts clock clock' line.card (leads p.dialect u pc line.stmt cs) (s.performed w line.card pc now line.stmt cs answers).value (g.performed v pc now' line.stmt cs running).value
      (λ q. on q (s.performed w line.card pc now line.stmt cs answers).value (s.performed w line.card pc now line.stmt cs answers).rest)
      (λ q. on' q (g.performed v pc now' line.stmt cs running).value) c
      (λ q. k q (s.performed w line.card pc now line.stmt cs answers).value (g.performed v pc now' line.stmt cs running).value (s.performed w line.card pc now line.stmt cs answers).rest)
      (g.performed v pc now' line.stmt cs running).running j)
      ∙ sym (length-append (labels (s.performed w line.card pc now line.stmt cs answers).events) (labels rest)) ∙ ap length (sym (labels_append (s.performed w line.card pc now line.stmt cs answers).events rest))
    where
      rest : List (Event Nil)
      rest = walks.go_on w clock line.card (leads p.dialect u pc line.stmt cs) (s.performed w line.card pc now line.stmt cs answers).value
          (λ q. on q (s.performed w line.card pc now line.stmt cs answers).value (s.performed w line.card pc now line.stmt cs answers).rest)

  from_counts : (way : List (List ℕ)) (clock : Option (List Nil)) (clock' : Option (List ℕ)) (pc : ℕ) (now : Named Nil) (now' : Named ℕ) (answers : Answers Nil) → SameClock clock clock'
      → Told (walks.walk_from w clock pc now answers way) (g.weigh_from v clock' pc now' way)
  from_counts [] clock clock' pc now now' answers c = λ running. refl
  from_counts (cs ∷ way) clock clock' pc now now' answers c =
      line_counts clock clock' (slice_get u.lines pc) pc now now' answers cs (λ q after rest. walks.walk_from w clock q after rest way) (λ q after. g.weigh_from v clock' q after way) c
      (λ q x y rest. from_counts way clock clock' q x y rest c)

  abbrev answers : Answers Nil
  answers = symbols_of_calls of_nothing

  assert_counts : (o : Option Assertion) (way : List (List ℕ)) → Told (walks.from_assert w answers o way) (g.from_assert v o way)
  assert_counts None way running = refl
  assert_counts (Some a) way running =
      only_takes (walks.entry_facts w) (takes (walks.start_facts w a) ++ go) (h.◌>>◌ (h.added (g.entry_weight v + sum (g.told v g.all_one a.terms) + sum (g.told v g.all_one a.clock))) go')
      (told_takes (walks.start_facts w a) go (g.entry_weight v + sum (g.told v g.all_one a.terms) + sum (g.told v g.all_one a.clock)) go'
      (from_counts way (Some (map (note of_nothing (walks.at_entry w) (walks.at_start w)) a.clock)) (Some (g.told v g.all_one a.clock)) a.point (walks.at_start w) g.all_one answers tt)) running
      ∙ ap (λ fs. length (labels fs)) (sym (append_assoc (takes (walks.entry_facts w)) (takes (walks.start_facts w a)) go))
    where
      go : List (Event Nil)
      go = walks.walk_from w (Some (map (note of_nothing (walks.at_entry w) (walks.at_start w)) a.clock)) a.point (walks.at_start w) answers way

      go' : h.Weigh Nil
      go' = g.weigh_from v (Some (g.told v g.all_one a.clock)) a.point g.all_one way

  start_counts : (k : ℕ) (way : List (List ℕ)) → Told (walks.from_start w answers k way) (g.from_start v k way)
  start_counts zero way =
      told_takes (walks.entry_facts w) (walks.arrive w None 0 (cut_at u (notes_of p i) 0) (walks.at_entry w) (walks.walk_from w None 0 (walks.at_entry w) answers way)) (g.entry_weight v)
      (g.arrive v None (cut_at u (notes_of p i) 0) g.all_one (g.weigh_from v None 0 g.all_one way))
      (arrive_counts None None 0 (cut_at u (notes_of p i) 0) (walks.at_entry w) g.all_one (walks.walk_from w None 0 (walks.at_entry w) answers way) (g.weigh_from v None 0 g.all_one way) tt
      (from_counts way None None 0 (walks.at_entry w) g.all_one answers tt))
  start_counts (suc k) way = assert_counts (slice_get (notes_of p i).asserts k) way

pub weights_have_checks : WeightsHaveChecks
weights_have_checks p i u path = start_counts p i u path.start path.choices 0
