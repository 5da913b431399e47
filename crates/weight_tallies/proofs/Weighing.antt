-- Expressions and statements weigh the same as far as the cap.
use Rattle.std.proofs.Common.{◌≡◌, ℕ, zero, suc, pred, ◌+◌, ◌*◌, Bool, true, false, cond, List, [], ◌∷◌, map, length, take, Option, Some, None, refl, sym, ap, ◌∙◌, subst}
use Rattle.std.specs.Prelude.{nat_lt, ◌==◌, sum}
use mathlib.Core.Former.{Count}
use Rattle.fort_syntax.specs.TreePatterns.{only, carried, row_of}
use Rattle.fort_syntax.specs.Names.{Intrinsic, Absolute, Modulo, Greatest, Least, Applied, Element, BuiltIn, Reference, applied, function, subroutine, is_function, dims_of}
use Rattle.fort_syntax.specs.declared.dialect.BinOp.{BinOp}
use Rattle.fort_syntax.specs.declared.dialect.BinOp.TheVariants.{Add, Sub, Mul, Div}
use Rattle.fort_syntax.specs.declared.dialect.Dialect.{Dialect}
use Rattle.fort_syntax.specs.declared.dialect.Dialect.TheVariants.{Common, SeventySeven}
use Rattle.fort_syntax.specs.declared.expr.Expr.{Expr, Row_of-Expr, end_of-Expr, more_of-Expr}
use Rattle.fort_syntax.specs.declared.expr.Expr.TheVariants.{Const, Truth, Var, Apply', Paren', Pos', Neg', Power', Bin', Rel', Not', And', Or'}
use Rattle.fort_syntax.specs.declared.name.Name.{Name}
use Rattle.fort_syntax.specs.declared.stmt.Dim.{Dim}
use Rattle.fort_syntax.specs.declared.stmt.Param.{Param}
use Rattle.fort_syntax.specs.declared.stmt.Param.TheVariants as param
use Rattle.fort_syntax.specs.declared.stmt.Stmt.{Stmt}
use Rattle.fort_syntax.specs.declared.stmt.Stmt.TheVariants.{Subroutine, Function, Declare, Dimension, Common as CommonBlock, Assign, GoTo, Computed as ComputedGoTo, ArithIf, LogicalIf', Do, Continue, Call, Return, End, BlockIf, ElseIf, Else, EndIf}
use Rattle.fort_syntax.specs.declared.unit.Unit.{Unit as Routine}
use Rattle.fort_model.specs.Flow.{Loop, target, loops_at, loops_around}
use Rattle.fort_model.specs.Program.{Program}
use Rattle.fort_model.specs.Seen.{Named}
use Rattle.fort_model.specs.WalkCalls.{Sight, Operand, Bare, Part, Computed}
use Rattle.fort_model.specs.WalkStmt.{with_name}
use Rattle.path_sizes.specs.Weighed as h
use Rattle.path_sizes.specs.Weights as g
use Rattle.weight_caps.specs.Capped.{capped}
use Rattle.weight_tallies.specs.Tallied as t
use Rattle.weight_tallies.specs.Tallies as c
use Rattle.weight_tallies.proofs.Capping.{Caps, Any, IsCapOf, AreCapsOf, CapNames, then, rests, nothing_done, decides, tests, tests_all, either, cap_next, cap_both, cap_pair, cap_all, cap_one, cap_more, cap_with, cap_factor, cap_first_factor}
use Rattle.weight_tallies.proofs.CapCalls as k
use Rattle.weight_tallies.proofs.CapCalls.{CapOperand, CapOperands, call_capped}

module _ (p : Program) (i : ℕ) (u : Routine) where
  abbrev v : Sight ℕ
  v = k.v p i u

  abbrev w : Sight ℕ
  w = k.w p i u

  -- ---- expressions

  read_capped : (n m : ℕ) → IsCapOf n m → Caps IsCapOf (g.read v n) (c.read m)
  read_capped n m e = then Any IsCapOf (h.tested n) (t.tested m) (λ z. h.weighed n) (λ z. t.tallied m) (tests n m e) (λ a b z. rests IsCapOf n m e)

  operand_read : (x y : Operand ℕ) → CapOperand x y → Caps IsCapOf (g.read_operand v x) (c.read_operand y)
  operand_read (Bare x n) (Bare y m) q = read_capped n m q.1
  operand_read (Part n) (Part m) q = read_capped n m q
  operand_read (Computed n) (Computed m) q = rests IsCapOf n m q
  operand_read (Bare x n) (Part m) q = absurd q
  operand_read (Bare x n) (Computed m) q = absurd q
  operand_read (Part n) (Bare y m) q = absurd q
  operand_read (Part n) (Computed m) q = absurd q
  operand_read (Computed n) (Bare y m) q = absurd q
  operand_read (Computed n) (Part m) q = absurd q

  valued_capped : (x : h.Weigh (Operand ℕ)) (y : t.Tally (Operand ℕ)) → Caps CapOperand x y → Caps IsCapOf (g.valued v x) (c.valued y)
  valued_capped x y e = then CapOperand IsCapOf x y (λ a. g.read_operand v a) (λ b. c.read_operand b) e (λ a b q. operand_read a b q)

  reckoned_capped : (x : h.Weigh ℕ) (y : t.Tally ℕ) → Caps IsCapOf x y → Caps CapOperand (g.reckoned v x) (c.reckoned y)
  reckoned_capped x y e = then IsCapOf CapOperand x y (λ n. h.weighed (Computed n)) (λ m. t.tallied (Computed m)) e (λ n m q. rests CapOperand (Computed n) (Computed m) q)

  one_capped : Caps IsCapOf (h.weighed 1) (t.tallied 1)
  one_capped = rests IsCapOf 1 1 cap_one

  constant_by : (b : Bool) → AreCapsOf (cond b (1 ∷ []) []) (cond b (1 ∷ []) [])
  constant_by true = refl
  constant_by false = refl

  constant_capped : (n : ℕ) → Caps IsCapOf (g.constant v n) (c.constant w n)
  constant_capped n =
      then Any IsCapOf (h.all_tested (cond (nat_lt p.bound n) (1 ∷ []) [])) (t.all_tested (cond (nat_lt p.bound n) (1 ∷ []) [])) (λ z. h.weighed 1) (λ z. t.tallied 1)
      (tests_all (cond (nat_lt p.bound n) (1 ∷ []) []) (cond (nat_lt p.bound n) (1 ∷ []) []) (constant_by (nat_lt p.bound n))) (λ a b z. one_capped)

  pair_read : (a b x y : ℕ) → IsCapOf a x → IsCapOf b y → Caps IsCapOf (g.ranged v (suc (a + b))) (c.read (t.pair x y))
  pair_read a b x y e f = read_capped (suc (a + b)) (t.pair x y) (cap_pair a b x y e f)

  operate_capped : (o : BinOp) (a b x y : ℕ) → IsCapOf a x → IsCapOf b y → Caps IsCapOf (g.operate v o a b) (c.operate o x y)
  operate_capped Add a b x y e f = pair_read a b x y e f
  operate_capped Sub a b x y e f = pair_read a b x y e f
  operate_capped Mul a b x y e f = pair_read a b x y e f
  operate_capped Div a b x y e f =
      then Any IsCapOf (h.tested b) (t.tested y) (λ z. g.ranged v (suc (a + b))) (λ z. c.read (t.pair x y)) (tests b y f) (λ z z' q. pair_read a b x y e f)

  power_capped : (others n base k product : ℕ) → IsCapOf n base → IsCapOf (k * n + k) product → Caps IsCapOf (g.power_from v n k others) (c.power_from base product others)
  power_capped zero n base k product e f = rests IsCapOf (k * n + k) product f
  power_capped (suc others) n base k product e f =
      let q = cap_factor k n base product e f in
      then Any IsCapOf (h.tested (suc k * n + suc k)) (t.tested (t.both product (t.next base))) (λ z. g.power_from v n (suc k) others) (λ z. c.power_from base (t.both product (t.next base)) others)
      (tests (suc k * n + suc k) (t.both product (t.next base)) q) (λ a b z. power_capped others n base (suc k) (t.both product (t.next base)) e q)

  intrinsic_capped : (f : Intrinsic) (ns : List ℕ) → Caps IsCapOf (g.intrinsic_weight v f ns) (c.intrinsic_weight f (map capped ns))
  intrinsic_capped Absolute [] = one_capped
  intrinsic_capped Absolute (a ∷ []) = read_capped (suc a) (t.next (capped a)) (cap_next a (capped a) refl)
  intrinsic_capped Absolute (a ∷ (b ∷ ns)) = one_capped
  intrinsic_capped Modulo [] = one_capped
  intrinsic_capped Modulo (a ∷ []) = one_capped
  intrinsic_capped Modulo (a ∷ (b ∷ [])) =
      then Any IsCapOf (h.tested b) (t.tested (capped b)) (λ z. h.◌>>◌ (g.ranged v (suc (a + b))) (h.weighed (suc (a + b)))) (λ z. t.◌>>◌ (c.read (t.pair (capped a) (capped b))) (t.tallied (t.pair (capped a) (capped b)))) (tests b (capped b) refl)
      (λ z z' q. then IsCapOf IsCapOf (g.ranged v (suc (a + b))) (c.read (t.pair (capped a) (capped b))) (λ z. h.weighed (suc (a + b))) (λ z. t.tallied (t.pair (capped a) (capped b)))
      (pair_read a b (capped a) (capped b) refl refl) (λ n m q. rests IsCapOf (suc (a + b)) (t.pair (capped a) (capped b)) (cap_pair a b (capped a) (capped b) refl refl)))
  intrinsic_capped Modulo (a ∷ (b ∷ (d ∷ ns))) = one_capped
  intrinsic_capped Greatest [] = one_capped
  intrinsic_capped Greatest (a ∷ ns) = rests IsCapOf (suc (sum (a ∷ ns))) (t.next (t.all (map capped (a ∷ ns)))) (cap_next (sum (a ∷ ns)) (t.all (map capped (a ∷ ns))) (cap_all (a ∷ ns) (map capped (a ∷ ns)) refl))
  intrinsic_capped Least [] = one_capped
  intrinsic_capped Least (a ∷ ns) = rests IsCapOf (suc (sum (a ∷ ns))) (t.next (t.all (map capped (a ∷ ns)))) (cap_next (sum (a ∷ ns)) (t.all (map capped (a ∷ ns))) (cap_all (a ∷ ns) (map capped (a ∷ ns)) refl))

  intrinsic_caps : (f : Intrinsic) (ns ms : List ℕ) → AreCapsOf ns ms → Caps IsCapOf (g.intrinsic_weight v f ns) (c.intrinsic_weight f ms)
  intrinsic_caps f ns ms e = let T : List ℕ → Type 0 = λ xs. Caps IsCapOf (g.intrinsic_weight v f ns) (c.intrinsic_weight f xs) in subst T (sym e) (intrinsic_capped f ns)

  subscripts_mapped : (is : List ℕ) (dims : List Dim) → take (length dims) (map capped is) ≡ map capped (g.subscripts v is dims)
  subscripts_mapped [] [] = refl
  subscripts_mapped [] (d ∷ ds) = refl
  subscripts_mapped (n ∷ is) [] = refl
  subscripts_mapped (n ∷ is) (d ∷ ds) = ap (λ ks. capped n ∷ ks) (subscripts_mapped is ds)

  subscripts_capped : (is js : List ℕ) (dims : List Dim) → AreCapsOf is js → AreCapsOf (g.subscripts v is dims) (take (length dims) js)
  subscripts_capped is js dims e = ap (take (length dims)) e ∙ subscripts_mapped is dims

  -- subscripts are tested, and something follows
  placed : {A B : Type 0} (Q : A → B → Type 0) (dims : List Dim) (is js : List ℕ) (f : h.Weigh A) (r : t.Tally B) → AreCapsOf is js → Caps Q f r
      → Caps Q (h.◌>>◌ (h.all_tested (g.subscripts v is dims)) f) (t.◌>>◌ (t.all_tested (take (length dims) js)) r)
  placed Q dims is js f r e m =
      then Any Q (h.all_tested (g.subscripts v is dims)) (t.all_tested (take (length dims) js)) (λ z. f) (λ z. r) (tests_all (g.subscripts v is dims) (take (length dims) js) (subscripts_capped is js dims e)) (λ a b q. m)

  apply_capped : (now now' : Named ℕ) (a : Name) (o : Applied) (values : h.Weigh (List ℕ)) (values' : t.Tally (List ℕ)) (actuals : h.Weigh (List (Operand ℕ))) (actuals' : t.Tally (List (Operand ℕ)))
      → CapNames now now' → Caps AreCapsOf values values' → Caps CapOperands actuals actuals' → Caps CapOperand (g.apply_weight v now a o values actuals) (c.apply_weight w now' a o values' actuals')
  apply_capped now now' a (Element dims) values values' actuals actuals' e l m =
      then AreCapsOf CapOperand values values' (λ is. h.◌>>◌ (h.all_tested (g.subscripts v is dims)) (h.weighed (Part (suc (now a + sum is)))))
      (λ js. t.◌>>◌ (t.all_tested (take (length dims) js)) (t.tallied (Part (t.next (t.both (now' a) (t.all js)))))) l
      (λ is js q. placed CapOperand dims is js (h.weighed (Part (suc (now a + sum is)))) (t.tallied (Part (t.next (t.both (now' a) (t.all js))))) q
      (rests CapOperand (Part (suc (now a + sum is))) (Part (t.next (t.both (now' a) (t.all js)))) (cap_pair (now a) (sum is) (now' a) (t.all js) (e a) (cap_all is js q))))
  apply_capped now now' a (BuiltIn f) values values' actuals actuals' e l m =
      then AreCapsOf CapOperand values values' (λ ns. g.reckoned v (g.intrinsic_weight v f ns)) (λ ms. c.reckoned (c.intrinsic_weight f ms)) l
      (λ ns ms q. reckoned_capped (g.intrinsic_weight v f ns) (c.intrinsic_weight f ms) (intrinsic_caps f ns ms q))
  apply_capped now now' a Reference values values' actuals actuals' e l m =
      then CapOperands CapOperand actuals actuals' (λ xs. h.◌>>◌ (g.called v (function p.units a) now xs) (h.weighed (Computed 1))) (λ xs. t.◌>>◌ (c.called w (function p.units a) now' xs) (t.tallied (Computed 1))) m
      (λ xs ys q. then CapNames CapOperand (g.called v (function p.units a) now xs) (c.called w (function p.units a) now' ys) (λ z. h.weighed (Computed 1)) (λ z. t.tallied (Computed 1))
      (call_capped p i u (function p.units a) now now' xs ys e q) (λ z z' r. rests CapOperand (Computed 1) (Computed 1) cap_one))

  -- operands are read, and something follows
  one_more : {A B : Type 0} (Q : A → B → Type 0) (x : h.Weigh (Operand ℕ)) (x' : t.Tally (Operand ℕ)) (f : ℕ → h.Weigh A) (r : ℕ → t.Tally B)
      → Caps CapOperand x x' → ((n m : ℕ) → IsCapOf n m → Caps Q (f n) (r m)) → Caps Q (h.◌>>=◌ (g.valued v x) f) (t.◌>>=◌ (c.valued x') r)
  one_more Q x x' f r e m = then IsCapOf Q (g.valued v x) (c.valued x') f r (valued_capped x x' e) m

  two_more : {A B : Type 0} (Q : A → B → Type 0) (x y : h.Weigh (Operand ℕ)) (x' y' : t.Tally (Operand ℕ)) (f : ℕ → ℕ → h.Weigh A) (r : ℕ → ℕ → t.Tally B)
      → Caps CapOperand x x' → Caps CapOperand y y' → ((n m n' m' : ℕ) → IsCapOf n n' → IsCapOf m m' → Caps Q (f n m) (r n' m'))
      → Caps Q (h.◌>>=◌ (g.valued v x) (λ n. h.◌>>=◌ (g.valued v y) (λ m. f n m))) (t.◌>>=◌ (c.valued x') (λ n. t.◌>>=◌ (c.valued y') (λ m. r n m)))
  two_more Q x y x' y' f r e d m =
      one_more Q x x' (λ n. h.◌>>=◌ (g.valued v y) (λ j. f n j)) (λ n. t.◌>>=◌ (c.valued y') (λ j. r n j)) e
      (λ n n' q. one_more Q y y' (λ j. f n j) (λ j. r n' j) d (λ j j' o. m n j n' j' q o))

  computed_pair : (n m n' m' : ℕ) → IsCapOf n n' → IsCapOf m m' → Caps CapOperand (h.weighed (Computed (suc (n + m)))) (t.tallied (Computed (t.pair n' m')))
  computed_pair n m n' m' q o = rests CapOperand (Computed (suc (n + m))) (Computed (t.pair n' m')) (cap_pair n m n' m' q o)

  mutual
    operand_capped : (now now' : Named ℕ) → CapNames now now' → (x : Expr) → Caps CapOperand (g.operand v now x) (c.operand w now' x)
    operand_capped now now' e (Const n) = reckoned_capped (g.constant v n) (c.constant w n) (constant_capped n)
    operand_capped now now' e (Truth b) = rests CapOperand (Computed 1) (Computed 1) cap_one
    operand_capped now now' e (Var x) = rests CapOperand (Bare x (now x)) (Bare x (now' x)) (refl, e x)
    operand_capped now now' e (Apply' a _ args) =
        apply_capped now now' a (applied u a) (g.values v now args) (c.values w now' args) (g.operands v now args) (c.operands w now' args) e (values_capped now now' e args) (operands_capped now now' e args)
    operand_capped now now' e (Paren' _ (only a)) = reckoned_capped (g.valued v (g.operand v now a)) (c.valued (c.operand w now' a)) (valued_capped (g.operand v now a) (c.operand w now' a) (operand_capped now now' e a))
    operand_capped now now' e (Pos' _ (only a)) = reckoned_capped (g.valued v (g.operand v now a)) (c.valued (c.operand w now' a)) (valued_capped (g.operand v now a) (c.operand w now' a) (operand_capped now now' e a))
    operand_capped now now' e (Neg' _ (only a)) =
        one_more CapOperand (g.operand v now a) (c.operand w now' a) (λ n. g.reckoned v (g.ranged v (suc n))) (λ m. c.reckoned (c.read (t.next m))) (operand_capped now now' e a)
        (λ n m q. reckoned_capped (g.ranged v (suc n)) (c.read (t.next m)) (read_capped (suc n) (t.next m) (cap_next n m q)))
    operand_capped now now' e (Power' _ (only a) j) =
        one_more CapOperand (g.operand v now a) (c.operand w now' a) (λ n. g.reckoned v (g.power v n j)) (λ m. c.reckoned (c.power m j)) (operand_capped now now' e a)
        (λ n m q. reckoned_capped (g.power v n j) (c.power m j) (power_capped (pred j) n m 1 (t.next m) q (cap_first_factor n m q)))
    operand_capped now now' e (Bin' o _ (only a) _ (only b)) =
        two_more CapOperand (g.operand v now a) (g.operand v now b) (c.operand w now' a) (c.operand w now' b) (λ n m. g.reckoned v (g.operate v o n m)) (λ n m. c.reckoned (c.operate o n m))
        (operand_capped now now' e a) (operand_capped now now' e b) (λ n m n' m' q r. reckoned_capped (g.operate v o n m) (c.operate o n' m') (operate_capped o n m n' m' q r))
    operand_capped now now' e (Rel' o _ (only a) _ (only b)) =
        two_more CapOperand (g.operand v now a) (g.operand v now b) (c.operand w now' a) (c.operand w now' b) (λ n m. h.weighed (Computed (suc (n + m)))) (λ n m. t.tallied (Computed (t.pair n m)))
        (operand_capped now now' e a) (operand_capped now now' e b) computed_pair
    operand_capped now now' e (Not' _ (only a)) =
        one_more CapOperand (g.operand v now a) (c.operand w now' a) (λ n. h.weighed (Computed (suc n))) (λ m. t.tallied (Computed (t.next m))) (operand_capped now now' e a)
        (λ n m q. rests CapOperand (Computed (suc n)) (Computed (t.next m)) (cap_next n m q))
    operand_capped now now' e (And' _ (only a) _ (only b)) =
        two_more CapOperand (g.operand v now a) (g.operand v now b) (c.operand w now' a) (c.operand w now' b) (λ n m. h.weighed (Computed (suc (n + m)))) (λ n m. t.tallied (Computed (t.pair n m)))
        (operand_capped now now' e a) (operand_capped now now' e b) computed_pair
    operand_capped now now' e (Or' _ (only a) _ (only b)) =
        two_more CapOperand (g.operand v now a) (g.operand v now b) (c.operand w now' a) (c.operand w now' b) (λ n m. h.weighed (Computed (suc (n + m)))) (λ n m. t.tallied (Computed (t.pair n m)))
        (operand_capped now now' e a) (operand_capped now now' e b) computed_pair

    values_capped : (now now' : Named ℕ) → CapNames now now' → {m : Count} (row : Row_of-Expr m) → Caps AreCapsOf (g.values v now row) (c.values w now' row)
    values_capped now now' e end_of-Expr = rests AreCapsOf [] [] refl
    values_capped now now' e (more_of-Expr x es) =
        one_more AreCapsOf (g.operand v now x) (c.operand w now' x) (λ n. h.◌>>=◌ (g.values v now es) (λ ns. h.weighed (n ∷ ns))) (λ n. t.◌>>=◌ (c.values w now' es) (λ ns. t.tallied (n ∷ ns))) (operand_capped now now' e x)
        (λ n n' q. then AreCapsOf AreCapsOf (g.values v now es) (c.values w now' es) (λ ns. h.weighed (n ∷ ns)) (λ ns. t.tallied (n' ∷ ns)) (values_capped now now' e es)
        (λ ns ms r. rests AreCapsOf (n ∷ ns) (n' ∷ ms) (cap_more n n' ns ms q r)))

    operands_capped : (now now' : Named ℕ) → CapNames now now' → {m : Count} (row : Row_of-Expr m) → Caps CapOperands (g.operands v now row) (c.operands w now' row)
    operands_capped now now' e end_of-Expr = rests CapOperands [] [] tt
    operands_capped now now' e (more_of-Expr x es) =
        then CapOperand CapOperands (g.operand v now x) (c.operand w now' x) (λ y. h.◌>>=◌ (g.operands v now es) (λ ys. h.weighed (y ∷ ys))) (λ y. t.◌>>=◌ (c.operands w now' es) (λ ys. t.tallied (y ∷ ys))) (operand_capped now now' e x)
        (λ y y' q. then CapOperands CapOperands (g.operands v now es) (c.operands w now' es) (λ ys. h.weighed (y ∷ ys)) (λ ys. t.tallied (y' ∷ ys)) (operands_capped now now' e es)
        (λ ys zs r. rests CapOperands (y ∷ ys) (y' ∷ zs) (q, r)))

  value_capped : (now now' : Named ℕ) → CapNames now now' → (x : Expr) → Caps IsCapOf (g.value v now x) (c.value w now' x)
  value_capped now now' e x = valued_capped (g.operand v now x) (c.operand w now' x) (operand_capped now now' e x)

  -- ---- statements

  stays : (now now' : Named ℕ) → CapNames now now' → Caps CapNames (h.weighed now) (t.tallied now')
  stays now now' e = rests CapNames now now' e

  assign_capped : (now now' : Named ℕ) → CapNames now now' → (left : Expr) (n m : ℕ) → IsCapOf n m → Caps CapNames (g.assign v now left n) (c.assign w now' left m)
  assign_capped now now' e (Var x) n m q = stays (with_name now x (suc n)) (with_name now' x (t.next m)) (cap_with now now' x (suc n) (t.next m) e (cap_next n m q))
  assign_capped now now' e (Apply' a _ args) n m q =
      then AreCapsOf CapNames (g.values v now args) (c.values w now' args)
      (λ is. h.◌>>◌ (h.all_tested (g.subscripts v is (dims_of u a))) (h.weighed (with_name now a (suc (now a + sum is + n)))))
      (λ js. t.◌>>◌ (t.all_tested (take (length (dims_of u a)) js)) (t.tallied (with_name now' a (t.next (t.both (t.both (now' a) (t.all js)) m))))) (values_capped now now' e args)
      (λ is js r. placed CapNames (dims_of u a) is js (h.weighed (with_name now a (suc (now a + sum is + n)))) (t.tallied (with_name now' a (t.next (t.both (t.both (now' a) (t.all js)) m)))) r
      (stays (with_name now a (suc (now a + sum is + n))) (with_name now' a (t.next (t.both (t.both (now' a) (t.all js)) m)))
      (cap_with now now' a (suc (now a + sum is + n)) (t.next (t.both (t.both (now' a) (t.all js)) m)) e
      (cap_pair (now a + sum is) n (t.both (now' a) (t.all js)) m (cap_both (now a) (sum is) (now' a) (t.all js) (e a) (cap_all is js r)) q))))
  assign_capped now now' e (Const j) n m q = stays now now' e
  assign_capped now now' e (Truth b) n m q = stays now now' e
  assign_capped now now' e (Paren' _ x) n m q = stays now now' e
  assign_capped now now' e (Pos' _ x) n m q = stays now now' e
  assign_capped now now' e (Neg' _ x) n m q = stays now now' e
  assign_capped now now' e (Power' _ x j) n m q = stays now now' e
  assign_capped now now' e (Bin' o _ x _ y) n m q = stays now now' e
  assign_capped now now' e (Rel' o _ x _ y) n m q = stays now now' e
  assign_capped now now' e (Not' _ x) n m q = stays now now' e
  assign_capped now now' e (And' _ x _ y) n m q = stays now now' e
  assign_capped now now' e (Or' _ x _ y) n m q = stays now now' e

  parameter_capped : (now now' : Named ℕ) → CapNames now now' → (m : Param) → Caps IsCapOf (g.parameter v now m) (c.parameter w now' m)
  parameter_capped now now' e (param.Fixed n) = constant_capped n
  parameter_capped now now' e (param.Named x) = read_capped (now x) (now' x) (e x)

  step_capped : (now now' : Named ℕ) → CapNames now now' → (o : Option Param) → Caps IsCapOf (g.step_weight v now o) (c.step_weight w now' o)
  step_capped now now' e None = one_capped
  step_capped now now' e (Some m) = parameter_capped now now' e m

  left_capped : (dialect : Dialect) (n m : ℕ) → IsCapOf n m → IsCapOf (g.left_with v dialect n) (c.left_with dialect m)
  left_capped Common n m q = cap_one
  left_capped SeventySeven n m q = cap_next n m q

  -- something is decided, and something follows
  choice : {A B : Type 0} (Q : A → B → Type 0) (n m : ℕ) (x : h.Weigh A) (y : t.Tally B) → IsCapOf n m → Caps Q x y → Caps Q (h.◌>>◌ (h.decided n) x) (t.◌>>◌ (t.decided m) y)
  choice Q n m x y e r = then Any Q (h.decided n) (t.decided m) (λ z. x) (λ z. y) (decides n m e) (λ a b q. r)

  tests_capped : (ds : List Loop) (now now' : Named ℕ) → CapNames now now' → (cs : List ℕ) → Caps CapNames (g.tests v now ds cs) (c.tests w now' ds cs)
  tests_capped [] now now' e cs = stays now now' e
  tests_capped (d ∷ ds) now now' e [] = stays now now' e
  tests_capped (d ∷ ds) now now' e (j ∷ cs) =
      then IsCapOf CapNames (g.read v (now d.variable)) (c.read (now' d.variable))
      (λ n. h.◌>>=◌ (g.step_weight v now d.step) (λ by. h.◌>>=◌ (g.ranged v (suc (n + by))) (λ s. h.◌>>=◌ (g.parameter v now d.last) (λ last. on s last))))
      (λ n. t.◌>>=◌ (c.step_weight w now' d.step) (λ by. t.◌>>=◌ (c.read (t.pair n by)) (λ s. t.◌>>=◌ (c.parameter w now' d.last) (λ last. on' s last))))
      (read_capped (now d.variable) (now' d.variable) (e d.variable))
      (λ n n' q. then IsCapOf CapNames (g.step_weight v now d.step) (c.step_weight w now' d.step)
      (λ by. h.◌>>=◌ (g.ranged v (suc (n + by))) (λ s. h.◌>>=◌ (g.parameter v now d.last) (λ last. on s last)))
      (λ by. t.◌>>=◌ (c.read (t.pair n' by)) (λ s. t.◌>>=◌ (c.parameter w now' d.last) (λ last. on' s last)))
      (step_capped now now' e d.step)
      (λ by by' r. then IsCapOf CapNames (g.ranged v (suc (n + by))) (c.read (t.pair n' by'))
      (λ s. h.◌>>=◌ (g.parameter v now d.last) (λ last. on s last)) (λ s. t.◌>>=◌ (c.parameter w now' d.last) (λ last. on' s last))
      (pair_read n by n' by' q r)
      (λ s s' o. then IsCapOf CapNames (g.parameter v now d.last) (c.parameter w now' d.last) (λ last. on s last) (λ last. on' s' last) (parameter_capped now now' e d.last)
      (λ last last' f. choice CapNames (suc (s + last)) (t.pair s' last') (tail s) (tail' s') (cap_pair s last s' last' o f)
      (either CapNames (j == 1) (h.weighed (with_name now d.variable (suc s))) (g.tests v (with_name now d.variable (g.left_with v p.dialect s)) ds cs)
      (t.tallied (with_name now' d.variable (t.next s'))) (c.tests w (with_name now' d.variable (c.left_with p.dialect s')) ds cs)
      (stays (with_name now d.variable (suc s)) (with_name now' d.variable (t.next s')) (cap_with now now' d.variable (suc s) (t.next s') e (cap_next s s' o)))
      (tests_capped ds (with_name now d.variable (g.left_with v p.dialect s)) (with_name now' d.variable (c.left_with p.dialect s'))
      (cap_with now now' d.variable (g.left_with v p.dialect s) (c.left_with p.dialect s') e (left_capped p.dialect s s' o)) cs))))))
    where
      tail : ℕ → h.Weigh (Named ℕ)
      tail s = cond (j == 1) (h.weighed (with_name now d.variable (suc s))) (g.tests v (with_name now d.variable (g.left_with v p.dialect s)) ds cs)

      tail' : ℕ → t.Tally (Named ℕ)
      tail' s = cond (j == 1) (t.tallied (with_name now' d.variable (t.next s))) (c.tests w (with_name now' d.variable (c.left_with p.dialect s)) ds cs)

      on : ℕ → ℕ → h.Weigh (Named ℕ)
      on s last = h.◌>>◌ (h.decided (suc (s + last))) (tail s)

      on' : ℕ → ℕ → t.Tally (Named ℕ)
      on' s last = t.◌>>◌ (t.decided (t.pair s last)) (tail' s)

  behind_capped : (pc : ℕ) (now now' : Named ℕ) → CapNames now now' → (cs : List ℕ) → Caps CapNames (g.behind v pc now cs) (c.behind w pc now' cs)
  behind_capped pc now now' e cs = tests_capped (loops_at u pc) now now' e cs

  entered_capped : (last pc : ℕ) (now now' : Named ℕ) → CapNames now now' → (n1 n2 m1 m2 : ℕ) → IsCapOf n1 m1 → IsCapOf n2 m2 → (cs : List ℕ) → Caps CapNames (g.entered v last pc now n1 n2 cs) (c.entered w last pc now' m1 m2 cs)
  entered_capped last pc now now' e n1 n2 m1 m2 q r [] = stays now now' e
  entered_capped last pc now now' e n1 n2 m1 m2 q r (j ∷ cs) =
      choice CapNames (n1 + n2) (t.both m1 m2) (cond (j == 1) (h.weighed now) (g.passed_over v last pc now cs)) (cond (j == 1) (t.tallied now') (c.passed_over w last pc now' cs)) (cap_both n1 n2 m1 m2 q r)
      (either CapNames (j == 1) (h.weighed now) (g.passed_over v last pc now cs) (t.tallied now') (c.passed_over w last pc now' cs) (stays now now' e) (tests_capped (loops_around u last pc) now now' e cs))

  begin_capped : (dialect : Dialect) (last pc : ℕ) (now now' : Named ℕ) → CapNames now now' → (x : Name) (n1 n2 n3 m1 m2 m3 : ℕ) → IsCapOf n1 m1 → IsCapOf n2 m2 → IsCapOf n3 m3 → (cs : List ℕ)
      → Caps CapNames (g.begin v dialect last pc now x n1 n2 n3 cs) (c.begin w dialect last pc now' x m1 m2 m3 cs)
  begin_capped Common last pc now now' e x n1 n2 n3 m1 m2 m3 q r s cs =
      then Any CapNames (h.tested (n1 + n2 + n3)) (t.tested (t.both (t.both m1 m2) m3)) (λ z. h.weighed (with_name now x (suc n1))) (λ z. t.tallied (with_name now' x (t.next m1)))
      (tests (n1 + n2 + n3) (t.both (t.both m1 m2) m3) (cap_both (n1 + n2) n3 (t.both m1 m2) m3 (cap_both n1 n2 m1 m2 q r) s))
      (λ a b z. stays (with_name now x (suc n1)) (with_name now' x (t.next m1)) (cap_with now now' x (suc n1) (t.next m1) e (cap_next n1 m1 q)))
  begin_capped SeventySeven last pc now now' e x n1 n2 n3 m1 m2 m3 q r s cs =
      then Any CapNames (h.tested n3) (t.tested m3)
      (λ z. h.◌>>◌ (g.ranged v (suc (n2 + n1))) (h.◌>>◌ (g.ranged v (suc (suc (n2 + n1) + n3))) on))
      (λ z. t.◌>>◌ (c.read (t.pair m2 m1)) (t.◌>>◌ (c.read (t.pair (t.pair m2 m1) m3)) on')) (tests n3 m3 s)
      (λ a b z. then IsCapOf CapNames (g.ranged v (suc (n2 + n1))) (c.read (t.pair m2 m1)) (λ z. h.◌>>◌ (g.ranged v (suc (suc (n2 + n1) + n3))) on) (λ z. t.◌>>◌ (c.read (t.pair (t.pair m2 m1) m3)) on')
      (pair_read n2 n1 m2 m1 r q)
      (λ a b z. then IsCapOf CapNames (g.ranged v (suc (suc (n2 + n1) + n3))) (c.read (t.pair (t.pair m2 m1) m3)) (λ z. on) (λ z. on')
      (pair_read (suc (n2 + n1)) n3 (t.pair m2 m1) m3 (cap_pair n2 n1 m2 m1 r q) s)
      (λ a b z. entered_capped last pc (with_name now x (suc n1)) (with_name now' x (t.next m1)) (cap_with now now' x (suc n1) (t.next m1) e (cap_next n1 m1 q)) n1 n2 m1 m2 q r cs)))
    where
      on : h.Weigh (Named ℕ)
      on = g.entered v last pc (with_name now x (suc n1)) n1 n2 cs

      on' : t.Tally (Named ℕ)
      on' = c.entered w last pc (with_name now' x (t.next m1)) m1 m2 cs

  select_capped : (dialect : Dialect) (pc : ℕ) (now now' : Named ℕ) → CapNames now now' → (labels n m : ℕ) → IsCapOf n m → (j : ℕ) (cs : List ℕ) → Caps CapNames (g.select v dialect pc now labels n j cs) (c.select w dialect pc now' labels m j cs)
  select_capped Common pc now now' e labels n m q j cs = choice CapNames n m (h.weighed now) (t.tallied now') q (stays now now' e)
  select_capped SeventySeven pc now now' e labels n m q j cs =
      choice CapNames n m (cond (j == suc labels) (g.behind v pc now cs) (h.weighed now)) (cond (j == suc labels) (c.behind w pc now' cs) (t.tallied now')) q
      (either CapNames (j == suc labels) (g.behind v pc now cs) (h.weighed now) (c.behind w pc now' cs) (t.tallied now') (behind_capped pc now now' e cs) (stays now now' e))

  selected_capped : (pc : ℕ) (now now' : Named ℕ) → CapNames now now' → (labels n m : ℕ) → IsCapOf n m → (cs : List ℕ) → Caps CapNames (g.selected v pc now labels n cs) (c.selected w pc now' labels m cs)
  selected_capped pc now now' e labels n m q [] = stays now now' e
  selected_capped pc now now' e labels n m q (j ∷ cs) = select_capped p.dialect pc now now' e labels n m q j cs

  selector_capped : (dialect : Dialect) (n m : ℕ) → IsCapOf n m → Caps Any (g.selector v dialect n) (c.selector dialect m)
  selector_capped Common n m q = tests n m q
  selector_capped SeventySeven n m q = nothing_done

  result_capped : (now now' : Named ℕ) → CapNames now now' → (b : Bool) → Caps Any (g.result v now b) (c.result w now' b)
  result_capped now now' e false = nothing_done
  result_capped now now' e true = tests (now u.name) (now' u.name) (e u.name)

  judged_capped : {A B : Type 0} (Q : A → B → Type 0) (now now' : Named ℕ) → CapNames now now' → (x : Expr) (f : h.Weigh A) (r : t.Tally B) → Caps Q f r
      → Caps Q (h.◌>>=◌ (g.value v now x) (λ n. h.◌>>◌ (h.decided n) f)) (t.◌>>◌ (c.judged w now' x) r)
  judged_capped Q now now' e x f r m =
      then IsCapOf Q (g.value v now x) (c.value w now' x) (λ n. h.◌>>◌ (h.decided n) f) (λ n. t.◌>>◌ (t.decided n) r) (value_capped now now' e x) (λ n n' q. choice Q n n' f r q m)

  pub performed_capped : (pc : ℕ) (now now' : Named ℕ) → CapNames now now' → (stmt : Stmt) (cs : List ℕ) → Caps CapNames (g.performed v pc now stmt cs) (c.performed w pc now' stmt cs)
  performed_capped pc now now' e (Assign left right) cs =
      then IsCapOf CapNames (g.value v now right) (c.value w now' right) (λ n. h.◌>>=◌ (g.assign v now left n) (λ after. g.behind v pc after cs)) (λ n. t.◌>>=◌ (c.assign w now' left n) (λ after. c.behind w pc after cs))
      (value_capped now now' e right)
      (λ n m q. then CapNames CapNames (g.assign v now left n) (c.assign w now' left m) (λ after. g.behind v pc after cs) (λ after. c.behind w pc after cs) (assign_capped now now' e left n m q)
      (λ after after' r. behind_capped pc after after' r cs))
  performed_capped pc now now' e (GoTo label) cs = stays now now' e
  performed_capped pc now now' e (ComputedGoTo labels x) cs =
      then IsCapOf CapNames (g.read v (now x)) (c.read (now' x)) (λ n. h.◌>>◌ (g.selector v p.dialect n) (g.selected v pc now (length labels) n cs))
      (λ n. t.◌>>◌ (c.selector p.dialect n) (c.selected w pc now' (length labels) n cs)) (read_capped (now x) (now' x) (e x))
      (λ n m q. then Any CapNames (g.selector v p.dialect n) (c.selector p.dialect m) (λ z. g.selected v pc now (length labels) n cs) (λ z. c.selected w pc now' (length labels) m cs)
      (selector_capped p.dialect n m q) (λ a b z. selected_capped pc now now' e (length labels) n m q cs))
  performed_capped pc now now' e (ArithIf x l m n) cs = judged_capped CapNames now now' e x (h.weighed now) (t.tallied now') (stays now now' e)
  performed_capped pc now now' e (LogicalIf' x _ (carried stmt)) [] = stays now now' e
  performed_capped pc now now' e (LogicalIf' x _ (carried stmt)) (j ∷ cs) =
      judged_capped CapNames now now' e x (cond (j == 1) (g.performed v pc now stmt cs) (g.behind v pc now cs)) (cond (j == 1) (c.performed w pc now' stmt cs) (c.behind w pc now' cs))
      (either CapNames (j == 1) (g.performed v pc now stmt cs) (g.behind v pc now cs) (c.performed w pc now' stmt cs) (c.behind w pc now' cs) (performed_capped pc now now' e stmt cs) (behind_capped pc now now' e cs))
  performed_capped pc now now' e (Do label x first last by) cs =
      then IsCapOf CapNames (g.parameter v now first) (c.parameter w now' first)
      (λ n1. h.◌>>=◌ (g.parameter v now last) (λ n2. h.◌>>=◌ (g.step_weight v now by) (λ n3. g.begin v p.dialect (target u.lines label) pc now x n1 n2 n3 cs)))
      (λ n1. t.◌>>=◌ (c.parameter w now' last) (λ n2. t.◌>>=◌ (c.step_weight w now' by) (λ n3. c.begin w p.dialect (target u.lines label) pc now' x n1 n2 n3 cs))) (parameter_capped now now' e first)
      (λ n1 m1 q. then IsCapOf CapNames (g.parameter v now last) (c.parameter w now' last)
      (λ n2. h.◌>>=◌ (g.step_weight v now by) (λ n3. g.begin v p.dialect (target u.lines label) pc now x n1 n2 n3 cs))
      (λ n2. t.◌>>=◌ (c.step_weight w now' by) (λ n3. c.begin w p.dialect (target u.lines label) pc now' x m1 n2 n3 cs)) (parameter_capped now now' e last)
      (λ n2 m2 r. then IsCapOf CapNames (g.step_weight v now by) (c.step_weight w now' by) (λ n3. g.begin v p.dialect (target u.lines label) pc now x n1 n2 n3 cs)
      (λ n3. c.begin w p.dialect (target u.lines label) pc now' x m1 m2 n3 cs) (step_capped now now' e by)
      (λ n3 m3 s. begin_capped p.dialect (target u.lines label) pc now now' e x n1 n2 n3 m1 m2 m3 q r s cs)))
  performed_capped pc now now' e Continue cs = behind_capped pc now now' e cs
  performed_capped pc now now' e (Call f args) cs =
      then CapOperands CapNames (g.operands v now (row_of args)) (c.operands w now' (row_of args)) (λ xs. h.◌>>=◌ (g.called v (subroutine p.units f) now xs) (λ after. g.behind v pc after cs))
      (λ xs. t.◌>>=◌ (c.called w (subroutine p.units f) now' xs) (λ after. c.behind w pc after cs)) (operands_capped now now' e (row_of args))
      (λ xs ys q. then CapNames CapNames (g.called v (subroutine p.units f) now xs) (c.called w (subroutine p.units f) now' ys) (λ after. g.behind v pc after cs) (λ after. c.behind w pc after cs)
      (call_capped p i u (subroutine p.units f) now now' xs ys e q) (λ after after' r. behind_capped pc after after' r cs))
  performed_capped pc now now' e Return cs =
      then Any CapNames (g.result v now (is_function u)) (c.result w now' (is_function u)) (λ z. h.weighed now) (λ z. t.tallied now') (result_capped now now' e (is_function u)) (λ a b q. stays now now' e)
  performed_capped pc now now' e (BlockIf x) cs = judged_capped CapNames now now' e x (h.weighed now) (t.tallied now') (stays now now' e)
  performed_capped pc now now' e (ElseIf x) cs = judged_capped CapNames now now' e x (h.weighed now) (t.tallied now') (stays now now' e)
  performed_capped pc now now' e Else cs = behind_capped pc now now' e cs
  performed_capped pc now now' e EndIf cs = behind_capped pc now now' e cs
  performed_capped pc now now' e (Subroutine f xs) cs = stays now now' e
  performed_capped pc now now' e (Function sort f xs) cs = stays now now' e
  performed_capped pc now now' e (Declare sort items) cs = stays now now' e
  performed_capped pc now now' e (Dimension items) cs = stays now now' e
  performed_capped pc now now' e (CommonBlock groups) cs = stays now now' e
  performed_capped pc now now' e End cs = stays now now' e
