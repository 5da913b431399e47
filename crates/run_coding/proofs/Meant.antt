-- The pushed instructions of an expression stand for its code.
use Rattle.std.proofs.Common.{◌≡◌, ℕ, suc, ◌+◌, Bool, true, false, cond, List, [], ◌∷◌, ◌++◌, map, length, refl, sym, ap, subst, ◌∙◌, append_assoc, rules, arith}
use Rattle.std.specs.Prelude.{Option, Some, None, get_or, codes}
use Rattle.std.proofs.lemmas.List.{map-append}
use mathlib.Core.Former.{Count}
use Rattle.formula.specs.Atoms.{same_bytes, is_among}
use Rattle.fort_syntax.specs.TreePatterns.{only, listed}
use Rattle.fort_syntax.specs.Names as names_of
use Rattle.run_shapes.specs.declared.instr.Function.TheVariants as kind_of
use Rattle.fort_syntax.specs.Names.{Intrinsic, Applied, Element, BuiltIn, Reference, applied, applied_by, dims_of, intrinsic, function}
use Rattle.fort_syntax.specs.declared.name.Name.{Name}
use Rattle.fort_syntax.specs.declared.expr.Expr.{Expr, Row_of-Expr, end_of-Expr, more_of-Expr}
use Rattle.fort_syntax.specs.declared.expr.Expr.TheVariants.{Const, Truth, Var, Apply', Paren', Pos', Neg', Power', Bin', Rel', Not', And', Or'}
use Rattle.fort_syntax.specs.declared.stmt.Dim.{Dim}
use Rattle.fort_syntax.specs.declared.unit.Unit.{Unit as Routine}
use Rattle.fort_model.specs.Calls.{own_site, sites_in, sites_in_row}
use Rattle.fort_model.specs.Sites.{own_call, calls_in, calls_in_row}
use Rattle.run_code.specs.Code as code
use Rattle.run_code.proofs.Long.{code_is_so_long}
use Rattle.run_shapes.specs.Seen.{dims_at, intrinsic_of, refer_by, seen}
use Rattle.run_shapes.specs.Coded.{AreSlotsOf}
use Rattle.run_shapes.specs.declared.instr.Instr.{Instr}
use Rattle.run_shapes.specs.declared.instr.Instr.TheVariants as instr
use Rattle.run_shapes.specs.declared.slots.Slots.{Slots}
use Rattle.run_shapes.specs.declared.tests.Test.{Test}
use Rattle.run_shapes.specs.declared.unit_code.CallCode.{CallCode}
use Rattle.run_coding.specs.Pushed.{actuals_pushed, applied_pushed, function_of, name_pushed, pushed, slot_in, values_pushed}
use Rattle.run_coding.specs.Meanings.{AppliedHere, AreHere, IsHere, PushedIsCode}
use Rattle.run_coding.proofs.Slots.{named, named_slot}

-- ---- how many calls there are

and_none : (n : ℕ) → n + 0 ≡ n
and_none n = omega arith

and_one : (n : ℕ) → n + 1 ≡ suc n
and_one n = omega arith

pub both_long : {X : Type 0} (xs ys : List X) → length (xs ++ ys) ≡ length xs + length ys
both_long [] ys = omega arith
both_long (x ∷ xs) ys = let h : length (xs ++ ys) ≡ length xs + length ys = both_long xs ys in omega arith

sum_of : (x a b c d : ℕ) → x ≡ a + b → a ≡ c → b ≡ d → x ≡ c + d
sum_of x a b c d h p q = omega arith

own_long : (a : Applied) (f : Name) (es : List Expr) → length (own_site a f es) ≡ own_call a
own_long (Element dims) f es = refl
own_long (BuiltIn i) f es = refl
own_long Reference f es = refl

module _ (u : Routine) where
  mutual
    pub long : (e : Expr) → length (sites_in u e) ≡ calls_in u e
    long (Const c) = refl
    long (Truth b) = refl
    long (Var x) = refl
    long (Apply' f _ args) =
        sum_of _ (length (own_site (applied u f) f (listed args))) (length (sites_in_row u args)) (own_call (applied u f)) (calls_in_row u args)
        (both_long (own_site (applied u f) f (listed args)) (sites_in_row u args)) (own_long (applied u f) f (listed args)) (long_row args)
    long (Paren' _ (only a)) = long a
    long (Pos' _ (only a)) = long a
    long (Neg' _ (only a)) = long a
    long (Power' _ (only a) n) = long a
    long (Bin' o _ (only a) _ (only b)) =
        sum_of _ (length (sites_in u a)) (length (sites_in u b)) (calls_in u a) (calls_in u b) (both_long (sites_in u a) (sites_in u b)) (long a) (long b)
    long (Rel' o _ (only a) _ (only b)) =
        sum_of _ (length (sites_in u a)) (length (sites_in u b)) (calls_in u a) (calls_in u b) (both_long (sites_in u a) (sites_in u b)) (long a) (long b)
    long (Not' _ (only a)) = long a
    long (And' _ (only a) _ (only b)) =
        sum_of _ (length (sites_in u a)) (length (sites_in u b)) (calls_in u a) (calls_in u b) (both_long (sites_in u a) (sites_in u b)) (long a) (long b)
    long (Or' _ (only a) _ (only b)) =
        sum_of _ (length (sites_in u a)) (length (sites_in u b)) (calls_in u a) (calls_in u b) (both_long (sites_in u a) (sites_in u b)) (long a) (long b)

    pub long_row : {m : Count} (es : Row_of-Expr m) → length (sites_in_row u es) ≡ calls_in_row u es
    long_row end_of-Expr = refl
    long_row (more_of-Expr e es) =
        sum_of _ (length (sites_in u e)) (length (sites_in_row u es)) (calls_in u e) (calls_in_row u es) (both_long (sites_in u e) (sites_in_row u es)) (long e) (long_row es)

-- ---- names before brackets

-- the function of a name that is intrinsic
meant_function : (f : Name) (i : Intrinsic) → intrinsic f ≡ Some i → intrinsic_of (function_of f) ≡ i
meant_function f i = by (same_bytes f (codes "IABS")) (same_bytes f (codes "MOD")) (same_bytes f (codes "MAX0")) (same_bytes f (codes "MIN0"))
  where
    inside : (a b : Intrinsic) → Some a ≡ Some b → a ≡ b
    inside a b h = search rules

    by : (p q r s : Bool)
        → cond p (Some names_of.Absolute) (cond q (Some names_of.Modulo) (cond r (Some names_of.Greatest) (cond s (Some names_of.Least) None))) ≡ Some i
        → intrinsic_of (cond p kind_of.Absolute (cond q kind_of.Modulo (cond r kind_of.Greatest kind_of.Least))) ≡ i
    by true q r s h = inside _ i h
    by false true r s h = inside _ i h
    by false false true s h = inside _ i h
    by false false false true h = inside _ i h
    by false false false false h = search rules

-- what a name is tells its dimensions, or its function
element_dims : (ds dims : List Dim) (o : Option Intrinsic) → applied_by ds o ≡ Element dims → ds ≡ dims
element_dims [] dims None h = search rules
element_dims [] dims (Some i) h = search rules
element_dims (d ∷ ds) dims o h = search rules

built_in_is : (ds : List Dim) (o : Option Intrinsic) (i : Intrinsic) → applied_by ds o ≡ BuiltIn i → o ≡ Some i
built_in_is [] None i h = search rules
built_in_is [] (Some j) i h = search rules
built_in_is (d ∷ ds) o i h = search rules

-- ---- the law

module _ (u : Routine) (units : List Routine) (slots : Slots) (tests : List Test) (calls : List CallCode) (targets : List ℕ) (ours : AreSlotsOf u slots) where
  abbrev saw : List Instr → List code.Instr
  saw xs = map (seen slots tests calls targets) xs

  behind : (xs ys : List Instr) (is : List code.Instr) → saw (xs ++ ys) ++ is ≡ saw xs ++ (saw ys ++ is)
  behind xs ys is = ap (λ zs. zs ++ is) (map-append (seen slots tests calls targets) xs ys) ∙ append_assoc (saw xs) (saw ys) is

  seen_long : (xs : List Instr) → length (saw xs ++ []) ≡ length xs
  seen_long [] = refl
  seen_long (x ∷ xs) = ap suc (seen_long xs)

  as_long : (b : Expr) (right : List Instr) (k : ℕ) → saw right ++ [] ≡ code.code u units true k b [] → length right ≡ code.size u true b
  as_long b right k h =
      let p : length (saw right ++ []) ≡ length (code.code u units true k b []) = ap length h in
      sym (seen_long right) ∙ p ∙ code_is_so_long u units true k b [] ∙ and_none (code.size u true b)

  name_meant : (reads : Bool) (x : Name) (is : List code.Instr) → is_among x slots.names ≡ true
      → saw (name_pushed slots.names reads x ∷ []) ++ is ≡ cond reads (code.load x) (code.place x) ∷ is
  name_meant true x is h = ap (λ y. code.load y ∷ is) (named slots.names x h)
  name_meant false x is h = ap (λ y. code.place y ∷ is) (named slots.names x h)

  read_meant : (reads : Bool) (is : List code.Instr) → saw (cond reads (instr.Value ∷ []) []) ++ is ≡ cond reads (code.value ∷ is) is
  read_meant true is = refl
  read_meant false is = refl

  -- the values or actuals stand for their code
  abbrev Means : List Instr → (List code.Instr → List code.Instr) → Type 0
  Means xs f = (is : List code.Instr) → saw xs ++ is ≡ f is

  applied_meant : (reads : Bool) (k : ℕ) (f : Name) (a : Applied) (n : ℕ) (xs ys : List Instr) (vs ws : List code.Instr → List code.Instr) (is : List code.Instr)
      → applied u f ≡ a → AppliedHere units slots.names calls k f a n → (a ≡ Reference → Means ys ws) → ((own_call a ≡ 0) → Means xs vs)
      → saw (applied_pushed slots.names reads k f a n xs ys) ++ is ≡ code.code_by units reads k f a n vs ws is
  applied_meant reads k f (Element dims) n xs ys vs ws is kind here actuals values =
      behind xs (instr.Array (slot_in slots.names f) n ∷ cond reads (instr.Value ∷ []) []) is
      ∙ ap (λ zs. saw xs ++ (code.array (get_or slots.names (slot_in slots.names f) []) (dims_at slots (slot_in slots.names f)) n ∷ zs)) (read_meant reads is)
      ∙ (λ i. saw xs ++ (code.array (named slots.names f here i) (sized i) n ∷ cond reads (code.value ∷ is) is))
      ∙ values refl (code.array f dims n ∷ cond reads (code.value ∷ is) is)
    where
      sized : dims_at slots (slot_in slots.names f) ≡ dims
      sized = ours.sized (slot_in slots.names f) f (named_slot slots.names f here) ∙ element_dims (dims_of u f) dims (intrinsic f) kind
  applied_meant reads k f (BuiltIn i) n xs ys vs ws is kind here actuals values =
      behind xs (instr.BuiltIn (function_of f) n ∷ []) is
      ∙ ap (λ j. saw xs ++ (code.built_in j n ∷ is)) (meant_function f i (built_in_is (dims_of u f) (intrinsic f) i kind))
      ∙ values refl (code.built_in i n ∷ is)
  applied_meant reads k f Reference n xs ys vs ws is kind here actuals values =
      behind ys (instr.Refer k ∷ []) is
      ∙ ap (λ call. saw ys ++ (refer_by call ∷ is)) here
      ∙ actuals refl (code.refer (suc k) (function units f) n ∷ is)

  -- the second operand of two, behind which an instruction stands
  twice : (xs ys : List Instr) (c : Instr) (is js ks : List code.Instr) → saw ys ++ (seen slots tests calls targets c ∷ is) ≡ js → saw xs ++ js ≡ ks
      → saw (xs ++ (ys ++ c ∷ [])) ++ is ≡ ks
  twice xs ys c is js ks p q = behind xs (ys ++ c ∷ []) is ∙ ap (λ zs. saw xs ++ zs) (behind ys (c ∷ []) is ∙ p) ∙ q

  mutual
    meant : (reads : Bool) (k : ℕ) (e : Expr) (is : List code.Instr) → IsHere u units slots.names calls k e
        → saw (pushed u slots.names reads k e) ++ is ≡ code.code u units reads k e is
    meant reads k (Const c) is h = refl
    meant reads k (Truth b) is h = refl
    meant reads k (Var x) is h = name_meant reads x is h
    meant reads k (Apply' f _ args) is h =
        applied_meant reads k f (applied u f) (code.count args) (values_pushed u slots.names k args) (actuals_pushed u slots.names (suc k) args)
        (code.values_code u units k args) (code.actuals_code u units (suc k) args) is refl h.0
        (λ is_call is. actuals_meant (suc k) args is (subst (λ j. AreHere u units slots.names calls j args) (ap (λ a. k + own_call a) is_call ∙ and_one k) h.1))
        (λ is_none is. values_meant k args is (subst (λ j. AreHere u units slots.names calls j args) (ap (λ c. k + c) is_none ∙ and_none k) h.1))
    meant reads k (Paren' _ (only a)) is h = meant true k a is h
    meant reads k (Pos' _ (only a)) is h = meant true k a is h
    meant reads k (Neg' _ (only a)) is h = behind (pushed u slots.names true k a) (instr.Negate ∷ []) is ∙ meant true k a (code.negate ∷ is) h
    meant reads k (Power' _ (only a) n) is h = behind (pushed u slots.names true k a) (instr.Raise n ∷ []) is ∙ meant true k a (code.raise n ∷ is) h
    meant reads k (Not' _ (only a)) is h = behind (pushed u slots.names true k a) (instr.Negation ∷ []) is ∙ meant true k a (code.negation ∷ is) h
    meant reads k (Bin' o _ (only a) _ (only b)) is h =
        ap (λ n. saw (pushed u slots.names true k a ++ (pushed u slots.names true (k + n) b ++ instr.Operation o ∷ [])) ++ is) (long u a)
        ∙ twice (pushed u slots.names true k a) (pushed u slots.names true (k + calls_in u a) b) (instr.Operation o) is _ _
        (meant true (k + calls_in u a) b (code.operation o ∷ is) h.1) (meant true k a _ h.0)
    meant reads k (Rel' o _ (only a) _ (only b)) is h =
        ap (λ n. saw (pushed u slots.names true k a ++ (pushed u slots.names true (k + n) b ++ instr.Comparison o ∷ [])) ++ is) (long u a)
        ∙ twice (pushed u slots.names true k a) (pushed u slots.names true (k + calls_in u a) b) (instr.Comparison o) is _ _
        (meant true (k + calls_in u a) b (code.comparison o ∷ is) h.1) (meant true k a _ h.0)
    meant reads k (And' _ (only a) _ (only b)) is h =
        let first = pushed u slots.names true k a in
        let right = pushed u slots.names true (k + calls_in u a) b in
        ap (λ n. saw (first ++ (instr.SkipFalse (suc (length (pushed u slots.names true (k + n) b))) ∷ (pushed u slots.names true (k + n) b ++ instr.Both ∷ []))) ++ is) (long u a)
        ∙ behind first (instr.SkipFalse (suc (length right)) ∷ (right ++ instr.Both ∷ [])) is
        ∙ (λ i. saw first ++ (code.skip_false (suc (as_long b right (k + calls_in u a) (meant true (k + calls_in u a) b [] h.1) i)) ∷ behind right (instr.Both ∷ []) is i))
        ∙ ap (λ zs. saw first ++ (code.skip_false (suc (code.size u true b)) ∷ zs)) (meant true (k + calls_in u a) b (code.both ∷ is) h.1)
        ∙ meant true k a _ h.0
    meant reads k (Or' _ (only a) _ (only b)) is h =
        let first = pushed u slots.names true k a in
        let right = pushed u slots.names true (k + calls_in u a) b in
        ap (λ n. saw (first ++ (instr.SkipTrue (suc (length (pushed u slots.names true (k + n) b))) ∷ (pushed u slots.names true (k + n) b ++ instr.Either ∷ []))) ++ is) (long u a)
        ∙ behind first (instr.SkipTrue (suc (length right)) ∷ (right ++ instr.Either ∷ [])) is
        ∙ (λ i. saw first ++ (code.skip_true (suc (as_long b right (k + calls_in u a) (meant true (k + calls_in u a) b [] h.1) i)) ∷ behind right (instr.Either ∷ []) is i))
        ∙ ap (λ zs. saw first ++ (code.skip_true (suc (code.size u true b)) ∷ zs)) (meant true (k + calls_in u a) b (code.either ∷ is) h.1)
        ∙ meant true k a _ h.0

    pub values_meant : (k : ℕ) {m : Count} (es : Row_of-Expr m) (is : List code.Instr) → AreHere u units slots.names calls k es
        → saw (values_pushed u slots.names k es) ++ is ≡ code.values_code u units k es is
    values_meant k end_of-Expr is h = refl
    values_meant k (more_of-Expr e es) is h =
        ap (λ n. saw (pushed u slots.names true k e ++ values_pushed u slots.names (k + n) es) ++ is) (long u e)
        ∙ behind (pushed u slots.names true k e) (values_pushed u slots.names (k + calls_in u e) es) is
        ∙ ap (λ zs. saw (pushed u slots.names true k e) ++ zs) (values_meant (k + calls_in u e) es is h.1)
        ∙ meant true k e _ h.0

    pub actuals_meant : (k : ℕ) {m : Count} (es : Row_of-Expr m) (is : List code.Instr) → AreHere u units slots.names calls k es
        → saw (actuals_pushed u slots.names k es) ++ is ≡ code.actuals_code u units k es is
    actuals_meant k end_of-Expr is h = refl
    actuals_meant k (more_of-Expr e es) is h =
        ap (λ n. saw (pushed u slots.names false k e ++ actuals_pushed u slots.names (k + n) es) ++ is) (long u e)
        ∙ behind (pushed u slots.names false k e) (actuals_pushed u slots.names (k + calls_in u e) es) is
        ∙ ap (λ zs. saw (pushed u slots.names false k e) ++ zs) (actuals_meant (k + calls_in u e) es is h.1)
        ∙ meant false k e _ h.0

pub pushed_is_code : PushedIsCode
pushed_is_code u units slots tests calls targets reads k e is ours here = meant u units slots tests calls targets ours reads k e is here
