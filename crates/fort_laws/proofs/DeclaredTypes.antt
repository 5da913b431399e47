-- Expressions in a well-formed unit have the types that their places demand.
use Rattle.std.proofs.Common.{◌≡◌, ◌≤◌, ℕ, suc, ◌⊎◌, inl, inr, Bool, true, false, cond, not, ◌&&◌, ◌||◌, List, [], ◌∷◌, ◌++◌, map, length, Option, Some, None, nat_le, codes, refl, sym, ap, ◌∙◌, subst, arith, rules}
use Rattle.std.specs.Prelude.{◌==◌}
use Rattle.std.specs.List.{list_any, list_all}
use Rattle.formula.specs.Atoms.{is_among, has_twin, same_bytes}
use Rattle.fort_syntax.specs.TreePatterns.{listed, only}
use Rattle.fort_syntax.specs.Names.{Intrinsic, Absolute, Modulo, Greatest, Least, Reference, intrinsic, applied_by, applied, dims_of}
use mathlib.Core.Former.{Count}
use Rattle.fort_syntax.specs.Scopes.{Scope, do_meet, same_option, is_intrinsic_name, takes_so_many, is_given_dims, is_array, is_intrinsic}
use Rattle.fort_syntax.specs.TypeRules.{type_applied, type_of, gives_integer, are_fit_arguments, has_fit_operands}
use Rattle.fort_syntax.specs.TreePatterns as syntax
use Rattle.fort_syntax.specs.UseRules.{is_misused}
use Rattle.fort_syntax.specs.Uses.{Use, read, argument_of, uses_in, uses_in_row, parts, parts_of_row}
use Rattle.fort_syntax.specs.Uses as use_as
use Rattle.fort_syntax.specs.WellFormed.{IsWellFormedUnit, names_of_unit, functions_of_unit, sort_of_function, scope_of_unit, is_known}
use Rattle.fort_syntax.specs.declared.dialect.Dialect.{Dialect}
use Rattle.fort_syntax.specs.declared.dialect.Sort.{Sort}
use Rattle.fort_syntax.specs.declared.dialect.Sort.TheVariants.{Integer, Logical}
use Rattle.fort_syntax.specs.declared.expr.Expr.{Expr, Row_of-Expr, end_of-Expr, more_of-Expr}
use Rattle.fort_syntax.specs.declared.expr.Expr.TheVariants.{Const, Truth, Var, Apply', Paren', Pos', Neg', Power', Bin', Rel', Not', And', Or'}
use Rattle.fort_syntax.specs.declared.name.Name.{Name}
use Rattle.fort_syntax.specs.declared.stmt.Dim.{Dim}
use Rattle.fort_syntax.specs.declared.unit.FunctionName.{FunctionName}
use Rattle.fort_syntax.specs.declared.unit.Unit.{Unit as Routine}
use Rattle.fort_model.specs.Arguments.{reference_sort}
use Rattle.fort_model.specs.Calls.{CallSite, own_site, sites_in, sites_in_row}
use Rattle.fort_model.specs.Lists.{IsAmong}
use Rattle.fort_laws.specs.Typed.{AreDims, IsCount, row_length, IsScalar, IsArray, IsActual, IsApplied, IsTyped, AreInteger, AreActual}
use Rattle.fort_laws.proofs.DeclaredNames.{IsNamed, do_not_meet, unnamed_sort, named_data}
use Rattle.fort_laws.proofs.DeclaredUnits as unit
use Rattle.fort_laws.proofs.DeclaredUses.{AreRight, right_left, right_right, right_behind, right_first}
use Rattle.fort_laws.proofs.FrameEnter.{SameOrNot, same, other, same_or_not}
use Rattle.fort_laws.proofs.FrameSeats.{clash}
use Rattle.fort_laws.proofs.Kept.{among_left, among_right}
use Rattle.fort_laws.proofs.Near.{known}
use Rattle.fort_laws.proofs.RulesKept.{neither, not_both, not_not, split}
use Rattle.fort_laws.proofs.Tests.{not_so, one_holds}

-- ---- types

pub same_type : (o : Option Sort) (q : Sort) → same_option o (Some q) ≡ true → o ≡ Some q
same_type None q h = absurd (cc)
same_type (Some r) q h = ap Some (unit.one_sort r q h)

-- the other way round
pub same_type_as : (q : Sort) (o : Option Sort) → same_option (Some q) o ≡ true → o ≡ Some q
same_type_as q None h = absurd (cc)
same_type_as q (Some r) h = ap Some (sym (unit.one_sort q r h))

one_type : (q r : Sort) → Some q ≡ Some r → q ≡ r
one_type q r h = cc

-- the type that a unit gives a function is told alike
function_sort : (fs : List FunctionName) (f : Name) → reference_sort fs f ≡ sort_of_function fs f
function_sort [] f = refl
function_sort (g ∷ gs) f = ap (λ o. cond (same_bytes g.name f) (Some g.sort) o) (function_sort gs f)

pub row_count : {m : Count} (args : Row_of-Expr m) → row_length args ≡ length (syntax.listed args)
row_count end_of-Expr = refl
row_count (more_of-Expr e es) = ap suc (row_count es)

pub same_number : (m n : ℕ) → (m == n) ≡ true → m ≡ n
same_number m n t = search rules

some_at_least : (n : ℕ) → nat_le 2 n ≡ true → 1 ≤ n
some_at_least n t = let two : 2 ≤ n = search rules in omega arith

-- ---- intrinsic functions

-- what an intrinsic function is, and how many arguments it has
abbrev IsIntrinsicBy : Option Intrinsic → (ℕ → Bool) → Type 0
IsIntrinsicBy o takes = (g : Intrinsic) × (o ≡ Some g) × ((n : ℕ) → takes n ≡ true → IsCount g n)

intrinsic_by : (a b c d : Bool) → (a || (b || (c || (d || false)))) ≡ true
    → IsIntrinsicBy (cond a (Some Absolute) (cond b (Some Modulo) (cond c (Some Greatest) (cond d (Some Least) None)))) (λ n. cond a (n == 1) (cond b (n == 2) (nat_le 2 n)))
intrinsic_by true b c d h = (Absolute, refl, λ n t. same_number n 1 t)
intrinsic_by false true c d h = (Modulo, refl, λ n t. same_number n 2 t)
intrinsic_by false false true d h = (Greatest, refl, λ n t. some_at_least n t)
intrinsic_by false false false true h = (Least, refl, λ n t. some_at_least n t)
intrinsic_by false false false false h = absurd (cc)

intrinsic_named : (f : Name) → is_intrinsic_name f ≡ true → IsIntrinsicBy (intrinsic f) (takes_so_many f)
intrinsic_named f h = intrinsic_by (same_bytes f (codes "IABS")) (same_bytes f (codes "MOD")) (same_bytes f (codes "MAX0")) (same_bytes f (codes "MIN0")) h

not_intrinsic_by : (a b c d : Bool) → (a || (b || (c || (d || false)))) ≡ false → cond a (Some Absolute) (cond b (Some Modulo) (cond c (Some Greatest) (cond d (Some Least) None))) ≡ None
not_intrinsic_by true b c d h = absurd (cc)
not_intrinsic_by false true c d h = absurd (cc)
not_intrinsic_by false false true d h = absurd (cc)
not_intrinsic_by false false false true h = absurd (cc)
not_intrinsic_by false false false false h = refl

not_intrinsic : (f : Name) → is_intrinsic_name f ≡ false → intrinsic f ≡ None
not_intrinsic f h = not_intrinsic_by (same_bytes f (codes "IABS")) (same_bytes f (codes "MOD")) (same_bytes f (codes "MAX0")) (same_bytes f (codes "MIN0")) h

no_intrinsic_name : (f : Name) → intrinsic f ≡ None → is_intrinsic_name f ≡ false
no_intrinsic_name f k = known (is_intrinsic_name f) (λ y. absurd (unlike (sym k ∙ (intrinsic_named f y).1))) (λ y. y)
  where
    unlike : {g : Intrinsic} → None ≡ Some g → ⊥
    unlike h = absurd (cc)

-- references among some calls are such, where they have the types that the unit gives their functions
abbrev pub AreReferred : Routine → (Sort → Name → List Expr → Type 0) → List CallSite → Type 0
AreReferred u IsReference sites =
    (site : CallSite) (q : Sort) → IsAmong site sites → site.reference ≡ true → reference_sort u.functions site.callee ≡ Some q → IsReference q site.callee site.actuals

-- ---- all parts of an expression

abbrev pub AreFit : Routine → List Expr → Type 0
AreFit u es = (e : Expr) → IsAmong e es → has_fit_operands (scope_of_unit u) e ≡ true

pub fit_left : (u : Routine) (xs ys : List Expr) → AreFit u (xs ++ ys) → AreFit u xs
fit_left u xs ys h e m = h e (among_left e xs ys m)

pub fit_right : (u : Routine) (xs ys : List Expr) → AreFit u (xs ++ ys) → AreFit u ys
fit_right u xs ys h e m = h e (among_right e xs ys m)

pub fit_behind : (u : Routine) (x : Expr) (xs : List Expr) → AreFit u (x ∷ xs) → AreFit u xs
fit_behind u x xs h e m = h e (suc m.0, m.1)

-- what a use of a name as a value says of it
abbrev pub IsOfScalars : Routine → Use → Type 0
IsOfScalars u how = (x : Name) → is_known u x how ≡ true → is_misused (scope_of_unit u) x how ≡ false → (is_among x (names_of_unit u) ≡ true) × (is_array (scope_of_unit u) x ≡ false)

-- and as an actual
abbrev pub IsOfData : Routine → Use → Type 0
IsOfData u how = (x : Name) → is_known u x how ≡ true → is_among x (names_of_unit u) ≡ true

pub reads_scalars : (u : Routine) → IsOfScalars u read
reads_scalars u x k m = (k, m)

-- arguments of arrays and intrinsic functions
takes_scalars : (u : Routine) (f : Name) → (is_array (scope_of_unit u) f || is_intrinsic_name f) ≡ true → IsOfScalars u (argument_of f)
takes_scalars u f h x k m = (k, known (is_array (scope_of_unit u) x) (λ t. absurd (clash (is_array (scope_of_unit u) f || is_intrinsic_name f) h (by_first (is_array (scope_of_unit u) x) _ t m))) (λ e. e))
  where
    by_first : (a b : Bool) → a ≡ true → (a && b) ≡ false → b ≡ false
    by_first true b e n = n
    by_first false b e n = absurd (cc)

module _ (dialect : Dialect) (u : Routine) (w : IsWellFormedUnit dialect u) where
  abbrev scope : Scope
  scope = scope_of_unit u

  -- ---- names before brackets

  pub array_sort : (f : Name) → is_array scope f ≡ true → type_applied scope f ≡ scope.sort f
  array_sort f h = ap (λ b. cond (is_intrinsic_name f && not b) (Some Integer) (scope.sort f)) h ∙ ap (λ b. cond b (Some Integer) (scope.sort f)) (and_false (is_intrinsic_name f))
    where
      and_false : (b : Bool) → (b && false) ≡ false
      and_false true = refl
      and_false false = refl

  -- an intrinsic function gives an integer
  intrinsic_sort : (f : Name) → is_array scope f ≡ false → is_intrinsic_name f ≡ true → type_applied scope f ≡ Some Integer
  intrinsic_sort f h t =
      ap (λ b. cond (is_intrinsic_name f && not b) (Some Integer) (scope.sort f)) h ∙ ap (λ b. cond (b && true) (Some Integer) (scope.sort f)) t

  -- a function of the unit is no data name
  pub function_no_data : (f : Name) → is_among f (functions_of_unit u) ≡ true → is_among f (names_of_unit u) ≡ false
  function_no_data f m =
      let alone = split (not (has_twin (functions_of_unit u)) && not (do_meet (functions_of_unit u) (names_of_unit u))) (not (list_any is_intrinsic_name (functions_of_unit u)))
      (split _ (not (is_among u.name (functions_of_unit u))) w.functions).0 in
      do_not_meet (functions_of_unit u) (names_of_unit u) f (not_so _ (split (not (has_twin (functions_of_unit u))) _ alone.0).1) m

  -- a function of the unit gives the type that the unit says
  function_type : (f : Name) → is_array scope f ≡ false → is_intrinsic_name f ≡ false → is_among f (functions_of_unit u) ≡ true
      → type_applied scope f ≡ reference_sort u.functions f
  function_type f h t m =
      ap (λ b. cond (b && not (is_array scope f)) (Some Integer) (scope.sort f)) t
      ∙ (unnamed_sort u.names u.functions f (function_no_data f m) ∙ sym (function_sort u.functions f))

  -- a name before a bracket that is no array and no intrinsic function is a function
  is_function : (f : Name) (n : ℕ) → is_known u f (use_as.applied n) ≡ true → is_array scope f ≡ false → is_intrinsic_name f ≡ false → is_among f (functions_of_unit u) ≡ true
  is_function f n k h t =
      one_holds (is_array scope f || (is_intrinsic_name f && not (is_among f (names_of_unit u)))) (is_among f (functions_of_unit u)) k
      (ap (λ b. b || (is_intrinsic_name f && not (is_among f (names_of_unit u)))) h ∙ ap (λ b. b && not (is_among f (names_of_unit u))) t)

  -- what is applied as a reference is a function
  pub reference_is_function : (f : Name) (n : ℕ) → applied u f ≡ Reference → is_known u f (use_as.applied n) ≡ true → is_among f (functions_of_unit u) ≡ true
  reference_is_function f n e k = go (dims_of u f) (intrinsic f) refl refl e
    where
      go : (ds : List Dim) (o : Option Intrinsic) → dims_of u f ≡ ds → intrinsic f ≡ o → applied_by ds o ≡ Reference → is_among f (functions_of_unit u) ≡ true
      go (d ∷ ds) o dims is e = absurd (cc)
      go [] (Some g) dims is e = absurd (cc)
      go [] None dims is e = is_function f n k (ap is_given_dims (dims)) (no_intrinsic_name f is)

  some_function : (fs : List FunctionName) (f : Name) → is_among f (map (λ g. g.name) fs) ≡ true → (q : Sort) × (reference_sort fs f ≡ Some q)
  some_function [] f h = absurd (cc)
  some_function (g ∷ fs) f h = by_name (same_or_not g.name f) (same_or_not f g.name) (some_function fs f)
    where
      by_name : SameOrNot g.name f → SameOrNot f g.name → (is_among f (map (λ g. g.name) fs) ≡ true → (q : Sort) × (reference_sort fs f ≡ Some q)) → (q : Sort) × (reference_sort (g ∷ fs) f ≡ Some q)
      by_name (same e t) a rec = (g.sort, ap (λ b. cond b (Some g.sort) (reference_sort fs f)) t)
      by_name (other n t) (same e t2) rec = absurd (n (sym e))
      by_name (other n t) (other m t2) rec =
          let r = rec (one_holds (same_bytes f g.name) (is_among f (map (λ g. g.name) fs)) h t2) in
          (r.0, ap (λ b. cond b (Some g.sort) (reference_sort fs f)) t ∙ r.1)

  -- each name before a bracket has a type
  type_before : (f : Name) (n : ℕ) → is_known u f (use_as.applied n) ≡ true → (q : Sort) × (type_applied scope f ≡ Some q)
  type_before f n k = known (is_array scope f)
      (λ h. let d : IsNamed u.names f = unit.has_data dialect u w f (named_data u.names f h) in (d.its.sort, array_sort f h ∙ d.sort u.functions))
      (λ h. known (is_intrinsic_name f)
      (λ t. (Integer, intrinsic_sort f h t))
      (λ t. let r = some_function u.functions f (is_function f n k h t) in (r.0, function_type f h t (is_function f n k h t) ∙ r.1)))

  -- each expression has a type
  type_found : (e : Expr) → AreRight u (uses_in read e) → (q : Sort) × (type_of scope e ≡ Some q)
  type_found (Const n) h = (Integer, refl)
  type_found (Truth b) h = (Logical, refl)
  type_found (Var x) h = let d : IsNamed u.names x = unit.has_data dialect u w x (right_first u x read [] h).0 in (d.its.sort, d.sort u.functions)
  type_found (Apply' f shape args) h = type_before f (length (syntax.listed args)) (right_first u f (use_as.applied (length (syntax.listed args))) (uses_in_row (argument_of f) args) h).0
  type_found (Paren' shape (only a)) h = type_found a h
  type_found (Pos' shape a) h = (Integer, refl)
  type_found (Neg' shape a) h = (Integer, refl)
  type_found (Power' shape a n) h = (Integer, refl)
  type_found (Bin' o q a r b) h = (Integer, refl)
  type_found (Rel' o q a r b) h = (Logical, refl)
  type_found (Not' shape a) h = (Logical, refl)
  type_found (And' q a r b) h = (Logical, refl)
  type_found (Or' q a r b) h = (Logical, refl)

  -- subscripts and the arguments of intrinsic functions are integers
  pub integers_demanded : (f : Name) (es : List Expr) → are_fit_arguments scope f es ≡ true → (is_array scope f || is_intrinsic scope f) ≡ true → list_all (gives_integer scope) es ≡ true
  integers_demanded f es fit h = one_holds (not (is_array scope f || is_intrinsic scope f)) (list_all (gives_integer scope) es) fit (ap not h)

  -- a scalar has the type that its name has
  pub scalar_of : (q : Sort) (x : Name) → is_among x (names_of_unit u) ≡ true → is_array scope x ≡ false → scope.sort x ≡ Some q → IsScalar u q x
  scalar_of q x h a t =
      let d : IsNamed u.names x = unit.has_data dialect u w x h in
      record { data_of = d.its; is = d.is; scalar = unit.no_dims d.its.dims (ap is_given_dims (sym d.dims) ∙ a); sort_is = one_type d.its.sort q (sym (d.sort u.functions) ∙ t) }

  -- an array has its dimensions, and the type that its name has
  pub array_of : (q : Sort) (a : Name) (ds : List Dim) → is_array scope a ≡ true → dims_of u a ≡ ds → scope.sort a ≡ Some q → IsArray u q a ds
  array_of q a ds h e t =
      let d : IsNamed u.names a = unit.has_data dialect u w a (named_data u.names a h) in
      record {
        data_of = d.its;
        is = d.is;
        dims_are = sym d.dims ∙ e;
        sort_is = one_type d.its.sort q (sym (d.sort u.functions) ∙ t);
        dims = subst (AreDims u) (sym d.dims ∙ e) (unit.dims_are_integers dialect u w d.its d.among);
      }

  module _ (IsReference : Sort → Name → List Expr → Type 0) where
    -- a name before a bracket, by what it is
    applied_typed : (q : Sort) (f : Name) {m : Count} (args : Row_of-Expr m)
        → (is_known u f (use_as.applied (length (syntax.listed args))) ≡ true) × (is_misused scope f (use_as.applied (length (syntax.listed args))) ≡ false)
        → are_fit_arguments scope f (syntax.listed args) ≡ true → type_applied scope f ≡ Some q
        → ((is_array scope f || is_intrinsic_name f) ≡ true → list_all (gives_integer scope) (syntax.listed args) ≡ true → AreInteger u IsReference args)
        → AreActual u IsReference args → AreReferred u IsReference (own_site (applied u f) f (listed args))
        → IsApplied u IsReference q f (applied u f) (row_length args) (listed args) (AreInteger u IsReference args) (AreActual u IsReference args)
    applied_typed q f args right fit t integers actuals refer = go (dims_of u f) (intrinsic f) refl refl refer
      where
        n : ℕ
        n = length (syntax.listed args)

        no_use : ((is_array scope f && not (n == length (dims_of u f))) ≡ false) × ((is_intrinsic scope f && not (takes_so_many f n)) ≡ false)
        no_use = neither (is_array scope f && not (n == length (dims_of u f))) (is_intrinsic scope f && not (takes_so_many f n)) right.1

        go : (ds : List Dim) (o : Option Intrinsic) → dims_of u f ≡ ds → intrinsic f ≡ o → AreReferred u IsReference (own_site (applied_by ds o) f (listed args))
            → IsApplied u IsReference q f (applied_by ds o) (row_length args) (listed args) (AreInteger u IsReference args) (AreActual u IsReference args)
        go (d ∷ ds) o e k refer =
            let dims_are : dims_of u f ≡ d ∷ ds = e in
            let array : is_array scope f ≡ true = ap is_given_dims dims_are in
            let many : n ≡ length (d ∷ ds) = same_number n (length (d ∷ ds)) (ap (λ zs. n == length zs) (sym dims_are) ∙ not_not (n == length (dims_of u f)) (not_both (is_array scope f) _ no_use.0 array)) in (
              array_of q f (d ∷ ds) array dims_are (sym (array_sort f array) ∙ t),
              row_count args ∙ many,
              integers (ap (λ b. b || is_intrinsic_name f) array) (integers_demanded f (syntax.listed args) fit (ap (λ b. b || is_intrinsic scope f) array)),
            )
        go [] (Some g) e k refer =
            let scalar : is_array scope f ≡ false = ap is_given_dims (e) in
            let is : is_intrinsic_name f ≡ true = known (is_intrinsic_name f) (λ y. y) (λ y. absurd (unlike g (sym k ∙ not_intrinsic f y))) in
            let whole : is_intrinsic scope f ≡ true = ap (λ b. is_intrinsic_name f && not b) scalar ∙ ap (λ b. b && true) is in
            let of = intrinsic_named f is in
            let takes : takes_so_many f n ≡ true = not_not (takes_so_many f n) (not_both (is_intrinsic scope f) _ no_use.1 whole) in (
              sym (one_type Integer q (sym (intrinsic_sort f scalar is) ∙ t)),
              subst (λ z. IsCount z (row_length args)) (same_one of.0 g (sym of.1 ∙ k)) (subst (IsCount of.0) (sym (row_count args)) (of.2 n takes)),
              integers (ap (λ b. b || is_intrinsic_name f) scalar ∙ is) (integers_demanded f (syntax.listed args) fit (ap (λ b. b || is_intrinsic scope f) scalar ∙ whole)),
            )
          where
            unlike : (g : Intrinsic) → Some g ≡ None → ⊥
            unlike g h = absurd (cc)

            same_one : (a b : Intrinsic) → Some a ≡ Some b → a ≡ b
            same_one a b h = cc
        go [] None e k refer =
            let scalar : is_array scope f ≡ false = ap is_given_dims (e) in
            let is_not : is_intrinsic_name f ≡ false = no_intrinsic_name f k in
            let type : reference_sort u.functions f ≡ Some q = sym (function_type f scalar is_not (is_function f n right.0 scalar is_not)) ∙ t in
            (refer (record { reference = true; callee = f; actuals = listed args }) q (0, refl) refl type, actuals)

    pub referred_left : (xs ys : List CallSite) → AreReferred u IsReference (xs ++ ys) → AreReferred u IsReference xs
    referred_left xs ys h site q m = h site q (among_left site xs ys m)

    pub referred_right : (xs ys : List CallSite) → AreReferred u IsReference (xs ++ ys) → AreReferred u IsReference ys
    referred_right xs ys h site q m = h site q (among_right site xs ys m)

    -- split operands have a type
    two_types : (q : Sort) (a b : Expr) → (same_option (type_of scope a) (Some q) && same_option (type_of scope b) (Some q)) ≡ true
        → (type_of scope a ≡ Some q) × (type_of scope b ≡ Some q)
    two_types q a b h = let t = split _ _ h in (same_type _ q t.0, same_type _ q t.1)

    two_typed : (q : Sort) (a b : Expr)
        → (AreRight u (uses_in read a) → AreFit u (parts a) → AreReferred u IsReference (sites_in u a) → type_of scope a ≡ Some q → IsTyped u IsReference q a)
        → (AreRight u (uses_in read b) → AreFit u (parts b) → AreReferred u IsReference (sites_in u b) → type_of scope b ≡ Some q → IsTyped u IsReference q b)
        → AreRight u (uses_in read a ++ uses_in read b) → AreFit u (parts a ++ parts b) → AreReferred u IsReference (sites_in u a ++ sites_in u b)
        → (type_of scope a ≡ Some q) × (type_of scope b ≡ Some q) → IsTyped u IsReference q a × IsTyped u IsReference q b
    two_typed q a b f g h fit refer t = (
      f (right_left u (uses_in read a) (uses_in read b) h) (fit_left u (parts a) (parts b) fit) (referred_left (sites_in u a) (sites_in u b) refer) t.0,
      g (right_right u (uses_in read a) (uses_in read b) h) (fit_right u (parts a) (parts b) fit) (referred_right (sites_in u a) (sites_in u b) refer) t.1,
    )

    by_sort : (e : Expr) (q : Sort) → IsTyped u IsReference q e → IsTyped u IsReference Integer e ⊎ IsTyped u IsReference Logical e
    by_sort e Integer h = inl h
    by_sort e Logical h = inr h

    -- an actual that is no bare name has a type
    is_actual : (how : Use) → IsOfData u how → (e : Expr) → AreRight u (uses_in how e)
        → ((q : Sort) → AreRight u (uses_in read e) → type_of scope e ≡ Some q → IsTyped u IsReference q e)
        → IsActual u e (IsTyped u IsReference Integer e ⊎ IsTyped u IsReference Logical e)
    is_actual how of (Var x) h on = let d : IsNamed u.names x = unit.has_data dialect u w x (of x (right_first u x how [] h).0) in record { data_of = d.its; is = d.is }
    is_actual how of (Const n) h on = let t = type_found (Const n) h in by_sort (Const n) t.0 (on t.0 h t.1)
    is_actual how of (Truth b) h on = let t = type_found (Truth b) h in by_sort (Truth b) t.0 (on t.0 h t.1)
    is_actual how of (Apply' f shape args) h on = let t = type_found (Apply' f shape args) h in by_sort (Apply' f shape args) t.0 (on t.0 h t.1)
    is_actual how of (Paren' shape (only a)) h on = let t = type_found (Paren' shape (only a)) h in by_sort (Paren' shape (only a)) t.0 (on t.0 h t.1)
    is_actual how of (Pos' shape (only a)) h on = let t = type_found (Pos' shape (only a)) h in by_sort (Pos' shape (only a)) t.0 (on t.0 h t.1)
    is_actual how of (Neg' shape (only a)) h on = let t = type_found (Neg' shape (only a)) h in by_sort (Neg' shape (only a)) t.0 (on t.0 h t.1)
    is_actual how of (Power' shape (only a) n) h on = let t = type_found (Power' shape (only a) n) h in by_sort (Power' shape (only a) n) t.0 (on t.0 h t.1)
    is_actual how of (Bin' o q (only a) r (only b)) h on = let t = type_found (Bin' o q (only a) r (only b)) h in by_sort (Bin' o q (only a) r (only b)) t.0 (on t.0 h t.1)
    is_actual how of (Rel' o q (only a) r (only b)) h on = let t = type_found (Rel' o q (only a) r (only b)) h in by_sort (Rel' o q (only a) r (only b)) t.0 (on t.0 h t.1)
    is_actual how of (Not' shape (only a)) h on = let t = type_found (Not' shape (only a)) h in by_sort (Not' shape (only a)) t.0 (on t.0 h t.1)
    is_actual how of (And' q (only a) r (only b)) h on = let t = type_found (And' q (only a) r (only b)) h in by_sort (And' q (only a) r (only b)) t.0 (on t.0 h t.1)
    is_actual how of (Or' q (only a) r (only b)) h on = let t = type_found (Or' q (only a) r (only b)) h in by_sort (Or' q (only a) r (only b)) t.0 (on t.0 h t.1)

    mutual
      pub typed : (how : Use) → IsOfScalars u how → (q : Sort) (e : Expr) → AreRight u (uses_in how e) → AreFit u (parts e) → AreReferred u IsReference (sites_in u e)
          → type_of scope e ≡ Some q → IsTyped u IsReference q e
      typed how of q (Const n) h fit refer t = sym (one_type Integer q t)
      typed how of q (Truth b) h fit refer t = sym (one_type Logical q t)
      typed how of q (Var x) h fit refer t = let r = right_first u x how [] h in let s = of x r.0 r.1 in scalar_of q x s.0 s.1 t
      typed how of q (Apply' f shape args) h fit refer t =
          let behind = right_behind u _ (uses_in_row (argument_of f) args) h in
          let inner = fit_behind u (Apply' f shape args) (parts_of_row args) fit in
          let inside = referred_right (own_site (applied u f) f (listed args)) (sites_in_row u args) refer in
          applied_typed q f args (right_first u f (use_as.applied (length (syntax.listed args))) (uses_in_row (argument_of f) args) h) (fit (Apply' f shape args) (0, refl)) t
          (λ s i. integers (argument_of f) (takes_scalars u f s) args behind inner inside i)
          (actuals (argument_of f) (λ x k. k) args behind inner inside)
          (referred_left (own_site (applied u f) f (listed args)) (sites_in_row u args) refer)
      typed how of q (Paren' shape (only a)) h fit refer t = typed read (reads_scalars u) q a h (fit_behind u (Paren' shape (only a)) (parts a) fit) refer t
      typed how of q (Pos' shape (only a)) h fit refer t =
          (sym (one_type Integer q t), typed read (reads_scalars u) Integer a h (fit_behind u (Pos' shape (only a)) (parts a) fit) refer (same_type _ Integer (fit (Pos' shape (only a)) (0, refl))))
      typed how of q (Neg' shape (only a)) h fit refer t =
          (sym (one_type Integer q t), typed read (reads_scalars u) Integer a h (fit_behind u (Neg' shape (only a)) (parts a) fit) refer (same_type _ Integer (fit (Neg' shape (only a)) (0, refl))))
      typed how of q (Power' shape (only a) n) h fit refer t =
          (sym (one_type Integer q t), typed read (reads_scalars u) Integer a h (fit_behind u (Power' shape (only a) n) (parts a) fit) refer (same_type _ Integer (fit (Power' shape (only a) n) (0, refl))))
      typed how of q (Bin' o r (only a) s (only b)) h fit refer t = (
        sym (one_type Integer q t),
        two_typed Integer a b (typed read (reads_scalars u) Integer a) (typed read (reads_scalars u) Integer b)
            h (fit_behind u (Bin' o r (only a) s (only b)) (parts a ++ parts b) fit) refer (two_types Integer a b (fit (Bin' o r (only a) s (only b)) (0, refl))),
      )
      typed how of q (Rel' o r (only a) s (only b)) h fit refer t = (
        sym (one_type Logical q t),
        two_typed Integer a b (typed read (reads_scalars u) Integer a) (typed read (reads_scalars u) Integer b)
            h (fit_behind u (Rel' o r (only a) s (only b)) (parts a ++ parts b) fit) refer (two_types Integer a b (fit (Rel' o r (only a) s (only b)) (0, refl))),
      )
      typed how of q (Not' shape (only a)) h fit refer t =
          (sym (one_type Logical q t), typed read (reads_scalars u) Logical a h (fit_behind u (Not' shape (only a)) (parts a) fit) refer (same_type _ Logical (fit (Not' shape (only a)) (0, refl))))
      typed how of q (And' r (only a) s (only b)) h fit refer t = (
        sym (one_type Logical q t),
        two_typed Logical a b (typed read (reads_scalars u) Logical a) (typed read (reads_scalars u) Logical b)
            h (fit_behind u (And' r (only a) s (only b)) (parts a ++ parts b) fit) refer (two_types Logical a b (fit (And' r (only a) s (only b)) (0, refl))),
      )
      typed how of q (Or' r (only a) s (only b)) h fit refer t = (
        sym (one_type Logical q t),
        two_typed Logical a b (typed read (reads_scalars u) Logical a) (typed read (reads_scalars u) Logical b)
            h (fit_behind u (Or' r (only a) s (only b)) (parts a ++ parts b) fit) refer (two_types Logical a b (fit (Or' r (only a) s (only b)) (0, refl))),
      )

      pub integers : (how : Use) → IsOfScalars u how → {m : Count} (args : Row_of-Expr m) → AreRight u (uses_in_row how args) → AreFit u (parts_of_row args) → AreReferred u IsReference (sites_in_row u args)
          → list_all (gives_integer scope) (syntax.listed args) ≡ true → AreInteger u IsReference args
      integers how of end_of-Expr h fit refer t = tt
      integers how of (more_of-Expr e es) h fit refer t =
          let b = split (gives_integer scope e) (list_all (gives_integer scope) (syntax.listed es)) t in (
            typed how of Integer e (right_left u (uses_in how e) (uses_in_row how es) h) (fit_left u (parts e) (parts_of_row es) fit) (referred_left (sites_in u e) (sites_in_row u es) refer) (same_type _ Integer b.0),
            integers how of es (right_right u (uses_in how e) (uses_in_row how es) h) (fit_right u (parts e) (parts_of_row es) fit) (referred_right (sites_in u e) (sites_in_row u es) refer) b.1,
          )

      pub actuals : (how : Use) → IsOfData u how → {m : Count} (args : Row_of-Expr m) → AreRight u (uses_in_row how args) → AreFit u (parts_of_row args) → AreReferred u IsReference (sites_in_row u args)
          → AreActual u IsReference args
      actuals how of end_of-Expr h fit refer = tt
      actuals how of (more_of-Expr e es) h fit refer = (
        is_actual how of e (right_left u (uses_in how e) (uses_in_row how es) h)
            (λ q r t. typed read (reads_scalars u) q e r (fit_left u (parts e) (parts_of_row es) fit) (referred_left (sites_in u e) (sites_in_row u es) refer) t),
        actuals how of es (right_right u (uses_in how e) (uses_in_row how es) h) (fit_right u (parts e) (parts_of_row es) fit) (referred_right (sites_in u e) (sites_in_row u es) refer),
      )
