-- The statements of a well-formed unit: their forms, and that the names that they set or pass are data names.
use Rattle.std.proofs.Common.{◌≡◌, ℕ, zero, suc, ◌⊎◌, inl, inr, true, false, not, ◌&&◌, List, [], ◌∷◌, ◌++◌, flat_map, length, Option, Some, is_some, slice_get, refl, sym, ap, ◌∙◌, subst}
use Rattle.std.specs.Cmp.Lexicographic.{same_text}
use Rattle.formula.specs.Atoms.{is_among, same_bytes}
use Rattle.fort_syntax.specs.Grammar.{is_carried}
use Rattle.fort_syntax.specs.TreePatterns.{listed, only, carried, row_of}
use Rattle.fort_syntax.specs.Names.{Intrinsic, Applied, Element, BuiltIn, Reference, intrinsic, applied_by, applied, dims_of}
use mathlib.Core.Former.{Count}
use Rattle.fort_syntax.specs.Scopes.{is_given_dims, is_array}
use Rattle.fort_syntax.specs.TypeRules.{is_well_typed}
use Rattle.fort_syntax.specs.Units.{class_of, is_performing}
use Rattle.fort_syntax.specs.TreePatterns as syntax
use Rattle.fort_syntax.specs.UseRules.{is_misused, is_assigned}
use Rattle.fort_syntax.specs.Uses.{Use, Occurrence, occurrence, read, assigned, assigned_element, counted, applied as before_bracket, argument_of, actual, called, uses_in, uses_in_row, uses_on_left, uses_of}
use Rattle.fort_syntax.specs.WellFormed.{IsWellFormedUnit, names_of_unit, scope_of_unit, is_known, is_left_side, has_right_form, is_right_statement}
use Rattle.fort_syntax.specs.declared.dialect.Dialect.{Dialect}
use Rattle.fort_syntax.specs.declared.expr.Expr.{Expr, Row_of-Expr, end_of-Expr, more_of-Expr}
use Rattle.fort_syntax.specs.declared.expr.Expr.TheVariants.{Const, Truth, Var, Apply', Paren', Pos', Neg', Power', Bin', Rel', Not', And', Or'}
use Rattle.fort_syntax.specs.declared.name.Name.{Name}
use Rattle.fort_syntax.specs.declared.stmt.Dim.{Dim}
use Rattle.fort_syntax.specs.declared.stmt.Stmt.{Stmt}
use Rattle.fort_syntax.specs.declared.stmt.Stmt.TheVariants.{Subroutine, Function, Declare, Dimension, Common, Assign, GoTo, Computed, ArithIf, LogicalIf', Do, Continue, Call, Return, End, BlockIf, ElseIf, Else, EndIf}
use Rattle.fort_syntax.specs.declared.unit.Line.{Line}
use Rattle.fort_syntax.specs.declared.unit.Unit.{Unit as Routine}
use Rattle.fort_model.specs.Calls.{CallSite, own_site, sites_in, sites_in_row, sites_of}
use Rattle.fort_model.specs.Lists.{IsAmong}
use Rattle.fort_model.specs.Smashes.{set_name, set_by}
use Rattle.fort_laws.proofs.DeclaredNames.{named_data}
use Rattle.fort_laws.proofs.Kept.{among_left, among_right, listed_row}
use Rattle.fort_laws.proofs.References.{among_either}
use Rattle.fort_laws.proofs.RulesKept.{split}
use Rattle.fort_laws.proofs.Small.{some_passes}
use Rattle.fort_laws.proofs.Tests.{among_given, one_holds, all_among, not_so, one_item}

-- each of some uses of names is right
abbrev pub AreRight : Routine → List Occurrence → Type 0
AreRight u os = (o : Occurrence) → IsAmong o os → (is_known u o.name o.«use» ≡ true) × (is_misused (scope_of_unit u) o.name o.«use» ≡ false)

pub right_left : (u : Routine) (xs ys : List Occurrence) → AreRight u (xs ++ ys) → AreRight u xs
right_left u xs ys h o m = h o (among_left o xs ys m)

pub right_right : (u : Routine) (xs ys : List Occurrence) → AreRight u (xs ++ ys) → AreRight u ys
right_right u xs ys h o m = h o (among_right o xs ys m)

pub right_behind : (u : Routine) (x : Occurrence) (xs : List Occurrence) → AreRight u (x ∷ xs) → AreRight u xs
right_behind u x xs h o m = h o (suc m.0, m.1)

pub right_first : (u : Routine) (x : Name) (how : Use) (xs : List Occurrence) → AreRight u (occurrence x how ∷ xs) → (is_known u x how ≡ true) × (is_misused (scope_of_unit u) x how ≡ false)
right_first u x how xs h = h (occurrence x how) (0, refl)

-- ---- lines

-- what a statement of a well-formed unit is
pub record IsRightLine (u : Routine) (s : Stmt) : Type 0 where
  pub performs : is_performing (class_of s) ≡ true
  pub form : has_right_form s ≡ true
  pub uses : AreRight u (uses_of s)
  pub typed : is_well_typed (scope_of_unit u) s ≡ true

pub right_line : (dialect : Dialect) (u : Routine) → IsWellFormedUnit dialect u → (line : Line) → IsAmong line u.lines → IsRightLine u line.stmt
right_line dialect u w line m =
    let all = all_among (λ line. is_right_statement dialect u line.stmt) u.lines line w.statements m in
    let typed = split _ _ (split _ _ all).0 in
    let uses = split _ _ typed.0 in
    let form = split _ _ (split _ _ uses.0).0 in
    record {
      performs = (split _ _ form.0).0;
      form = form.1;
      uses = λ o k. let b = split _ _ (all_among (λ o. is_known u o.name o.«use» && not (is_misused (scope_of_unit u) o.name o.«use»)) (uses_of line.stmt) o uses.1 k) in (b.0, not_so _ b.1);
      typed = typed.1;
    }

-- ---- what is set is a data name

left_data : (u : Routine) (e : Expr) (x : Name) → AreRight u (uses_on_left e) → IsAmong x (set_name e) → is_among x (names_of_unit u) ≡ true
left_data u (Var y) x h (zero, e) = let q : y ≡ x = cc in ap (λ z. is_among z (names_of_unit u)) (sym q) ∙ (right_first u y assigned [] h).0
left_data u (Var y) x h (suc k, e) = absurd (cc)
left_data u (Apply' f shape args) x h (zero, e) =
    let q : f ≡ x = cc in
    ap (λ z. is_among z (names_of_unit u)) (sym q) ∙ named_data u.names f (right_first u f (assigned_element (length (syntax.listed args))) (uses_in_row read args) h).0
left_data u (Apply' f shape args) x h (suc k, e) = absurd (cc)
left_data u (Const n) x h m = absurd (cc)
left_data u (Truth b) x h m = absurd (cc)
left_data u (Paren' shape a) x h m = absurd (cc)
left_data u (Pos' shape a) x h m = absurd (cc)
left_data u (Neg' shape a) x h m = absurd (cc)
left_data u (Power' shape a n) x h m = absurd (cc)
left_data u (Bin' o q a r b) x h m = absurd (cc)
left_data u (Rel' o q a r b) x h m = absurd (cc)
left_data u (Not' shape a) x h m = absurd (cc)
left_data u (And' q a r b) x h m = absurd (cc)
left_data u (Or' q a r b) x h m = absurd (cc)

pub set_data : (u : Routine) (s : Stmt) (x : Name) → AreRight u (uses_of s) → IsAmong x (set_by s) → is_among x (names_of_unit u) ≡ true
set_data u (Assign left right) x h m = left_data u left x (right_left u (uses_on_left left) (uses_in read right) h) m
set_data u (Do label y first last step) x h (zero, e) = let q : y ≡ x = cc in ap (λ z. is_among z (names_of_unit u)) (sym q) ∙ (right_first u y counted _ h).0
set_data u (Do label y first last step) x h (suc k, e) = absurd (cc)
set_data u (LogicalIf' e shape (carried s)) x h m = set_data u s x (right_right u (uses_in read e) (uses_of s) h) m
set_data u (Subroutine f dummies) x h m = absurd (cc)
set_data u (Function sort f dummies) x h m = absurd (cc)
set_data u (Declare sort items) x h m = absurd (cc)
set_data u (Dimension items) x h m = absurd (cc)
set_data u (Common groups) x h m = absurd (cc)
set_data u (GoTo label) x h m = absurd (cc)
set_data u (Computed labels y) x h m = absurd (cc)
set_data u (ArithIf e l m n) x h k = absurd (cc)
set_data u Continue x h m = absurd (cc)
set_data u (Call f args) x h m = absurd (cc)
set_data u Return x h m = absurd (cc)
set_data u End x h m = absurd (cc)
set_data u (BlockIf e) x h m = absurd (cc)
set_data u (ElseIf e) x h m = absurd (cc)
set_data u Else x h m = absurd (cc)
set_data u EndIf x h m = absurd (cc)

-- ---- a bare name among actuals is a data name

-- a name that stands bare as an argument or actual
bare_in_row : (how : Use) {m : Count} (args : Row_of-Expr m) (n : ℕ) (x : Name) → slice_get (listed args) n ≡ Some (Var x) → IsAmong (occurrence x how) (uses_in_row how args)
bare_in_row how end_of-Expr n x h = absurd (cc)
bare_in_row how (more_of-Expr e es) zero x h =
    among_left (occurrence x how) (uses_in how e) (uses_in_row how es) (subst (λ z. IsAmong (occurrence x how) (uses_in how z)) (sym (one_item h)) (0, refl))
bare_in_row how (more_of-Expr e es) (suc n) x h = among_right (occurrence x how) (uses_in how e) (uses_in_row how es) (bare_in_row how es n x h)

-- ---- calls

-- something is true of each of some calls
abbrev pub Each : (CallSite → Type 0) → List CallSite → Type 0
Each P sites = (site : CallSite) → IsAmong site sites → P site

each_none : (P : CallSite → Type 0) → Each P []
each_none P site m = absurd (cc)

each_both : (P : CallSite → Type 0) (xs ys : List CallSite) → Each P xs → Each P ys → Each P (xs ++ ys)
each_both P xs ys h k site m = pick (among_either site xs ys m)
  where
    pick : IsAmong site xs ⊎ IsAmong site ys → P site
    pick (inl l) = h site l
    pick (inr r) = k site r

each_one : (P : CallSite → Type 0) (one : CallSite) → P one → Each P (one ∷ [])
each_one P one h site (zero, e) = let q : one ≡ site = cc in subst P q h
each_one P one h site (suc k, e) = absurd (cc)

each_own : (P : CallSite → Type 0) (kind : Applied) (f : Name) (es : List Expr) → (kind ≡ Reference → P (record { reference = true; callee = f; actuals = es })) → Each P (own_site kind f es)
each_own P (Element dims) f es h = each_none P
each_own P (BuiltIn i) f es h = each_none P
each_own P Reference f es h = each_one P (record { reference = true; callee = f; actuals = es }) (h refl)

-- an element is no reference
array_no_reference : (ds : List Dim) (o : Option Intrinsic) → is_given_dims ds ≡ true → applied_by ds o ≡ Reference → ⊥
array_no_reference [] o h e = absurd (cc)
array_no_reference (d ∷ ds) o h e = absurd (cc)

pub row_uses : (how : Use) (args : List Expr) → uses_in_row how (row_of args) ≡ flat_map (uses_in how) args
row_uses how [] = refl
row_uses how (e ∷ es) = ap (λ xs. uses_in how e ++ xs) (row_uses how es)

-- What is true of each reference to a function and of each CALL whose names are used rightly, is true of all calls in a statement whose
-- names are.
module _ (u : Routine) (P : CallSite → Type 0)
    (reference : (f : Name) (m : Count) (args : Row_of-Expr m) → applied u f ≡ Reference → is_known u f (before_bracket (length (syntax.listed args))) ≡ true
    → AreRight u (uses_in_row (argument_of f) args) → P (record { reference = true; callee = f; actuals = listed args }))
    (call : (f : Name) (args : List Expr) → is_known u f called ≡ true → AreRight u (uses_in_row actual (row_of args)) → P (record { reference = false; callee = f; actuals = args })) where
  mutual
    each_in : (how : Use) (e : Expr) → AreRight u (uses_in how e) → Each P (sites_in u e)
    each_in how (Const n) h = each_none P
    each_in how (Truth b) h = each_none P
    each_in how (Var x) h = each_none P
    each_in how (Apply' f shape args) h =
        let behind = right_behind u _ (uses_in_row (argument_of f) args) h in
        each_both P (own_site (applied u f) f (listed args)) (sites_in_row u args)
        (each_own P (applied u f) f (listed args) (λ e. reference f _ args e (right_first u f (before_bracket (length (syntax.listed args))) (uses_in_row (argument_of f) args) h).0 behind))
        (each_in_row (argument_of f) args behind)
    each_in how (Paren' shape (only a)) h = each_in read a h
    each_in how (Pos' shape (only a)) h = each_in read a h
    each_in how (Neg' shape (only a)) h = each_in read a h
    each_in how (Power' shape (only a) n) h = each_in read a h
    each_in how (Not' shape (only a)) h = each_in read a h
    each_in how (Bin' o q (only a) r (only b)) h =
        each_both P (sites_in u a) (sites_in u b) (each_in read a (right_left u (uses_in read a) (uses_in read b) h)) (each_in read b (right_right u (uses_in read a) (uses_in read b) h))
    each_in how (Rel' o q (only a) r (only b)) h =
        each_both P (sites_in u a) (sites_in u b) (each_in read a (right_left u (uses_in read a) (uses_in read b) h)) (each_in read b (right_right u (uses_in read a) (uses_in read b) h))
    each_in how (And' q (only a) r (only b)) h =
        each_both P (sites_in u a) (sites_in u b) (each_in read a (right_left u (uses_in read a) (uses_in read b) h)) (each_in read b (right_right u (uses_in read a) (uses_in read b) h))
    each_in how (Or' q (only a) r (only b)) h =
        each_both P (sites_in u a) (sites_in u b) (each_in read a (right_left u (uses_in read a) (uses_in read b) h)) (each_in read b (right_right u (uses_in read a) (uses_in read b) h))

    each_in_row : (how : Use) {m : Count} (args : Row_of-Expr m) → AreRight u (uses_in_row how args) → Each P (sites_in_row u args)
    each_in_row how end_of-Expr h = each_none P
    each_in_row how (more_of-Expr e es) h =
        each_both P (sites_in u e) (sites_in_row u es) (each_in how e (right_left u (uses_in how e) (uses_in_row how es) h)) (each_in_row how es (right_right u (uses_in how e) (uses_in_row how es) h))

  -- the left side of an assignment, where calls stand in subscripts alone
  each_on_left : (e : Expr) → is_left_side e ≡ true → AreRight u (uses_on_left e) → Each P (sites_in u e)
  each_on_left (Var x) t h = each_none P
  each_on_left (Apply' f shape args) t h =
      let array = (right_first u f (assigned_element (length (syntax.listed args))) (uses_in_row read args) h).0 in
      each_both P (own_site (applied u f) f (listed args)) (sites_in_row u args)
      (each_own P (applied u f) f (listed args) (λ e. absurd (array_no_reference (dims_of u f) (intrinsic f) (array) e)))
      (each_in_row read args (right_behind u _ (uses_in_row read args) h))
  each_on_left (Const n) t h = absurd (cc)
  each_on_left (Truth b) t h = absurd (cc)
  each_on_left (Paren' shape a) t h = absurd (cc)
  each_on_left (Pos' shape a) t h = absurd (cc)
  each_on_left (Neg' shape a) t h = absurd (cc)
  each_on_left (Power' shape a n) t h = absurd (cc)
  each_on_left (Bin' o q a r b) t h = absurd (cc)
  each_on_left (Rel' o q a r b) t h = absurd (cc)
  each_on_left (Not' shape a) t h = absurd (cc)
  each_on_left (And' q a r b) t h = absurd (cc)
  each_on_left (Or' q a r b) t h = absurd (cc)

  each_of_call : (f : Name) (args : List Expr) → AreRight u (uses_of (Call f args)) → Each P (sites_of u (Call f args))
  each_of_call f args h =
      let behind : AreRight u (uses_in_row actual (row_of args)) = subst (AreRight u) (sym (row_uses actual args)) (right_behind u (occurrence f called) (flat_map (uses_in actual) args) h) in
      each_both P (record { reference = false; callee = f; actuals = args } ∷ []) (sites_in_row u (row_of args))
      (each_one P (record { reference = false; callee = f; actuals = args }) (call f args (right_first u f called (flat_map (uses_in actual) args) h).0 behind))
      (each_in_row actual (row_of args) behind)

  pub each_of : (s : Stmt) → has_right_form s ≡ true → AreRight u (uses_of s) → Each P (sites_of u s)
  each_of (Assign left right) t h =
      each_both P (sites_in u left) (sites_in u right)
      (each_on_left left t (right_left u (uses_on_left left) (uses_in read right) h)) (each_in read right (right_right u (uses_on_left left) (uses_in read right) h))
  each_of (ArithIf e l m n) t h = each_in read e h
  each_of (LogicalIf' e shape (carried s)) t h =
      each_both P (sites_in u e) (sites_of u s)
      (each_in read e (right_left u (uses_in read e) (uses_of s) h)) (each_of s (split (is_carried s) (has_right_form s) t).1 (right_right u (uses_in read e) (uses_of s) h))
  each_of (Call f args) t h = each_of_call f args h
  each_of (BlockIf e) t h = each_in read e h
  each_of (ElseIf e) t h = each_in read e h
  each_of (Do label y first last step) t h = each_none P
  each_of (Subroutine f dummies) t h = each_none P
  each_of (Function sort f dummies) t h = each_none P
  each_of (Declare sort items) t h = each_none P
  each_of (Dimension items) t h = each_none P
  each_of (Common groups) t h = each_none P
  each_of (GoTo label) t h = each_none P
  each_of (Computed labels y) t h = each_none P
  each_of Continue t h = each_none P
  each_of Return t h = each_none P
  each_of End t h = each_none P
  each_of Else t h = each_none P
  each_of EndIf t h = each_none P

-- the bare names among the actuals of a call are data names
abbrev pub PassesData : Routine → CallSite → Type 0
PassesData u site = (n : ℕ) (x : Name) → slice_get site.actuals n ≡ Some (Var x) → is_among x (names_of_unit u) ≡ true

pub pass_data : (u : Routine) (s : Stmt) → has_right_form s ≡ true → AreRight u (uses_of s) → Each (PassesData u) (sites_of u s)
pass_data u =
    each_of u (PassesData u)
    (λ f m args e k h n x a. (h (occurrence x (argument_of f)) (bare_in_row (argument_of f) args n x a)).0)
    (λ f args k h n x a. (h (occurrence x actual) (bare_in_row actual (row_of args) n x (ap (λ es. slice_get es n) (listed_row args) ∙ a))).0)

-- ---- the value of a FUNCTION

assigned_scalar : (u : Routine) (x : Name) (how : Use) → is_assigned how ≡ true → (is_known u x how ≡ true) × (is_misused (scope_of_unit u) x how ≡ false)
    → (is_among x (names_of_unit u) ≡ true) × (is_array (scope_of_unit u) x ≡ false)
assigned_scalar u x assigned h r = r
assigned_scalar u x read h r = absurd (cc)
assigned_scalar u x (assigned_element n) h r = absurd (cc)
assigned_scalar u x counted h r = absurd (cc)
assigned_scalar u x (before_bracket n) h r = absurd (cc)
assigned_scalar u x (argument_of f) h r = absurd (cc)
assigned_scalar u x actual h r = absurd (cc)
assigned_scalar u x called h r = absurd (cc)

pub own_is_scalar : (dialect : Dialect) (u : Routine) → IsWellFormedUnit dialect u → is_some u.sort ≡ true → (is_among u.name (names_of_unit u) ≡ true) × (is_array (scope_of_unit u) u.name ≡ false)
own_is_scalar dialect u w f =
    let some = some_passes (λ o. same_bytes o.name u.name && is_assigned o.«use») (flat_map (λ line. uses_of line.stmt) u.lines) (one_holds (not (is_some u.sort)) _ w.result (ap not f)) in
    let b = split (same_bytes (some.0).name u.name) (is_assigned (some.0).«use») some.2 in
    let from = among_given (λ line. uses_of line.stmt) u.lines some.0 some.1 in
    let right = (right_line dialect u w from.0 from.1).uses some.0 from.2 in
    subst (λ x. (is_among x (names_of_unit u) ≡ true) × (is_array (scope_of_unit u) x ≡ false)) (same_text (some.0).name u.name (sym b.0)) (assigned_scalar u (some.0).name (some.0).«use» b.1 right)
