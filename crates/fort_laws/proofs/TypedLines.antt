-- Statements of a well-formed unit have the types that their places demand.
use Rattle.std.proofs.Common.{◌≡◌, ℕ, suc, Bool, true, false, cond, not, ◌&&◌, ◌||◌, List, [], ◌∷◌, ◌++◌, flat_map, length, Option, Some, None, slice_get, nat_lt, refl, sym, ap, ◌∙◌, subst}
use Rattle.std.specs.Prelude.{◌==◌}
use Rattle.std.specs.List.{list_all}
use Rattle.formula.specs.Atoms.{is_among}
use Rattle.fort_syntax.specs.Cards.{is_given}
use Rattle.fort_syntax.specs.Grammar.{is_carried}
use Rattle.fort_syntax.specs.TreePatterns.{listed, carried, row_of}
use Rattle.fort_syntax.specs.Names.{intrinsic, applied, applied_by, dims_of, is_function}
use Rattle.fort_syntax.specs.Scopes.{Scope, is_given_dims, is_array, is_intrinsic, is_integer_scalar, same_option}
use Rattle.fort_syntax.specs.TreePatterns as syntax
use Rattle.fort_syntax.specs.TypeRules.{type_of, gives_logical, is_fit_param, is_fit_step, has_fit_places, has_fit_operands}
use Rattle.fort_syntax.specs.Units.{class_of, is_performing}
use Rattle.fort_syntax.specs.Uses.{occurrence, read, assigned, assigned_element, counted, actual, called, uses_in, uses_in_row, uses_on_left, uses_of_param, uses_of_step, uses_of, parts, parts_of_row, all_parts}
use Rattle.fort_syntax.specs.WellFormed.{IsWellFormedUnit, names_of_unit, scope_of_unit, is_left_side, has_right_form}
use Rattle.fort_syntax.specs.declared.dialect.Dialect.{Dialect}
use Rattle.fort_syntax.specs.declared.dialect.Sort.{Sort}
use Rattle.fort_syntax.specs.declared.dialect.Sort.TheVariants.{Integer, Logical}
use Rattle.fort_syntax.specs.declared.expr.Expr.{Expr}
use Rattle.fort_syntax.specs.declared.expr.Expr.TheVariants.{Const, Truth, Var, Apply', Paren', Pos', Neg', Power', Bin', Rel', Not', And', Or'}
use Rattle.fort_syntax.specs.declared.name.Name.{Name}
use Rattle.fort_syntax.specs.declared.stmt.Dim.{Dim}
use Rattle.fort_syntax.specs.declared.stmt.Param.{Param}
use Rattle.fort_syntax.specs.declared.stmt.Param.TheVariants as param
use Rattle.fort_syntax.specs.declared.stmt.Stmt.{Stmt}
use Rattle.fort_syntax.specs.declared.stmt.Stmt.TheVariants.{Subroutine, Function, Declare, Dimension, Common, Assign, GoTo, Computed, ArithIf, LogicalIf', Do, Continue, Call, Return, End, BlockIf, ElseIf, Else, EndIf}
use Rattle.fort_syntax.specs.declared.unit.Line.{Line}
use Rattle.fort_syntax.specs.declared.unit.Unit.{Unit as Routine}
use Rattle.fort_model.specs.Calls.{CallSite, own_site, sites_in, sites_in_row, sites_of}
use Rattle.fort_model.specs.Flow.{target, Loop, loop_of, loops_from, loops_at, around}
use Rattle.fort_model.specs.Lists.{IsAmong}
use Rattle.fort_model.specs.Program.{Program}
use Rattle.fort_laws.specs.Called.{IsReferenceTo, IsCallTo}
use Rattle.fort_laws.specs.GoodDecks.{StatementsAreTyped}
use Rattle.fort_laws.specs.GoodStatements.{IsParameter, IsStep}
use Rattle.fort_laws.specs.TypedStatements.{AreTypedLoops, IsTypedElement, IsTypedLeft, HasSomeLabel, HasOwnValue, IsTypedStatement}
use Rattle.fort_laws.specs.Typed.{IsScalar, IsTyped, AreInteger}
use Rattle.fort_laws.specs.Ways.{IsExecutable}
use Rattle.fort_laws.proofs.DeclaredCalls.{called_in_text, referred_in_text}
use Rattle.fort_laws.proofs.DeclaredNames.{IsNamed, named_data}
use Rattle.fort_laws.proofs.DeclaredTypes as types
use Rattle.fort_laws.proofs.DeclaredTypes.{AreReferred, AreFit, fit_left, fit_right}
use Rattle.fort_laws.proofs.DeclaredUnits as unit
use Rattle.fort_laws.proofs.DeclaredUses.{AreRight, right_left, right_right, right_behind, right_first, IsRightLine, right_line, row_uses, own_is_scalar}
use Rattle.fort_laws.proofs.FrameSeats.{clash}
use Rattle.fort_laws.proofs.Kept.{among_right}
use Rattle.fort_laws.proofs.RulesKept.{not_not, split}
use Rattle.fort_laws.proofs.Tests.{all_among}

-- ---- forms

-- what a logical IF may carry is executable
carried_performs : (s : Stmt) → is_carried s ≡ true → is_performing (class_of s) ≡ true
carried_performs (Assign left right) h = refl
carried_performs (GoTo label) h = refl
carried_performs (Computed labels x) h = refl
carried_performs (ArithIf e l m n) h = refl
carried_performs (LogicalIf' e shape (carried s)) h = absurd (cc)
carried_performs (Do label x first last step) h = absurd (cc)
carried_performs Continue h = refl
carried_performs (Call f args) h = refl
carried_performs Return h = refl
carried_performs (BlockIf e) h = absurd (cc)
carried_performs (ElseIf e) h = absurd (cc)
carried_performs Else h = absurd (cc)
carried_performs EndIf h = absurd (cc)
carried_performs (Subroutine f dummies) h = absurd (cc)
carried_performs (Function sort f dummies) h = absurd (cc)
carried_performs (Declare sort items) h = absurd (cc)
carried_performs (Dimension items) h = absurd (cc)
carried_performs (Common groups) h = absurd (cc)
carried_performs End h = absurd (cc)

executable : (s : Stmt) → is_performing (class_of s) ≡ true → has_right_form s ≡ true → IsExecutable s
executable (Computed [] x) h f = absurd (cc)
executable (Computed (l ∷ ls) x) h f = tt
executable (Assign left right) h f = tt
executable (GoTo label) h f = tt
executable (ArithIf e l m n) h f = tt
executable (LogicalIf' e shape (carried s)) h f = tt
executable (Do label x first last step) h f = tt
executable Continue h f = tt
executable (Call g args) h f = tt
executable Return h f = tt
executable (BlockIf e) h f = tt
executable (ElseIf e) h f = tt
executable Else h f = tt
executable EndIf h f = tt
executable (Subroutine g dummies) h f = absurd (cc)
executable (Function sort g dummies) h f = absurd (cc)
executable (Declare sort items) h f = absurd (cc)
executable (Dimension items) h f = absurd (cc)
executable (Common groups) h f = absurd (cc)
executable End h f = absurd (cc)

row_parts : (args : List Expr) → parts_of_row (row_of args) ≡ flat_map parts args
row_parts [] = refl
row_parts (e ∷ es) = ap (λ xs. parts e ++ xs) (row_parts es)

-- CALLs among some calls are such
abbrev AreCalled : (Name → List Expr → Type 0) → List CallSite → Type 0
AreCalled IsCall sites = (site : CallSite) → IsAmong site sites → site.reference ≡ false → IsCall site.callee site.actuals

module _ (dialect : Dialect) (p : Program) (i : ℕ) (u : Routine) (is : slice_get p.units i ≡ Some u) (w : IsWellFormedUnit dialect u) where
  abbrev scope : Scope
  scope = scope_of_unit u

  -- ---- statements

  -- what a statement of the unit is: right in its form, uses and types
  pub record IsFitLine (s : Stmt) : Type 0 where
    pub performs : is_performing (class_of s) ≡ true
    pub form : has_right_form s ≡ true
    pub uses : AreRight u (uses_of s)
    pub places : has_fit_places scope s ≡ true
    pub operands : AreFit u (all_parts s)

  fit_line : (line : Line) → IsAmong line u.lines → IsFitLine line.stmt
  fit_line line m =
      let r : IsRightLine u line.stmt = right_line dialect u w line m in
      let typed = split (has_fit_places scope line.stmt) (list_all (has_fit_operands scope) (all_parts line.stmt)) r.typed in
      record {
        performs = r.performs;
        form = r.form;
        uses = r.uses;
        places = typed.0;
        operands = λ e k. all_among (has_fit_operands scope) (all_parts line.stmt) e typed.1 k;
      }

  -- the statement that a logical IF carries
  fit_carried : (e : Expr) (s : Stmt) → IsFitLine (LogicalIf' e _ (carried s)) → IsFitLine s
  fit_carried e s h =
      let form = split (is_carried s) (has_right_form s) h.form in
      record {
        performs = carried_performs s form.0;
        form = form.1;
        uses = right_right u (uses_in read e) (uses_of s) h.uses;
        places = (split (gives_logical scope e) (has_fit_places scope s) h.places).1;
        operands = fit_right u (parts e) (all_parts s) h.operands;
      }

  -- ---- DOs

  parameter : (m : Param) → AreRight u (uses_of_param m) → is_fit_param scope m ≡ true → IsParameter u m
  parameter (param.Fixed n) h t = tt
  parameter (param.Named x) h t = unit.integer_scalar dialect u w x (right_first u x read [] h).0 t

  step_parameter : (o : Option Param) → AreRight u (uses_of_step o) → is_fit_step scope o ≡ true → IsStep u o
  step_parameter None h t = tt
  step_parameter (Some m) h t = parameter m h t

  -- the parts of a DO
  record IsFitDo (x : Name) (first last : Param) (step : Option Param) : Type 0 where
    variable : IsScalar u Integer x
    begins : IsParameter u first
    ends : IsParameter u last
    steps : IsStep u step

  fit_do : (label : ℕ) (x : Name) (first last : Param) (step : Option Param) → IsFitLine (Do label x first last step) → IsFitDo x first last step
  fit_do label x first last step h =
      let data_is = (right_first u x counted (uses_of_param first ++ uses_of_param last ++ uses_of_step step) h.uses).0 in
      let behind = right_behind u (occurrence x counted) (uses_of_param first ++ uses_of_param last ++ uses_of_step step) h.uses in
      let two = right_left u (uses_of_param first ++ uses_of_param last) (uses_of_step step) behind in
      let three = split _ (is_fit_step scope step) h.places in
      let both_params = split _ (is_fit_param scope last) three.0 in
      let own = split (is_integer_scalar scope x) (is_fit_param scope first) both_params.0 in
      record {
        variable = unit.integer_scalar dialect u w x data_is own.0;
        begins = parameter first (right_left u (uses_of_param first) (uses_of_param last) two) own.1;
        ends = parameter last (right_right u (uses_of_param first) (uses_of_param last) two) both_params.1;
        steps = step_parameter step (right_right u (uses_of_param first ++ uses_of_param last) (uses_of_step step) behind) three.1;
      }

  -- a DO that a statement begins is put before others
  add_loop : (all : List Line) (pc k : ℕ) (s : Stmt) (ds : List Loop) → IsFitLine s → AreTypedLoops u ds → AreTypedLoops u (loop_of all pc k s ds)
  add_loop all pc k (Do label x first last step) ds h good = put (target all label == pc)
    where
      put : (t : Bool) → AreTypedLoops u (cond t (record { at = k; variable = x; last = last; step = step } ∷ ds) ds)
      put true = let d = fit_do label x first last step h in (record { variable = d.variable; last = d.ends; step = d.steps }, good)
      put false = good
  add_loop all pc k (Assign left right) ds h good = good
  add_loop all pc k (GoTo label) ds h good = good
  add_loop all pc k (Computed labels x) ds h good = good
  add_loop all pc k (ArithIf e l m n) ds h good = good
  add_loop all pc k (LogicalIf' e shape (carried s)) ds h good = good
  add_loop all pc k Continue ds h good = good
  add_loop all pc k (Call f args) ds h good = good
  add_loop all pc k Return ds h good = good
  add_loop all pc k (BlockIf e) ds h good = good
  add_loop all pc k (ElseIf e) ds h good = good
  add_loop all pc k Else ds h good = good
  add_loop all pc k EndIf ds h good = good
  add_loop all pc k (Subroutine f dummies) ds h good = good
  add_loop all pc k (Function sort f dummies) ds h good = good
  add_loop all pc k (Declare sort items) ds h good = good
  add_loop all pc k (Dimension items) ds h good = good
  add_loop all pc k (Common groups) ds h good = good
  add_loop all pc k End ds h good = good

  loops_are_typed : (all : List Line) (pc k : ℕ) (lines : List Line) (ds : List Loop) → ((line : Line) → IsAmong line lines → IsFitLine line.stmt) → AreTypedLoops u ds
      → AreTypedLoops u (loops_from all pc k lines ds)
  loops_are_typed all pc k [] ds h good = good
  loops_are_typed all pc k (line ∷ lines) ds h good =
      loops_are_typed all pc (suc k) lines (loop_of all pc k line.stmt ds) (λ l m. h l (suc m.0, m.1)) (add_loop all pc k line.stmt ds (h line (0, refl)) good)

  typed_loops : (pc : ℕ) → AreTypedLoops u (loops_at u pc)
  typed_loops pc = loops_are_typed u.lines pc 0 u.lines [] fit_line tt

  some_typed : (pc : ℕ) (ds : List Loop) → AreTypedLoops u ds → AreTypedLoops u (around pc ds)
  some_typed pc [] good = tt
  some_typed pc (d ∷ ds) good = put (nat_lt d.at pc) (some_typed pc ds good.1)
    where
      put : (t : Bool) → AreTypedLoops u (around pc ds) → AreTypedLoops u (cond t (d ∷ around pc ds) (around pc ds))
      put true rest = (good.0, rest)
      put false rest = rest

  -- ---- the value of a FUNCTION

  scalar_by_name : (x : Name) → (is_among x (names_of_unit u) ≡ true) × (is_array scope x ≡ false) → (q : Sort) × IsScalar u q x
  scalar_by_name x h = let d : IsNamed u.names x = unit.has_data dialect u w x h.0 in (d.its.sort, types.scalar_of dialect u w d.its.sort x h.0 h.1 (d.sort u.functions))

  module _ (IsReference : Sort → Name → List Expr → Type 0) (IsCall : Name → List Expr → Type 0) where
    own_result : HasOwnValue u (is_function u)
    own_result = by_kind (is_function u) refl
      where
        by_kind : (t : Bool) → is_function u ≡ t → HasOwnValue u t
        by_kind false e = tt
        by_kind true e = scalar_by_name u.name (own_is_scalar dialect u w e)

    -- ---- assignments

    -- the left side of an assignment has a type
    abbrev IsFitLeft : Expr → Type 0
    IsFitLeft e = (q : Sort) × (type_of scope e ≡ Some q) × IsTypedLeft u IsReference IsCall q e

    left_name : (x : Name) → AreRight u (uses_on_left (Var x)) → IsFitLeft (Var x)
    left_name x h =
        let r = right_first u x assigned [] h in
        let d : IsNamed u.names x = unit.has_data dialect u w x r.0 in
        (d.its.sort, d.sort u.functions, types.scalar_of dialect u w d.its.sort x r.0 r.1 (d.sort u.functions))

    left_side : (e : Expr) → is_left_side e ≡ true → AreRight u (uses_on_left e) → AreFit u (parts e) → AreReferred u IsReference (sites_in u e) → IsFitLeft e
    left_side (Var x) t h fit refer = left_name x h
    left_side (Const n) t h fit refer = absurd (cc)
    left_side (Truth b) t h fit refer = absurd (cc)
    left_side (Paren' shape a) t h fit refer = absurd (cc)
    left_side (Pos' shape a) t h fit refer = absurd (cc)
    left_side (Neg' shape a) t h fit refer = absurd (cc)
    left_side (Power' shape a n) t h fit refer = absurd (cc)
    left_side (Bin' o q a r b) t h fit refer = absurd (cc)
    left_side (Rel' o q a r b) t h fit refer = absurd (cc)
    left_side (Not' shape a) t h fit refer = absurd (cc)
    left_side (And' q a r b) t h fit refer = absurd (cc)
    left_side (Or' q a r b) t h fit refer = absurd (cc)
    left_side (Apply' f shape args) t h fit refer = (d.its.sort, type_is, element (dims_of u f) refl)
      where
        r : (is_array scope f ≡ true) × (not (is_array scope f && (length (syntax.listed args) == length (dims_of u f))) ≡ false)
        r = right_first u f (assigned_element (length (syntax.listed args))) (uses_in_row read args) h

        data_is : is_among f (names_of_unit u) ≡ true
        data_is = named_data u.names f r.0

        d : IsNamed u.names f
        d = unit.has_data dialect u w f data_is

        type_is : type_of scope (Apply' f shape args) ≡ Some d.its.sort
        type_is = types.array_sort dialect u w f r.0 ∙ d.sort u.functions

        many : length (syntax.listed args) ≡ length (dims_of u f)
        many = types.same_number _ _ (split (is_array scope f) (length (syntax.listed args) == length (dims_of u f)) (not_not _ r.1)).1

        subscripts : AreInteger u IsReference args
        subscripts =
            types.integers dialect u w IsReference read (types.reads_scalars u) args (right_behind u _ (uses_in_row read args) h) (types.fit_behind u (Apply' f shape args) (parts_of_row args) fit)
            (types.referred_right dialect u w IsReference (own_site (applied u f) f (listed args)) (sites_in_row u args) refer)
            (types.integers_demanded dialect u w f (syntax.listed args) (fit (Apply' f shape args) (0, refl)) (ap (λ b. b || is_intrinsic scope f) r.0))

        element : (ds : List Dim) → dims_of u f ≡ ds → IsTypedElement u IsReference IsCall d.its.sort f args
        element [] e = absurd (clash (is_array scope f) r.0 (ap is_given_dims e))
        element (b ∷ bs) e =
            let dims_are : dims_of u f ≡ b ∷ bs = e in
            record {
              dim = b;
              dims = bs;
              applied_is = ap (λ z. applied_by z (intrinsic f)) dims_are;
              dims_are = dims_are;
              array = types.array_of dialect u w d.its.sort f (b ∷ bs) r.0 e (d.sort u.functions);
              many = types.row_count args ∙ (many ∙ ap length e);
              integers = subscripts;
            }

    -- ---- statements

    called_right : (xs ys : List CallSite) → AreCalled IsCall (xs ++ ys) → AreCalled IsCall ys
    called_right xs ys h site m = h site (among_right site xs ys m)

    -- the only expression of a statement
    one_typed : (q : Sort) (e : Expr) → AreRight u (uses_in read e) → AreFit u (parts e ++ []) → AreReferred u IsReference (sites_in u e) → same_option (type_of scope e) (Some q) ≡ true → IsTyped u IsReference q e
    one_typed q e h fit refer t = types.typed dialect u w IsReference read (types.reads_scalars u) q e h (fit_left u (parts e) [] fit) refer (types.same_type _ q t)

    typed_assignment : (pc : ℕ) (left right : Expr) → IsFitLine (Assign left right) → AreReferred u IsReference (sites_of u (Assign left right)) → IsTypedStatement u IsReference IsCall pc (Assign left right)
    typed_assignment pc left right h refer = (l.0, l.2, right_typed, typed_loops pc)
      where
        l : (q : Sort) × (type_of scope left ≡ Some q) × IsTypedLeft u IsReference IsCall q left
        l = left_side left h.form (right_left u (uses_on_left left) (uses_in read right) h.uses) (fit_left u (parts left) (parts right ++ []) h.operands)
            (types.referred_left dialect u w IsReference (sites_in u left) (sites_in u right) refer)

        right_typed : IsTyped u IsReference l.0 right
        right_typed =
            types.typed dialect u w IsReference read (types.reads_scalars u) l.0 right (right_right u (uses_on_left left) (uses_in read right) h.uses)
            (fit_left u (parts right) [] (fit_right u (parts left) (parts right ++ []) h.operands)) (types.referred_right dialect u w IsReference (sites_in u left) (sites_in u right) refer)
            (types.same_type_as l.0 _ (ap (λ o. same_option o (type_of scope right)) (sym l.1) ∙ h.places))

    typed_call : (pc : ℕ) (g : Name) (args : List Expr) → IsFitLine (Call g args) → AreReferred u IsReference (sites_of u (Call g args)) → AreCalled IsCall (sites_of u (Call g args))
        → IsTypedStatement u IsReference IsCall pc (Call g args)
    typed_call pc g args h refer calls = (
      calls (record { reference = false; callee = g; actuals = args }) (0, refl) refl,
      types.actuals dialect u w IsReference actual (λ x k. k) (row_of args)
          (subst (AreRight u) (sym (row_uses actual args)) (right_behind u (occurrence g called) (flat_map (uses_in actual) args) h.uses))
          (subst (AreFit u) (sym (row_parts args)) h.operands)
          (types.referred_right dialect u w IsReference (record { reference = false; callee = g; actuals = args } ∷ []) (sites_in_row u (row_of args)) refer),
      typed_loops pc,
    )

    has_labels : (ls : List ℕ) → is_given ls ≡ true → HasSomeLabel ls
    has_labels [] h = absurd (cc)
    has_labels (l ∷ ls) h = tt

    typed_statement : (pc : ℕ) (s : Stmt) → IsFitLine s → AreReferred u IsReference (sites_of u s) → AreCalled IsCall (sites_of u s) → IsTypedStatement u IsReference IsCall pc s
    typed_statement pc (Assign left right) h refer calls = typed_assignment pc left right h refer
    typed_statement pc (GoTo l) h refer calls = tt
    typed_statement pc (Computed ls x) h refer calls = (unit.integer_scalar dialect u w x (right_first u x read [] h.uses).0 h.places, has_labels ls h.form, typed_loops pc)
    typed_statement pc (ArithIf e l m n) h refer calls = one_typed Integer e h.uses h.operands refer h.places
    typed_statement pc (LogicalIf' e shape (carried b)) h refer calls =
        let inner : IsFitLine b = fit_carried e b h in (
          types.typed dialect u w IsReference read (types.reads_scalars u) Logical e (right_left u (uses_in read e) (uses_of b) h.uses) (fit_left u (parts e) (all_parts b) h.operands)
              (types.referred_left dialect u w IsReference (sites_in u e) (sites_of u b) refer) (types.same_type _ Logical (split (gives_logical scope e) (has_fit_places scope b) h.places).0),
          typed_loops pc,
          executable b inner.performs inner.form,
          typed_statement pc b inner (types.referred_right dialect u w IsReference (sites_in u e) (sites_of u b) refer) (called_right (sites_in u e) (sites_of u b) calls),
        )
    typed_statement pc (Do label x first last step) h refer calls =
        let d = fit_do label x first last step h in
        (d.variable, d.begins, d.ends, d.steps, some_typed pc (loops_at u (target u.lines label)) (typed_loops (target u.lines label)))
    typed_statement pc Continue h refer calls = typed_loops pc
    typed_statement pc (Call g args) h refer calls = typed_call pc g args h refer calls
    typed_statement pc Return h refer calls = own_result
    typed_statement pc (BlockIf e) h refer calls = one_typed Logical e h.uses h.operands refer h.places
    typed_statement pc (ElseIf e) h refer calls = one_typed Logical e h.uses h.operands refer h.places
    typed_statement pc Else h refer calls = typed_loops pc
    typed_statement pc EndIf h refer calls = typed_loops pc
    typed_statement pc (Subroutine f dummies) h refer calls = let bad : false ≡ true = h.performs in absurd (cc)
    typed_statement pc (Function sort f dummies) h refer calls = let bad : false ≡ true = h.performs in absurd (cc)
    typed_statement pc (Declare sort items) h refer calls = let bad : false ≡ true = h.performs in absurd (cc)
    typed_statement pc (Dimension items) h refer calls = let bad : false ≡ true = h.performs in absurd (cc)
    typed_statement pc (Common groups) h refer calls = let bad : false ≡ true = h.performs in absurd (cc)
    typed_statement pc End h refer calls = let bad : false ≡ true = h.performs in absurd (cc)

pub statements_are_typed : StatementsAreTyped
statements_are_typed dialect p i u is w keeps pc line at =
    typed_statement dialect p i u is w (IsReferenceTo p i u) (IsCallTo p i u) pc line.stmt (fit_line dialect p i u is w line (pc, at))
    (λ site q m e told. referred_in_text p keeps dialect i u is line (pc, at) site m q e told)
    (λ site m e. called_in_text p keeps dialect i u is line (pc, at) site m e)
