-- The names of a statement have slots, and its calls stand at their places.
use Rattle.std.proofs.Common.{◌≡◌, ℕ, suc, ◌+◌, true, false, List, [], ◌∷◌, ◌++◌, length, Option, Some, None, refl, sym, ap, ◌∙◌, subst}
use Rattle.std.specs.Prelude.{flat_map}
use mathlib.Core.Former.{Count}
use Rattle.formula.specs.Atoms.{is_among}
use Rattle.fort_syntax.specs.Grammar.{is_carried}
use Rattle.fort_syntax.specs.Names.{Intrinsic, Applied, Element, BuiltIn, Reference, applied, applied_by, dims_of, function, intrinsic, subroutine}
use Rattle.fort_syntax.specs.Scopes.{is_given_dims}
use Rattle.fort_syntax.specs.TreePatterns.{only, carried, listed, row_of}
use Rattle.fort_syntax.specs.Uses.{Use, Occurrence, occurrence, read, assigned, counted, argument_of, actual, called, uses_in, uses_in_row, uses_of, uses_of_param, uses_of_step, uses_on_left}
use Rattle.fort_syntax.specs.WellFormed.{has_right_form, is_known, is_left_side, names_of_unit}
use Rattle.fort_syntax.specs.declared.expr.Expr.{Expr, Row_of-Expr, end_of-Expr, more_of-Expr}
use Rattle.fort_syntax.specs.declared.expr.Expr.TheVariants.{Const, Truth, Var, Apply', Paren', Pos', Neg', Power', Bin', Rel', Not', And', Or'}
use Rattle.fort_syntax.specs.declared.name.Name.{Name}
use Rattle.fort_syntax.specs.declared.stmt.Dim.{Dim}
use Rattle.fort_syntax.specs.declared.stmt.Param.{Param}
use Rattle.fort_syntax.specs.declared.stmt.Param.TheVariants.{Fixed, Named}
use Rattle.fort_syntax.specs.declared.stmt.Stmt.{Stmt}
use Rattle.fort_syntax.specs.declared.stmt.Stmt.TheVariants.{Subroutine, Function, Declare, Dimension, Common as CommonBlock, Assign, GoTo, Computed, ArithIf, LogicalIf', Do, Continue, Call, Return, End, BlockIf, ElseIf, Else, EndIf}
use Rattle.fort_syntax.specs.declared.unit.Unit.{Unit as Routine}
use Rattle.fort_model.specs.CallFacts.{sites_of_unit}
use Rattle.fort_model.specs.Calls.{CallSite, own_site, sites_in, sites_in_row, sites_of}
use Rattle.fort_model.specs.Sites.{calls_before, calls_in, own_call}
use Rattle.fort_laws.proofs.DeclaredNames.{named_data}
use Rattle.fort_laws.proofs.DeclaredUses.{AreRight, right_behind, right_first, right_left, right_line, right_right, row_uses}
use Rattle.fort_laws.proofs.RulesKept.{split}
use Rattle.run_code.specs.Code as code
use Rattle.run_shapes.specs.Coded.{calls_coded, slot_names}
use Rattle.run_shapes.specs.declared.unit_code.CallCode.{CallCode}
use Rattle.run_coding.specs.Meanings.{AppliedHere, AreHere, IsHere}
use Rattle.run_coding.proofs.Meant.{long}
use Rattle.run_lines.specs.Stated.{ParamHere, StepHere, StmtHere}
use Rattle.run_known.specs.Known.{IsOver, StatementsAreHere}
use Rattle.run_known.proofs.Placed.{Stand, stand_first, stand_left, stand_rest, stand_right, stand_there}
use Rattle.run_known.proofs.Slotted.{name_slotted}

count_listed : {m : Count} (row : Row_of-Expr m) → length (listed row) ≡ code.count row
count_listed end_of-Expr = refl
count_listed (more_of-Expr e es) = ap suc (count_listed es)

count_row : (es : List Expr) → length es ≡ code.count (row_of es)
count_row [] = refl
count_row (e ∷ es) = ap suc (count_row es)

own_long : (a : Applied) (f : Name) (es : List Expr) → length (own_site a f es) ≡ own_call a
own_long (Element dims) f es = refl
own_long (BuiltIn i) f es = refl
own_long Reference f es = refl

given_dims : (ds dims : List Dim) (i : Option Intrinsic) → applied_by ds i ≡ Element dims → is_given_dims ds ≡ true
given_dims [] dims None e = absurd (cc)
given_dims [] dims (Some i) e = absurd (cc)
given_dims (d ∷ ds) dims i e = refl

module _ (u : Routine) (units : List Routine) (names : List Name) (calls : List CallCode)
    (has : (x : Name) → is_among x (names_of_unit u) ≡ true → is_among x names ≡ true) where
  -- how a bare name is used that is a data name
  abbrev Bare : Use → Type 0
  Bare how = (x : Name) → is_known u x how ≡ is_among x (names_of_unit u)

  known_slot : (how : Use) (x : Name) (xs : List Occurrence) → Bare how → AreRight u (occurrence x how ∷ xs) → is_among x names ≡ true
  known_slot how x xs b h = has x (sym (b x) ∙ (right_first u x how xs h).0)

  applied_here : (k : ℕ) (f : Name) (a : Applied) (n : ℕ) (es : List Expr) → applied u f ≡ a → length es ≡ n → Stand units calls k (own_site a f es)
      → AppliedHere units names calls k f a n
  applied_here k f (Element dims) n es kind long s = has f (named_data u.names f (given_dims (dims_of u f) dims (intrinsic f) kind))
  applied_here k f (BuiltIn i) n es kind long s = tt
  applied_here k f Reference n es kind long s =
      stand_first units calls k (record { reference = true; callee = f; actuals = es }) [] s ∙ ap (λ m. record { number = suc k; callee = function units f; actuals = m }) long

  mutual
    here : (how : Use) (k : ℕ) (e : Expr) → Bare how → AreRight u (uses_in how e) → Stand units calls k (sites_in u e) → IsHere u units names calls k e
    here how k (Const n) b h s = tt
    here how k (Truth n) b h s = tt
    here how k (Var x) b h s = known_slot how x [] b h
    here how k (Apply' f _ args) b h s = (
      applied_here k f (applied u f) (code.count args) (listed args) refl (count_listed args)
          (stand_left units calls k (own_site (applied u f) f (listed args)) (sites_in_row u args) s),
      row_here (argument_of f) (k + own_call (applied u f)) args (λ x. refl) (right_behind u _ (uses_in_row (argument_of f) args) h)
          (stand_right units calls k (own_call (applied u f)) (own_site (applied u f) f (listed args)) (sites_in_row u args) (own_long (applied u f) f (listed args)) s),
    )
    here how k (Paren' _ (only a)) b h s = here read k a (λ x. refl) h s
    here how k (Pos' _ (only a)) b h s = here read k a (λ x. refl) h s
    here how k (Neg' _ (only a)) b h s = here read k a (λ x. refl) h s
    here how k (Power' _ (only a) n) b h s = here read k a (λ x. refl) h s
    here how k (Not' _ (only a)) b h s = here read k a (λ x. refl) h s
    here how k (Bin' o _ (only a) _ (only c)) b h s = (
      here read k a (λ x. refl) (right_left u (uses_in read a) (uses_in read c) h) (stand_left units calls k (sites_in u a) (sites_in u c) s),
      here read (k + calls_in u a) c (λ x. refl) (right_right u (uses_in read a) (uses_in read c) h)
          (stand_right units calls k (calls_in u a) (sites_in u a) (sites_in u c) (long u a) s),
    )
    here how k (Rel' o _ (only a) _ (only c)) b h s = (
      here read k a (λ x. refl) (right_left u (uses_in read a) (uses_in read c) h) (stand_left units calls k (sites_in u a) (sites_in u c) s),
      here read (k + calls_in u a) c (λ x. refl) (right_right u (uses_in read a) (uses_in read c) h)
          (stand_right units calls k (calls_in u a) (sites_in u a) (sites_in u c) (long u a) s),
    )
    here how k (And' _ (only a) _ (only c)) b h s = (
      here read k a (λ x. refl) (right_left u (uses_in read a) (uses_in read c) h) (stand_left units calls k (sites_in u a) (sites_in u c) s),
      here read (k + calls_in u a) c (λ x. refl) (right_right u (uses_in read a) (uses_in read c) h)
          (stand_right units calls k (calls_in u a) (sites_in u a) (sites_in u c) (long u a) s),
    )
    here how k (Or' _ (only a) _ (only c)) b h s = (
      here read k a (λ x. refl) (right_left u (uses_in read a) (uses_in read c) h) (stand_left units calls k (sites_in u a) (sites_in u c) s),
      here read (k + calls_in u a) c (λ x. refl) (right_right u (uses_in read a) (uses_in read c) h)
          (stand_right units calls k (calls_in u a) (sites_in u a) (sites_in u c) (long u a) s),
    )

    row_here : (how : Use) (k : ℕ) {m : Count} (es : Row_of-Expr m) → Bare how → AreRight u (uses_in_row how es) → Stand units calls k (sites_in_row u es)
        → AreHere u units names calls k es
    row_here how k end_of-Expr b h s = tt
    row_here how k (more_of-Expr e es) b h s = (
      here how k e b (right_left u (uses_in how e) (uses_in_row how es) h) (stand_left units calls k (sites_in u e) (sites_in_row u es) s),
      row_here how (k + calls_in u e) es b (right_right u (uses_in how e) (uses_in_row how es) h)
          (stand_right units calls k (calls_in u e) (sites_in u e) (sites_in_row u es) (long u e) s),
    )

  -- ---- statements

  left_here : (k : ℕ) (e : Expr) → is_left_side e ≡ true → AreRight u (uses_on_left e) → Stand units calls k (sites_in u e) → IsHere u units names calls k e
  left_here k (Var x) t h s = known_slot assigned x [] (λ x. refl) h
  left_here k (Apply' f _ args) t h s = (
    applied_here k f (applied u f) (code.count args) (listed args) refl (count_listed args)
        (stand_left units calls k (own_site (applied u f) f (listed args)) (sites_in_row u args) s),
    row_here read (k + own_call (applied u f)) args (λ x. refl) (right_behind u _ (uses_in_row read args) h)
        (stand_right units calls k (own_call (applied u f)) (own_site (applied u f) f (listed args)) (sites_in_row u args) (own_long (applied u f) f (listed args)) s),
  )
  left_here k (Const n) t h s = absurd (cc)
  left_here k (Truth b) t h s = absurd (cc)
  left_here k (Paren' shape a) t h s = absurd (cc)
  left_here k (Pos' shape a) t h s = absurd (cc)
  left_here k (Neg' shape a) t h s = absurd (cc)
  left_here k (Power' shape a n) t h s = absurd (cc)
  left_here k (Bin' o q a r b) t h s = absurd (cc)
  left_here k (Rel' o q a r b) t h s = absurd (cc)
  left_here k (Not' shape a) t h s = absurd (cc)
  left_here k (And' q a r b) t h s = absurd (cc)
  left_here k (Or' q a r b) t h s = absurd (cc)

  param_here : (p : Param) → AreRight u (uses_of_param p) → ParamHere names p
  param_here (Fixed n) h = tt
  param_here (Named x) h = known_slot read x [] (λ x. refl) h

  step_here : (p : Option Param) → AreRight u (uses_of_step p) → StepHere names p
  step_here None h = tt
  step_here (Some m) h = param_here m h

  -- a logical IF carries no DO
  no_do : (over : code.Instr) (pc : ℕ) (s : Stmt) → is_carried s ≡ true → IsOver u pc over s
  no_do over pc s t label x first last step e = let none : true ≡ false = sym t ∙ ap is_carried e in absurd (cc)

  stmt_here : (over : code.Instr) (pc k : ℕ) (s : Stmt) → has_right_form s ≡ true → AreRight u (uses_of s) → Stand units calls k (sites_of u s) → IsOver u pc over s
      → StmtHere u units names calls over pc k s
  stmt_here over pc k (Assign l r) t h s o = (
    left_here k l t (right_left u (uses_on_left l) (uses_in read r) h) (stand_left units calls k (sites_in u l) (sites_in u r) s),
    here read (k + calls_in u l) r (λ x. refl) (right_right u (uses_on_left l) (uses_in read r) h)
        (stand_right units calls k (calls_in u l) (sites_in u l) (sites_in u r) (long u l) s),
  )
  stmt_here over pc k (Computed labels x) t h s o = known_slot read x [] (λ x. refl) h
  stmt_here over pc k (ArithIf e l m n) t h s o = here read k e (λ x. refl) h s
  stmt_here over pc k (LogicalIf' e _ (carried b)) t h s o =
      let f = split (is_carried b) (has_right_form b) t in (
        here read k e (λ x. refl) (right_left u (uses_in read e) (uses_of b) h) (stand_left units calls k (sites_in u e) (sites_of u b) s),
        stmt_here over pc (k + calls_in u e) b f.1 (right_right u (uses_in read e) (uses_of b) h)
            (stand_right units calls k (calls_in u e) (sites_in u e) (sites_of u b) (long u e) s) (no_do over pc b f.0),
      )
  stmt_here over pc k (Do label x first last step) t h s o =
      let rest = right_behind u (occurrence x counted) ((uses_of_param first ++ uses_of_param last) ++ uses_of_step step) h in
      let two = right_left u (uses_of_param first ++ uses_of_param last) (uses_of_step step) rest in (
        known_slot counted x ((uses_of_param first ++ uses_of_param last) ++ uses_of_step step) (λ x. refl) h,
        param_here first (right_left u (uses_of_param first) (uses_of_param last) two),
        param_here last (right_right u (uses_of_param first) (uses_of_param last) two),
        step_here step (right_right u (uses_of_param first ++ uses_of_param last) (uses_of_step step) rest),
        o label x first last step refl,
      )
  stmt_here over pc k (Call f args) t h s o =
      let site : CallSite = record { reference = false; callee = f; actuals = args } in
      let behind : AreRight u (uses_in_row actual (row_of args)) =
      subst (AreRight u) (sym (row_uses actual args)) (right_behind u (occurrence f called) (flat_map (uses_in actual) args) h) in (
        stand_first units calls k site (sites_in_row u (row_of args)) s ∙ ap (λ m. record { number = suc k; callee = subroutine units f; actuals = m }) (count_row args),
        row_here actual (suc k) (row_of args) (λ x. refl) behind (stand_rest units calls k site (sites_in_row u (row_of args)) s),
      )
  stmt_here over pc k (BlockIf e) t h s o = here read k e (λ x. refl) h s
  stmt_here over pc k (ElseIf e) t h s o = here read k e (λ x. refl) h s
  stmt_here over pc k (Subroutine f xs) t h s o = tt
  stmt_here over pc k (Function sort f xs) t h s o = tt
  stmt_here over pc k (Declare sort xs) t h s o = tt
  stmt_here over pc k (Dimension xs) t h s o = tt
  stmt_here over pc k (CommonBlock xs) t h s o = tt
  stmt_here over pc k (GoTo label) t h s o = tt
  stmt_here over pc k Continue t h s o = tt
  stmt_here over pc k Return t h s o = tt
  stmt_here over pc k End t h s o = tt
  stmt_here over pc k Else t h s o = tt
  stmt_here over pc k EndIf t h s o = tt

pub statements_are_here : StatementsAreHere
statements_are_here dialect u units pc line over w there is_over =
    let r = right_line dialect u w line (pc, there) in
    stmt_here u units (slot_names u) (calls_coded units 1 (sites_of_unit u)) (name_slotted dialect u w) over pc (calls_before u pc) line.stmt r.form r.uses
    (stand_there u units pc line there) is_over
