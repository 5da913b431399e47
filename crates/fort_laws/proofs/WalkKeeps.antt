-- Walks of statements leave names alone that the unit does not smash.
use Rattle.std.proofs.Common.{◌≡◌, ℕ, zero, suc, ◌⊎◌, inl, inr, Bool, true, false, cond, ◌&&◌, ◌||◌, List, [], ◌∷◌, ◌++◌, Option, Some, None, slice_get, refl, sym, ap, ◌∙◌, subst, arith}
use Rattle.std.specs.Prelude.{◌==◌, nat_lt}
use Rattle.std.specs.List.{list_any, filter}
use Rattle.fort_syntax.specs.TreePatterns.{listed, only, carried, row_of}
use Rattle.fort_syntax.specs.Names.{Applied, Element, BuiltIn, Reference, applied, subroutine, has_common, commons}
use Rattle.formula.specs.Atoms.{same_bytes, is_among}
use mathlib.Core.Former.{Count}
use Rattle.fort_syntax.specs.declared.name.Name.{Name}
use Rattle.fort_syntax.specs.declared.dialect.Dialect.{Dialect}
use Rattle.fort_syntax.specs.declared.dialect.Dialect.TheVariants.{Common, SeventySeven}
use Rattle.fort_syntax.specs.declared.expr.Expr.{Expr, Row_of-Expr, end_of-Expr, more_of-Expr}
use Rattle.fort_syntax.specs.declared.expr.Expr.TheVariants.{Const, Truth, Var, Apply', Paren', Pos', Neg', Power', Bin', Rel', Not', And', Or'}
use Rattle.fort_syntax.specs.declared.stmt.Stmt.{Stmt}
use Rattle.fort_syntax.specs.declared.stmt.Stmt.TheVariants.{Subroutine, Function as FunctionHead, Declare, Dimension, Common as CommonBlock, Assign, GoTo, Computed as ComputedGoTo, ArithIf, LogicalIf', Do, Continue, Call, Return, End, BlockIf, ElseIf, Else, EndIf}
use Rattle.fort_syntax.specs.declared.unit.Line.{Line}
use Rattle.fort_syntax.specs.declared.unit.Unit.{Unit as Routine}
use Rattle.fort_model.specs.Calls.{CallSite, Calls, sites_in, sites_of}
use Rattle.fort_model.specs.Flow.{Loop, loops_at, around, loops_around}
use Rattle.fort_model.specs.Lists.{IsAmong}
use Rattle.fort_model.specs.Program.{is_smashed}
use Rattle.fort_model.specs.Seen.{Named, Answers, See}
use Rattle.fort_model.specs.Smashes.{Smashes, sets, passes, shares, HoldsSmashed, set_name, set_by}
use Rattle.fort_model.specs.WalkCalls.{Sight, Operand, Bare, Part, Computed, smashed_actuals, smashed_commons, hits, call, call_in}
use Rattle.fort_model.specs.WalkExpr.{apply, operand, operands, values}
use Rattle.fort_model.specs.WalkStmt.{with_name, assign, tests, behind, passed_over, entered, begin, select, selected, performed}
use Rattle.fort_laws.specs.Segments.{seen}
use Rattle.fort_laws.specs.WholeRuns.{StatementsKeepUnsmashed}
use Rattle.fort_laws.proofs.FrameEnter.{SameOrNot, same, other, same_or_not}
use Rattle.fort_laws.proofs.FrameParts.{loops_set}
use Rattle.fort_laws.proofs.FrameSeats.{clash}
use Rattle.fort_laws.proofs.Kept.{listed_row}
use Rattle.fort_laws.proofs.Near.{known}

-- ---- lists

any_append : {A : Type 0} (p : A → Bool) (xs ys : List A) → list_any p (xs ++ ys) ≡ true → (list_any p xs ≡ true) ⊎ (list_any p ys ≡ true)
any_append p [] ys h = inr h
any_append p (x ∷ xs) ys h = by_first (p x) h (λ k. any_append p xs ys k)
  where
    later : (list_any p xs ≡ true) ⊎ (list_any p ys ≡ true) → ((false || list_any p xs) ≡ true) ⊎ (list_any p ys ≡ true)
    later k = k

    by_first : (b : Bool) → (b || list_any p (xs ++ ys)) ≡ true → (list_any p (xs ++ ys) ≡ true → (list_any p xs ≡ true) ⊎ (list_any p ys ≡ true)) → ((b || list_any p xs) ≡ true) ⊎ (list_any p ys ≡ true)
    by_first true k on = inl refl
    by_first false k on = later (on k)

behind_all : {A : Type 0} (xs ys : List A) (z : A) → IsAmong z ys → IsAmong z (xs ++ ys)
behind_all [] ys z m = m
behind_all (x ∷ xs) ys z m = let r = behind_all xs ys z m in (suc r.0, r.1)

both : (a b : Bool) → (a && b) ≡ true → (a ≡ true) × (b ≡ true)
both true b h = (refl, h)
both false b h = absurd (grind arith)

in_filter : (test : Name → Bool) (zs : List Name) (y : Name) → is_among y (filter test zs) ≡ true → IsAmong y zs × (test y ≡ true)
in_filter test [] y h = absurd (grind arith)
in_filter test (z ∷ zs) y h = by_test (test z) refl h (λ k. later (in_filter test zs y k))
  where
    later : IsAmong y zs × (test y ≡ true) → IsAmong y (z ∷ zs) × (test y ≡ true)
    later k = ((suc k.0.0, k.0.1), k.1)

    by_name : test z ≡ true → SameOrNot y z → (same_bytes y z || is_among y (filter test zs)) ≡ true → (is_among y (filter test zs) ≡ true → IsAmong y (z ∷ zs) × (test y ≡ true))
        → IsAmong y (z ∷ zs) × (test y ≡ true)
    by_name e (same q t) k on = ((0, ap Some (sym q)), ap test q ∙ e)
    by_name e (other n t) k on = on (ap (λ b. b || is_among y (filter test zs)) (sym t) ∙ k)

    by_test : (b : Bool) → test z ≡ b → is_among y (cond b (z ∷ filter test zs) (filter test zs)) ≡ true → (is_among y (filter test zs) ≡ true → IsAmong y (z ∷ zs) × (test y ≡ true))
        → IsAmong y (z ∷ zs) × (test y ≡ true)
    by_test false e k on = on k
    by_test true e k on = by_name e (same_or_not y z) k on

pub in_around : (pc : ℕ) (ds : List Loop) (d : Loop) → IsAmong d (around pc ds) → IsAmong d ds
in_around pc [] d m = m
in_around pc (e ∷ ds) d m = by_test (nat_lt e.at pc) m (λ k. later (in_around pc ds d k))
  where
    later : IsAmong d ds → IsAmong d (e ∷ ds)
    later k = (suc k.0, k.1)

    by_test : (b : Bool) → IsAmong d (cond b (e ∷ around pc ds) (around pc ds)) → (IsAmong d (around pc ds) → IsAmong d (e ∷ ds)) → IsAmong d (e ∷ ds)
    by_test true (zero, q) on = (0, q)
    by_test true (suc n, q) on = on (n, q)
    by_test false k on = on k

-- ---- parts of walks

module _ {V : Type 0} (y : Name) where
  -- a part comes to names of which one stands for this
  abbrev Comes : See V (Named V) → V → Type 0
  Comes part z = (answers : Answers V) → (part answers).value y ≡ z

  comes_cond : (b : Bool) (p q : See V (Named V)) (z : V) → Comes p z → Comes q z → Comes (cond b p q) z
  comes_cond true p q z h k = h
  comes_cond false p q z h k = k

  with_other : (now : Named V) (x : Name) (v : V) → (x ≡ y → ⊥) → with_name now x v y ≡ now y
  with_other now x v n = by_name (same_or_not x y)
    where
      by_name : SameOrNot x y → with_name now x v y ≡ now y
      by_name (same e t) = absurd (n e)
      by_name (other d t) = ap (λ (b : Bool). cond b v (now y)) t

-- the DOs have other variables
abbrev OtherLoops : Name → List Loop → Type 0
OtherLoops y ds = (d : Loop) → IsAmong d ds → d.variable ≡ y → ⊥

module _ {V : Type 0} (w : Sight V) (y : Name) where
  tests_keep : (card : ℕ) (ds : List Loop) (now : Named V) (cs : List ℕ) → OtherLoops y ds → Comes y (tests w card now ds cs) (now y)
  tests_keep card [] now cs h answers = refl
  tests_keep card (d ∷ ds) now [] h answers = refl
  tests_keep card (d ∷ ds) now (c ∷ cs) h answers =
      comes_cond y (c == 1) _ _ (now y) (λ more. with_other y now d.variable _ (h d (0, refl)))
      (λ more. tests_keep card ds _ cs (λ e m. h e (suc m.0, m.1)) more ∙ with_other y now d.variable _ (h d (0, refl))) _

  -- ---- actuals

  -- bare operands are bare actuals
  abbrev AreBare : List (Operand V) → List Expr → Type 0
  AreBare xs es = (n : ℕ) (x : Name) (v : V) → slice_get xs n ≡ Some (Bare x v) → slice_get es n ≡ Some (Var x)

  -- no bare name
  abbrev IsNotBare : Operand V → Type 0
  IsNotBare (Bare x v) = ⊥
  IsNotBare (Part v) = Unit {0}
  IsNotBare (Computed v) = Unit {0}

  not_bare : (o : Operand V) (x : Name) (v : V) → IsNotBare o → o ≡ Bare x v → ⊥
  not_bare o x v h e = subst (λ (p : Operand V). IsNotBare p) e h

  applied_not_bare : (card : ℕ) (now : Named V) (a : Name) (k : Applied) (vs : See V (List V)) (xs : See V (List (Operand V))) (answers : Answers V) → IsNotBare (apply w card now a k vs xs answers).value
  applied_not_bare card now a (Element dims) vs xs answers = tt
  applied_not_bare card now a (BuiltIn i) vs xs answers = tt
  applied_not_bare card now a Reference vs xs answers = tt

  of_bare : (z x : Name) (u v : V) → Bare z u ≡ Bare x v → Var z ≡ Var x
  of_bare z x u v k = cc

  one_bare : (card : ℕ) (now : Named V) (e : Expr) (answers : Answers V) (x : Name) (v : V) → (operand w card now e answers).value ≡ Bare x v → e ≡ Var x
  one_bare card now (Var z) answers x v h = of_bare z x (now z) v h
  one_bare card now (Apply' a q args) answers x v h = absurd (not_bare _ x v (applied_not_bare card now a (applied w.unit a) (values w card now args) (operands w card now args) answers) h)
  one_bare card now (Const c) answers x v h = absurd (not_bare _ x v tt h)
  one_bare card now (Truth b) answers x v h = absurd (not_bare _ x v tt h)
  one_bare card now (Paren' q (only a)) answers x v h = absurd (not_bare _ x v tt h)
  one_bare card now (Pos' q (only a)) answers x v h = absurd (not_bare _ x v tt h)
  one_bare card now (Neg' q (only a)) answers x v h = absurd (not_bare _ x v tt h)
  one_bare card now (Power' q (only a) n) answers x v h = absurd (not_bare _ x v tt h)
  one_bare card now (Bin' o q (only a) r (only b)) answers x v h = absurd (not_bare _ x v tt h)
  one_bare card now (Rel' o q (only a) r (only b)) answers x v h = absurd (not_bare _ x v tt h)
  one_bare card now (Not' q (only a)) answers x v h = absurd (not_bare _ x v tt h)
  one_bare card now (And' q (only a) r (only b)) answers x v h = absurd (not_bare _ x v tt h)
  one_bare card now (Or' q (only a) r (only b)) answers x v h = absurd (not_bare _ x v tt h)

  row_bare : (card : ℕ) (now : Named V) {m : Count} (es : Row_of-Expr m) (answers : Answers V) → AreBare (operands w card now es answers).value (listed es)
  row_bare card now end_of-Expr answers n x v h = absurd (cc)
  row_bare card now (more_of-Expr e es) answers zero x v h = ap Some (one_bare card now e answers x v (some_is _ _ h))
    where
      some_is : (o p : Operand V) → Some o ≡ Some p → o ≡ p
      some_is o p k = cc
  row_bare card now (more_of-Expr e es) answers (suc n) x v h = row_bare card now es (operand w card now e answers).rest n x v h

  -- ---- what a call smashes

  -- a bare actual of a smashed dummy
  pub record Hit (smashed : Name → Bool) (ds : List Name) (xs : List (Operand V)) : Type 0 where
    at : ℕ
    dummy : Name
    its : V
    is_dummy : slice_get ds at ≡ Some dummy
    is_smashed : smashed dummy ≡ true
    is_bare : slice_get xs at ≡ Some (Bare y its)

  further : (smashed : Name → Bool) (d : Name) (ds : List Name) (x : Operand V) (xs : List (Operand V)) → Hit smashed ds xs → Hit smashed (d ∷ ds) (x ∷ xs)
  further smashed d ds x xs h = record { at = suc h.at; dummy = h.dummy; its = h.its; is_dummy = h.is_dummy; is_smashed = h.is_smashed; is_bare = h.is_bare }

  hit : (smashed : Name → Bool) (ds : List Name) (xs : List (Operand V)) → is_among y (smashed_actuals w smashed ds xs) ≡ true → Hit smashed ds xs
  hit smashed [] xs h = absurd (grind arith)
  hit smashed (d ∷ ds) [] h = absurd (grind arith)
  hit smashed (d ∷ ds) (Part v ∷ xs) h = further smashed d ds (Part v) xs (hit smashed ds xs h)
  hit smashed (d ∷ ds) (Computed v ∷ xs) h = further smashed d ds (Computed v) xs (hit smashed ds xs h)
  hit smashed (d ∷ ds) (Bare x v ∷ xs) h = by_test (smashed d) refl h (λ k. further smashed d ds (Bare x v) xs (hit smashed ds xs k))
    where
      rest : List Name
      rest = smashed_actuals w smashed ds xs

      by_name : smashed d ≡ true → SameOrNot y x → (same_bytes y x || is_among y rest) ≡ true → (is_among y rest ≡ true → Hit smashed (d ∷ ds) (Bare x v ∷ xs)) → Hit smashed (d ∷ ds) (Bare x v ∷ xs)
      by_name e (same q t) k on = record { at = 0; dummy = d; its = v; is_dummy = refl; is_smashed = e; is_bare = ap (λ (z : Name). Some (Bare z v)) (sym q) }
      by_name e (other n t) k on = on (ap (λ b. b || is_among y rest) (sym t) ∙ k)

      by_test : (b : Bool) → smashed d ≡ b → is_among y (cond b (x ∷ rest) rest) ≡ true → (is_among y rest ≡ true → Hit smashed (d ∷ ds) (Bare x v ∷ xs)) → Hit smashed (d ∷ ds) (Bare x v ∷ xs)
      by_test false e k on = on k
      by_test true e k on = by_name e (same_or_not y x) k on

  module _ (table : HoldsSmashed w.program) (is_unit : slice_get w.program.units w.number ≡ Some w.unit) (blocks : (x : Name) → IsAmong x (commons w.unit) → has_common w.unit x ≡ true)
      (kept : is_smashed w.program w.number y ≡ false) (line : Line) (is_line : IsAmong line w.unit.lines) where
    not_smashed : Smashes w.program.units w.number y → ⊥
    not_smashed h = clash (is_smashed w.program w.number y) ((table w.number y).1 h) kept

    module _ (f : Name) (args : List Expr) (site : IsAmong (record { reference = false; callee = f; actuals = args }) (sites_of w.unit line.stmt))
        (j : ℕ) (g : Routine) (is_of : subroutine w.program.units f ≡ Some j) (is_callee : slice_get w.program.units j ≡ Some g) where
      abbrev called : Calls w.program.units w.number j
      called = record {
        caller = w.unit;
        callee = g;
        is_caller = is_unit;
        is_callee = is_callee;
        line = line;
        is_line = is_line;
        site = record { reference = false; callee = f; actuals = args };
        is_site = site;
        is_of = is_of;
      }

      not_hit : (xs : List (Operand V)) → AreBare xs args → is_among y (hits w j g xs) ≡ false
      not_hit xs bare = known (is_among y (hits w j g xs)) (λ t. absurd (by_part (any_append (same_bytes y) (smashed_actuals w (is_smashed w.program j) g.dummies xs) (smashed_commons w (is_smashed w.program j) g) t))) (λ f. f)
        where
          by_part : (is_among y (smashed_actuals w (is_smashed w.program j) g.dummies xs) ≡ true) ⊎ (is_among y (smashed_commons w (is_smashed w.program j) g) ≡ true) → ⊥
          by_part (inl t) =
              let h = hit (is_smashed w.program j) g.dummies xs t in
              not_smashed (passes called h.at h.is_dummy (bare h.at y h.its h.is_bare) ((table j h.dummy).0 h.is_smashed))
          by_part (inr t) =
              let h = in_filter (λ x. has_common g x && is_smashed w.program j x) (commons w.unit) y t in
              let b = both (has_common g y) (is_smashed w.program j y) h.1 in
              not_smashed (shares called (blocks y h.0) b.0 ((table j y).0 b.1))

    call_keeps : (card : ℕ) (f : Name) (args : List Expr) → IsAmong (record { reference = false; callee = f; actuals = args }) (sites_of w.unit line.stmt)
        → (now : Named V) (xs : List (Operand V)) → AreBare xs args → (answers : Answers V) → ((call w card (subroutine w.program.units f) now xs answers).value.0) y ≡ now y
    call_keeps card f args site now xs bare answers = by_number (subroutine w.program.units f) refl
      where
        by_unit : (j : ℕ) (o : Option Routine) → subroutine w.program.units f ≡ Some j → slice_get w.program.units j ≡ o → ((call_in w card j o now xs answers).value.0) y ≡ now y
        by_unit j None e q = refl
        by_unit j (Some g) e q = ap (λ (b : Bool). cond b (answers 0 y) (now y)) (not_hit f args site j g e q xs bare)

        by_number : (o : Option ℕ) → subroutine w.program.units f ≡ o → ((call w card o now xs answers).value.0) y ≡ now y
        by_number None e = refl
        by_number (Some j) e = by_unit j (slice_get w.program.units j) e refl

    -- ---- statements

    loops_other : (pc : ℕ) → OtherLoops y (loops_at w.unit pc)
    loops_other pc d m e = let s = loops_set w.unit pc d m in not_smashed (subst (λ (x : Name). Smashes w.program.units w.number x) e (sets w.unit s.line is_unit s.among s.set))

    behind_keeps : (card pc : ℕ) (now : Named V) (cs : List ℕ) → Comes y (behind w card pc now cs) (now y)
    behind_keeps card pc now cs = tests_keep card (loops_at w.unit pc) now cs (loops_other pc)

    passed_over_keeps : (last pc : ℕ) (now : Named V) (cs : List ℕ) → Comes y (passed_over w last pc now cs) (now y)
    passed_over_keeps last pc now cs = tests_keep _ (loops_around w.unit last pc) now cs (λ d m e. loops_other last d (in_around pc (loops_at w.unit last) d m) e)

    -- a statement of the line sets other names
    other_set : (x : Name) → IsAmong x (set_by line.stmt) → x ≡ y → ⊥
    other_set x m e = not_smashed (subst (λ (z : Name). Smashes w.program.units w.number z) e (sets w.unit line is_unit is_line m))

    assign_keeps : (card : ℕ) (now : Named V) (left : Expr) (v : V) → ((x : Name) → IsAmong x (set_name left) → x ≡ y → ⊥) → Comes y (assign w card now left v) (now y)
    assign_keeps card now (Var x) v h answers = with_other y now x v (h x (0, refl))
    assign_keeps card now (Apply' a q args) v h answers = with_other y now a _ (h a (0, refl))
    assign_keeps card now (Const c) v h answers = refl
    assign_keeps card now (Truth b) v h answers = refl
    assign_keeps card now (Paren' q a) v h answers = refl
    assign_keeps card now (Pos' q a) v h answers = refl
    assign_keeps card now (Neg' q a) v h answers = refl
    assign_keeps card now (Power' q a n) v h answers = refl
    assign_keeps card now (Bin' o q a r b) v h answers = refl
    assign_keeps card now (Rel' o q a r b) v h answers = refl
    assign_keeps card now (Not' q a) v h answers = refl
    assign_keeps card now (And' q a r b) v h answers = refl
    assign_keeps card now (Or' q a r b) v h answers = refl

    entered_keeps : (last pc : ℕ) (now : Named V) (m1 m2 : V) (cs : List ℕ) → Comes y (entered w last pc now m1 m2 cs) (now y)
    entered_keeps last pc now m1 m2 [] answers = refl
    entered_keeps last pc now m1 m2 (c ∷ cs) answers = comes_cond y (c == 1) _ _ (now y) (λ more. refl) (λ more. passed_over_keeps last pc now cs more) answers

    begin_keeps : (dialect : Dialect) (card last pc : ℕ) (now : Named V) (x : Name) (m1 m2 m3 : V) (cs : List ℕ) → (x ≡ y → ⊥) → Comes y (begin w dialect card last pc now x m1 m2 m3 cs) (now y)
    begin_keeps Common card last pc now x m1 m2 m3 cs h answers = with_other y now x m1 h
    begin_keeps SeventySeven card last pc now x m1 m2 m3 cs h answers = entered_keeps last pc _ m1 m2 cs _ ∙ with_other y now x m1 h

    select_keeps : (dialect : Dialect) (card pc : ℕ) (now : Named V) (labels : ℕ) (v : V) (c : ℕ) (cs : List ℕ) → Comes y (select w dialect card pc now labels v c cs) (now y)
    select_keeps Common card pc now labels v c cs answers = refl
    select_keeps SeventySeven card pc now labels v c cs answers = comes_cond y (c == suc labels) _ _ (now y) (λ more. behind_keeps card pc now cs more) (λ more. refl) answers

    selected_keeps : (card pc : ℕ) (now : Named V) (labels : ℕ) (v : V) (cs : List ℕ) → Comes y (selected w card pc now labels v cs) (now y)
    selected_keeps card pc now labels v [] answers = refl
    selected_keeps card pc now labels v (c ∷ cs) answers = select_keeps w.program.dialect card pc now labels v c cs answers

    performed_keeps : (stmt : Stmt) → ((x : Name) → IsAmong x (set_by stmt) → IsAmong x (set_by line.stmt)) → ((site : CallSite) → IsAmong site (sites_of w.unit stmt) → IsAmong site (sites_of w.unit line.stmt))
        → (card pc : ℕ) (now : Named V) (cs : List ℕ) → Comes y (performed w card pc now stmt cs) (now y)
    performed_keeps (Assign left right) h k card pc now cs answers = behind_keeps card pc _ cs _ ∙ assign_keeps card now left _ (λ x m. other_set x (h x m)) _
    performed_keeps (GoTo l) h k card pc now cs answers = refl
    performed_keeps (ComputedGoTo ls x) h k card pc now cs answers = selected_keeps card pc now _ _ cs _
    performed_keeps (ArithIf e l m n) h k card pc now cs answers = refl
    performed_keeps (LogicalIf' e q (carried b)) h k card pc now [] answers = refl
    performed_keeps (LogicalIf' e q (carried b)) h k card pc now (c ∷ cs) answers =
        comes_cond y (c == 1) _ _ (now y) (λ more. performed_keeps b h (λ site m. k site (behind_all (sites_in w.unit e) (sites_of w.unit b) site m)) card pc now cs more) (λ more. behind_keeps card pc now cs more) _
    performed_keeps (Do l x first last by) h k card pc now cs answers = begin_keeps w.program.dialect card _ pc now x _ _ _ cs (other_set x (h x (0, refl))) _
    performed_keeps Continue h k card pc now cs answers = behind_keeps card pc now cs answers
    performed_keeps (Call f args) h k card pc now cs answers =
        behind_keeps card pc _ cs _
        ∙ call_keeps card f args (k (record { reference = false; callee = f; actuals = args }) (0, refl)) now _
        (subst (λ (es : List Expr). AreBare (operands w card now (row_of args) answers).value es) (listed_row args) (row_bare card now (row_of args) answers)) _
    performed_keeps Return h k card pc now cs answers = refl
    performed_keeps (BlockIf e) h k card pc now cs answers = refl
    performed_keeps (ElseIf e) h k card pc now cs answers = refl
    performed_keeps Else h k card pc now cs answers = behind_keeps card pc now cs answers
    performed_keeps EndIf h k card pc now cs answers = behind_keeps card pc now cs answers
    performed_keeps (Subroutine x xs) h k card pc now cs answers = refl
    performed_keeps (FunctionHead o x xs) h k card pc now cs answers = refl
    performed_keeps (Declare o items) h k card pc now cs answers = refl
    performed_keeps (Dimension items) h k card pc now cs answers = refl
    performed_keeps (CommonBlock groups) h k card pc now cs answers = refl
    performed_keeps End h k card pc now cs answers = refl

pub statements_keep : StatementsKeepUnsmashed
statements_keep fs values program i s table is_unit blocks pc line now answers cs e kept y k =
    performed_keeps (seen fs values program i s) y table is_unit blocks k line (pc, e) line.stmt (λ x m. m) (λ site m. m) line.card pc now cs answers ∙ kept y k
