-- Expressions, calls and statements on walks in the sense of terms meet readable terms.
use Rattle.std.proofs.Common.{◌≡◌, ℕ, zero, suc, ◌+◌, ◌<◌, ◌≤◌, ◌^◌, pos, Bool, true, false, cond, List, [], ◌∷◌, map, length, codes, Option, Some, None, slice_get, refl, sym, ap, subst, arith}
use Rattle.std.specs.Prelude.{nat_le, nat_lt, ◌==◌, pred}
use Rattle.std.specs.List.{AllByRecursion}
use Rattle.std.proofs.lemmas.Bool.Decides.{nat_tests}
use Rattle.std.proofs.lemmas.Option.{slice_get_within}
use mathlib.Core.Former.{Count}
use Rattle.fort_syntax.specs.TreePatterns.{only, carried, row_of}
use Rattle.fort_syntax.specs.Names.{Intrinsic, Absolute, Modulo, Greatest, Least, Applied, Element, BuiltIn, Reference, applied, function, subroutine, is_function, is_own, has_role, data_name, dims_of, dims_of_data, has_common}
use Rattle.formula.specs.declared.definition.Heading.{Heading}
use Rattle.formula.specs.declared.function.BuiltIn.{BuiltIn as Builtin}
use Rattle.formula.specs.declared.function.BuiltIn.TheVariants as f
use Rattle.formula.specs.declared.function.Func.TheVariants as func
use Rattle.formula.specs.Atoms.{same_bytes, is_among, is_name}
use Rattle.formula.specs.Tree.{Tree, num, tree_row, takes}
use Rattle.fort_syntax.specs.declared.name.Name.{Name}
use Rattle.fort_syntax.specs.declared.condition.Kind.{Kind}
use Rattle.fort_syntax.specs.declared.condition.Kind.TheVariants.{DefinedCheck, RangeCheck, DivisorCheck, SubscriptCheck, ChoiceCheck, LoopCheck, ResultCheck, InputCheck}
use Rattle.fort_syntax.specs.declared.dialect.BinOp.{BinOp}
use Rattle.fort_syntax.specs.declared.dialect.BinOp.TheVariants.{Add, Sub, Mul, Div}
use Rattle.fort_syntax.specs.declared.dialect.RelOp.{RelOp}
use Rattle.fort_syntax.specs.declared.dialect.RelOp.TheVariants.{Lt, Le, Eq, Ne, Ge, Gt}
use Rattle.fort_syntax.specs.declared.dialect.Dialect.{Dialect}
use Rattle.fort_syntax.specs.declared.dialect.Dialect.TheVariants.{Common, SeventySeven}
use Rattle.fort_syntax.specs.declared.dialect.Sort.{Sort}
use Rattle.fort_syntax.specs.declared.dialect.Sort.TheVariants.{Integer, Logical}
use Rattle.fort_syntax.specs.declared.expr.Expr.{Expr, Row_of-Expr, end_of-Expr, more_of-Expr}
use Rattle.fort_syntax.specs.declared.expr.Expr.TheVariants.{Const, Truth, Var, Apply', Paren', Pos', Neg', Power', Bin', Rel', Not', And', Or'}
use Rattle.fort_syntax.specs.declared.stmt.Dim.{Dim}
use Rattle.fort_syntax.specs.declared.stmt.Dim.TheVariants.{Fixed, Named as Adjustable}
use Rattle.fort_syntax.specs.declared.stmt.Param.{Param}
use Rattle.fort_syntax.specs.declared.stmt.Param.TheVariants as param
use Rattle.fort_syntax.specs.declared.stmt.Stmt.{Stmt}
use Rattle.fort_syntax.specs.declared.stmt.Stmt.TheVariants.{Subroutine, Function, Declare, Dimension, Common as CommonBlock, Assign, GoTo, Computed as ComputedGoTo, ArithIf, LogicalIf', Do, Continue, Call, Return, End, BlockIf, ElseIf, Else, EndIf}
use Rattle.fort_syntax.specs.declared.unit.DataName.{DataName}
use Rattle.fort_syntax.specs.declared.unit.Line.{Line}
use Rattle.fort_syntax.specs.declared.unit.Unit.{Unit as Routine}
use Rattle.fort_model.specs.Flow.{target, Loop, loops_at, loops_around, leads, leads_computed, one_of, chosen, behind as flows_behind}
use Rattle.fort_model.specs.Perform.{card_in}
use Rattle.fort_model.specs.Program.{Program, notes_of}
use Rattle.fort_model.specs.Senses.{of_terms, natural, make1, make2, make3, undefined, is_defined, negated, lies_from_to, least_integer, greatest_integer}
use Rattle.fort_model.specs.Events.{Check}
use Rattle.fort_model.specs.Seen.{Named, Answers, Seen, See, ◌>>◌, see, later}
use Rattle.fort_model.specs.WalkPlaces.{size_if_fixed, dim, stretch_from, stretch, size_or, size, place_from, place, subscripts_fit, cell_sort, cells_sort, sort_by, sort_in, blank_by, sorts}
use Rattle.fort_model.specs.WalkCalls.{Sight, Operand, Bare, Part, Computed, stands_for, with_actuals, seen_by, hits, changed, stands_after, result_facts, call_unit, call_in, call}
use Rattle.fort_model.specs.WalkExpr.{checked, read, read_operand, valued, computed, ranged, constant, divisor, operate, power_from, relation, folded, intrinsic_value, place_checked, apply, operand, values, operands, value}
use Rattle.fort_model.specs.WalkStmt.{with_name, taken, assign, parameter, step_value, left_with, tests, behind, passed_over, entered, begin, counts_label, select, selected, choice_check, sign_fact, truth_fact, result, performed}
use Rattle.fort_model.specs.Conditions.{sight}
use Rattle.readable_laws.proofs.Made.{NamesFine, readable_number, readable_truth, readable_symbol, readable_apply, notes_readable}
use Rattle.readable_laws.proofs.Fine.{R, Each, EventsFine, AnswersFine, Fine, Any, checks_in, some_check, events_append, checks_fine, takes_fine, fine_then, fine_before, fine_see, fine_meet, fine_cond, pick_fine}
use Rattle.readable_laws.proofs.Right.{IsDimRight, AreDimsRight, IsUnitRight, IsAppliedRight, IsRight, AreRight, IsParamRight, IsStepRight, AreLoopsRight, IsLeftRight, IsStmtRight, IsProgramRight}

module _ (hs : List Heading) where
  -- ---- functions

  pub least_fine : R hs (least_integer of_terms)
  least_fine = readable_symbol hs (codes "LEAST") refl

  pub greatest_fine : R hs (greatest_integer of_terms)
  greatest_fine = readable_symbol hs (codes "GREATEST") refl

  pub make1_fine : (g : Builtin) (a : Tree) → takes (func.BuiltIn g) (tree_row (a ∷ [])) ≡ true → R hs a → R hs (make1 of_terms g a)
  make1_fine g a e k = readable_apply hs g (a ∷ []) e (k, tt)

  pub make2_fine : (g : Builtin) (a b : Tree) → takes (func.BuiltIn g) (tree_row (a ∷ b ∷ [])) ≡ true → R hs a → R hs b → R hs (make2 of_terms g a b)
  make2_fine g a b e k l = readable_apply hs g (a ∷ b ∷ []) e (k, (l, tt))

  pub make3_fine : (g : Builtin) (a b c : Tree) → takes (func.BuiltIn g) (tree_row (a ∷ b ∷ c ∷ [])) ≡ true → R hs a → R hs b → R hs c → R hs (make3 of_terms g a b c)
  make3_fine g a b c e k l m = readable_apply hs g (a ∷ b ∷ c ∷ []) e (k, (l, (m, tt)))

  pub natural_fine : (n : ℕ) → n < 10 ^ 18 → R hs (natural of_terms n)
  natural_fine n lt = readable_number hs n lt

  undefined_fine : R hs (undefined of_terms)
  undefined_fine = readable_apply hs f.Undefined [] refl tt

  lies_fine : (a c b : Tree) → R hs a → R hs c → R hs b → R hs (lies_from_to of_terms a c b)
  lies_fine a c b k l m = make2_fine f.And _ _ refl (make2_fine f.AtMost a b refl k m) (make2_fine f.AtMost b c refl m l)

  pub defined_fine : (v : Tree) → R hs v → R hs (is_defined of_terms v)
  defined_fine v k = make1_fine f.Defined v refl k

  negated_fine : (v : Tree) → R hs v → R hs (negated of_terms v)
  negated_fine v k = make1_fine f.Not v refl k

  -- ---- places

  module _ (now : Named Tree) (h : NamesFine hs now) where
    dim_fine : (d : Dim) → IsDimRight d → R hs (dim of_terms now d)
    dim_fine (Fixed n) k = natural_fine n (omega arith)
    dim_fine (Adjustable x) k = h x k

    stretch_from_fine : (ds : List Dim) (q : Tree) → AllByRecursion IsDimRight ds → R hs q → R hs (stretch_from of_terms now q ds)
    stretch_from_fine [] q k l = l
    stretch_from_fine (d ∷ ds) q k l = stretch_from_fine ds _ k.1 (make2_fine f.Times q _ refl l (dim_fine d k.0))

    stretch_fine : (ds : List Dim) → AllByRecursion IsDimRight ds → R hs (stretch of_terms now ds)
    stretch_fine [] k = natural_fine 1 (omega arith)
    stretch_fine (d ∷ ds) k = stretch_from_fine ds _ k.1 (dim_fine d k.0)

    size_fine : (ds : List Dim) → AreDimsRight ds → R hs (size of_terms now ds)
    size_fine ds k = by (size_if_fixed ds) refl
      where
        by : (o : Option ℕ) → size_if_fixed ds ≡ o → R hs (size_or of_terms o (stretch of_terms now ds))
        by None e = stretch_fine ds k.each
        by (Some n) e = let le = k.product n e in natural_fine n (omega arith)

    place_from_fine : (is : List Tree) (ds : List Dim) (p q : Tree) → Each hs is → AllByRecursion IsDimRight ds → R hs p → R hs q → R hs (place_from of_terms now p q is ds)
    place_from_fine [] ds p q m n k l = k
    place_from_fine (i ∷ is) [] p q m n k l = k
    place_from_fine (i ∷ is) (d ∷ ds) p q m n k l =
        place_from_fine is ds _ _ m.1 n.1
        (make2_fine f.Plus p _ refl k (make2_fine f.Times q _ refl l (make2_fine f.Difference i _ refl m.0 (natural_fine 1 (omega arith)))))
        (make2_fine f.Times q _ refl l (dim_fine d n.0))

    place_fine : (is : List Tree) (ds : List Dim) → Each hs is → AllByRecursion IsDimRight ds → R hs (place of_terms now is ds)
    place_fine [] ds m n = natural_fine 1 (omega arith)
    place_fine (i ∷ is) [] m n = natural_fine 1 (omega arith)
    place_fine (i ∷ is) (d ∷ ds) m n = place_from_fine is ds i _ m.1 n.1 m.0 (dim_fine d n.0)

    subscripts_fine : (is : List Tree) (ds : List Dim) → Each hs is → AllByRecursion IsDimRight ds → Each hs (subscripts_fit of_terms now is ds)
    subscripts_fine [] ds m n = tt
    subscripts_fine (i ∷ is) [] m n = tt
    subscripts_fine (i ∷ is) (d ∷ ds) m n = (lies_fine _ _ i (natural_fine 1 (omega arith)) (dim_fine d n.0) m.0, subscripts_fine is ds m.1 n.1)

    cell_sort_fine : (sort : Sort) (v : Tree) → R hs v → R hs (cell_sort of_terms sort v)
    cell_sort_fine Integer v k = make3_fine f.IntegerCell v _ _ refl k least_fine greatest_fine
    cell_sort_fine Logical v k = make1_fine f.LogicalCell v refl k

    cells_sort_fine : (sort : Sort) (n v : Tree) → R hs n → R hs v → R hs (cells_sort of_terms sort n v)
    cells_sort_fine Integer n v k l = readable_apply hs f.IntegerCells (v ∷ n ∷ least_integer of_terms ∷ greatest_integer of_terms ∷ []) refl (l, (k, (least_fine, (greatest_fine, tt))))
    cells_sort_fine Logical n v k l = make2_fine f.LogicalCells v n refl l k

    sort_by_fine : (ds : List Dim) (sort : Sort) (v : Tree) → AreDimsRight ds → R hs v → R hs (sort_by of_terms now ds sort v)
    sort_by_fine [] sort v k l = cell_sort_fine sort v l
    sort_by_fine (d ∷ ds) sort v k l = cells_sort_fine sort _ v (size_fine (d ∷ ds) k) l

    sort_in_fine : (u : Routine) → IsUnitRight u → (x : Name) (o : Option DataName) → data_name u x ≡ o → R hs (sort_in of_terms now x o)
    sort_in_fine u r x None e = readable_truth hs true
    sort_in_fine u r x (Some d) e = sort_by_fine d.dims d.sort (now x) (r.dims x d e) (h x (r.names x d e))

    pub sorts_fine : (u : Routine) → IsUnitRight u → (xs : List Name) → Each hs (sorts of_terms u now xs)
    sorts_fine u r [] = tt
    sorts_fine u r (x ∷ xs) = (sort_in_fine u r x (data_name u x) refl, sorts_fine u r xs)

  -- new cells: all dimensions are constants
  fixed_blank : (o : Option ℕ) (t : Tree) (n : ℕ) → o ≡ Some n → n ≤ 1000000 → R hs (make1 of_terms f.Blank (size_or of_terms o t))
  fixed_blank o t n e le =
      subst (λ (q : Option ℕ). R hs (make1 of_terms f.Blank (size_or of_terms q t))) (sym e)
      (readable_apply hs f.Blank (num (pos n) ∷ []) (small n le) (natural_fine n (omega arith), tt))
    where
      small : (n : ℕ) → n ≤ 1000000 → nat_le n 1000000 ≡ true
      small n le = grind (arith, nat_tests)

  blank_by_fine : (now : Named Tree) (ds : List Dim) → AreDimsRight ds → (n : ℕ) × (size_if_fixed ds ≡ Some n) → R hs (blank_by of_terms now ds)
  blank_by_fine now [] k e = undefined_fine
  blank_by_fine now (d ∷ ds) k e = fixed_blank (size_if_fixed (d ∷ ds)) _ e.0 e.1 (k.product e.0 e.1)

  -- what a name stands for at the entry, by its data name
  pub entry_by : (u : Routine) → IsUnitRight u → (entry : Named Tree) (x : Name) → R hs (entry x) → (o : Option DataName) → data_name u x ≡ o
      → R hs (cond (has_role is_own o) (blank_by of_terms entry (dims_of_data o)) (entry x))
  entry_by u r entry x k None e = k
  entry_by u r entry x k (Some d) e = by (is_own d.role) refl
    where
      by : (b : Bool) → is_own d.role ≡ b → R hs (cond b (blank_by of_terms entry d.dims) (entry x))
      by false q = k
      by true q = blank_by_fine entry d.dims (r.dims x d e) (r.owns x d e q)

  -- ---- expressions

  abbrev pub OperandFine : Operand Tree → Type 0
  OperandFine (Bare x v) = (is_name x ≡ true) × R hs v
  OperandFine (Part v) = R hs v
  OperandFine (Computed v) = R hs v

  abbrev pub OperandsFine : List (Operand Tree) → Type 0
  OperandsFine xs = AllByRecursion OperandFine xs

  abbrev pub AfterFine : Named Tree × Tree → Type 0
  AfterFine a = NamesFine hs (a.0) × R hs (a.1)

  module _ (p : Program) (right : IsProgramRight hs p) (i : ℕ) (u : Routine) (is : slice_get p.units i ≡ Some u) where
    abbrev pub w : Sight Tree
    w = sight of_terms p i u

    abbrev pub unit_right : IsUnitRight u
    unit_right = right.units i u is

    -- ---- calls

    actuals_fine : (ds : List Name) (vs : List Tree) (o : Named Tree) → Each hs vs → NamesFine hs o → NamesFine hs (with_actuals w ds vs o)
    actuals_fine [] vs o k l x e = l x e
    actuals_fine (d ∷ ds) [] o k l x e = l x e
    actuals_fine (d ∷ ds) (v ∷ vs) o k l x e = pick_fine hs (same_bytes d x) _ _ k.0 (actuals_fine ds vs o k.1 l x e)

    seen_fine : (g : Routine) (vs : List Tree) (now : Named Tree) (v : Tree) → Each hs vs → NamesFine hs now → R hs v → NamesFine hs (seen_by w g vs now v)
    seen_fine g vs now v k l m =
        actuals_fine g.dummies vs _ k (λ x e. pick_fine hs (same_bytes g.name x) _ _ m (pick_fine hs (has_common g x) _ _ (l x e) undefined_fine))

    stands_fine : (xs : List (Operand Tree)) → OperandsFine xs → Each hs (map stands_for xs)
    stands_fine [] k = tt
    stands_fine (Bare x v ∷ xs) k = (k.0.1, stands_fine xs k.1)
    stands_fine (Part v ∷ xs) k = (k.0, stands_fine xs k.1)
    stands_fine (Computed v ∷ xs) k = (k.0, stands_fine xs k.1)

    after_fine : (after : Named Tree) → NamesFine hs after → (xs : List (Operand Tree)) → OperandsFine xs → Each hs (map (stands_after w after) xs)
    after_fine after h [] k = tt
    after_fine after h (Bare x v ∷ xs) k = (h x k.0.0, after_fine after h xs k.1)
    after_fine after h (Part v ∷ xs) k = (k.0, after_fine after h xs k.1)
    after_fine after h (Computed v ∷ xs) k = (k.0, after_fine after h xs k.1)

    changed_fine : (zs : List Name) (new now : Named Tree) → NamesFine hs new → NamesFine hs now → NamesFine hs (changed w zs new now)
    changed_fine zs new now k l x e = pick_fine hs (is_among x zs) _ _ (k x e) (l x e)

    result_facts_fine : (now : Named Tree) → NamesFine hs now → (o : Option Sort) (v : Tree) → R hs v → Each hs (result_facts w o v)
    result_facts_fine now h None v k = tt
    result_facts_fine now h (Some sort) v k = (defined_fine v k, (cell_sort_fine now h sort v k, tt))

    mapped_some : {A B : Type 0} (g : A → B) (xs : List A) → 0 < length xs → 0 < length (map g xs)
    mapped_some g [] h = absurd (omega arith)
    mapped_some g (x ∷ xs) h = omega arith

    module _ (card : ℕ) (c : card < 2 ^ 32) where
      -- a call of a unit meets a check, and needs no answer but its own
      record CallFine (ps : Answers Tree) (s : Seen Tree (Named Tree × Tree)) : Type 0 where
        value : AfterFine s.value
        events : EventsFine hs s.events
        rest : s.rest ≡ ps

      call_checks : (j : ℕ) (g : Routine) (now : Named Tree) (xs : List (Operand Tree)) (answer : Named Tree) (ps : Answers Tree) → slice_get p.units j ≡ Some g
          → 1 ≤ checks_in (call_unit w card j g now xs answer ps).events
      call_checks j g now xs answer ps is_g =
          some_check InputCheck card _ _ (mapped_some _ (notes_of p j).input (right.notes j g is_g).some)

      call_unit_fine : (j : ℕ) (g : Routine) (now : Named Tree) (xs : List (Operand Tree)) (answer : Named Tree) (ps : Answers Tree) → slice_get p.units j ≡ Some g
          → NamesFine hs now → OperandsFine xs → NamesFine hs answer → CallFine ps (call_unit w card j g now xs answer ps)
      call_unit_fine j g now xs answer ps is_g k l m = record {
        value = (after, result_fine);
        events =
            events_append hs _ _ (checks_fine hs InputCheck card _ c (notes_readable hs least_fine greatest_fine _ _ before before (notes_of p j).input (right.notes j g is_g).input))
            (events_append hs _ _ (takes_fine hs _ (sorts_fine _ after u unit_right (hits w j g xs)))
            (events_append hs _ _ (takes_fine hs _ (result_facts_fine _ k g.sort (answer g.name) result_fine))
            (events_append hs _ _ (takes_fine hs _ (notes_readable hs least_fine greatest_fine _ _ before behind_call (notes_of p j).output (right.notes j g is_g).output)) tt)));
        rest = refl;
      }
        where
          result_fine : R hs (answer g.name)
          result_fine = m g.name (right.units j g is_g).name

          before : NamesFine hs (seen_by w g (map stands_for xs) now (undefined of_terms))
          before = seen_fine g _ now _ (stands_fine xs l) k undefined_fine

          after : NamesFine hs (changed w (hits w j g xs) answer now)
          after = changed_fine (hits w j g xs) answer now m k

          behind_call : NamesFine hs (seen_by w g (map (stands_after w (changed w (hits w j g xs) answer now)) xs) (changed w (hits w j g xs) answer now) (answer g.name))
          behind_call = seen_fine g _ _ _ (after_fine _ after xs l) after result_fine

      answers_left : (n m : ℕ) (ps : Answers Tree) → 1 ≤ n → AnswersFine hs (n + m) ps → NamesFine hs (ps 0) × AnswersFine hs m (later ps)
      answers_left n m ps le h = (h 0 (omega arith), λ k lt. h (suc k) (omega arith))

      call_in_fine : (j : ℕ) (o : Option Routine) → slice_get p.units j ≡ o → (now : Named Tree) (xs : List (Operand Tree)) → NamesFine hs now → OperandsFine xs → Fine hs AfterFine (call_in w card j o now xs)
      call_in_fine j None e now xs k l m ps h = fine_see hs AfterFine (now, undefined of_terms) (k, undefined_fine) m ps h
      call_in_fine j (Some g) e now xs k l m ps h =
          let a = answers_left (checks_in (call_unit w card j g now xs (ps 0) (later ps)).events) m ps (call_checks j g now xs (ps 0) (later ps) e) h in
          let r = call_unit_fine j g now xs (ps 0) (later ps) e k l a.0 in
          record { value = r.value; events = r.events; rest = a.1 }

      call_fine : (o : Option ℕ) (now : Named Tree) (xs : List (Operand Tree)) → NamesFine hs now → OperandsFine xs → Fine hs AfterFine (call w card o now xs)
      call_fine None now xs k l = fine_see hs AfterFine _ (k, undefined_fine)
      call_fine (Some j) now xs k l = call_in_fine j (slice_get p.units j) refl now xs k l

      -- ---- parts of expressions

      checked_fine : (kind : Kind) (v : Tree) → R hs v → Fine hs (Any hs) (checked w kind card v)
      checked_fine kind v k = fine_meet hs (Check kind card v ∷ []) ((c, k), tt)

      read_fine : (v : Tree) → R hs v → Fine hs (R hs) (read w card v)
      read_fine v k = fine_before hs (Any hs) (R hs) _ _ (checked_fine DefinedCheck _ (defined_fine v k)) (fine_see hs (R hs) v k)

      read_operand_fine : (x : Operand Tree) → OperandFine x → Fine hs (R hs) (read_operand w card x)
      read_operand_fine (Bare x v) k = read_fine v k.1
      read_operand_fine (Part v) k = read_fine v k
      read_operand_fine (Computed v) k = fine_see hs (R hs) v k

      valued_fine : (a : See Tree (Operand Tree)) → Fine hs OperandFine a → Fine hs (R hs) (valued w card a)
      valued_fine a k = fine_then hs OperandFine (R hs) _ _ k read_operand_fine

      computed_fine : (a : See Tree Tree) → Fine hs (R hs) a → Fine hs OperandFine (computed w a)
      computed_fine a k = fine_then hs (R hs) OperandFine _ _ k (λ v l. fine_see hs OperandFine (Computed v) l)

      ranged_fine : (v : Tree) → R hs v → Fine hs (R hs) (ranged w card v)
      ranged_fine v k = fine_before hs (Any hs) (R hs) _ _ (checked_fine RangeCheck _ (lies_fine _ _ v least_fine greatest_fine k)) (fine_see hs (R hs) v k)

      constant_fine : (n : ℕ) → n < 10 ^ 18 → Fine hs (R hs) (constant w card n)
      constant_fine n lt = fine_before hs (Any hs) (R hs) _ _ (fine_meet hs _ (met (nat_lt p.bound n))) (fine_see hs (R hs) _ (natural_fine n lt))
        where
          met : (b : Bool) → EventsFine hs (cond b (Check RangeCheck card (make2 of_terms f.AtMost (natural of_terms n) (greatest_integer of_terms)) ∷ []) [])
          met true = ((c, make2_fine f.AtMost _ _ refl (natural_fine n lt) greatest_fine), tt)
          met false = tt

      divisor_fine : (v : Tree) → R hs v → Fine hs (Any hs) (divisor w card v)
      divisor_fine v k = checked_fine DivisorCheck _ (negated_fine _ (make2_fine f.Equal v _ refl k (natural_fine 0 (omega arith))))

      operate_fine : (o : BinOp) (a b : Tree) → R hs a → R hs b → Fine hs (R hs) (operate w card o a b)
      operate_fine Add a b k l = ranged_fine _ (make2_fine f.Plus a b refl k l)
      operate_fine Sub a b k l = ranged_fine _ (make2_fine f.Difference a b refl k l)
      operate_fine Mul a b k l = ranged_fine _ (make2_fine f.Times a b refl k l)
      operate_fine Div a b k l = fine_before hs (Any hs) (R hs) _ _ (divisor_fine b l) (ranged_fine _ (make2_fine f.Quotient a b refl k l))

      power_from_fine : (more : ℕ) (base product : Tree) → R hs base → R hs product → Fine hs (R hs) (power_from w card base more product)
      power_from_fine zero base product k l = fine_see hs (R hs) _ l
      power_from_fine (suc more) base product k l =
          fine_then hs (R hs) (R hs) _ _ (ranged_fine _ (make2_fine f.Times product base refl l k)) (λ v m. power_from_fine more base v k m)

      relation_fine : (o : RelOp) (a b : Tree) → R hs a → R hs b → R hs (relation w o a b)
      relation_fine Lt a b k l = make2_fine f.Less a b refl k l
      relation_fine Le a b k l = make2_fine f.AtMost a b refl k l
      relation_fine Eq a b k l = make2_fine f.Equal a b refl k l
      relation_fine Ne a b k l = negated_fine _ (make2_fine f.Equal a b refl k l)
      relation_fine Ge a b k l = make2_fine f.AtMost b a refl l k
      relation_fine Gt a b k l = make2_fine f.Less b a refl l k

      folded_greatest : (xs : List Tree) (v : Tree) → Each hs xs → R hs v → R hs (folded w f.Maximum v xs)
      folded_greatest [] v k l = l
      folded_greatest (x ∷ xs) v k l = folded_greatest xs _ k.1 (make2_fine f.Maximum v x refl l k.0)

      folded_least : (xs : List Tree) (v : Tree) → Each hs xs → R hs v → R hs (folded w f.Minimum v xs)
      folded_least [] v k l = l
      folded_least (x ∷ xs) v k l = folded_least xs _ k.1 (make2_fine f.Minimum v x refl l k.0)

      intrinsic_fine : (g : Intrinsic) (xs : List Tree) → Each hs xs → Fine hs (R hs) (intrinsic_value w card g xs)
      intrinsic_fine Absolute [] k = fine_see hs (R hs) _ undefined_fine
      intrinsic_fine Absolute (a ∷ []) k = ranged_fine _ (make1_fine f.Absolute a refl k.0)
      intrinsic_fine Absolute (a ∷ (b ∷ xs)) k = fine_see hs (R hs) _ undefined_fine
      intrinsic_fine Modulo [] k = fine_see hs (R hs) _ undefined_fine
      intrinsic_fine Modulo (a ∷ []) k = fine_see hs (R hs) _ undefined_fine
      intrinsic_fine Modulo (a ∷ (b ∷ [])) k =
          fine_before hs (Any hs) (R hs) _ _ (divisor_fine b k.1.0)
          (fine_before hs (R hs) (R hs) _ _ (ranged_fine _ (make2_fine f.Quotient a b refl k.0 k.1.0))
          (fine_see hs (R hs) _ (make2_fine f.Remainder a b refl k.0 k.1.0)))
      intrinsic_fine Modulo (a ∷ (b ∷ (d ∷ xs))) k = fine_see hs (R hs) _ undefined_fine
      intrinsic_fine Greatest [] k = fine_see hs (R hs) _ undefined_fine
      intrinsic_fine Greatest (a ∷ xs) k = fine_see hs (R hs) _ (folded_greatest xs a k.1 k.0)
      intrinsic_fine Least [] k = fine_see hs (R hs) _ undefined_fine
      intrinsic_fine Least (a ∷ xs) k = fine_see hs (R hs) _ (folded_least xs a k.1 k.0)

      place_checked_fine : (now : Named Tree) → NamesFine hs now → (ds : List Dim) → AreDimsRight ds → (vs : List Tree) → Each hs vs → Fine hs (R hs) (place_checked w card now ds vs)
      place_checked_fine now h ds r vs l =
          fine_before hs (Any hs) (R hs) _ _ (fine_meet hs _ (checks_fine hs SubscriptCheck card _ c (subscripts_fine now h vs ds l r.each)))
          (fine_see hs (R hs) _ (place_fine now h vs ds l r.each))

      apply_fine : (now : Named Tree) → NamesFine hs now → (a : Name) (kind : Applied) (P : Type 0) (vs : See Tree (List Tree)) (xs : See Tree (List (Operand Tree)))
          → IsAppliedRight u a kind P → (P → Fine hs (Each hs) vs) → (P → Fine hs OperandsFine xs) → Fine hs OperandFine (apply w card now a kind vs xs)
      apply_fine now h a (Element ds) P vs xs r l m =
          fine_then hs (Each hs) OperandFine _ _ (l r.2) λ js n.
          fine_then hs (R hs) OperandFine _ _ (place_checked_fine now h ds r.1 js n) λ q o.
          fine_see hs OperandFine (Part (make2 of_terms f.Element (now a) q)) (make2_fine f.Element (now a) q refl (h a r.0) o)
      apply_fine now h a (BuiltIn g) P vs xs r l m = fine_then hs (Each hs) OperandFine _ _ (l r) (λ js n. computed_fine _ (intrinsic_fine g js n))
      apply_fine now h a Reference P vs xs r l m =
          fine_then hs OperandsFine OperandFine _ _ (m r) λ us n.
          fine_then hs AfterFine OperandFine _ _ (call_fine (function p.units a) now us h n) λ q o.
          fine_see hs OperandFine (Computed (q.1)) o.1

      module _ (now : Named Tree) (h : NamesFine hs now) where
        mutual
          pub operand_fine : (e : Expr) → IsRight u e → Fine hs OperandFine (operand w card now e)
          operand_fine (Const n) r = computed_fine _ (constant_fine n r)
          operand_fine (Truth b) r = fine_see hs OperandFine (Computed (of_terms.truth_value b)) (readable_truth hs b)
          operand_fine (Var x) r = fine_see hs OperandFine (Bare x (now x)) (r, h x r)
          operand_fine (Apply' a _ args) r = apply_fine now h a (applied u a) (AreRight u args) _ _ r (values_fine args) (operands_fine args)
          operand_fine (Paren' _ (only a)) r = computed_fine _ (valued_fine _ (operand_fine a r))
          operand_fine (Pos' _ (only a)) r = computed_fine _ (valued_fine _ (operand_fine a r))
          operand_fine (Neg' _ (only a)) r =
              fine_then hs (R hs) OperandFine _ _ (valued_fine _ (operand_fine a r)) λ v k. computed_fine _ (ranged_fine _ (make1_fine f.Negative v refl k))
          operand_fine (Power' _ (only a) n) r =
              fine_then hs (R hs) OperandFine _ _ (valued_fine _ (operand_fine a r)) λ v k. computed_fine _ (power_from_fine (pred n) v v k k)
          operand_fine (Bin' o _ (only a) _ (only b)) r =
              fine_then hs (R hs) OperandFine _ _ (valued_fine _ (operand_fine a r.0)) λ v k.
              fine_then hs (R hs) OperandFine _ _ (valued_fine _ (operand_fine b r.1)) λ z l.
              computed_fine _ (operate_fine o v z k l)
          operand_fine (Rel' o _ (only a) _ (only b)) r =
              fine_then hs (R hs) OperandFine _ _ (valued_fine _ (operand_fine a r.0)) λ v k.
              fine_then hs (R hs) OperandFine _ _ (valued_fine _ (operand_fine b r.1)) λ z l.
              fine_see hs OperandFine (Computed (relation w o v z)) (relation_fine o v z k l)
          operand_fine (Not' _ (only a)) r =
              fine_then hs (R hs) OperandFine _ _ (valued_fine _ (operand_fine a r)) λ v k. fine_see hs OperandFine (Computed (negated of_terms v)) (negated_fine v k)
          operand_fine (And' _ (only a) _ (only b)) r =
              fine_then hs (R hs) OperandFine _ _ (valued_fine _ (operand_fine a r.0)) λ v k.
              fine_then hs (R hs) OperandFine _ _ (valued_fine _ (operand_fine b r.1)) λ z l.
              fine_see hs OperandFine (Computed (make2 of_terms f.And v z)) (make2_fine f.And v z refl k l)
          operand_fine (Or' _ (only a) _ (only b)) r =
              fine_then hs (R hs) OperandFine _ _ (valued_fine _ (operand_fine a r.0)) λ v k.
              fine_then hs (R hs) OperandFine _ _ (valued_fine _ (operand_fine b r.1)) λ z l.
              fine_see hs OperandFine (Computed (make2 of_terms f.Or v z)) (make2_fine f.Or v z refl k l)

          pub values_fine : {m : Count} (es : Row_of-Expr m) → AreRight u es → Fine hs (Each hs) (values w card now es)
          values_fine end_of-Expr r = fine_see hs (Each hs) [] tt
          values_fine (more_of-Expr e es) r =
              fine_then hs (R hs) (Each hs) _ _ (valued_fine _ (operand_fine e r.0)) λ v k.
              fine_then hs (Each hs) (Each hs) _ _ (values_fine es r.1) λ vs l.
              fine_see hs (Each hs) (v ∷ vs) (k, l)

          pub operands_fine : {m : Count} (es : Row_of-Expr m) → AreRight u es → Fine hs OperandsFine (operands w card now es)
          operands_fine end_of-Expr r = fine_see hs OperandsFine [] tt
          operands_fine (more_of-Expr e es) r =
              fine_then hs OperandFine OperandsFine _ _ (operand_fine e r.0) λ x k.
              fine_then hs OperandsFine OperandsFine _ _ (operands_fine es r.1) λ xs l.
              fine_see hs OperandsFine (x ∷ xs) (k, l)

        value_fine : (e : Expr) → IsRight u e → Fine hs (R hs) (value w card now e)
        value_fine e r = valued_fine _ (operand_fine e r)

    -- ---- statements

    abbrev Step : See Tree (Named Tree) → Type 0
    Step a = Fine hs (NamesFine hs) a

    taken_fine : (v : Tree) → R hs v → Fine hs (Any hs) (taken w v)
    taken_fine v k = fine_meet hs _ (k, tt)

    with_name_fine : (now : Named Tree) (x : Name) (v : Tree) → NamesFine hs now → R hs v → NamesFine hs (with_name now x v)
    with_name_fine now x v k l y e = pick_fine hs (same_bytes x y) _ _ l (k y e)

    keep : (now : Named Tree) → NamesFine hs now → Step (see now)
    keep now k = fine_see hs (NamesFine hs) now k

    after_fact : (v : Tree) (a : See Tree (Named Tree)) → R hs v → Step a → Step (taken w v >> a)
    after_fact v a k l = fine_before hs (Any hs) (NamesFine hs) _ _ (taken_fine v k) l

    module _ (card : ℕ) (c : card < 2 ^ 32) where
      parameter_fine : (now : Named Tree) (m : Param) → NamesFine hs now → IsParamRight u m → Fine hs (R hs) (parameter w card now m)
      parameter_fine now (param.Fixed n) k r = constant_fine card c n r
      parameter_fine now (param.Named x) k r = read_fine card c _ (k x r)

      step_value_fine : (now : Named Tree) (m : Option Param) → NamesFine hs now → IsStepRight u m → Fine hs (R hs) (step_value w card now m)
      step_value_fine now None k r = fine_see hs (R hs) _ (natural_fine 1 (omega arith))
      step_value_fine now (Some m) k r = parameter_fine now m k r

      left_fine : (d : Dialect) (v : Tree) → R hs v → R hs (left_with w d v)
      left_fine Common v k = undefined_fine
      left_fine SeventySeven v k = k

      tests_fine : (ds : List Loop) → AreLoopsRight u ds → (cs : List ℕ) (now : Named Tree) → NamesFine hs now → Step (tests w card now ds cs)
      tests_fine [] r cs now k = keep now k
      tests_fine (d ∷ ds) r [] now k = keep now k
      tests_fine (d ∷ ds) r (n ∷ cs) now k =
          fine_then hs (R hs) (NamesFine hs) _ _ (read_fine card c _ (k d.variable r.0.variable)) λ v l.
          fine_then hs (R hs) (NamesFine hs) _ _ (step_value_fine now d.step k r.0.step) λ by m.
          fine_then hs (R hs) (NamesFine hs) _ _ (ranged_fine card c _ (make2_fine f.Plus v by refl l m)) λ sum o.
          fine_then hs (R hs) (NamesFine hs) _ _ (parameter_fine now d.last k r.0.last) λ last q.
          fine_cond hs (NamesFine hs) (n == 1) _ _
          (λ e. after_fact _ _ (make2_fine f.AtMost sum last refl o q) (keep _ (with_name_fine now d.variable sum k o)))
          (λ e. after_fact _ _ (make2_fine f.Less last sum refl q o)
          (tests_fine ds r.1 cs _ (with_name_fine now d.variable _ k (left_fine p.dialect sum o))))

      behind_fine : (pc : ℕ) → AreLoopsRight u (loops_at u pc) → (cs : List ℕ) (now : Named Tree) → NamesFine hs now → Step (behind w card pc now cs)
      behind_fine pc r cs now k = tests_fine (loops_at u pc) r cs now k

    card_small : (last : ℕ) (o : Option Line) → slice_get u.lines last ≡ o → card_in o < 2 ^ 32
    card_small last None e = omega arith
    card_small last (Some line) e = (right.lines i u is last line e).card

    passed_over_fine : (last pc : ℕ) → AreLoopsRight u (loops_around u last pc) → (cs : List ℕ) (now : Named Tree) → NamesFine hs now → Step (passed_over w last pc now cs)
    passed_over_fine last pc r cs now k = tests_fine (card_in (slice_get u.lines last)) (card_small last (slice_get u.lines last) refl) (loops_around u last pc) r cs now k

    entered_fine : (last pc : ℕ) → AreLoopsRight u (loops_around u last pc) → (cs : List ℕ) (now : Named Tree) (m1 m2 : Tree) → NamesFine hs now → R hs m1 → R hs m2
        → Step (entered w last pc now m1 m2 cs)
    entered_fine last pc r [] now m1 m2 k l m = keep now k
    entered_fine last pc r (n ∷ cs) now m1 m2 k l m =
        fine_cond hs (NamesFine hs) (n == 1) _ _
        (λ e. after_fact _ _ (make2_fine f.AtMost m1 m2 refl l m) (keep now k))
        (λ e. after_fact _ _ (make2_fine f.Less m2 m1 refl m l) (passed_over_fine last pc r cs now k))

    module _ (card : ℕ) (c : card < 2 ^ 32) where
      begin_fine : (d : Dialect) (last pc : ℕ) → AreLoopsRight u (loops_around u last pc) → (now : Named Tree) (x : Name) (m1 m2 m3 : Tree) (cs : List ℕ)
          → NamesFine hs now → R hs m1 → R hs m2 → R hs m3 → Step (begin w d card last pc now x m1 m2 m3 cs)
      begin_fine Common last pc r now x m1 m2 m3 cs k l1 l2 l3 =
          fine_before hs (Any hs) (NamesFine hs) _ _
          (checked_fine card c LoopCheck _
          (make3_fine f.And _ _ _ refl (make2_fine f.AtMost _ m1 refl (natural_fine 1 (omega arith)) l1) (make2_fine f.AtMost m1 m2 refl l1 l2)
          (make2_fine f.AtMost _ m3 refl (natural_fine 1 (omega arith)) l3)))
          (keep _ (with_name_fine now x m1 k l1))
      begin_fine SeventySeven last pc r now x m1 m2 m3 cs k l1 l2 l3 =
          fine_before hs (Any hs) (NamesFine hs) _ _ (checked_fine card c LoopCheck _ (make2_fine f.AtMost _ m3 refl (natural_fine 1 (omega arith)) l3))
          (fine_before hs (R hs) (NamesFine hs) _ _ (ranged_fine card c _ (make2_fine f.Difference m2 m1 refl l2 l1))
          (fine_before hs (R hs) (NamesFine hs) _ _ (ranged_fine card c _ (make2_fine f.Plus _ m3 refl (make2_fine f.Difference m2 m1 refl l2 l1) l3))
          (entered_fine last pc r cs _ m1 m2 (with_name_fine now x m1 k l1) l1 l2)))

      counts_fine : (labels : ℕ) → labels < 2 ^ 32 → (v : Tree) → R hs v → R hs (counts_label w labels v)
      counts_fine labels lt v k = lies_fine _ _ v (natural_fine 1 (omega arith)) (natural_fine labels (omega arith)) k

      select_fine : (d : Dialect) (pc labels n : ℕ) → labels < 2 ^ 32 → n < 10 ^ 18 → AreLoopsRight u (loops_at u pc) → (cs : List ℕ) (now : Named Tree) (v : Tree) → NamesFine hs now → R hs v
          → Step (select w d card pc now labels v n cs)
      select_fine Common pc labels n few small r cs now v k l = after_fact _ _ (make2_fine f.Equal v _ refl l (natural_fine n small)) (keep now k)
      select_fine SeventySeven pc labels n few small r cs now v k l =
          fine_cond hs (NamesFine hs) (n == suc labels) _ _
          (λ e. after_fact _ _ (negated_fine _ (counts_fine labels few v l)) (behind_fine card c pc r cs now k))
          (λ e. after_fact _ _ (make2_fine f.Equal v _ refl l (natural_fine n small)) (keep now k))

      chosen_small : (qs : List ℕ) (n q : ℕ) → chosen qs n ≡ Some q → n ≤ length qs
      chosen_small qs zero q e = omega arith
      chosen_small qs (suc n) q e = let lt = slice_get_within qs n q e in omega arith

      one_small : (qs : List ℕ) (n : ℕ) (cs : List ℕ) (q : ℕ) → one_of qs (n ∷ cs) ≡ Some q → n ≤ length qs
      one_small qs n [] q e = chosen_small qs n q e
      one_small qs n (m ∷ cs) q e = absurd (cc)

      computed_small : (d : Dialect) (pc : ℕ) (qs : List ℕ) (n : ℕ) (cs : List ℕ) (q : ℕ) → leads_computed d u pc qs (n ∷ cs) ≡ Some q → n ≤ suc (length qs)
      computed_small Common pc qs n cs q e = let le = one_small qs n cs q e in omega arith
      computed_small SeventySeven pc qs n cs q e = by (n == suc (length qs)) refl e
        where
          by : (b : Bool) → (n == suc (length qs)) ≡ b → cond b (flows_behind u pc cs) (one_of qs (n ∷ cs)) ≡ Some q → n ≤ suc (length qs)
          by true t k = let same : n ≡ suc (length qs) = equal n (suc (length qs)) t in omega arith
            where
              equal : (a b : ℕ) → (a == b) ≡ true → a ≡ b
              equal a b t = grind (arith, nat_tests)
          by false t k = let le = one_small qs n cs q k in omega arith

      mapped_length : {A B : Type 0} (g : A → B) (xs : List A) → length (map g xs) ≡ length xs
      mapped_length g [] = refl
      mapped_length g (x ∷ xs) = ap suc (mapped_length g xs)

      selected_fine : (pc : ℕ) (ls : List ℕ) → length ls < 2 ^ 32 → AreLoopsRight u (loops_at u pc) → (cs : List ℕ) (q : ℕ) → leads_computed p.dialect u pc (map (target u.lines) ls) cs ≡ Some q
          → (now : Named Tree) (v : Tree) → NamesFine hs now → R hs v → Step (selected w card pc now (length ls) v cs)
      selected_fine pc ls few r [] q e now v k l = keep now k
      selected_fine pc ls few r (n ∷ cs) q e now v k l =
          let le = computed_small p.dialect pc (map (target u.lines) ls) n cs q e in
          let same = mapped_length (target u.lines) ls in
          select_fine p.dialect pc (length ls) n few (omega arith) r cs now v k l

      choice_fine : (d : Dialect) (labels : ℕ) → labels < 2 ^ 32 → (v : Tree) → R hs v → Fine hs (Any hs) (choice_check w d card labels v)
      choice_fine Common labels lt v k = checked_fine card c ChoiceCheck _ (counts_fine labels lt v k)
      choice_fine SeventySeven labels lt v k = fine_see hs (Any hs) tt tt

      more_than_one : (n : ℕ) → (suc (suc n) == 1) ≡ true → ⊥
      more_than_one n t = grind (arith, nat_tests)

      only_second : (n : ℕ) (x y : See Tree (Named Tree)) → Step y → Step (cond (suc (suc n) == 1) x y)
      only_second n x y k = fine_cond hs (NamesFine hs) (suc (suc n) == 1) x y none (λ t. k)
        where
          none : (suc (suc n) == 1) ≡ true → Step x
          none t = absurd (more_than_one n t)

      zero_fine : R hs (natural of_terms 0)
      zero_fine = natural_fine 0 (omega arith)

      sign_fine : (cs : List ℕ) (v : Tree) → R hs v → R hs (sign_fact w v cs)
      sign_fine [] v k = make2_fine f.Less _ v refl zero_fine k
      sign_fine (zero ∷ cs) v k = make2_fine f.Less _ v refl zero_fine k
      sign_fine (suc zero ∷ cs) v k = make2_fine f.Less v _ refl k zero_fine
      sign_fine (suc (suc zero) ∷ cs) v k = make2_fine f.Equal v _ refl k zero_fine
      sign_fine (suc (suc (suc n)) ∷ cs) v k = make2_fine f.Less _ v refl zero_fine k

      truth_fine : (cs : List ℕ) (v : Tree) → R hs v → R hs (truth_fact w v cs)
      truth_fine [] v k = negated_fine v k
      truth_fine (zero ∷ cs) v k = negated_fine v k
      truth_fine (suc zero ∷ cs) v k = k
      truth_fine (suc (suc n) ∷ cs) v k = negated_fine v k

      result_fine : (b : Bool) (now : Named Tree) → NamesFine hs now → Fine hs (Any hs) (result w card now b)
      result_fine false now k = fine_see hs (Any hs) tt tt
      result_fine true now k = checked_fine card c ResultCheck _ (defined_fine _ (k u.name unit_right.name))

      assign_fine : (now : Named Tree) (e : Expr) (v : Tree) → NamesFine hs now → IsLeftRight u e → R hs v → Step (assign w card now e v)
      assign_fine now (Var x) v k r l = keep _ (with_name_fine now x v k l)
      assign_fine now (Apply' a _ args) v k r l =
          fine_then hs (Each hs) (NamesFine hs) _ _ (values_fine card c now k args r.2) λ js m.
          fine_then hs (R hs) (NamesFine hs) _ _ (place_checked_fine card c now k (dims_of u a) r.1 js m) λ q o.
          keep _ (with_name_fine now a _ k (make3_fine f.Put (now a) q v refl (k a r.0) o l))
      assign_fine now (Const n) v k r l = keep now k
      assign_fine now (Truth b) v k r l = keep now k
      assign_fine now (Paren' x a) v k r l = keep now k
      assign_fine now (Pos' x a) v k r l = keep now k
      assign_fine now (Neg' x a) v k r l = keep now k
      assign_fine now (Power' x a n) v k r l = keep now k
      assign_fine now (Bin' o x a y b) v k r l = keep now k
      assign_fine now (Rel' o x a y b) v k r l = keep now k
      assign_fine now (Not' x a) v k r l = keep now k
      assign_fine now (And' x a y b) v k r l = keep now k
      assign_fine now (Or' x a y b) v k r l = keep now k

      module _ (pc : ℕ) (now : Named Tree) (k : NamesFine hs now) where
        pub performed_fine : (stmt : Stmt) (cs : List ℕ) → IsStmtRight u pc stmt → (q : ℕ) → leads p.dialect u pc stmt cs ≡ Some q → Step (performed w card pc now stmt cs)
        performed_fine (Assign left right) cs r q e =
            fine_then hs (R hs) (NamesFine hs) _ _ (value_fine card c now k right r.1) λ v l.
            fine_then hs (NamesFine hs) (NamesFine hs) _ _ (assign_fine now left v k r.0 l) λ after m.
            behind_fine card c pc r.2 cs after m
        performed_fine (GoTo label) cs r q e = keep now k
        performed_fine (ComputedGoTo labels x) cs r q e =
            fine_then hs (R hs) (NamesFine hs) _ _ (read_fine card c _ (k x r.0)) λ v l.
            fine_before hs (Any hs) (NamesFine hs) _ _ (choice_fine p.dialect (length labels) r.1 v l)
            (selected_fine pc labels r.1 r.2 cs q e now v k l)
        performed_fine (ArithIf x a b d) cs r q e =
            fine_then hs (R hs) (NamesFine hs) _ _ (value_fine card c now k x r) λ v l. after_fact _ _ (sign_fine cs v l) (keep now k)
        performed_fine (LogicalIf' x _ (carried stmt)) [] r q e = keep now k
        performed_fine (LogicalIf' x _ (carried stmt)) (zero ∷ cs) r q e = absurd (cc)
        performed_fine (LogicalIf' x _ (carried stmt)) (suc zero ∷ cs) r q e =
            fine_then hs (R hs) (NamesFine hs) _ _ (value_fine card c now k x r.0) λ v l.
            after_fact _ _ l (performed_fine stmt cs r.2 q e)
        performed_fine (LogicalIf' x _ (carried stmt)) (suc (suc n) ∷ cs) r q e =
            fine_then hs (R hs) (NamesFine hs) (value w card now x)
            (λ v. cond (suc (suc n) == 1) (taken w v >> performed w card pc now stmt cs) (taken w (negated of_terms v) >> behind w card pc now cs)) (value_fine card c now k x r.0)
            (λ v l. only_second n (taken w v >> performed w card pc now stmt cs) (taken w (negated of_terms v) >> behind w card pc now cs)
            (after_fact (negated of_terms v) (behind w card pc now cs) (negated_fine v l) (behind_fine card c pc r.1 cs now k)))
        performed_fine (Do label x first last by) cs r q e =
            fine_then hs (R hs) (NamesFine hs) _ _ (parameter_fine card c now first k r.1) λ m1 l1.
            fine_then hs (R hs) (NamesFine hs) _ _ (parameter_fine card c now last k r.2) λ m2 l2.
            fine_then hs (R hs) (NamesFine hs) _ _ (step_value_fine card c now by k r.3) λ m3 l3.
            begin_fine p.dialect (target u.lines label) pc r.4 now x m1 m2 m3 cs k l1 l2 l3
        performed_fine Continue cs r q e = behind_fine card c pc r cs now k
        performed_fine (Call g args) cs r q e =
            fine_then hs OperandsFine (NamesFine hs) _ _ (operands_fine card c now k (row_of args) r.0) λ xs l.
            fine_then hs AfterFine (NamesFine hs) _ _ (call_fine card c (subroutine p.units g) now xs k l) λ a m.
            behind_fine card c pc r.1 cs (a.0) m.0
        performed_fine Return cs r q e = fine_before hs (Any hs) (NamesFine hs) _ _ (result_fine (is_function u) now k) (keep now k)
        performed_fine (BlockIf x) cs r q e =
            fine_then hs (R hs) (NamesFine hs) _ _ (value_fine card c now k x r) λ v l. after_fact _ _ (truth_fine cs v l) (keep now k)
        performed_fine (ElseIf x) cs r q e =
            fine_then hs (R hs) (NamesFine hs) _ _ (value_fine card c now k x r) λ v l. after_fact _ _ (truth_fine cs v l) (keep now k)
        performed_fine Else cs r q e = behind_fine card c pc r cs now k
        performed_fine EndIf cs r q e = behind_fine card c pc r cs now k
        performed_fine (Subroutine x xs) cs r q e = keep now k
        performed_fine (Function o x xs) cs r q e = keep now k
        performed_fine (Declare o items) cs r q e = keep now k
        performed_fine (Dimension items) cs r q e = keep now k
        performed_fine (CommonBlock groups) cs r q e = keep now k
        performed_fine End cs r q e = keep now k
