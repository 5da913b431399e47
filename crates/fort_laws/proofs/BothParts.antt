-- The parts of expressions and statements, in two senses between which things correspond.
use Rattle.std.proofs.Common.{◌≡◌, ℕ, zero, suc, Bool, true, false, cond, List, [], ◌∷◌, ◌++◌, map, length, Option, Some, None, slice_get, refl, ap, ◌∙◌, subst}
use Rattle.std.specs.Prelude.{nat_lt, ◌==◌, pred}
use Rattle.fort_syntax.specs.TreePatterns.{only, carried, row_of}
use Rattle.fort_syntax.specs.Names.{Intrinsic, Absolute, Modulo, Greatest, Least, Applied, Element, BuiltIn, Reference, applied, function, subroutine, unit_at, is_function, data_name, dims_of, has_common}
use Rattle.formula.specs.Atoms.{same_bytes, is_among}
use mathlib.Core.Former.{Count}
use Rattle.formula.specs.declared.function.BuiltIn.{BuiltIn as Builtin}
use Rattle.formula.specs.declared.function.BuiltIn.TheVariants as f
use Rattle.formula.specs.Tree.{Tree}
use Rattle.fort_syntax.specs.declared.name.Name.{Name}
use Rattle.fort_syntax.specs.declared.condition.Kind.{Kind}
use Rattle.fort_syntax.specs.declared.condition.Kind.TheVariants.{DefinedCheck, RangeCheck, DivisorCheck, SubscriptCheck, ChoiceCheck, LoopCheck, ResultCheck, InputCheck}
use Rattle.fort_syntax.specs.declared.dialect.BinOp.{BinOp}
use Rattle.fort_syntax.specs.declared.dialect.BinOp.TheVariants.{Add, Sub, Mul, Div}
use Rattle.fort_syntax.specs.declared.dialect.RelOp.{RelOp}
use Rattle.fort_syntax.specs.declared.dialect.RelOp.TheVariants.{Lt, Le, Eq, Ne, Ge, Gt}
use Rattle.fort_syntax.specs.declared.dialect.Dialect.{Dialect}
use Rattle.fort_syntax.specs.declared.dialect.Dialect.TheVariants.{Common, SeventySeven}
use Rattle.fort_syntax.specs.declared.dialect.Sort.{Sort}
use Rattle.fort_syntax.specs.declared.dialect.Sort.TheVariants.{Integer, Logical}
use Rattle.fort_syntax.specs.declared.expr.Expr.{Expr, Row_of-Expr, end_of-Expr, more_of-Expr}
use Rattle.fort_syntax.specs.declared.expr.Expr.TheVariants.{Const, Truth, Var, Apply', Paren', Pos', Neg', Power', Bin', Rel', Not', And', Or'}
use Rattle.fort_syntax.specs.declared.stmt.Dim.{Dim}
use Rattle.fort_syntax.specs.declared.stmt.Dim.TheVariants.{Fixed, Named as Adjustable}
use Rattle.fort_syntax.specs.declared.stmt.Param.{Param}
use Rattle.fort_syntax.specs.declared.stmt.Param.TheVariants as param
use Rattle.fort_syntax.specs.declared.stmt.Stmt.{Stmt}
use Rattle.fort_syntax.specs.declared.stmt.Stmt.TheVariants.{Subroutine, Function, Declare, Dimension, Common as CommonBlock, Assign, GoTo, Computed as ComputedGoTo, ArithIf, LogicalIf', Do, Continue, Call, Return, End, BlockIf, ElseIf, Else, EndIf}
use Rattle.fort_syntax.specs.declared.unit.DataName.{DataName}
use Rattle.fort_syntax.specs.declared.unit.Unit.{Unit as Routine}
use Rattle.fort_model.specs.Flow.{target, Loop, loops_at, loops_around}
use Rattle.fort_model.specs.Perform.{card_in}
use Rattle.fort_model.specs.Program.{Program, notes_of, is_smashed}
use Rattle.fort_model.specs.Senses.{Sense, natural, make2, undefined, is_defined, negated, lies_from_to, greatest_integer}
use Rattle.fort_model.specs.Events.{Check}
use Rattle.fort_model.specs.Seen.{Named, See, ◌>>◌, see}
use Rattle.fort_model.specs.WalkPlaces.{size_if_fixed, dim, stretch_from, stretch, size_or, size, place_from, place, subscripts_fit, cell_sort, cells_sort, sort_by, sort_in, blank_by, blank, sorts}
use Rattle.fort_model.specs.WalkCalls.{Sight, Operand, Bare, Part, Computed, stands_for, with_actuals, seen_by, smashed_actuals, smashed_commons, hits, changed, stands_after, result_facts, notes_told, call_unit, call_in, call}
use Rattle.fort_model.specs.WalkExpr.{checked, read, read_operand, valued, computed, ranged, constant, divisor, operate, power_from, relation, folded, intrinsic_value, place_checked, apply, operand, values, operands, value}
use Rattle.fort_model.specs.WalkStmt.{with_name, taken, assign, parameter, step_value, left_with, tests, behind, passed_over, entered, begin, counts_label, select, selected, choice_check, sign_fact, truth_fact, result, performed}
use Rattle.fort_model.specs.Conditions.{sight}
use Rattle.fort_laws.proofs.BothSenses.{Pairwise, pairwise_map, Correspond, EventsAlike, NamesAlike, Anything, Alike, alike_then, alike_before, alike_see, alike_meet, alike_cond, alike_next_answer, checks_alike, takes_alike, pick_alike, natural_alike, make1_alike, make2_alike, make3_alike, note_alike}

module _ {V W : Type 0} (R : V → W → Type 0) (s : Sense V) (t : Sense W) (c : Correspond R s t) where
  -- ---- places

  lies_alike : (a b d : V) (a' b' d' : W) → R a a' → R b b' → R d d' → R (lies_from_to s a b d) (lies_from_to t a' b' d')
  lies_alike a b d a' b' d' k l m =
      make2_alike R s t c f.And _ _ _ _ (make2_alike R s t c f.AtMost _ _ _ _ k m) (make2_alike R s t c f.AtMost _ _ _ _ m l)

  module _ (now : Named V) (now' : Named W) (h : NamesAlike R now now') where
    dim_alike : (d : Dim) → R (dim s now d) (dim t now' d)
    dim_alike (Fixed n) = natural_alike R s t c n
    dim_alike (Adjustable x) = h x

    stretch_from_alike : (ds : List Dim) (q : V) (q' : W) → R q q' → R (stretch_from s now q ds) (stretch_from t now' q' ds)
    stretch_from_alike [] q q' k = k
    stretch_from_alike (d ∷ ds) q q' k = stretch_from_alike ds _ _ (make2_alike R s t c f.Times _ _ _ _ k (dim_alike d))

    stretch_alike : (ds : List Dim) → R (stretch s now ds) (stretch t now' ds)
    stretch_alike [] = natural_alike R s t c 1
    stretch_alike (d ∷ ds) = stretch_from_alike ds _ _ (dim_alike d)

    size_or_alike : (o : Option ℕ) (v : V) (w : W) → R v w → R (size_or s o v) (size_or t o w)
    size_or_alike None v w k = k
    size_or_alike (Some n) v w k = natural_alike R s t c n

    size_alike : (ds : List Dim) → R (size s now ds) (size t now' ds)
    size_alike ds = size_or_alike (size_if_fixed ds) _ _ (stretch_alike ds)

    place_from_alike : (is : List V) (js : List W) (ds : List Dim) (p q : V) (p' q' : W) → R p p' → R q q' → Pairwise R is js
        → R (place_from s now p q is ds) (place_from t now' p' q' js ds)
    place_from_alike [] [] ds p q p' q' k l m = k
    place_from_alike [] (j ∷ js) ds p q p' q' k l m = absurd m
    place_from_alike (i ∷ is) [] ds p q p' q' k l m = absurd m
    place_from_alike (i ∷ is) (j ∷ js) [] p q p' q' k l m = k
    place_from_alike (i ∷ is) (j ∷ js) (d ∷ ds) p q p' q' k l m =
        place_from_alike is js ds _ _ _ _
        (make2_alike R s t c f.Plus _ _ _ _ k (make2_alike R s t c f.Times _ _ _ _ l (make2_alike R s t c f.Difference _ _ _ _ m.0 (natural_alike R s t c 1))))
        (make2_alike R s t c f.Times _ _ _ _ l (dim_alike d)) m.1

    place_alike : (is : List V) (js : List W) (ds : List Dim) → Pairwise R is js → R (place s now is ds) (place t now' js ds)
    place_alike [] [] ds m = natural_alike R s t c 1
    place_alike [] (j ∷ js) ds m = absurd m
    place_alike (i ∷ is) [] ds m = absurd m
    place_alike (i ∷ is) (j ∷ js) [] m = natural_alike R s t c 1
    place_alike (i ∷ is) (j ∷ js) (d ∷ ds) m = place_from_alike is js ds _ _ _ _ m.0 (dim_alike d) m.1

    subscripts_alike : (is : List V) (js : List W) (ds : List Dim) → Pairwise R is js → Pairwise R (subscripts_fit s now is ds) (subscripts_fit t now' js ds)
    subscripts_alike [] [] ds m = tt
    subscripts_alike [] (j ∷ js) ds m = absurd m
    subscripts_alike (i ∷ is) [] ds m = absurd m
    subscripts_alike (i ∷ is) (j ∷ js) [] m = tt
    subscripts_alike (i ∷ is) (j ∷ js) (d ∷ ds) m = (lies_alike _ _ _ _ _ _ (natural_alike R s t c 1) (dim_alike d) m.0, subscripts_alike is js ds m.1)

    cell_sort_alike : (sort : Sort) (v : V) (w : W) → R v w → R (cell_sort s sort v) (cell_sort t sort w)
    cell_sort_alike Integer v w k = make3_alike R s t c f.IntegerCell _ _ _ _ _ _ k c.least c.greatest
    cell_sort_alike Logical v w k = make1_alike R s t c f.LogicalCell _ _ k

    cells_sort_alike : (sort : Sort) (n : V) (n' : W) (v : V) (w : W) → R n n' → R v w → R (cells_sort s sort n v) (cells_sort t sort n' w)
    cells_sort_alike Integer n n' v w k l = c.make f.IntegerCells _ _ (l, (k, (c.least, (c.greatest, tt))))
    cells_sort_alike Logical n n' v w k l = make2_alike R s t c f.LogicalCells _ _ _ _ l k

    sort_by_alike : (ds : List Dim) (sort : Sort) (v : V) (w : W) → R v w → R (sort_by s now ds sort v) (sort_by t now' ds sort w)
    sort_by_alike [] sort v w k = cell_sort_alike sort v w k
    sort_by_alike (d ∷ ds) sort v w k = cells_sort_alike sort _ _ v w (size_alike (d ∷ ds)) k

    sort_in_alike : (x : Name) (o : Option DataName) → R (sort_in s now x o) (sort_in t now' x o)
    sort_in_alike x None = c.truth_value true
    sort_in_alike x (Some d) = sort_by_alike d.dims d.sort _ _ (h x)

    pub sorts_alike : (u : Routine) (xs : List Name) → Pairwise R (sorts s u now xs) (sorts t u now' xs)
    sorts_alike u [] = tt
    sorts_alike u (x ∷ xs) = (sort_in_alike x (data_name u x), sorts_alike u xs)

    blank_by_alike : (ds : List Dim) → R (blank_by s now ds) (blank_by t now' ds)
    blank_by_alike [] = c.make f.Undefined _ _ tt
    blank_by_alike (d ∷ ds) = make1_alike R s t c f.Blank _ _ (size_alike (d ∷ ds))

    pub blank_alike : (u : Routine) (x : Name) → R (blank s u now x) (blank t u now' x)
    blank_alike u x = blank_by_alike (dims_of u x)

  -- ---- expressions

  abbrev Same : {A : Type 0} → A → A → Type 0
  Same a b = a ≡ b

  abbrev OperandAlike : Operand V → Operand W → Type 0
  OperandAlike (Bare x v) (Bare y w) = (x ≡ y) × R v w
  OperandAlike (Bare x v) (Part w) = ⊥
  OperandAlike (Bare x v) (Computed w) = ⊥
  OperandAlike (Part v) (Bare y w) = ⊥
  OperandAlike (Part v) (Part w) = R v w
  OperandAlike (Part v) (Computed w) = ⊥
  OperandAlike (Computed v) (Bare y w) = ⊥
  OperandAlike (Computed v) (Part w) = ⊥
  OperandAlike (Computed v) (Computed w) = R v w

  module _ (p : Program) (i : ℕ) (u : Routine) where
    abbrev one : Sight V
    one = sight s p i u

    abbrev two : Sight W
    two = sight t p i u

    checked_alike : (kind : Kind) (card : ℕ) (v : V) (w : W) → R v w → Alike R (Anything R) (checked one kind card v) (checked two kind card w)
    checked_alike kind card v w k = alike_meet R _ _ ((refl, refl, k), tt)

    defined_alike : (v : V) (w : W) → R v w → R (is_defined s v) (is_defined t w)
    defined_alike v w k = make1_alike R s t c f.Defined _ _ k

    negated_alike : (v : V) (w : W) → R v w → R (negated s v) (negated t w)
    negated_alike v w k = make1_alike R s t c f.Not _ _ k

    read_alike : (card : ℕ) (v : V) (w : W) → R v w → Alike R R (read one card v) (read two card w)
    read_alike card v w k = alike_before R (Anything R) R _ _ _ _ (checked_alike DefinedCheck card _ _ (defined_alike v w k)) (alike_see R R v w k)

    read_operand_alike : (card : ℕ) (x : Operand V) (y : Operand W) → OperandAlike x y → Alike R R (read_operand one card x) (read_operand two card y)
    read_operand_alike card (Bare x v) (Bare y w) k = read_alike card v w k.1
    read_operand_alike card (Bare x v) (Part w) k = absurd k
    read_operand_alike card (Bare x v) (Computed w) k = absurd k
    read_operand_alike card (Part v) (Bare y w) k = absurd k
    read_operand_alike card (Part v) (Part w) k = read_alike card v w k
    read_operand_alike card (Part v) (Computed w) k = absurd k
    read_operand_alike card (Computed v) (Bare y w) k = absurd k
    read_operand_alike card (Computed v) (Part w) k = absurd k
    read_operand_alike card (Computed v) (Computed w) k = alike_see R R v w k

    valued_alike : (card : ℕ) (a : See V (Operand V)) (b : See W (Operand W)) → Alike R OperandAlike a b → Alike R R (valued one card a) (valued two card b)
    valued_alike card a b k = alike_then R OperandAlike R _ _ _ _ k (read_operand_alike card)

    computed_alike : (a : See V V) (b : See W W) → Alike R R a b → Alike R OperandAlike (computed one a) (computed two b)
    computed_alike a b k = alike_then R R OperandAlike _ _ _ _ k (λ v w l. alike_see R OperandAlike (Computed v) (Computed w) l)

    ranged_alike : (card : ℕ) (v : V) (w : W) → R v w → Alike R R (ranged one card v) (ranged two card w)
    ranged_alike card v w k =
        alike_before R (Anything R) R _ _ _ _ (checked_alike RangeCheck card _ _ (lies_alike _ _ _ _ _ _ c.least c.greatest k)) (alike_see R R v w k)

    constant_alike : (card n : ℕ) → Alike R R (constant one card n) (constant two card n)
    constant_alike card n =
        alike_before R (Anything R) R _ _ _ _ (alike_meet R _ _ (met (nat_lt p.bound n))) (alike_see R R _ _ (natural_alike R s t c n))
      where
        met : (b : Bool) → Pairwise (EventsAlike R)
            (cond b (Check RangeCheck card (make2 s f.AtMost (natural s n) (greatest_integer s)) ∷ []) [])
            (cond b (Check RangeCheck card (make2 t f.AtMost (natural t n) (greatest_integer t)) ∷ []) [])
        met true = ((refl, refl, make2_alike R s t c f.AtMost _ _ _ _ (natural_alike R s t c n) c.greatest), tt)
        met false = tt

    divisor_alike : (card : ℕ) (v : V) (w : W) → R v w → Alike R (Anything R) (divisor one card v) (divisor two card w)
    divisor_alike card v w k = checked_alike DivisorCheck card _ _ (negated_alike _ _ (make2_alike R s t c f.Equal _ _ _ _ k (natural_alike R s t c 0)))

    operate_alike : (card : ℕ) (o : BinOp) (a b : V) (a' b' : W) → R a a' → R b b' → Alike R R (operate one card o a b) (operate two card o a' b')
    operate_alike card Add a b a' b' k l = ranged_alike card _ _ (make2_alike R s t c f.Plus _ _ _ _ k l)
    operate_alike card Sub a b a' b' k l = ranged_alike card _ _ (make2_alike R s t c f.Difference _ _ _ _ k l)
    operate_alike card Mul a b a' b' k l = ranged_alike card _ _ (make2_alike R s t c f.Times _ _ _ _ k l)
    operate_alike card Div a b a' b' k l =
        alike_before R (Anything R) R _ _ _ _ (divisor_alike card b b' l) (ranged_alike card _ _ (make2_alike R s t c f.Quotient _ _ _ _ k l))

    power_from_alike : (card more : ℕ) (base : V) (base' : W) (product : V) (product' : W) → R base base' → R product product'
        → Alike R R (power_from one card base more product) (power_from two card base' more product')
    power_from_alike card zero base base' product product' k l = alike_see R R _ _ l
    power_from_alike card (suc more) base base' product product' k l =
        alike_then R R R _ _ _ _ (ranged_alike card _ _ (make2_alike R s t c f.Times _ _ _ _ l k)) (λ v w m. power_from_alike card more base base' v w k m)

    relation_alike : (o : RelOp) (a b : V) (a' b' : W) → R a a' → R b b' → R (relation one o a b) (relation two o a' b')
    relation_alike Lt a b a' b' k l = make2_alike R s t c f.Less _ _ _ _ k l
    relation_alike Le a b a' b' k l = make2_alike R s t c f.AtMost _ _ _ _ k l
    relation_alike Eq a b a' b' k l = make2_alike R s t c f.Equal _ _ _ _ k l
    relation_alike Ne a b a' b' k l = negated_alike _ _ (make2_alike R s t c f.Equal _ _ _ _ k l)
    relation_alike Ge a b a' b' k l = make2_alike R s t c f.AtMost _ _ _ _ l k
    relation_alike Gt a b a' b' k l = make2_alike R s t c f.Less _ _ _ _ l k

    folded_alike : (g : Builtin) (xs : List V) (ys : List W) (v : V) (w : W) → Pairwise R xs ys → R v w → R (folded one g v xs) (folded two g w ys)
    folded_alike g [] [] v w k l = l
    folded_alike g [] (y ∷ ys) v w k l = absurd k
    folded_alike g (x ∷ xs) [] v w k l = absurd k
    folded_alike g (x ∷ xs) (y ∷ ys) v w k l = folded_alike g xs ys _ _ k.1 (make2_alike R s t c g _ _ _ _ l k.0)

    undefined_alike : R (undefined s) (undefined t)
    undefined_alike = c.make f.Undefined [] [] tt

    intrinsic_alike : (card : ℕ) (g : Intrinsic) (xs : List V) (ys : List W) → Pairwise R xs ys → Alike R R (intrinsic_value one card g xs) (intrinsic_value two card g ys)
    intrinsic_alike card g [] (y ∷ ys) k = absurd k
    intrinsic_alike card g (x ∷ xs) [] k = absurd k
    intrinsic_alike card Absolute [] [] k = alike_see R R _ _ undefined_alike
    intrinsic_alike card Absolute (x ∷ []) (y ∷ []) k = ranged_alike card _ _ (make1_alike R s t c f.Absolute _ _ k.0)
    intrinsic_alike card Absolute (x ∷ []) (y ∷ (y2 ∷ ys)) k = absurd k.1
    intrinsic_alike card Absolute (x ∷ (x2 ∷ xs)) (y ∷ []) k = absurd k.1
    intrinsic_alike card Absolute (x ∷ (x2 ∷ xs)) (y ∷ (y2 ∷ ys)) k = alike_see R R _ _ undefined_alike
    intrinsic_alike card Modulo [] [] k = alike_see R R _ _ undefined_alike
    intrinsic_alike card Modulo (x ∷ []) (y ∷ []) k = alike_see R R _ _ undefined_alike
    intrinsic_alike card Modulo (x ∷ []) (y ∷ (y2 ∷ ys)) k = absurd k.1
    intrinsic_alike card Modulo (x ∷ (x2 ∷ xs)) (y ∷ []) k = absurd k.1
    intrinsic_alike card Modulo (x ∷ (x2 ∷ [])) (y ∷ (y2 ∷ [])) k =
        alike_before R (Anything R) R _ _ _ _ (divisor_alike card x2 y2 k.1.0)
        (alike_before R R R _ _ _ _ (ranged_alike card _ _ (make2_alike R s t c f.Quotient _ _ _ _ k.0 k.1.0))
        (alike_see R R _ _ (make2_alike R s t c f.Remainder _ _ _ _ k.0 k.1.0)))
    intrinsic_alike card Modulo (x ∷ (x2 ∷ [])) (y ∷ (y2 ∷ (y3 ∷ ys))) k = absurd k.1.1
    intrinsic_alike card Modulo (x ∷ (x2 ∷ (x3 ∷ xs))) (y ∷ (y2 ∷ [])) k = absurd k.1.1
    intrinsic_alike card Modulo (x ∷ (x2 ∷ (x3 ∷ xs))) (y ∷ (y2 ∷ (y3 ∷ ys))) k = alike_see R R _ _ undefined_alike
    intrinsic_alike card Greatest [] [] k = alike_see R R _ _ undefined_alike
    intrinsic_alike card Greatest (x ∷ xs) (y ∷ ys) k = alike_see R R _ _ (folded_alike f.Maximum xs ys x y k.1 k.0)
    intrinsic_alike card Least [] [] k = alike_see R R _ _ undefined_alike
    intrinsic_alike card Least (x ∷ xs) (y ∷ ys) k = alike_see R R _ _ (folded_alike f.Minimum xs ys x y k.1 k.0)

    -- ---- calls

    actuals_alike : (ds : List Name) (vs : List V) (ws : List W) (o : Named V) (o' : Named W) → Pairwise R vs ws → NamesAlike R o o'
        → NamesAlike R (with_actuals one ds vs o) (with_actuals two ds ws o')
    actuals_alike [] vs ws o o' k l x = l x
    actuals_alike (d ∷ ds) [] [] o o' k l x = l x
    actuals_alike (d ∷ ds) [] (w ∷ ws) o o' k l x = absurd k
    actuals_alike (d ∷ ds) (v ∷ vs) [] o o' k l x = absurd k
    actuals_alike (d ∷ ds) (v ∷ vs) (w ∷ ws) o o' k l x = pick_alike R (same_bytes d x) _ _ _ _ k.0 (actuals_alike ds vs ws o o' k.1 l x)

    seen_alike : (g : Routine) (vs : List V) (ws : List W) (now : Named V) (now' : Named W) (v : V) (w : W) → Pairwise R vs ws → NamesAlike R now now' → R v w
        → NamesAlike R (seen_by one g vs now v) (seen_by two g ws now' w)
    seen_alike g vs ws now now' v w k l m =
        actuals_alike g.dummies vs ws _ _ k (λ x. pick_alike R (same_bytes g.name x) _ _ _ _ m (pick_alike R (has_common g x) _ _ _ _ (l x) undefined_alike))

    stands_alike : (xs : List (Operand V)) (ys : List (Operand W)) → Pairwise OperandAlike xs ys → Pairwise R (map stands_for xs) (map stands_for ys)
    stands_alike [] [] k = tt
    stands_alike [] (y ∷ ys) k = absurd k
    stands_alike (x ∷ xs) [] k = absurd k
    stands_alike (x ∷ xs) (y ∷ ys) k = (stands_one x y k.0, stands_alike xs ys k.1)
      where
        stands_one : (a : Operand V) (b : Operand W) → OperandAlike a b → R (stands_for a) (stands_for b)
        stands_one (Bare a v) (Bare b w) l = l.1
        stands_one (Bare a v) (Part w) l = absurd l
        stands_one (Bare a v) (Computed w) l = absurd l
        stands_one (Part v) (Bare b w) l = absurd l
        stands_one (Part v) (Part w) l = l
        stands_one (Part v) (Computed w) l = absurd l
        stands_one (Computed v) (Bare b w) l = absurd l
        stands_one (Computed v) (Part w) l = absurd l
        stands_one (Computed v) (Computed w) l = l

    after_alike : (after : Named V) (after' : Named W) → NamesAlike R after after' → (xs : List (Operand V)) (ys : List (Operand W)) → Pairwise OperandAlike xs ys
        → Pairwise R (map (stands_after one after) xs) (map (stands_after two after') ys)
    after_alike after after' h [] [] k = tt
    after_alike after after' h [] (y ∷ ys) k = absurd k
    after_alike after after' h (x ∷ xs) [] k = absurd k
    after_alike after after' h (x ∷ xs) (y ∷ ys) k = (after_one x y k.0, after_alike after after' h xs ys k.1)
      where
        after_one : (a : Operand V) (b : Operand W) → OperandAlike a b → R (stands_after one after a) (stands_after two after' b)
        after_one (Bare a v) (Bare b w) l = subst (λ (z : Name). R (after a) (after' z)) l.0 (h a)
        after_one (Bare a v) (Part w) l = absurd l
        after_one (Bare a v) (Computed w) l = absurd l
        after_one (Part v) (Bare b w) l = absurd l
        after_one (Part v) (Part w) l = l
        after_one (Part v) (Computed w) l = absurd l
        after_one (Computed v) (Bare b w) l = absurd l
        after_one (Computed v) (Part w) l = absurd l
        after_one (Computed v) (Computed w) l = l

    -- the smashed actuals are the same names
    smashed_same : (smashed : Name → Bool) (ds : List Name) (xs : List (Operand V)) (ys : List (Operand W)) → Pairwise OperandAlike xs ys
        → smashed_actuals one smashed ds xs ≡ smashed_actuals two smashed ds ys
    smashed_same smashed [] xs ys k = refl
    smashed_same smashed (d ∷ ds) [] [] k = refl
    smashed_same smashed (d ∷ ds) [] (y ∷ ys) k = absurd k
    smashed_same smashed (d ∷ ds) (x ∷ xs) [] k = absurd k
    smashed_same smashed (d ∷ ds) (Bare a v ∷ xs) (Bare b w ∷ ys) k =
        ap (λ (z : Name). cond (smashed d) (z ∷ smashed_actuals one smashed ds xs) (smashed_actuals one smashed ds xs)) k.0.0
        ∙ ap (λ (zs : List Name). cond (smashed d) (b ∷ zs) zs) (smashed_same smashed ds xs ys k.1)
    smashed_same smashed (d ∷ ds) (Bare a v ∷ xs) (Part w ∷ ys) k = absurd k.0
    smashed_same smashed (d ∷ ds) (Bare a v ∷ xs) (Computed w ∷ ys) k = absurd k.0
    smashed_same smashed (d ∷ ds) (Part v ∷ xs) (Bare b w ∷ ys) k = absurd k.0
    smashed_same smashed (d ∷ ds) (Part v ∷ xs) (Part w ∷ ys) k = smashed_same smashed ds xs ys k.1
    smashed_same smashed (d ∷ ds) (Part v ∷ xs) (Computed w ∷ ys) k = absurd k.0
    smashed_same smashed (d ∷ ds) (Computed v ∷ xs) (Bare b w ∷ ys) k = absurd k.0
    smashed_same smashed (d ∷ ds) (Computed v ∷ xs) (Part w ∷ ys) k = absurd k.0
    smashed_same smashed (d ∷ ds) (Computed v ∷ xs) (Computed w ∷ ys) k = smashed_same smashed ds xs ys k.1

    changed_alike : (zs : List Name) (new now : Named V) (new' now' : Named W) → NamesAlike R new new' → NamesAlike R now now' → NamesAlike R (changed one zs new now) (changed two zs new' now')
    changed_alike zs new now new' now' k l x = pick_alike R (is_among x zs) _ _ _ _ (k x) (l x)

    result_facts_alike : (o : Option Sort) (v : V) (w : W) → R v w → Pairwise R (result_facts one o v) (result_facts two o w)
    result_facts_alike None v w k = tt
    result_facts_alike (Some sort) v w k = (defined_alike v w k, (cell_sort_one sort v w k, tt))
      where
        cell_sort_one : (q : Sort) (a : V) (b : W) → R a b → R (cell_sort s q a) (cell_sort t q b)
        cell_sort_one Integer a b l = make3_alike R s t c f.IntegerCell _ _ _ _ _ _ l c.least c.greatest
        cell_sort_one Logical a b l = make1_alike R s t c f.LogicalCell _ _ l

    notes_alike : (entry now : Named V) (entry' now' : Named W) → NamesAlike R entry entry' → NamesAlike R now now' → (ts : List Tree)
        → Pairwise R (notes_told one entry now ts) (notes_told two entry' now' ts)
    notes_alike entry now entry' now' k l ts = pairwise_map R _ _ ts (note_alike R s t c entry now entry' now' k l)

    abbrev AfterAlike : Named V × V → Named W × W → Type 0
    AfterAlike a b = NamesAlike R (a.0) (b.0) × R (a.1) (b.1)

    call_unit_alike : (card j : ℕ) (g : Routine) (now : Named V) (now' : Named W) (xs : List (Operand V)) (ys : List (Operand W)) (a : Named V) (b : Named W)
        → NamesAlike R now now' → Pairwise OperandAlike xs ys → NamesAlike R a b
        → Alike R AfterAlike (call_unit one card j g now xs a) (call_unit two card j g now' ys b)
    call_unit_alike card j g now now' xs ys a b k l m =
        alike_before R (Anything R) AfterAlike _ _ _ _ (alike_meet R _ _ (checks_alike R InputCheck card _ _ (notes_alike _ _ _ _ before before (notes_of p j).input)))
        (alike_before R (Anything R) AfterAlike _ _ _ _ (alike_meet R _ _ (takes_alike R _ _ smashed_sorts))
        (alike_before R (Anything R) AfterAlike _ _ _ _ (alike_meet R _ _ (takes_alike R _ _ (result_facts_alike g.sort _ _ (m g.name))))
        (alike_before R (Anything R) AfterAlike _ _ _ _
        (alike_meet R _ _ (takes_alike R _ _ (notes_alike _ _ _ _ before (seen_alike g _ _ _ _ _ _ (after_alike _ _ after xs ys l) after (m g.name)) (notes_of p j).output)))
        (alike_see R AfterAlike _ _ (after, m g.name)))))
      where
        same : hits one j g xs ≡ hits two j g ys
        same = ap (λ (zs : List Name). zs ++ smashed_commons one (is_smashed p j) g) (smashed_same (is_smashed p j) g.dummies xs ys l)

        before : NamesAlike R (seen_by one g (map stands_for xs) now (undefined s)) (seen_by two g (map stands_for ys) now' (undefined t))
        before = seen_alike g _ _ _ _ _ _ (stands_alike xs ys l) k undefined_alike

        after : NamesAlike R (changed one (hits one j g xs) a now) (changed two (hits two j g ys) b now')
        after = subst (λ (zs : List Name). NamesAlike R (changed one (hits one j g xs) a now) (changed two zs b now')) same (changed_alike (hits one j g xs) _ _ _ _ m k)

        smashed_sorts : Pairwise R (sorts s u (changed one (hits one j g xs) a now) (hits one j g xs)) (sorts t u (changed two (hits two j g ys) b now') (hits two j g ys))
        smashed_sorts =
            subst (λ (zs : List Name). Pairwise R (sorts s u (changed one (hits one j g xs) a now) (hits one j g xs)) (sorts t u (changed two (hits two j g ys) b now') zs)) same
            (sorts_alike _ _ after u (hits one j g xs))

    call_in_alike : (card j : ℕ) (o : Option Routine) (now : Named V) (now' : Named W) (xs : List (Operand V)) (ys : List (Operand W))
        → NamesAlike R now now' → Pairwise OperandAlike xs ys → Alike R AfterAlike (call_in one card j o now xs) (call_in two card j o now' ys)
    call_in_alike card j None now now' xs ys k l = alike_see R AfterAlike _ _ (k, undefined_alike)
    call_in_alike card j (Some g) now now' xs ys k l =
        alike_then R (NamesAlike R) AfterAlike _ _ _ _ (alike_next_answer R) (λ a b m. call_unit_alike card j g now now' xs ys a b k l m)

    call_alike : (card : ℕ) (o : Option ℕ) (now : Named V) (now' : Named W) (xs : List (Operand V)) (ys : List (Operand W))
        → NamesAlike R now now' → Pairwise OperandAlike xs ys → Alike R AfterAlike (call one card o now xs) (call two card o now' ys)
    call_alike card None now now' xs ys k l = alike_see R AfterAlike _ _ (k, undefined_alike)
    call_alike card (Some j) now now' xs ys k l = call_in_alike card j (unit_at p.units (Some j)) now now' xs ys k l

    place_checked_alike : (card : ℕ) (now : Named V) (now' : Named W) (ds : List Dim) (is : List V) (js : List W) → NamesAlike R now now' → Pairwise R is js
        → Alike R R (place_checked one card now ds is) (place_checked two card now' ds js)
    place_checked_alike card now now' ds is js k l =
        alike_before R (Anything R) R _ _ _ _ (alike_meet R _ _ (checks_alike R SubscriptCheck card _ _ (subscripts_alike now now' k is js ds l)))
        (alike_see R R _ _ (place_alike now now' k is js ds l))

    apply_alike : (card : ℕ) (now : Named V) (now' : Named W) (a : Name) (kind : Applied) (vs : See V (List V)) (ws : See W (List W))
        (xs : See V (List (Operand V))) (ys : See W (List (Operand W)))
        → NamesAlike R now now' → Alike R (Pairwise R) vs ws → Alike R (Pairwise OperandAlike) xs ys
        → Alike R OperandAlike (apply one card now a kind vs xs) (apply two card now' a kind ws ys)
    apply_alike card now now' a (Element ds) vs ws xs ys k l m =
        alike_then R (Pairwise R) OperandAlike _ _ _ _ l λ is js n.
        alike_then R R OperandAlike _ _ _ _ (place_checked_alike card now now' ds is js k n) λ q q' o.
        alike_see R OperandAlike (Part (make2 s f.Element (now a) q)) (Part (make2 t f.Element (now' a) q')) (make2_alike R s t c f.Element _ _ _ _ (k a) o)
    apply_alike card now now' a (BuiltIn g) vs ws xs ys k l m =
        alike_then R (Pairwise R) OperandAlike _ _ _ _ l (λ is js n. computed_alike _ _ (intrinsic_alike card g is js n))
    apply_alike card now now' a Reference vs ws xs ys k l m =
        alike_then R (Pairwise OperandAlike) OperandAlike _ _ _ _ m λ us zs n.
        alike_then R AfterAlike OperandAlike _ _ _ _ (call_alike card (function p.units a) now now' us zs k n) λ r r' o.
        alike_see R OperandAlike (Computed (r.1)) (Computed (r'.1)) o.1

    module _ (card : ℕ) (now : Named V) (now' : Named W) (h : NamesAlike R now now') where
      mutual
        pub operand_alike : (e : Expr) → Alike R OperandAlike (operand one card now e) (operand two card now' e)
        operand_alike (Const n) = computed_alike _ _ (constant_alike card n)
        operand_alike (Truth b) = alike_see R OperandAlike (Computed (s.truth_value b)) (Computed (t.truth_value b)) (c.truth_value b)
        operand_alike (Var x) = alike_see R OperandAlike (Bare x (now x)) (Bare x (now' x)) (refl, h x)
        operand_alike (Apply' a _ args) = apply_alike card now now' a (applied u a) _ _ _ _ h (values_alike args) (operands_alike args)
        operand_alike (Paren' _ (only a)) = computed_alike _ _ (valued_alike card _ _ (operand_alike a))
        operand_alike (Pos' _ (only a)) = computed_alike _ _ (valued_alike card _ _ (operand_alike a))
        operand_alike (Neg' _ (only a)) =
            alike_then R R OperandAlike _ _ _ _ (valued_alike card _ _ (operand_alike a)) λ v w k.
            computed_alike _ _ (ranged_alike card _ _ (make1_alike R s t c f.Negative v w k))
        operand_alike (Power' _ (only a) n) =
            alike_then R R OperandAlike _ _ _ _ (valued_alike card _ _ (operand_alike a)) λ v w k.
            computed_alike _ _ (power_from_alike card (pred n) v w v w k k)
        operand_alike (Bin' o _ (only a) _ (only b)) =
            alike_then R R OperandAlike _ _ _ _ (valued_alike card _ _ (operand_alike a)) λ v w k.
            alike_then R R OperandAlike _ _ _ _ (valued_alike card _ _ (operand_alike b)) λ v2 w2 l.
            computed_alike _ _ (operate_alike card o v v2 w w2 k l)
        operand_alike (Rel' o _ (only a) _ (only b)) =
            alike_then R R OperandAlike _ _ _ _ (valued_alike card _ _ (operand_alike a)) λ v w k.
            alike_then R R OperandAlike _ _ _ _ (valued_alike card _ _ (operand_alike b)) λ v2 w2 l.
            alike_see R OperandAlike (Computed (relation one o v v2)) (Computed (relation two o w w2)) (relation_alike o v v2 w w2 k l)
        operand_alike (Not' _ (only a)) =
            alike_then R R OperandAlike _ _ _ _ (valued_alike card _ _ (operand_alike a)) λ v w k.
            alike_see R OperandAlike (Computed (negated s v)) (Computed (negated t w)) (negated_alike v w k)
        operand_alike (And' _ (only a) _ (only b)) =
            alike_then R R OperandAlike _ _ _ _ (valued_alike card _ _ (operand_alike a)) λ v w k.
            alike_then R R OperandAlike _ _ _ _ (valued_alike card _ _ (operand_alike b)) λ v2 w2 l.
            alike_see R OperandAlike (Computed (make2 s f.And v v2)) (Computed (make2 t f.And w w2)) (make2_alike R s t c f.And _ _ _ _ k l)
        operand_alike (Or' _ (only a) _ (only b)) =
            alike_then R R OperandAlike _ _ _ _ (valued_alike card _ _ (operand_alike a)) λ v w k.
            alike_then R R OperandAlike _ _ _ _ (valued_alike card _ _ (operand_alike b)) λ v2 w2 l.
            alike_see R OperandAlike (Computed (make2 s f.Or v v2)) (Computed (make2 t f.Or w w2)) (make2_alike R s t c f.Or _ _ _ _ k l)

        pub values_alike : {m : Count} (es : Row_of-Expr m) → Alike R (Pairwise R) (values one card now es) (values two card now' es)
        values_alike end_of-Expr = alike_see R (Pairwise R) [] [] tt
        values_alike (more_of-Expr e es) =
            alike_then R R (Pairwise R) _ _ _ _ (valued_alike card _ _ (operand_alike e)) λ v w k.
            alike_then R (Pairwise R) (Pairwise R) _ _ _ _ (values_alike es) λ vs ws l.
            alike_see R (Pairwise R) (v ∷ vs) (w ∷ ws) (k, l)

        pub operands_alike : {m : Count} (es : Row_of-Expr m) → Alike R (Pairwise OperandAlike) (operands one card now es) (operands two card now' es)
        operands_alike end_of-Expr = alike_see R (Pairwise OperandAlike) [] [] tt
        operands_alike (more_of-Expr e es) =
            alike_then R OperandAlike (Pairwise OperandAlike) _ _ _ _ (operand_alike e) λ x y k.
            alike_then R (Pairwise OperandAlike) (Pairwise OperandAlike) _ _ _ _ (operands_alike es) λ xs ys l.
            alike_see R (Pairwise OperandAlike) (x ∷ xs) (y ∷ ys) (k, l)

      value_alike : (e : Expr) → Alike R R (value one card now e) (value two card now' e)
      value_alike e = valued_alike card _ _ (operand_alike e)

    -- ---- statements

    taken_alike : (v : V) (w : W) → R v w → Alike R (Anything R) (taken one v) (taken two w)
    taken_alike v w k = alike_meet R _ _ (k, tt)

    with_name_alike : (now : Named V) (now' : Named W) (x : Name) (v : V) (w : W) → NamesAlike R now now' → R v w → NamesAlike R (with_name now x v) (with_name now' x w)
    with_name_alike now now' x v w k l y = pick_alike R (same_bytes x y) _ _ _ _ l (k y)

    -- the answers of parts of statements are what names stand for
    abbrev Step : See V (Named V) → See W (Named W) → Type 0
    Step a b = Alike R (NamesAlike R) a b

    keep : (now : Named V) (now' : Named W) → NamesAlike R now now' → Step (see now) (see now')
    keep now now' k = alike_see R (NamesAlike R) now now' k

    after_fact : (v : V) (w : W) (a : See V (Named V)) (b : See W (Named W)) → R v w → Step a b → Step (taken one v >> a) (taken two w >> b)
    after_fact v w a b k l = alike_before R (Anything R) (NamesAlike R) _ _ _ _ (taken_alike v w k) l

    module _ (card : ℕ) where
      parameter_alike : (now : Named V) (now' : Named W) (m : Param) → NamesAlike R now now' → Alike R R (parameter one card now m) (parameter two card now' m)
      parameter_alike now now' (param.Fixed n) k = constant_alike card n
      parameter_alike now now' (param.Named x) k = read_alike card _ _ (k x)

      step_value_alike : (now : Named V) (now' : Named W) (m : Option Param) → NamesAlike R now now' → Alike R R (step_value one card now m) (step_value two card now' m)
      step_value_alike now now' None k = alike_see R R _ _ (natural_alike R s t c 1)
      step_value_alike now now' (Some m) k = parameter_alike now now' m k

      left_alike : (d : Dialect) (v : V) (w : W) → R v w → R (left_with one d v) (left_with two d w)
      left_alike Common v w k = undefined_alike
      left_alike SeventySeven v w k = k

      tests_alike : (ds : List Loop) (cs : List ℕ) (now : Named V) (now' : Named W) → NamesAlike R now now' → Step (tests one card now ds cs) (tests two card now' ds cs)
      tests_alike [] cs now now' k = keep now now' k
      tests_alike (d ∷ ds) [] now now' k = keep now now' k
      tests_alike (d ∷ ds) (n ∷ cs) now now' k =
          alike_then R R (NamesAlike R) _ _ _ _ (read_alike card _ _ (k d.variable)) λ v w l.
          alike_then R R (NamesAlike R) _ _ _ _ (step_value_alike now now' d.step k) λ by by' m.
          alike_then R R (NamesAlike R) _ _ _ _ (ranged_alike card _ _ (make2_alike R s t c f.Plus _ _ _ _ l m)) λ sum sum' o.
          alike_then R R (NamesAlike R) _ _ _ _ (parameter_alike now now' d.last k) λ last last' q.
          alike_cond R (NamesAlike R) (n == 1) _ _ _ _
          (after_fact _ _ _ _ (make2_alike R s t c f.AtMost _ _ _ _ o q) (keep _ _ (with_name_alike now now' d.variable sum sum' k o)))
          (after_fact _ _ _ _ (make2_alike R s t c f.Less _ _ _ _ q o)
          (tests_alike ds cs _ _ (with_name_alike now now' d.variable _ _ k (left_alike p.dialect sum sum' o))))

      behind_alike : (pc : ℕ) (cs : List ℕ) (now : Named V) (now' : Named W) → NamesAlike R now now' → Step (behind one card pc now cs) (behind two card pc now' cs)
      behind_alike pc cs now now' k = tests_alike (loops_at u pc) cs now now' k

    passed_over_alike : (last pc : ℕ) (cs : List ℕ) (now : Named V) (now' : Named W) → NamesAlike R now now' → Step (passed_over one last pc now cs) (passed_over two last pc now' cs)
    passed_over_alike last pc cs now now' k = tests_alike (card_in (slice_get u.lines last)) (loops_around u last pc) cs now now' k

    entered_alike : (last pc : ℕ) (cs : List ℕ) (now : Named V) (now' : Named W) (m1 m2 : V) (n1 n2 : W) → NamesAlike R now now' → R m1 n1 → R m2 n2
        → Step (entered one last pc now m1 m2 cs) (entered two last pc now' n1 n2 cs)
    entered_alike last pc [] now now' m1 m2 n1 n2 k l m = keep now now' k
    entered_alike last pc (n ∷ cs) now now' m1 m2 n1 n2 k l m =
        alike_cond R (NamesAlike R) (n == 1) _ _ _ _
        (after_fact _ _ _ _ (make2_alike R s t c f.AtMost _ _ _ _ l m) (keep now now' k))
        (after_fact _ _ _ _ (make2_alike R s t c f.Less _ _ _ _ m l) (passed_over_alike last pc cs now now' k))

    begin_alike : (d : Dialect) (card last pc : ℕ) (now : Named V) (now' : Named W) (x : Name) (m1 m2 m3 : V) (n1 n2 n3 : W) (cs : List ℕ)
        → NamesAlike R now now' → R m1 n1 → R m2 n2 → R m3 n3 → Step (begin one d card last pc now x m1 m2 m3 cs) (begin two d card last pc now' x n1 n2 n3 cs)
    begin_alike Common card last pc now now' x m1 m2 m3 n1 n2 n3 cs k l1 l2 l3 =
        alike_before R (Anything R) (NamesAlike R) _ _ _ _
        (checked_alike LoopCheck card _ _
        (make3_alike R s t c f.And _ _ _ _ _ _ (make2_alike R s t c f.AtMost _ _ _ _ (natural_alike R s t c 1) l1) (make2_alike R s t c f.AtMost _ _ _ _ l1 l2)
        (make2_alike R s t c f.AtMost _ _ _ _ (natural_alike R s t c 1) l3)))
        (keep _ _ (with_name_alike now now' x m1 n1 k l1))
    begin_alike SeventySeven card last pc now now' x m1 m2 m3 n1 n2 n3 cs k l1 l2 l3 =
        alike_before R (Anything R) (NamesAlike R) _ _ _ _ (checked_alike LoopCheck card _ _ (make2_alike R s t c f.AtMost _ _ _ _ (natural_alike R s t c 1) l3))
        (alike_before R R (NamesAlike R) _ _ _ _ (ranged_alike card _ _ (make2_alike R s t c f.Difference _ _ _ _ l2 l1))
        (alike_before R R (NamesAlike R) _ _ _ _
        (ranged_alike card _ _ (make2_alike R s t c f.Plus _ _ _ _ (make2_alike R s t c f.Difference _ _ _ _ l2 l1) l3))
        (entered_alike last pc cs _ _ m1 m2 n1 n2 (with_name_alike now now' x m1 n1 k l1) l1 l2)))

    counts_alike : (labels : ℕ) (v : V) (w : W) → R v w → R (counts_label one labels v) (counts_label two labels w)
    counts_alike labels v w k = lies_alike _ _ _ _ _ _ (natural_alike R s t c 1) (natural_alike R s t c labels) k

    select_alike : (d : Dialect) (card pc labels n : ℕ) (cs : List ℕ) (now : Named V) (now' : Named W) (v : V) (w : W) → NamesAlike R now now' → R v w
        → Step (select one d card pc now labels v n cs) (select two d card pc now' labels w n cs)
    select_alike Common card pc labels n cs now now' v w k l = after_fact _ _ _ _ (make2_alike R s t c f.Equal _ _ _ _ l (natural_alike R s t c n)) (keep now now' k)
    select_alike SeventySeven card pc labels n cs now now' v w k l =
        alike_cond R (NamesAlike R) (n == suc labels) _ _ _ _
        (after_fact _ _ _ _ (negated_alike _ _ (counts_alike labels v w l)) (behind_alike card pc cs now now' k))
        (after_fact _ _ _ _ (make2_alike R s t c f.Equal _ _ _ _ l (natural_alike R s t c n)) (keep now now' k))

    selected_alike : (card pc labels : ℕ) (cs : List ℕ) (now : Named V) (now' : Named W) (v : V) (w : W) → NamesAlike R now now' → R v w
        → Step (selected one card pc now labels v cs) (selected two card pc now' labels w cs)
    selected_alike card pc labels [] now now' v w k l = keep now now' k
    selected_alike card pc labels (n ∷ cs) now now' v w k l = select_alike p.dialect card pc labels n cs now now' v w k l

    choice_alike : (d : Dialect) (card labels : ℕ) (v : V) (w : W) → R v w → Alike R (Anything R) (choice_check one d card labels v) (choice_check two d card labels w)
    choice_alike Common card labels v w k = checked_alike ChoiceCheck card _ _ (counts_alike labels v w k)
    choice_alike SeventySeven card labels v w k = alike_see R (Anything R) tt tt tt

    sign_alike : (cs : List ℕ) (v : V) (w : W) → R v w → R (sign_fact one v cs) (sign_fact two w cs)
    sign_alike [] v w k = make2_alike R s t c f.Less _ _ _ _ (natural_alike R s t c 0) k
    sign_alike (zero ∷ cs) v w k = make2_alike R s t c f.Less _ _ _ _ (natural_alike R s t c 0) k
    sign_alike (suc zero ∷ cs) v w k = make2_alike R s t c f.Less _ _ _ _ k (natural_alike R s t c 0)
    sign_alike (suc (suc zero) ∷ cs) v w k = make2_alike R s t c f.Equal _ _ _ _ k (natural_alike R s t c 0)
    sign_alike (suc (suc (suc n)) ∷ cs) v w k = make2_alike R s t c f.Less _ _ _ _ (natural_alike R s t c 0) k

    truth_alike : (cs : List ℕ) (v : V) (w : W) → R v w → R (truth_fact one v cs) (truth_fact two w cs)
    truth_alike [] v w k = negated_alike v w k
    truth_alike (zero ∷ cs) v w k = negated_alike v w k
    truth_alike (suc zero ∷ cs) v w k = k
    truth_alike (suc (suc n) ∷ cs) v w k = negated_alike v w k

    result_alike : (card : ℕ) (b : Bool) (now : Named V) (now' : Named W) → NamesAlike R now now' → Alike R (Anything R) (result one card now b) (result two card now' b)
    result_alike card false now now' k = alike_see R (Anything R) tt tt tt
    result_alike card true now now' k = checked_alike ResultCheck card _ _ (defined_alike _ _ (k u.name))

    assign_alike : (card : ℕ) (now : Named V) (now' : Named W) (e : Expr) (v : V) (w : W) → NamesAlike R now now' → R v w → Step (assign one card now e v) (assign two card now' e w)
    assign_alike card now now' (Var x) v w k l = keep _ _ (with_name_alike now now' x v w k l)
    assign_alike card now now' (Apply' a _ args) v w k l =
        alike_then R (Pairwise R) (NamesAlike R) _ _ _ _ (values_alike card now now' k args) λ is js m.
        alike_then R R (NamesAlike R) _ _ _ _ (place_checked_alike card now now' (dims_of u a) is js k m) λ q q' o.
        keep _ _ (with_name_alike now now' a _ _ k (make3_alike R s t c f.Put _ _ _ _ _ _ (k a) o l))
    assign_alike card now now' (Const n) v w k l = keep now now' k
    assign_alike card now now' (Truth b) v w k l = keep now now' k
    assign_alike card now now' (Paren' x a) v w k l = keep now now' k
    assign_alike card now now' (Pos' x a) v w k l = keep now now' k
    assign_alike card now now' (Neg' x a) v w k l = keep now now' k
    assign_alike card now now' (Power' x a n) v w k l = keep now now' k
    assign_alike card now now' (Bin' o x a y b) v w k l = keep now now' k
    assign_alike card now now' (Rel' o x a y b) v w k l = keep now now' k
    assign_alike card now now' (Not' x a) v w k l = keep now now' k
    assign_alike card now now' (And' x a y b) v w k l = keep now now' k
    assign_alike card now now' (Or' x a y b) v w k l = keep now now' k

    module _ (card pc : ℕ) (now : Named V) (now' : Named W) (k : NamesAlike R now now') where
      pub performed_alike : (stmt : Stmt) (cs : List ℕ) → Step (performed one card pc now stmt cs) (performed two card pc now' stmt cs)
      performed_alike (Assign left right) cs =
          alike_then R R (NamesAlike R) _ _ _ _ (value_alike card now now' k right) λ v w l.
          alike_then R (NamesAlike R) (NamesAlike R) _ _ _ _ (assign_alike card now now' left v w k l) λ after after' m.
          behind_alike card pc cs after after' m
      performed_alike (GoTo label) cs = keep now now' k
      performed_alike (ComputedGoTo labels x) cs =
          alike_then R R (NamesAlike R) _ _ _ _ (read_alike card _ _ (k x)) λ v w l.
          alike_before R (Anything R) (NamesAlike R) _ _ _ _ (choice_alike p.dialect card (length labels) v w l)
          (selected_alike card pc (length labels) cs now now' v w k l)
      performed_alike (ArithIf e a b d) cs =
          alike_then R R (NamesAlike R) _ _ _ _ (value_alike card now now' k e) λ v w l. after_fact _ _ _ _ (sign_alike cs v w l) (keep now now' k)
      performed_alike (LogicalIf' e _ (carried stmt)) [] = keep now now' k
      performed_alike (LogicalIf' e _ (carried stmt)) (n ∷ cs) =
          alike_then R R (NamesAlike R) _ _ _ _ (value_alike card now now' k e) λ v w l.
          alike_cond R (NamesAlike R) (n == 1) _ _ _ _
          (after_fact _ _ _ _ l (performed_alike stmt cs))
          (after_fact _ _ _ _ (negated_alike v w l) (behind_alike card pc cs now now' k))
      performed_alike (Do label x first last by) cs =
          alike_then R R (NamesAlike R) _ _ _ _ (parameter_alike card now now' first k) λ m1 n1 l1.
          alike_then R R (NamesAlike R) _ _ _ _ (parameter_alike card now now' last k) λ m2 n2 l2.
          alike_then R R (NamesAlike R) _ _ _ _ (step_value_alike card now now' by k) λ m3 n3 l3.
          begin_alike p.dialect card (target u.lines label) pc now now' x m1 m2 m3 n1 n2 n3 cs k l1 l2 l3
      performed_alike Continue cs = behind_alike card pc cs now now' k
      performed_alike (Call g args) cs =
          alike_then R (Pairwise OperandAlike) (NamesAlike R) _ _ _ _ (operands_alike card now now' k (row_of args)) λ xs ys l.
          alike_then R AfterAlike (NamesAlike R) _ _ _ _ (call_alike card (subroutine p.units g) now now' xs ys k l) λ a b m.
          behind_alike card pc cs (a.0) (b.0) m.0
      performed_alike Return cs = alike_before R (Anything R) (NamesAlike R) _ _ _ _ (result_alike card (is_function u) now now' k) (keep now now' k)
      performed_alike (BlockIf e) cs =
          alike_then R R (NamesAlike R) _ _ _ _ (value_alike card now now' k e) λ v w l. after_fact _ _ _ _ (truth_alike cs v w l) (keep now now' k)
      performed_alike (ElseIf e) cs =
          alike_then R R (NamesAlike R) _ _ _ _ (value_alike card now now' k e) λ v w l. after_fact _ _ _ _ (truth_alike cs v w l) (keep now now' k)
      performed_alike Else cs = behind_alike card pc cs now now' k
      performed_alike EndIf cs = behind_alike card pc cs now now' k
      performed_alike (Subroutine x xs) cs = keep now now' k
      performed_alike (Function o x xs) cs = keep now now' k
      performed_alike (Declare o items) cs = keep now now' k
      performed_alike (Dimension items) cs = keep now now' k
      performed_alike (CommonBlock groups) cs = keep now now' k
      performed_alike End cs = keep now now' k
