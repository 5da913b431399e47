-- Expressions as a whole: where named values stand for cells, a walk and a strict run evaluate them alike, or the run
-- errs where the walk's first false check is.
use Rattle.std.proofs.Common.{◌≡◌, ℕ, zero, suc, ◌+◌, ◌<◌, ◌≤◌, ◌⊎◌, inl, inr, Bool, true, false, cond, not, ◌&&◌, ◌||◌, ℤ, pos, ◌-ℤ◌, List, [], ◌∷◌, length, Some, refl, sym, ap, ◌∙◌, subst, arith}
use Rattle.std.specs.Prelude.{nat_lt, pred, neg_ℤ}
use Rattle.fort_syntax.specs.TreePatterns.{listed, only}
use Rattle.fort_syntax.specs.Names.{Applied, Element, BuiltIn, Reference, Intrinsic, Absolute, Modulo, Greatest, Least, applied, function, unit_at}
use mathlib.Core.Former.{Count}
use Rattle.formula.specs.declared.function.BuiltIn.TheVariants as f
use Rattle.formula.specs.declared.value.Cell.{Cell}
use Rattle.formula.specs.declared.value.Cell.TheVariants as cell
use Rattle.formula.specs.declared.value.Value.{Value}
use Rattle.formula.specs.declared.value.Value.TheVariants.{Int, Logical as Truth}
use Rattle.formula.specs.Values as value
use Rattle.formula.specs.Values.{holds, is_between, of_cell, count}
use Rattle.formula.specs.Worth.{Function}
use Rattle.fort_syntax.specs.declared.name.Name.{Name}
use Rattle.fort_syntax.specs.declared.dialect.Sort.{Sort}
use Rattle.fort_syntax.specs.declared.dialect.Sort.TheVariants.{Integer, Logical}
use Rattle.fort_syntax.specs.declared.expr.Expr.{Expr, Row_of-Expr, end_of-Expr, more_of-Expr}
use Rattle.fort_syntax.specs.declared.expr.Expr.TheVariants.{Const, Truth as TruthConstant, Var, Apply', Paren', Pos', Neg', Power', Bin', Rel', Not', And', Or'}
use Rattle.fort_syntax.specs.declared.stmt.Dim.{Dim}
use Rattle.fort_model.specs.Arguments.{data_sort, reference_sort, applied_sort, sort_of_expr}
use Rattle.fort_model.specs.Cells.{num, holds as run_holds, compares}
use Rattle.fort_model.specs.Conditions.{sight}
use Rattle.fort_model.specs.Correct.{held_in}
use Rattle.fort_model.specs.Evaluate as run
use Rattle.fort_model.specs.Evaluate.{Scene}
use Rattle.fort_model.specs.Fits.{has_sort}
use Rattle.fort_model.specs.Outcome.{Act, give}
use Rattle.fort_model.specs.Passing.{Taken, Cells, Fresh, Caller, call, passed}
use Rattle.fort_model.specs.Places.{dim_values, place, stretch}
use Rattle.fort_model.specs.Processor.{Processor, MeetsBound}
use Rattle.fort_model.specs.Program.{Program}
use Rattle.fort_model.specs.Seen.{Named, See, ◌>>=◌, see}
use Rattle.fort_model.specs.Senses as sense
use Rattle.fort_model.specs.Senses.{of_values}
use Rattle.fort_model.specs.Sites.{calls_in}
use Rattle.fort_model.specs.Storage.{Storage, Extent, load, contents}
use Rattle.fort_model.specs.Symbols.{Symbol, LeastInteger, GreatestInteger}
use Rattle.fort_model.specs.WalkCalls.{Sight, Operand, Bare, Part, Computed}
use Rattle.fort_model.specs.WalkExpr as walk
use Rattle.fort_model.specs.WalkPlaces as places
use Rattle.fort_laws.specs.Actuals.{IsPart, IsTakenAs, HoldsSort, IsOperandOf, ActualOf, IsPassed, ArePassed}
use Rattle.fort_laws.specs.Called.{IsReferenceTo}
use Rattle.fort_laws.specs.Matches.{Matches, Same}
use Rattle.fort_laws.specs.Places.{AreWithin}
use Rattle.fort_laws.specs.Standing.{IsSort, Of, MayBe, Standing, OperandOf, CallsMatch, ExpressionsMatch}
use Rattle.fort_laws.specs.Typed.{IsCount, row_length, IsArray, IsActual, IsApplied, IsTyped, AreInteger, AreActual}
use Rattle.fort_laws.proofs.CallNames.{data_name_is}
use Rattle.fort_laws.proofs.InRange.{up_to_bound, has_zero, remainder_between, greater_between, smaller_between}
use Rattle.fort_laws.proofs.Matching.{stays_then, matches_see, matches_as, matches_held, matches_made, matches_twice, followed}
use Rattle.fort_laws.proofs.MatchedExpressions.{integer_is, integer_between, matches_ranged, matches_constant, matches_large, matches_operate, matches_power_from, matches_divisor, relation_is, and_two}
use Rattle.fort_laws.proofs.MatchedPlaces.{scalar_stands, scalar_sort, matches_read, AreOf, AreAsMany, matches_subscripts, place_is, cell_of_place}
use Rattle.fort_laws.proofs.Near.{known}
use Rattle.fort_laws.proofs.PlaceBounds.{LiesIn, lies_in_array, one_less}

-- what a cell holds of a type, by the test of it
pub maybe_holds : (p : Processor) (q : Sort) (c : Cell) → MayBe p q c → has_sort p q c ≡ true
maybe_holds p Integer (cell.Int z) h = h
maybe_holds p Integer (cell.Logical b) h = absurd h
maybe_holds p Integer cell.Undefined h = refl
maybe_holds p Logical (cell.Int z) h = absurd h
maybe_holds p Logical (cell.Logical b) h = refl
maybe_holds p Logical cell.Undefined h = refl

sort_holds : (p : Processor) (q : Sort) (c : Cell) → IsSort p q c → has_sort p q c ≡ true
sort_holds p Integer (cell.Int z) h = h
sort_holds p Integer (cell.Logical b) h = absurd h
sort_holds p Integer cell.Undefined h = absurd h
sort_holds p Logical (cell.Int z) h = absurd h
sort_holds p Logical (cell.Logical b) h = refl
sort_holds p Logical cell.Undefined h = absurd h

module _ (fs : List Function) (values : Symbol → Value) (program : Program) (i : ℕ) (s : Scene) (caller : Caller)
    (least : values LeastInteger ≡ Int s.processor.least) (greatest : values GreatestInteger ≡ Int s.processor.greatest)
    (strict : s.processor.lazy ≡ false) (bounded : MeetsBound s.processor program.bound)
    (st : Storage) (now : Named Value) (standing : Standing s.processor s.unit s.environment st now) where
  abbrev w : Sight Value
  w = sight (of_values fs values) program i s.unit

  -- an operand of an expression, of a type, and what a run takes for it
  pub record IsOperand (e : Expr) (q : Sort) (o : Operand Value) (t : Taken) : Type 0 where
    pub taken : IsTakenAs s.environment (IsPart s.unit s.environment) e t
    pub form : IsOperandOf now e o
    pub holds : OperandOf s st now q o t

  -- expressions that are taken as fresh values, and those that are no bare names
  abbrev IsFree : Expr → Type 0
  IsFree e = (c : Cell) → IsTakenAs s.environment (IsPart s.unit s.environment) e (Fresh c)

  abbrev IsNoName : Expr → Type 0
  IsNoName e = (x : Name) → e ≡ Var x → ⊥

  actual_of : (q : Sort) (x : Operand Value) (t : Taken) → OperandOf s st now q x t → ActualOf s st now x t
  actual_of q (Bare x v) (Cells e) h = (h.0, h.1)
  actual_of q (Bare x v) (Fresh c) h = absurd h
  actual_of q (Part v) (Cells e) h = h.0
  actual_of q (Part v) (Fresh c) h = absurd h
  actual_of q (Computed v) (Cells e) h = absurd h
  actual_of q (Computed v) (Fresh c) h = h.0

  -- an operand is read for its value
  matches_operand_read : (card : ℕ) (q : Sort) (x : Operand Value) (t : Taken) → OperandOf s st now q x t → Matches (Same st (Of s.processor q)) (walk.read_operand w card x) (run.value_of card t) st
  matches_operand_read card q (Bare x v) (Cells e) h = matches_read s.processor s.unit s.environment st now standing fs values program i s card e.first v q h.2 h.3
  matches_operand_read card q (Bare x v) (Fresh c) h = absurd h
  matches_operand_read card q (Part v) (Cells e) h = matches_read s.processor s.unit s.environment st now standing fs values program i s card e.first v q h.0 h.1
  matches_operand_read card q (Part v) (Fresh c) h = absurd h
  matches_operand_read card q (Computed v) (Cells e) h = absurd h
  matches_operand_read card q (Computed v) (Fresh c) h = matches_see (Same st (Of s.processor q)) v c st (refl, h)

  pub matches_valued : (e : Expr) (card : ℕ) (q : Sort) (part : See Value (Operand Value)) (act : Act Taken) → Matches (Same st (IsOperand e q)) part act st
      → Matches (Same st (Of s.processor q)) (walk.valued w card part) (run.valued card act) st
  matches_valued e card q part act h = stays_then (IsOperand e q) (Same st (Of s.processor q)) _ _ _ _ st h (λ x t k. matches_operand_read card q x t k.holds)

  matches_computed : (e : Expr) (q : Sort) (part : See Value Value) (act : Act Cell) → IsFree e → IsNoName e → Matches (Same st (Of s.processor q)) part act st
      → Matches (Same st (IsOperand e q)) (walk.computed w part) (run.fresh act) st
  matches_computed e q part act free unlike h =
      stays_then (Of s.processor q) (Same st (IsOperand e q)) _ _ _ _ st h (λ v c k. matches_see (Same st (IsOperand e q)) (Computed v) (Fresh c) st (refl, record { taken = free c; form = unlike; holds = k }))

  -- a constant, whose cell is known
  abbrev IsConstant : ℕ → Value → Cell → Type 0
  IsConstant n v c = Of s.processor Integer v c × (c ≡ cell.Int (pos n))

  matches_any_constant : (card n : ℕ) → Matches (Same st (IsConstant n)) (walk.constant w card n) (run.constant s.processor card n) st
  matches_any_constant card n =
      known (nat_lt program.bound n)
      (λ e. matches_large fs values program i s.unit s least greatest st (has_zero s.processor program.bound bounded) card n e)
      (λ e. matches_constant fs values program i s.unit s least greatest st card n e (up_to_bound s.processor program.bound bounded n e))

  constant_operand : (card n : ℕ) → Matches (Same st (IsOperand (Const n) Integer)) (walk.computed w (walk.constant w card n)) (run.fresh (run.constant s.processor card n)) st
  constant_operand card n =
      stays_then (IsConstant n) (Same st (IsOperand (Const n) Integer)) _ _ _ _ st (matches_any_constant card n)
      (λ v c k. matches_see (Same st (IsOperand (Const n) Integer)) (Computed v) (Fresh c) st (refl, record { taken = ap Fresh k.1; form = λ x z. cc; holds = k.0 }))

  -- a truth value that is computed
  matches_logical : (e : Expr) → IsFree e → IsNoName e → (v : Value) (b : Bool) → v ≡ Truth b → Matches (Same st (IsOperand e Logical)) (see (Computed v)) (give (Fresh (cell.Logical b))) st
  matches_logical e free unlike v b q =
      matches_see (Same st (IsOperand e Logical)) (Computed v) (Fresh (cell.Logical b)) st (refl, record { taken = free (cell.Logical b); form = unlike; holds = (q, tt) })

  -- ---- elements

  -- the cell of an element: where it lies in its array
  pub record IsPlaced (ds : List Dim) (size : ℕ) (z : ℤ) : Type 0 where
    pub before : ℕ
    pub count_is : count (z -ℤ pos 1) ≡ before
    pub less : before < size

  placed : (ds : List Dim) (size : ℕ) (z : ℤ) → LiesIn z (stretch (dim_values s.environment st ds)) → pos size ≡ stretch (dim_values s.environment st ds) → IsPlaced ds size z
  placed ds size z h e = go h.at h.place_is h.low h.high
    where
      sizes : size ≡ h.size
      sizes = ap count (e ∙ h.stretch_is)

      go : (k : ℕ) → z ≡ pos k → 1 ≤ k → k ≤ h.size → IsPlaced ds size z
      go zero p l m = absurd (omega arith)
      go (suc k) p l m = let same : size ≡ h.size = sizes in record { before = k; count_is = ap count (ap (λ (x : ℤ). x -ℤ pos 1) p ∙ one_less k); less = omega arith }

  matches_element : (e : Expr) → IsNoName e → (a : Name) → ((c : Extent) → IsPart s.unit s.environment a c → IsTakenAs s.environment (IsPart s.unit s.environment) e (Cells c)) → (card : ℕ) (q : Sort) (b : Dim) (bs : List Dim) → IsArray s.unit q a (b ∷ bs) → (vs : List Value) (cs : List Cell)
      → AreOf s.processor s.unit s.environment st now standing fs values program i s vs cs → AreAsMany s.processor s.unit s.environment st now standing fs values program i s cs (b ∷ bs)
      → Matches (Same st (IsOperand e q)) (walk.place_checked w card now (b ∷ bs) vs >>= (λ p. see (Part (sense.make2 (of_values fs values) f.Element (now a) p))))
      (run.element s.environment card (s.environment a) (b ∷ bs) cs) st
  matches_element expr unlike a part card q b bs h vs cs e many =
      matches_held (Same st (IsOperand expr q)) _ (λ x. followed (run.subscripts_in card (run.numbers cs) (dim_values s.environment x (b ∷ bs))) (λ _. give (Cells (taken_at x)))) st
      (stays_then (λ p y. (p ≡ the_place) × AreWithin (run.numbers cs) (dim_values s.environment st (b ∷ bs))) (Same st (IsOperand expr q)) _ _ _ _ st
      (matches_made (Same st (λ x y. AreWithin (run.numbers cs) (dim_values s.environment st (b ∷ bs)))) (Same st (λ p y. (p ≡ the_place) × AreWithin (run.numbers cs) (dim_values s.environment st (b ∷ bs))))
      _ _ (λ _. the_place) st (matches_subscripts s.processor s.unit s.environment st now standing fs values program i s card vs cs (b ∷ bs) e many h.dims) (λ x y after k. (k.0, (refl, k.1))))
      (λ p y k. matches_see (Same st (IsOperand expr q)) (Part (sense.make2 (of_values fs values) f.Element (now a) p)) (Cells (taken_at st)) st
      (refl, record { taken = part (taken_at st) (is_part k.1); form = unlike; holds = (ap (λ (x : Value). value.element (now a) (value.num x)) k.0 ∙ is_cell k.1, may_be k.1, refl) })))
    where
      the_place : Value
      the_place = places.place (of_values fs values) now vs (b ∷ bs)

      taken_at : Storage → Extent
      taken_at x = record { first = (s.environment a).first + count (place (run.numbers cs) (dim_values s.environment x (b ∷ bs)) -ℤ pos 1); size = 1 }

      sizes : pos (s.environment a).size ≡ stretch (dim_values s.environment st (b ∷ bs))
      sizes = standing.sizes a h.data_of h.is ∙ ap (λ (ds : List Dim). stretch (dim_values s.environment st ds)) h.dims_are

      is_cell : AreWithin (run.numbers cs) (dim_values s.environment st (b ∷ bs))
          → value.element (now a) (value.num (places.place (of_values fs values) now vs (b ∷ bs))) ≡ of_cell (load st (taken_at st).first)
      is_cell within =
          ap (λ (v : Value). value.element v (value.num (places.place (of_values fs values) now vs (b ∷ bs)))) (standing.names a h.data_of h.is ∙ ap (λ (ds : List Dim). held_in ds st (s.environment a)) h.dims_are)
          ∙ ap (λ (z : ℤ). value.value_or_undefined (value.cell_at (contents st (s.environment a).first (s.environment a).size) z))
          (place_is s.processor s.unit s.environment st now standing fs values program i s vs cs (b ∷ bs) e h.dims)
          ∙ cell_of_place s.processor s.unit s.environment st now standing fs values program i s (s.environment a).first (s.environment a).size _ _
          (lies_in_array (run.numbers cs) (dim_values s.environment st (b ∷ bs)) within) sizes

      is_part : AreWithin (run.numbers cs) (dim_values s.environment st (b ∷ bs)) → IsPart s.unit s.environment a (taken_at st)
      is_part within =
          let at = placed (b ∷ bs) (s.environment a).size _ (lies_in_array (run.numbers cs) (dim_values s.environment st (b ∷ bs)) within) sizes in
          let d = data_name_is s.unit.names a h.data_of h.is in
          record {
            its = h.data_of;
            among = d.0;
            name = d.1;
            low = let x = at.count_is in omega arith;
            high = let x = at.count_is in let y = at.less in omega (arith, x, y);
            one = refl;
          }

      may_be : AreWithin (run.numbers cs) (dim_values s.environment st (b ∷ bs)) → MayBe s.processor q (load st (taken_at st).first)
      may_be within =
          let at = placed (b ∷ bs) (s.environment a).size _ (lies_in_array (run.numbers cs) (dim_values s.environment st (b ∷ bs)) within) sizes in
          subst (λ (r : Sort). MayBe s.processor r (load st (taken_at st).first)) h.sort_is
          (subst (λ (j : ℕ). MayBe s.processor h.data_of.sort (load st ((s.environment a).first + j))) (sym at.count_is) (standing.sorts a h.data_of h.is at.before at.less))

  -- ---- intrinsic functions

  abbrev pub AreIntegers : List Value → List Cell → Type 0
  AreIntegers [] [] = Unit {0}
  AreIntegers [] (c ∷ cs) = ⊥
  AreIntegers (v ∷ vs) [] = ⊥
  AreIntegers (v ∷ vs) (c ∷ cs) = Of s.processor Integer v c × AreIntegers vs cs

  abbrev Values : List Value → List Cell → Type 0
  Values = AreOf s.processor s.unit s.environment st now standing fs values program i s

  pub are_of : (vs : List Value) (cs : List Cell) → AreIntegers vs cs → Values vs cs
  are_of [] [] h = tt
  are_of [] (c ∷ cs) h = absurd h
  are_of (v ∷ vs) [] h = absurd h
  are_of (v ∷ vs) (c ∷ cs) h = (h.0.0, are_of vs cs h.1)

  pub as_many : (cs : List Cell) (ds : List Dim) → length cs ≡ length ds → AreAsMany s.processor s.unit s.environment st now standing fs values program i s cs ds
  as_many [] [] h = tt
  as_many [] (d ∷ ds) h = absurd (omega (arith, h))
  as_many (c ∷ cs) [] h = absurd (omega (arith, h))
  as_many (c ∷ cs) (d ∷ ds) h = as_many cs ds (omega (arith, h))

  greatest_is : (vs : List Value) (cs : List Cell) (v : Value) (z : ℤ) → AreIntegers vs cs → v ≡ Int z → walk.folded w f.Maximum v vs ≡ Int (run.folded value.greater z cs)
  greatest_is [] [] v z h e = e
  greatest_is [] (c ∷ cs) v z h e = absurd h
  greatest_is (x ∷ vs) [] v z h e = absurd h
  greatest_is (x ∷ vs) (c ∷ cs) v z h e = greatest_is vs cs _ _ h.1 (λ k. Int (value.greater (value.num (e k)) (value.num (h.0.0 k))))

  least_is : (vs : List Value) (cs : List Cell) (v : Value) (z : ℤ) → AreIntegers vs cs → v ≡ Int z → walk.folded w f.Minimum v vs ≡ Int (run.folded value.smaller z cs)
  least_is [] [] v z h e = e
  least_is [] (c ∷ cs) v z h e = absurd h
  least_is (x ∷ vs) [] v z h e = absurd h
  least_is (x ∷ vs) (c ∷ cs) v z h e = least_is vs cs _ _ h.1 (λ k. Int (value.smaller (value.num (e k)) (value.num (h.0.0 k))))

  all_greatest : (vs : List Value) (cs : List Cell) (z : ℤ) → AreIntegers vs cs → is_between s.processor.least s.processor.greatest z ≡ true → is_between s.processor.least s.processor.greatest (run.folded value.greater z cs) ≡ true
  all_greatest [] [] z h b = b
  all_greatest [] (c ∷ cs) z h b = absurd h
  all_greatest (v ∷ vs) [] z h b = absurd h
  all_greatest (v ∷ vs) (c ∷ cs) z h b = all_greatest vs cs _ h.1 (greater_between s.processor.least s.processor.greatest z (num c) b (integer_between s.processor v c h.0))

  all_least : (vs : List Value) (cs : List Cell) (z : ℤ) → AreIntegers vs cs → is_between s.processor.least s.processor.greatest z ≡ true → is_between s.processor.least s.processor.greatest (run.folded value.smaller z cs) ≡ true
  all_least [] [] z h b = b
  all_least [] (c ∷ cs) z h b = absurd h
  all_least (v ∷ vs) [] z h b = absurd h
  all_least (v ∷ vs) (c ∷ cs) z h b = all_least vs cs _ h.1 (smaller_between s.processor.least s.processor.greatest z (num c) b (integer_between s.processor v c h.0))

  matches_intrinsic : (card : ℕ) (g : Intrinsic) (vs : List Value) (cs : List Cell) → AreIntegers vs cs → IsCount g (length cs)
      → Matches (Same st (Of s.processor Integer)) (walk.intrinsic_value w card g vs) (run.intrinsic_value s.processor card g cs) st
  matches_intrinsic card g [] (c ∷ cs) h n = absurd h
  matches_intrinsic card g (v ∷ vs) [] h n = absurd h
  matches_intrinsic card Absolute [] [] h n = absurd (omega (arith, n))
  matches_intrinsic card Absolute (v ∷ []) (c ∷ []) h n = matches_ranged fs values program i s.unit s least greatest st card _ _ (λ k. Int (value.absolute (value.num (h.0.0 k))))
  matches_intrinsic card Absolute (v ∷ []) (c ∷ (c2 ∷ cs)) h n = absurd h.1
  matches_intrinsic card Absolute (v ∷ (v2 ∷ vs)) (c ∷ []) h n = absurd h.1
  matches_intrinsic card Absolute (v ∷ (v2 ∷ vs)) (c ∷ (c2 ∷ cs)) h n = absurd (omega (arith, n))
  matches_intrinsic card Modulo [] [] h n = absurd (omega (arith, n))
  matches_intrinsic card Modulo (v ∷ []) (c ∷ []) h n = absurd (omega (arith, n))
  matches_intrinsic card Modulo (v ∷ []) (c ∷ (c2 ∷ cs)) h n = absurd h.1
  matches_intrinsic card Modulo (v ∷ (v2 ∷ vs)) (c ∷ []) h n = absurd h.1
  matches_intrinsic card Modulo (v ∷ (v2 ∷ [])) (c ∷ (c2 ∷ [])) h n =
      stays_then (λ x y. Unit {0}) (Same st (Of s.processor Integer)) _ _ _ _ st (matches_divisor fs values program i s.unit s least greatest st card v2 c2 h.1.0.0)
      (λ x y k. stays_then (Of s.processor Integer) (Same st (Of s.processor Integer)) _ _ _ _ st
      (matches_ranged fs values program i s.unit s least greatest st card _ _ (λ j. Int (value.quotient (value.num (h.0.0 j)) (value.num (h.1.0.0 j)))))
      (λ x2 y2 k2. matches_see (Same st (Of s.processor Integer)) (sense.make2 (of_values fs values) f.Remainder v v2) (cell.Int (value.remainder (num c) (num c2))) st
      (refl, (λ j. Int (value.remainder (value.num (h.0.0 j)) (value.num (h.1.0.0 j))), remainder_between s.processor.least s.processor.greatest (num c) (num c2) (has_zero s.processor program.bound bounded) (integer_between s.processor v c h.0)))))
  matches_intrinsic card Modulo (v ∷ (v2 ∷ [])) (c ∷ (c2 ∷ (c3 ∷ cs))) h n = absurd h.1.1
  matches_intrinsic card Modulo (v ∷ (v2 ∷ (v3 ∷ vs))) (c ∷ (c2 ∷ [])) h n = absurd h.1.1
  matches_intrinsic card Modulo (v ∷ (v2 ∷ (v3 ∷ vs))) (c ∷ (c2 ∷ (c3 ∷ cs))) h n = absurd (omega (arith, n))
  matches_intrinsic card Greatest [] [] h n = absurd (omega (arith, n))
  matches_intrinsic card Greatest (v ∷ vs) (c ∷ cs) h n =
      matches_see (Same st (Of s.processor Integer)) (walk.folded w f.Maximum v vs) (cell.Int (run.folded value.greater (num c) cs)) st (refl, (greatest_is vs cs v (num c) h.1 (integer_is s.processor v c h.0), all_greatest vs cs (num c) h.1 (integer_between s.processor v c h.0)))
  matches_intrinsic card Least [] [] h n = absurd (omega (arith, n))
  matches_intrinsic card Least (v ∷ vs) (c ∷ cs) h n =
      matches_see (Same st (Of s.processor Integer)) (walk.folded w f.Minimum v vs) (cell.Int (run.folded value.smaller (num c) cs)) st (refl, (least_is vs cs v (num c) h.1 (integer_is s.processor v c h.0), all_least vs cs (num c) h.1 (integer_between s.processor v c h.0)))

  module _ (IsReference : Sort → Name → List Expr → Type 0) (told : (q : Sort) (a : Name) (es : List Expr) → IsReference q a es → reference_sort s.unit.functions a ≡ Some q)
      (calls : CallsMatch fs values program i s caller st now IsReference) where
    -- several values, of which there are so many
    abbrev pub Integers : ℕ → List Value → List Cell → Type 0
    Integers n vs cs = AreIntegers vs cs × (length cs ≡ n)

    matches_applied : (e : Expr) → IsNoName e → IsFree e → (a : Name) → ((c : Extent) → IsPart s.unit s.environment a c → IsTakenAs s.environment (IsPart s.unit s.environment) e (Cells c))
        → (card k : ℕ) (q : Sort) (kind : Applied) (n : ℕ) (es : List Expr) (are_values are_actuals : Type 0) (vs : See Value (List Value)) (cs : Act (List Cell))
        (xs : See Value (List (Operand Value))) (ts : Act (List Taken)) → IsApplied s.unit IsReference q a kind n es are_values are_actuals
        → (are_values → Matches (Same st (Integers n)) vs cs st) → (are_actuals → Matches (Same st (ArePassed s st now es)) xs ts st)
        → Matches (Same st (IsOperand e q)) (walk.apply w card now a kind vs xs) (run.apply s caller card k a kind cs ts) st
    matches_applied e unlike free a part card k q (Element []) n es are_values are_actuals vs cs xs ts h hv hx = absurd h
    matches_applied e unlike free a part card k q (Element (d ∷ ds)) n es are_values are_actuals vs cs xs ts h hv hx =
        stays_then (Integers n) (Same st (IsOperand e q)) _ _ _ _ st (hv h.2)
        (λ us bs g. matches_element e unlike a part card q d ds h.0 us bs (are_of us bs g.0) (as_many bs (d ∷ ds) (g.1 ∙ h.1)))
    matches_applied e unlike free a part card k q (BuiltIn g) n es are_values are_actuals vs cs xs ts h hv hx =
        stays_then (Integers n) (Same st (IsOperand e q)) _ _ _ _ st (hv h.2)
        (λ us bs m. matches_computed e q _ _ free unlike (subst (λ (r : Sort). Matches (Same st (Of s.processor r)) (walk.intrinsic_value w card g us) (run.intrinsic_value s.processor card g bs) st) (sym h.0)
        (matches_intrinsic card g us bs m.0 (subst (IsCount g) (sym m.1) h.1))))
    matches_applied e unlike free a part card k q Reference n es are_values are_actuals vs cs xs ts h hv hx =
        matches_twice (Same st (IsOperand e q)) _ ts (λ ys. call caller s.environment (unit_at s.units (function s.units a)) (passed (s.processor.copies s.unit.name (suc k)) 1 ys)) (λ c. give (Fresh c)) st
        (stays_then (ArePassed s st now es) (Same st (IsOperand e q)) _ _ _ _ st (hx h.1)
        (λ us ys m. stays_then (λ r c. Of s.processor q (r.1) c) (Same st (IsOperand e q)) _ _ _ _ st (calls card (suc k) q a es us ys h.0 m)
        (λ r c o. matches_see (Same st (IsOperand e q)) (Computed (r.1)) (Fresh c) st (refl, record { taken = free c; form = unlike; holds = o }))))

    -- of an integer, and of a truth value
    as_integer : (e : Expr) (q : Sort) (part : See Value (Operand Value)) (act : Act Taken) → q ≡ Integer → Matches (Same st (IsOperand e Integer)) part act st → Matches (Same st (IsOperand e q)) part act st
    as_integer e q part act z h = subst (λ (r : Sort). Matches (Same st (IsOperand e r)) part act st) (sym z) h

    as_logical : (e : Expr) (q : Sort) (part : See Value (Operand Value)) (act : Act Taken) → q ≡ Logical → Matches (Same st (IsOperand e Logical)) part act st → Matches (Same st (IsOperand e q)) part act st
    as_logical e q part act z h = subst (λ (r : Sort). Matches (Same st (IsOperand e r)) part act st) (sym z) h

    and_is : (v : Value) (a : Cell) (x : Value) (b : Cell) → Of s.processor Logical v a → Of s.processor Logical x b → sense.make2 (of_values fs values) f.And v x ≡ Truth (run_holds a && run_holds b)
    and_is v a x b h k = (λ j. Truth (holds (h.0 j) && (holds (k.0 j) && true))) ∙ ap Truth (and_two (run_holds a) (run_holds b))

    or_two : (b c : Bool) → (b || (c || false)) ≡ (b || c)
    or_two true c = refl
    or_two false true = refl
    or_two false false = refl

    or_is : (v : Value) (a : Cell) (x : Value) (b : Cell) → Of s.processor Logical v a → Of s.processor Logical x b → sense.make2 (of_values fs values) f.Or v x ≡ Truth (run_holds a || run_holds b)
    or_is v a x b h k = (λ j. Truth (holds (h.0 j) || (holds (k.0 j) || false))) ∙ ap Truth (or_two (run_holds a) (run_holds b))

    -- a strict processor leaves out nothing
    strictly : {A : Type 0} (Q : A → Taken → Storage → Type 0) (t : Bool) (part : See Value A) (out all : Act Taken) → Matches Q part all st → Matches Q part (cond (s.processor.lazy && t) out all) st
    strictly Q t part out all h = subst (λ (b : Bool). Matches Q part (cond (b && t) out all) st) (sym strict) h

    -- ---- actuals

    -- the type of a typed expression is what declarations tell
    applied_typed : (q : Sort) (a : Name) (kind : Applied) (n : ℕ) (es : List Expr) (are_values are_actuals : Type 0) → IsApplied s.unit IsReference q a kind n es are_values are_actuals → applied_sort s.unit a kind ≡ Some q
    applied_typed q a (Element []) n es are_values are_actuals h = absurd h
    applied_typed q a (Element (d ∷ ds)) n es are_values are_actuals h = ap data_sort h.0.is ∙ ap Some h.0.sort_is
    applied_typed q a (BuiltIn g) n es are_values are_actuals h = ap Some (sym h.0)
    applied_typed q a Reference n es are_values are_actuals h = told q a es h.0

    typed_sort : (e : Expr) (q : Sort) → IsTyped s.unit IsReference q e → sort_of_expr s.unit e ≡ Some q
    typed_sort (Const n) q h = ap Some (sym h)
    typed_sort (TruthConstant b) q h = ap Some (sym h)
    typed_sort (Var x) q h = ap data_sort h.is ∙ ap Some h.sort_is
    typed_sort (Apply' a _ args) q h = applied_typed q a (applied s.unit a) (row_length args) (listed args) (AreInteger s.unit IsReference args) (AreActual s.unit IsReference args) h
    typed_sort (Paren' _ (only a)) q h = typed_sort a q h
    typed_sort (Pos' _ (only a)) q h = ap Some (sym h.0)
    typed_sort (Neg' _ (only a)) q h = ap Some (sym h.0)
    typed_sort (Power' _ (only a) n) q h = ap Some (sym h.0)
    typed_sort (Bin' o _ (only a) _ (only b)) q h = ap Some (sym h.0)
    typed_sort (Rel' o _ (only a) _ (only b)) q h = ap Some (sym h.0)
    typed_sort (Not' _ (only a)) q h = ap Some (sym h.0)
    typed_sort (And' _ (only a) _ (only b)) q h = ap Some (sym h.0)
    typed_sort (Or' _ (only a) _ (only b)) q h = ap Some (sym h.0)

    -- what is taken holds things of the type
    taken_holds : (e : Expr) → IsNoName e → (q : Sort) (o : Operand Value) (t : Taken) → IsOperandOf now e o → OperandOf s st now q o t → HoldsSort s.processor st q t
    taken_holds e unlike q (Bare x v) (Cells f) form h = absurd (unlike x form.0)
    taken_holds e unlike q (Bare x v) (Fresh c) form h = absurd h
    taken_holds e unlike q (Part v) (Cells f) form h = λ k lt.
        let one = h.2 in let z : f.first ≡ f.first + k = omega arith in
        ap (λ (j : ℕ). has_sort s.processor q (load st j)) (sym z) ∙ maybe_holds s.processor q (load st f.first) h.1
    taken_holds e unlike q (Part v) (Fresh c) form h = absurd h
    taken_holds e unlike q (Computed v) (Cells f) form h = absurd h
    taken_holds e unlike q (Computed v) (Fresh c) form h = sort_holds s.processor q c h.1

    by_sort : (e : Expr) (card k : ℕ) → IsNoName e → IsTyped s.unit IsReference Integer e ⊎ IsTyped s.unit IsReference Logical e
        → (IsTyped s.unit IsReference Integer e → Matches (Same st (IsOperand e Integer)) (walk.operand w card now e) (run.taken s caller card k e) st)
        → (IsTyped s.unit IsReference Logical e → Matches (Same st (IsOperand e Logical)) (walk.operand w card now e) (run.taken s caller card k e) st)
        → Matches (Same st (IsPassed s st now e)) (walk.operand w card now e) (run.taken s caller card k e) st
    by_sort e card k unlike typed hi hl = pick typed
      where
        passed_as : (q : Sort) → IsTyped s.unit IsReference q e → (o : Operand Value) (t : Taken) → IsOperand e q o t → IsPassed s st now e o t
        passed_as q h o t g = record {
          taken = g.taken;
          operand = g.form;
          value = actual_of q o t g.holds;
          sort = q;
          sort_is = typed_sort e q h;
          holds = taken_holds e unlike q o t g.form g.holds;
        }

        pick : IsTyped s.unit IsReference Integer e ⊎ IsTyped s.unit IsReference Logical e → Matches (Same st (IsPassed s st now e)) (walk.operand w card now e) (run.taken s caller card k e) st
        pick (inl h) = matches_as (Same st (IsOperand e Integer)) (Same st (IsPassed s st now e)) _ _ st (λ o t after g. (g.0, passed_as Integer h o t g.1)) (hi h)
        pick (inr h) = matches_as (Same st (IsOperand e Logical)) (Same st (IsPassed s st now e)) _ _ st (λ o t after g. (g.0, passed_as Logical h o t g.1)) (hl h)

    actual_matches : (e : Expr) (card k : ℕ) → IsActual s.unit e (IsTyped s.unit IsReference Integer e ⊎ IsTyped s.unit IsReference Logical e)
        → (IsTyped s.unit IsReference Integer e → Matches (Same st (IsOperand e Integer)) (walk.operand w card now e) (run.taken s caller card k e) st)
        → (IsTyped s.unit IsReference Logical e → Matches (Same st (IsOperand e Logical)) (walk.operand w card now e) (run.taken s caller card k e) st)
        → Matches (Same st (IsPassed s st now e)) (walk.operand w card now e) (run.taken s caller card k e) st
    actual_matches (Var x) card k h hi hl =
        matches_see (Same st (IsPassed s st now (Var x))) (Bare x (now x)) (Cells (s.environment x)) st (
          refl,
          record {
            taken = refl;
            operand = (refl, refl);
            value = (refl, refl);
            sort = h.data_of.sort;
            sort_is = ap data_sort h.is;
            holds = λ n lt. maybe_holds s.processor h.data_of.sort _ (standing.sorts x h.data_of h.is n lt);
          },
        )
    actual_matches (Const n) card k h hi hl = by_sort (Const n) card k (λ z e. cc) h hi hl
    actual_matches (TruthConstant b) card k h hi hl = by_sort (TruthConstant b) card k (λ z e. cc) h hi hl
    actual_matches (Apply' a x args) card k h hi hl = by_sort (Apply' a x args) card k (λ z e. cc) h hi hl
    actual_matches (Paren' x a) card k h hi hl = by_sort (Paren' x a) card k (λ z e. cc) h hi hl
    actual_matches (Pos' x a) card k h hi hl = by_sort (Pos' x a) card k (λ z e. cc) h hi hl
    actual_matches (Neg' x a) card k h hi hl = by_sort (Neg' x a) card k (λ z e. cc) h hi hl
    actual_matches (Power' x a n) card k h hi hl = by_sort (Power' x a n) card k (λ z e. cc) h hi hl
    actual_matches (Bin' o x a y b) card k h hi hl = by_sort (Bin' o x a y b) card k (λ z e. cc) h hi hl
    actual_matches (Rel' o x a y b) card k h hi hl = by_sort (Rel' o x a y b) card k (λ z e. cc) h hi hl
    actual_matches (Not' x a) card k h hi hl = by_sort (Not' x a) card k (λ z e. cc) h hi hl
    actual_matches (And' x a y b) card k h hi hl = by_sort (And' x a y b) card k (λ z e. cc) h hi hl
    actual_matches (Or' x a y b) card k h hi hl = by_sort (Or' x a y b) card k (λ z e. cc) h hi hl

    mutual
      pub operands_match : (e : Expr) (q : Sort) (card k : ℕ) → IsTyped s.unit IsReference q e → Matches (Same st (IsOperand e q)) (walk.operand w card now e) (run.taken s caller card k e) st
      operands_match (Const n) q card k h = as_integer (Const n) q _ _ h (constant_operand card n)
      operands_match (TruthConstant b) q card k h = as_logical (TruthConstant b) q _ _ h (matches_logical (TruthConstant b) (λ c. tt) (λ n z. cc) (Truth b) b refl)
      operands_match (Var x) q card k h =
          matches_see (Same st (IsOperand (Var x) q)) (Bare x (now x)) (Cells (s.environment x)) st (
            refl,
            record {
              taken = refl;
              form = (refl, refl);
              holds = (refl, refl, scalar_stands s.processor s.unit s.environment st now standing q x h, scalar_sort s.processor s.unit s.environment st now standing q x h);
            },
          )
      operands_match (Apply' a x args) q card k h =
          matches_applied (Apply' a x args) (λ n z. cc) (λ c. tt) a (λ c g. g) card k q (applied s.unit a) (row_length args) (listed args) (AreInteger s.unit IsReference args) (AreActual s.unit IsReference args) _ _ _ _ h
          (λ t. integers_match args card k t) (λ t. actuals_match args card (suc k) t)
      operands_match (Paren' x (only a)) q card k h = matches_computed (Paren' x (only a)) q _ _ (λ c. tt) (λ n z. cc) (matches_valued a card q _ _ (operands_match a q card k h))
      operands_match (Pos' x (only a)) q card k h =
          as_integer (Pos' x (only a)) q _ _ h.0
          (matches_computed (Pos' x (only a)) Integer _ _ (λ c. tt) (λ n z. cc) (matches_valued a card Integer _ _ (operands_match a Integer card k h.1)))
      operands_match (Neg' x (only a)) q card k h =
          as_integer (Neg' x (only a)) q _ _ h.0
          (stays_then (Of s.processor Integer) (Same st (IsOperand (Neg' x (only a)) Integer)) _ _ _ _ st (matches_valued a card Integer _ _ (operands_match a Integer card k h.1))
          (λ v c g. matches_computed (Neg' x (only a)) Integer _ _ (λ c. tt) (λ n z. cc) (matches_ranged fs values program i s.unit s least greatest st card (sense.make1 (of_values fs values) f.Negative v) (neg_ℤ (num c)) (λ j. Int (neg_ℤ (value.num (g.0 j)))))))
      operands_match (Power' x (only a) n) q card k h =
          as_integer (Power' x (only a) n) q _ _ h.0
          (stays_then (Of s.processor Integer) (Same st (IsOperand (Power' x (only a) n) Integer)) _ _ _ _ st (matches_valued a card Integer _ _ (operands_match a Integer card k h.1))
          (λ v c g. matches_computed (Power' x (only a) n) Integer _ _ (λ c. tt) (λ n z. cc) (matches_power_from fs values program i s.unit s least greatest st card (pred n) v (num c) v (num c) (integer_is s.processor v c g) (integer_is s.processor v c g) (integer_between s.processor v c g))))
      operands_match (Bin' o x (only a) y (only b)) q card k h =
          as_integer (Bin' o x (only a) y (only b)) q _ _ h.0
          (stays_then (Of s.processor Integer) (Same st (IsOperand (Bin' o x (only a) y (only b)) Integer)) _ _ _ _ st (matches_valued a card Integer _ _ (operands_match a Integer card k h.1.0))
          (λ v c g. stays_then (Of s.processor Integer) (Same st (IsOperand (Bin' o x (only a) y (only b)) Integer)) _ _ _ _ st (matches_valued b card Integer _ _ (operands_match b Integer card (k + calls_in s.unit a) h.1.1))
          (λ v2 c2 g2. matches_computed (Bin' o x (only a) y (only b)) Integer _ _ (λ c. tt) (λ n z. cc) (matches_operate fs values program i s.unit s least greatest st card o v c v2 c2 g.0 g2.0))))
      operands_match (Rel' o x (only a) y (only b)) q card k h =
          as_logical (Rel' o x (only a) y (only b)) q _ _ h.0
          (stays_then (Of s.processor Integer) (Same st (IsOperand (Rel' o x (only a) y (only b)) Logical)) _ _ _ _ st (matches_valued a card Integer _ _ (operands_match a Integer card k h.1.0))
          (λ v c g. stays_then (Of s.processor Integer) (Same st (IsOperand (Rel' o x (only a) y (only b)) Logical)) _ _ _ _ st (matches_valued b card Integer _ _ (operands_match b Integer card (k + calls_in s.unit a) h.1.1))
          (λ v2 c2 g2. matches_logical (Rel' o x (only a) y (only b)) (λ c. tt) (λ n z. cc) (walk.relation w o v v2) (compares o c c2) (relation_is fs values program i s.unit s least greatest st o v c v2 c2 g.0 g2.0))))
      operands_match (Not' x (only a)) q card k h =
          as_logical (Not' x (only a)) q _ _ h.0
          (stays_then (Of s.processor Logical) (Same st (IsOperand (Not' x (only a)) Logical)) _ _ _ _ st (matches_valued a card Logical _ _ (operands_match a Logical card k h.1))
          (λ v c g. matches_logical (Not' x (only a)) (λ c. tt) (λ n z. cc) (sense.negated (of_values fs values) v) (not (run_holds c)) (λ j. Truth (not (holds (g.0 j))))))
      operands_match (And' x (only a) y (only b)) q card k h =
          as_logical (And' x (only a) y (only b)) q _ _ h.0
          (stays_then (Of s.processor Logical) (Same st (IsOperand (And' x (only a) y (only b)) Logical)) _ _ _ _ st (matches_valued a card Logical _ _ (operands_match a Logical card k h.1.0))
          (λ v c g. strictly (Same st (IsOperand (And' x (only a) y (only b)) Logical)) (not (run_holds c)) _ (give (Fresh (cell.Logical false))) _
          (stays_then (Of s.processor Logical) (Same st (IsOperand (And' x (only a) y (only b)) Logical)) _ _ _ _ st (matches_valued b card Logical _ _ (operands_match b Logical card (k + calls_in s.unit a) h.1.1))
          (λ v2 c2 g2. matches_logical (And' x (only a) y (only b)) (λ c. tt) (λ n z. cc) (sense.make2 (of_values fs values) f.And v v2) (run_holds c && run_holds c2) (and_is v c v2 c2 g g2)))))
      operands_match (Or' x (only a) y (only b)) q card k h =
          as_logical (Or' x (only a) y (only b)) q _ _ h.0
          (stays_then (Of s.processor Logical) (Same st (IsOperand (Or' x (only a) y (only b)) Logical)) _ _ _ _ st (matches_valued a card Logical _ _ (operands_match a Logical card k h.1.0))
          (λ v c g. strictly (Same st (IsOperand (Or' x (only a) y (only b)) Logical)) (run_holds c) _ (give (Fresh (cell.Logical true))) _
          (stays_then (Of s.processor Logical) (Same st (IsOperand (Or' x (only a) y (only b)) Logical)) _ _ _ _ st (matches_valued b card Logical _ _ (operands_match b Logical card (k + calls_in s.unit a) h.1.1))
          (λ v2 c2 g2. matches_logical (Or' x (only a) y (only b)) (λ c. tt) (λ n z. cc) (sense.make2 (of_values fs values) f.Or v v2) (run_holds c || run_holds c2) (or_is v c v2 c2 g g2)))))

      pub integers_match : {m : Count} (es : Row_of-Expr m) (card k : ℕ) → AreInteger s.unit IsReference es → Matches (Same st (Integers (row_length es))) (walk.values w card now es) (run.values s caller card k es) st
      integers_match end_of-Expr card k h = matches_see (Same st (Integers 0)) [] [] st (refl, (tt, refl))
      integers_match (more_of-Expr e es) card k h =
          stays_then (Of s.processor Integer) (Same st (Integers (suc (row_length es)))) _ _ _ _ st (matches_valued e card Integer _ _ (operands_match e Integer card k h.0))
          (λ v c g. stays_then (Integers (row_length es)) (Same st (Integers (suc (row_length es)))) _ _ _ _ st (integers_match es card (k + calls_in s.unit e) h.1)
          (λ vs cs m. matches_see (Same st (Integers (suc (row_length es)))) (v ∷ vs) (c ∷ cs) st (refl, ((g, m.0), ap suc m.1))))

      pub actuals_match : {m : Count} (es : Row_of-Expr m) (card k : ℕ) → AreActual s.unit IsReference es → Matches (Same st (ArePassed s st now (listed es))) (walk.operands w card now es) (run.actuals s caller card k es) st
      actuals_match end_of-Expr card k h = matches_see (Same st (ArePassed s st now [])) [] [] st (refl, tt)
      actuals_match (more_of-Expr e es) card k h =
          stays_then (IsPassed s st now e) (Same st (ArePassed s st now (e ∷ listed es))) _ _ _ _ st (actual_matches e card k h.0 (λ t. operands_match e Integer card k t) (λ t. operands_match e Logical card k t))
          (λ x t g. stays_then (ArePassed s st now (listed es)) (Same st (ArePassed s st now (e ∷ listed es))) _ _ _ _ st (actuals_match es card (k + calls_in s.unit e) h.1)
          (λ xs ts m. matches_see (Same st (ArePassed s st now (e ∷ listed es))) (x ∷ xs) (t ∷ ts) st (refl, (g, m))))

pub expressions_match : ExpressionsMatch
expressions_match fs values program i s caller st now least greatest strict bounded standing calls e q card k typed =
    matches_valued fs values program i s caller least greatest strict bounded st now standing e card q _ _
    (operands_match fs values program i s caller least greatest strict bounded st now standing (IsReferenceTo program i s.unit) (λ r a es h. h.told) calls e q card k typed)
