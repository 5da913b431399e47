-- Expressions: what a walk by values makes of them, and what a strict run makes of them where these values stand for cells.
use Rattle.std.proofs.Common.{◌≡◌, ℕ, zero, suc, Bool, true, false, cond, not, ◌&&◌, ℤ, pos, ◌+ℤ◌, ◌-ℤ◌, ◌*ℤ◌, List, [], ◌∷◌, refl, sym, ap, ◌∙◌, subst}
use Rattle.std.specs.Prelude.{int_le, int_lt, nat_lt}
use Rattle.formula.specs.declared.function.BuiltIn.TheVariants as f
use Rattle.formula.specs.declared.value.Cell.{Cell}
use Rattle.formula.specs.declared.value.Cell.TheVariants as cell
use Rattle.formula.specs.declared.value.Value.{Value}
use Rattle.formula.specs.declared.value.Value.TheVariants.{Int, Logical as Truth}
use Rattle.formula.specs.Values as value
use Rattle.formula.specs.Values.{holds, of_cell, is_between, applied, cell_at, value_or_undefined}
use Rattle.formula.specs.Worth.{Function}
use Rattle.fort_syntax.specs.declared.condition.Kind.TheVariants.{RangeCheck, DivisorCheck}
use Rattle.fort_syntax.specs.declared.dialect.BinOp.{BinOp}
use Rattle.fort_syntax.specs.declared.dialect.BinOp.TheVariants.{Add, Sub, Mul, Div}
use Rattle.fort_syntax.specs.declared.dialect.RelOp.{RelOp}
use Rattle.fort_syntax.specs.declared.dialect.RelOp.TheVariants.{Lt, Le, Eq, Ne, Ge, Gt}
use Rattle.fort_syntax.specs.declared.dialect.Sort.TheVariants.{Integer, Logical}
use Rattle.fort_syntax.specs.declared.unit.Unit.{Unit as Routine}
use Rattle.fort_model.specs.Cells.{num, holds as run_holds, compares}
use Rattle.fort_model.specs.Conditions.{sight}
use Rattle.fort_model.specs.Evaluate as run
use Rattle.fort_model.specs.Evaluate.{Scene}
use Rattle.fort_model.specs.Events.{Check}
use Rattle.fort_model.specs.Outcome.{give, check}
use Rattle.fort_model.specs.Processor.{Processor}
use Rattle.fort_model.specs.Program.{Program}
use Rattle.fort_model.specs.Seen.{see, meet}
use Rattle.fort_model.specs.Senses as sense
use Rattle.fort_model.specs.Senses.{Sense, of_values}
use Rattle.fort_model.specs.Storage.{Storage}
use Rattle.fort_model.specs.Symbols.{Symbol, LeastInteger, GreatestInteger}
use Rattle.fort_model.specs.WalkCalls.{Sight}
use Rattle.fort_model.specs.WalkExpr as walk
use Rattle.fort_laws.specs.Matches.{Matches, Same}
use Rattle.fort_laws.specs.Standing.{IsOf, Of}
use Rattle.fort_laws.proofs.InRange.{below_greatest, natural_between}
use Rattle.fort_laws.proofs.Matching.{stays_then, matches_see, matches_check, matches_as}

and_one : (b : Bool) → (b && true) ≡ b
and_one true = refl
and_one false = refl

pub and_two : (b c : Bool) → (b && (c && true)) ≡ (b && c)
and_two true c = and_one c
and_two false c = refl

-- an integer is the number of its cell
pub integer_is : (p : Processor) (v : Value) (c : Cell) → Of p Integer v c → v ≡ Int (num c)
integer_is p v (cell.Int z) h = h.0
integer_is p v (cell.Logical b) h = absurd h.1
integer_is p v cell.Undefined h = absurd h.1

pub logical_is : (p : Processor) (v : Value) (c : Cell) → Of p Logical v c → v ≡ Truth (run_holds c)
logical_is p v (cell.Int z) h = absurd h.1
logical_is p v (cell.Logical b) h = h.0
logical_is p v cell.Undefined h = absurd h.1

-- its number is one of the processor's
pub integer_between : (p : Processor) (v : Value) (c : Cell) → Of p Integer v c → is_between p.least p.greatest (num c) ≡ true
integer_between p v (cell.Int z) h = h.1
integer_between p v (cell.Logical b) h = absurd h.1
integer_between p v cell.Undefined h = absurd h.1

module _ (fs : List Function) (values : Symbol → Value) (program : Program) (i : ℕ) (u : Routine) (s : Scene)
    (least : values LeastInteger ≡ Int s.processor.least) (greatest : values GreatestInteger ≡ Int s.processor.greatest) (st : Storage) where
  abbrev w : Sight Value
  w = sight (of_values fs values) program i u

  -- the walk's test of a range is the run's
  in_range_is : (v : Value) → holds (sense.in_range (of_values fs values) v) ≡ is_between s.processor.least s.processor.greatest (value.num v)
  in_range_is v =
      (λ k. (int_le (value.num (least k)) (value.num v) && (int_le (value.num v) (value.num (greatest k)) && true)))
      ∙ and_two (int_le s.processor.least (value.num v)) (int_le (value.num v) s.processor.greatest)

  pub matches_ranged : (card : ℕ) (v : Value) (z : ℤ) → v ≡ Int z → Matches (Same st (Of s.processor Integer)) (walk.ranged w card v) (run.ranged s.processor card z) st
  matches_ranged card v z e =
      stays_then (λ x y. is_between s.processor.least s.processor.greatest z ≡ true) (Same st (Of s.processor Integer)) _ _ _ _ st
      (matches_check RangeCheck card _ _ st (in_range_is v ∙ ap (λ x. is_between s.processor.least s.processor.greatest (value.num x)) e))
      (λ x y h. matches_see (Same st (Of s.processor Integer)) v (cell.Int z) st (refl, (e, h)))

  pub matches_constant : (card n : ℕ) → nat_lt program.bound n ≡ false → is_between s.processor.least s.processor.greatest (pos n) ≡ true → Matches (Same st (λ v c. Of s.processor Integer v c × (c ≡ cell.Int (pos n)))) (walk.constant w card n) (run.constant s.processor card n) st
  matches_constant card n small fits =
      stays_then (λ x y. Unit {0}) (Same st (λ v c. Of s.processor Integer v c × (c ≡ cell.Int (pos n)))) _ _ _ _ st
      (subst (λ (b : Bool). Matches (Same st (λ x y. Unit {0})) (meet (cond b (Check RangeCheck card (sense.make2 (of_values fs values) f.AtMost (sense.natural (of_values fs values) n) (sense.greatest_integer (of_values fs values))) ∷ []) []))
      (check RangeCheck card (int_le (pos n) s.processor.greatest)) st) (sym small)
      (subst (λ (b : Bool). Matches (Same st (λ x y. Unit {0})) (meet []) (check RangeCheck card b) st) (sym (below_greatest s.processor.least s.processor.greatest (pos n) fits)) (matches_see (Same st (λ x y. Unit {0})) tt tt st (refl, tt))))
      (λ x y h. matches_see (Same st (λ v c. Of s.processor Integer v c × (c ≡ cell.Int (pos n)))) (Int (pos n)) (cell.Int (pos n)) st (refl, ((refl, fits), refl)))

  -- with a check where the constant is beyond the bound
  pub matches_large : is_between s.processor.least s.processor.greatest (pos 0) ≡ true → (card n : ℕ) → nat_lt program.bound n ≡ true → Matches (Same st (λ v c. Of s.processor Integer v c × (c ≡ cell.Int (pos n)))) (walk.constant w card n) (run.constant s.processor card n) st
  matches_large has_zero card n large =
      stays_then (λ x y. int_le (pos n) s.processor.greatest ≡ true) (Same st (λ v c. Of s.processor Integer v c × (c ≡ cell.Int (pos n)))) _ _ _ _ st
      (subst (λ (b : Bool). Matches (Same st (λ x y. int_le (pos n) s.processor.greatest ≡ true)) (meet (cond b (Check RangeCheck card (sense.make2 (of_values fs values) f.AtMost (sense.natural (of_values fs values) n) (sense.greatest_integer (of_values fs values))) ∷ []) []))
      (check RangeCheck card (int_le (pos n) s.processor.greatest)) st) (sym large)
      (matches_check RangeCheck card _ _ st (ap (λ x. int_le (pos n) (value.num x)) greatest)))
      (λ x y h. matches_see (Same st (λ v c. Of s.processor Integer v c × (c ≡ cell.Int (pos n)))) (Int (pos n)) (cell.Int (pos n)) st (refl, ((refl, natural_between s.processor.least s.processor.greatest n has_zero h), refl)))

  pub matches_divisor : (card : ℕ) (v : Value) (c : Cell) → IsOf v c → Matches (Same st (λ x y. Unit {0})) (walk.divisor w card v) (run.divisor card c) st
  matches_divisor card v c e =
      matches_as (Same st (λ x y. not (value.same_value (of_cell c) (Int (pos 0))) ≡ true)) (Same st (λ x y. Unit {0})) _ _ st (λ x y after h. (h.0, tt))
      (matches_check DivisorCheck card _ _ st (ap (λ x. not (value.same_value x (Int (pos 0)))) e))

  pub matches_operate : (card : ℕ) (o : BinOp) (v : Value) (a : Cell) (x : Value) (b : Cell) → IsOf v a → IsOf x b
      → Matches (Same st (Of s.processor Integer)) (walk.operate w card o v x) (run.operate s.processor card o a b) st
  matches_operate card Add v a x b e g = matches_ranged card _ _ (λ k. Int (value.num (e k) +ℤ value.num (g k)))
  matches_operate card Sub v a x b e g = matches_ranged card _ _ (λ k. Int (value.num (e k) -ℤ value.num (g k)))
  matches_operate card Mul v a x b e g = matches_ranged card _ _ (λ k. Int (value.num (e k) *ℤ value.num (g k)))
  matches_operate card Div v a x b e g =
      stays_then (λ y z. Unit {0}) (Same st (Of s.processor Integer)) _ _ _ _ st (matches_divisor card x b g)
      (λ y z h. matches_ranged card _ _ (λ k. Int (value.quotient (value.num (e k)) (value.num (g k)))))

  -- a product with a base, so often
  pub matches_power_from : (card more : ℕ) (v : Value) (z : ℤ) (x : Value) (y : ℤ) → v ≡ Int z → x ≡ Int y → is_between s.processor.least s.processor.greatest y ≡ true
      → Matches (Same st (Of s.processor Integer)) (walk.power_from w card v more x) (run.power_on s.processor card z more y) st
  matches_power_from card zero v z x y e g b = matches_see (Same st (Of s.processor Integer)) x (cell.Int y) st (refl, (g, b))
  matches_power_from card (suc more) v z x y e g b =
      stays_then (Of s.processor Integer) (Same st (Of s.processor Integer)) _ _ _ _ st (matches_ranged card _ _ (λ k. Int (value.num (g k) *ℤ value.num (e k))))
      (λ p q h. matches_power_from card more v z p (num q) e (integer_is s.processor p q h) (integer_between s.processor p q h))

  pub relation_is : (o : RelOp) (v : Value) (a : Cell) (x : Value) (b : Cell) → IsOf v a → IsOf x b → walk.relation w o v x ≡ Truth (compares o a b)
  relation_is Lt v a x b e g = λ k. Truth (int_lt (value.num (e k)) (value.num (g k)))
  relation_is Le v a x b e g = λ k. Truth (int_le (value.num (e k)) (value.num (g k)))
  relation_is Eq v a x b e g = λ k. Truth (value.same_value (e k) (g k))
  relation_is Ne v a x b e g = λ k. Truth (not (value.same_value (e k) (g k)))
  relation_is Ge v a x b e g = λ k. Truth (int_le (value.num (g k)) (value.num (e k)))
  relation_is Gt v a x b e g = λ k. Truth (int_lt (value.num (g k)) (value.num (e k)))

  -- a truth value that is computed
  pub matches_truth : (v : Value) (b : Bool) → v ≡ Truth b → Matches (Same st (Of s.processor Logical)) (see v) (give (cell.Logical b)) st
  matches_truth v b e = matches_see (Same st (Of s.processor Logical)) v (cell.Logical b) st (refl, (e, tt))
