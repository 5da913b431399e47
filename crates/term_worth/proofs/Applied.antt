-- What functions make of values, as an answer.
use Rattle.std.proofs.Common.{◌≡◌, ℤ, Bool, true, false, if◌then◌else◌, List, [], ◌∷◌, length, ◌≤◌, arith, refl, sym, ap, ◌∙◌, subst, Some, None}
use Rattle.std.specs.Prelude.{◌≢◌, ◌+ℤ◌, ◌-ℤ◌, ◌*ℤ◌, ◌&&◌, ◌||◌}
use Rattle.std.specs.List.{list_all, list_any}
use Rattle.formula.specs.declared.function.BuiltIn.{BuiltIn as Builtin}
use Rattle.formula.specs.declared.function.BuiltIn.TheVariants as f
use Rattle.term_worth.specs.declared.held_values.Answer.{Answer}
use Rattle.term_worth.specs.declared.held_values.Answer.TheVariants as answer
use Rattle.term_worth.specs.declared.machine.Held.{Held}
use Rattle.term_worth.specs.declared.machine.Held.TheVariants as held
use Rattle.formula.specs.declared.value.Cell.{Cell}
use Rattle.formula.specs.declared.value.Value.{Value}
use Rattle.formula.specs.declared.value.Value.TheVariants.{Int, Logical, Undefined, Cells}
use Rattle.formula.specs.declared.word.Word.{Word}
use Rattle.formula.specs.Bounded.{is_in_range}
use Rattle.term_worth.specs.Machine.{value_of, values_of, cells_of, held_num, held_holds, held_is_list, Answers, number_answer, numbers_answer}
use Rattle.term_worth.specs.Ranges.{in_range}
use Rattle.formula.specs.Values.{holds, num, applied, are_cells, is_integer_cell, quotient, remainder, greater, smaller}
use Rattle.term_worth.proofs.Bodies.{num_held}

module _ (sheet : List (Word × Value)) (made : List (List Cell)) where
  pub number_answers : (z : ℤ) → Answers sheet made (Int z) (number_answer (in_range z))
  number_answers z = by_test (is_in_range (Int z)) refl
    where
      by_test : (t : Bool) → is_in_range (Int z) ≡ t → Answers sheet made (Int z) (number_answer (if t then Some z else None))
      by_test true e = (refl, (e, tt))
      by_test false e = e

  undefined_answers : Answers sheet made Undefined (answer.Held held.Undefined)
  undefined_answers = (refl, (refl, tt))

  module _ (v w : Value) (x y : ℤ) (first : num v ≡ x) (second : num w ≡ y) where
    -- an operation on two numbers
    operated : (op : ℤ → ℤ → ℤ) → Answers sheet made (Int (op (num v) (num w))) (number_answer (in_range (op x y)))
    operated op = subst (λ z. Answers sheet made (Int (op (num v) (num w))) (number_answer (in_range z))) (λ i. op (first i) (second i)) (number_answers (op (num v) (num w)))

    pub numbers_answers : (g : Builtin) → g ≢ f.And → g ≢ f.Or → g ≢ f.Implies → g ≢ f.Equal → g ≢ f.Less → g ≢ f.AtMost → g ≢ f.Element → g ≢ f.LogicalCells
        → Answers sheet made (applied g (v ∷ w ∷ [])) (numbers_answer g x y)
    numbers_answers f.And h1 h2 h3 h4 h5 h6 h7 h8 = absurd (h1 refl)
    numbers_answers f.Or h1 h2 h3 h4 h5 h6 h7 h8 = absurd (h2 refl)
    numbers_answers f.Implies h1 h2 h3 h4 h5 h6 h7 h8 = absurd (h3 refl)
    numbers_answers f.Equal h1 h2 h3 h4 h5 h6 h7 h8 = absurd (h4 refl)
    numbers_answers f.Less h1 h2 h3 h4 h5 h6 h7 h8 = absurd (h5 refl)
    numbers_answers f.AtMost h1 h2 h3 h4 h5 h6 h7 h8 = absurd (h6 refl)
    numbers_answers f.Element h1 h2 h3 h4 h5 h6 h7 h8 = absurd (h7 refl)
    numbers_answers f.LogicalCells h1 h2 h3 h4 h5 h6 h7 h8 = absurd (h8 refl)
    numbers_answers f.Plus h1 h2 h3 h4 h5 h6 h7 h8 = operated (λ a b. a +ℤ b)
    numbers_answers f.Difference h1 h2 h3 h4 h5 h6 h7 h8 = operated (λ a b. a -ℤ b)
    numbers_answers f.Times h1 h2 h3 h4 h5 h6 h7 h8 = operated (λ a b. a *ℤ b)
    numbers_answers f.Quotient h1 h2 h3 h4 h5 h6 h7 h8 = operated quotient
    numbers_answers f.Remainder h1 h2 h3 h4 h5 h6 h7 h8 = operated remainder
    numbers_answers f.Maximum h1 h2 h3 h4 h5 h6 h7 h8 = operated greater
    numbers_answers f.Minimum h1 h2 h3 h4 h5 h6 h7 h8 = operated smaller
    numbers_answers _ h1 h2 h3 h4 h5 h6 h7 h8 = undefined_answers

  -- a list of integer cells
  pub cells_answer : (g : Builtin) (a b c d : Held) (r : Answer) (t : Bool) → g ≡ f.IntegerCells → t ≡ are_cells (is_integer_cell (held_num c) (held_num d)) (held_num b) (value_of sheet made a)
      → r ≡ answer.Held (held.Logical t) → Answers sheet made (applied g (value_of sheet made a ∷ value_of sheet made b ∷ value_of sheet made c ∷ value_of sheet made d ∷ [])) r
  cells_answer g a b c d r t e is same =
      subst (Answers sheet made (applied g (value_of sheet made a ∷ value_of sheet made b ∷ value_of sheet made c ∷ value_of sheet made d ∷ []))) (sym same) (
        ap Logical is ∙ sym (λ i. Logical (are_cells (is_integer_cell (num_held sheet made c i) (num_held sheet made d i)) (num_held sheet made b i) (value_of sheet made a)))
            ∙ sym (ap (λ k. applied k (value_of sheet made a ∷ value_of sheet made b ∷ value_of sheet made c ∷ value_of sheet made d ∷ [])) e),
        (ap (λ k. is_in_range (applied k (value_of sheet made a ∷ value_of sheet made b ∷ value_of sheet made c ∷ value_of sheet made d ∷ []))) e, tt),
      )

  -- a list of cells
  pub list_is : (h : Held) → held_is_list h ≡ true → value_of sheet made h ≡ Cells (cells_of (value_of sheet made h))
  list_is (held.Int z) e = absurd (cc)
  list_is (held.Logical b) e = absurd (cc)
  list_is held.Undefined e = absurd (cc)
  list_is (held.Given i) e = refl
  list_is (held.Made i) e = refl

  -- truth values of any number of values
  pub held_true : (h : Held) → holds (value_of sheet made h) ≡ held_holds h
  held_true (held.Int z) = refl
  held_true (held.Logical b) = refl
  held_true held.Undefined = refl
  held_true (held.Given i) = refl
  held_true (held.Made i) = refl

  all_true : (hs : List Held) → list_all holds (values_of sheet made hs) ≡ list_all held_holds hs
  all_true [] = refl
  all_true (h ∷ hs) = λ i. held_true h i && all_true hs i

  any_true : (hs : List Held) → list_any holds (values_of sheet made hs) ≡ list_any held_holds hs
  any_true [] = refl
  any_true (h ∷ hs) = λ i. held_true h i || any_true hs i

  pub and_answers : (g : Builtin) (hs : List Held) (r : Answer) (t : Bool) → g ≡ f.And → t ≡ list_all held_holds hs → r ≡ answer.Held (held.Logical t) → Answers sheet made (applied g (values_of sheet made hs)) r
  and_answers g hs r t e is same = subst (Answers sheet made (applied g (values_of sheet made hs))) (sym same)
      (ap Logical (is ∙ sym (all_true hs)) ∙ sym (ap (λ k. applied k (values_of sheet made hs)) e), (ap (λ k. is_in_range (applied k (values_of sheet made hs))) e, tt))

  pub or_answers : (g : Builtin) (hs : List Held) (r : Answer) (t : Bool) → g ≡ f.Or → t ≡ list_any held_holds hs → r ≡ answer.Held (held.Logical t) → Answers sheet made (applied g (values_of sheet made hs)) r
  or_answers g hs r t e is same = subst (Answers sheet made (applied g (values_of sheet made hs))) (sym same)
      (ap Logical (is ∙ sym (any_true hs)) ∙ sym (ap (λ k. applied k (values_of sheet made hs)) e), (ap (λ k. is_in_range (applied k (values_of sheet made hs))) e, tt))

  -- more values than any other function takes
  pub many_answers : (g : Builtin) (hs : List Held) → g ≢ f.And → g ≢ f.Or → 5 ≤ length hs → Answers sheet made (applied g (values_of sheet made hs)) (answer.Held held.Undefined)
  many_answers g [] h1 h2 le = absurd (omega arith)
  many_answers g (a ∷ []) h1 h2 le = absurd (omega arith)
  many_answers g (a ∷ b ∷ []) h1 h2 le = absurd (omega arith)
  many_answers g (a ∷ b ∷ c ∷ []) h1 h2 le = absurd (omega arith)
  many_answers g (a ∷ b ∷ c ∷ d ∷ []) h1 h2 le = absurd (omega arith)
  many_answers f.And (a ∷ b ∷ c ∷ d ∷ e ∷ hs) h1 h2 le = absurd (h1 refl)
  many_answers f.Or (a ∷ b ∷ c ∷ d ∷ e ∷ hs) h1 h2 le = absurd (h2 refl)
  many_answers _ (a ∷ b ∷ c ∷ d ∷ e ∷ hs) h1 h2 le = undefined_answers
