-- Valid conditions: a goal is true wherever all its hypotheses are.
use Rattle.std.proofs.Common.{◌≡◌, ℕ, Bool, true, false, cond, not, ◌&&◌, ℤ, pos, neg_ℤ, ◌-ℤ◌, List, [], ◌∷◌, Some, slice_get, refl, ap, ◌∙◌, arith}
use Rattle.std.proofs.lemmas.Int.{ints}
use Rattle.std.specs.Prelude.{int_le, int_lt}
use Rattle.std.specs.Ordering.{int_eq}
use Rattle.std.specs.List.{list_all}
use Rattle.fort_syntax.specs.Conditions.{ConditionTree}
use Rattle.formula.specs.declared.value.Cell.{Cell}
use Rattle.formula.specs.declared.value.Cell.TheVariants as cell
use Rattle.formula.specs.declared.value.Value.{Value}
use Rattle.formula.specs.declared.value.Value.TheVariants.{Int, Logical, Undefined, Cells}
use Rattle.formula.specs.Tree.{Tree}
use Rattle.formula.specs.Values.{is_defined, is_between, is_cell, is_integer_cell, same_cell, same_cells, same_value}
use Rattle.formula.specs.Worth.{Valuation, nothing_known, assigned, is_true_under, IsValid}
use Rattle.fort_model.specs.Conditions.{AreValid}
use Rattle.fort_laws.proofs.Near.{known}
use Rattle.fort_laws.proofs.Small.{both_parts, both_hold}
use Rattle.fort_laws.proofs.WitnessLists.{all_pass}

-- a term is true, by the values of words
abbrev pub IsTrueBy : Valuation → Tree → Type 0
IsTrueBy words t = is_true_under [] words nothing_known t ≡ true

-- each hypothesis is true
abbrev pub Given : Valuation → List Tree → Type 0
Given words hyps = (k : ℕ) (t : Tree) → slice_get hyps k ≡ Some t → IsTrueBy words t

-- a goal is true, whatever values words have, where all hypotheses are
pub record Follows (hyps : List Tree) (goal : Tree) : Type 0 where
  pub by_words : (words : Valuation) → Given words hyps → IsTrueBy words goal

-- a goal that stands among the hypotheses
pub stands : {hyps : List Tree} {goal : Tree} (k : ℕ) → slice_get hyps k ≡ Some goal → Follows hyps goal
stands {goal = goal} k e = record { by_words = λ words given. given k goal e }

valid : (hyps : List Tree) (goal : Tree) → Follows hyps goal → IsValid [] hyps goal
valid hyps goal f assignment =
    let words = assigned assignment in
    let goal_true = is_true_under [] words nothing_known goal in
    known (list_all (is_true_under [] words nothing_known) hyps)
    (λ t. good (list_all (is_true_under [] words nothing_known) hyps) goal_true (f.by_words words (all_pass (is_true_under [] words nothing_known) hyps t)))
    (λ g. ap (λ (b : Bool). not (b && not goal_true)) g)
  where
    good : (a b : Bool) → b ≡ true → not (a && not b) ≡ true
    good true b e = ap (λ (z : Bool). not (not z)) e
    good false b e = refl

abbrev pub AllFollow : List ConditionTree → Type 0
AllFollow [] = Unit {0}
AllFollow (c ∷ cs) = Follows c.hyps c.goal × AllFollow cs

pub all_valid : (cs : List ConditionTree) → AllFollow cs → AreValid [] cs
all_valid [] h = tt
all_valid (c ∷ cs) h = (valid c.hyps c.goal h.0, all_valid cs h.1)

-- ---- equal values

same_truth : (a b : Bool) → cond a b (not b) ≡ true → a ≡ b
same_truth true true h = refl
same_truth true false h = absurd (cc)
same_truth false true h = absurd (cc)
same_truth false false h = refl

truth_of_itself : (a : Bool) → cond a a (not a) ≡ true
truth_of_itself true = refl
truth_of_itself false = refl

number_of_itself : (a : ℤ) → int_eq a a ≡ true
number_of_itself a = grind (arith, ints)

same_number : (a b : ℤ) → int_eq a b ≡ true → a ≡ b
same_number a b h = grind (arith, ints)

are_same_cell : (a b : Cell) → same_cell a b ≡ true → a ≡ b
are_same_cell (cell.Int a) (cell.Int b) h = ap cell.Int (same_number a b h)
are_same_cell (cell.Logical a) (cell.Logical b) h = ap cell.Logical (same_truth a b h)
are_same_cell cell.Undefined cell.Undefined h = refl
are_same_cell _ _ h = absurd (cc)

cell_of_itself : (a : Cell) → same_cell a a ≡ true
cell_of_itself (cell.Int a) = number_of_itself a
cell_of_itself (cell.Logical a) = truth_of_itself a
cell_of_itself cell.Undefined = refl

are_same_cells : (xs ys : List Cell) → same_cells xs ys ≡ true → xs ≡ ys
are_same_cells [] [] h = refl
are_same_cells [] (b ∷ ys) h = absurd (cc)
are_same_cells (a ∷ xs) [] h = absurd (cc)
are_same_cells (a ∷ xs) (b ∷ ys) h =
    let p = both_parts (same_cell a b) (same_cells xs ys) h in
    ap (λ (c : Cell). c ∷ xs) (are_same_cell a b p.0) ∙ ap (λ (cs : List Cell). b ∷ cs) (are_same_cells xs ys p.1)

cells_of_themselves : (xs : List Cell) → same_cells xs xs ≡ true
cells_of_themselves [] = refl
cells_of_themselves (a ∷ xs) = both_hold (same_cell a a) (same_cells xs xs) (cell_of_itself a) (cells_of_themselves xs)

pub are_same : (v w : Value) → same_value v w ≡ true → v ≡ w
are_same (Int a) (Int b) h = ap Int (same_number a b h)
are_same (Logical a) (Logical b) h = ap Logical (same_truth a b h)
are_same Undefined Undefined h = refl
are_same (Cells xs) (Cells ys) h = ap Cells (are_same_cells xs ys h)
are_same _ _ h = absurd (cc)

pub same_as_itself : (v : Value) → same_value v v ≡ true
same_as_itself (Int a) = number_of_itself a
same_as_itself (Logical a) = truth_of_itself a
same_as_itself Undefined = refl
same_as_itself (Cells xs) = cells_of_themselves xs

-- ---- integers

-- a defined value of an integer cell is an integer of the processor
pub record IsInteger (least greatest : ℤ) (v : Value) : Type 0 where
  pub number : ℤ
  pub is : v ≡ Int number
  pub between : is_between least greatest number ≡ true

pub integer : (least greatest : ℤ) (v : Value) → is_cell (is_integer_cell least greatest) v ≡ true → is_defined v ≡ true → IsInteger least greatest v
integer least greatest (Int z) h d = record { number = z; is = refl; between = h }
integer least greatest (Logical b) h d = absurd (cc)
integer least greatest Undefined h d = absurd (cc)
integer least greatest (Cells cs) h d = absurd (cc)

-- a number that is at most 0 and at least 0
pub zero_is : (z : ℤ) → int_le (pos 0) z ≡ true → int_le z (pos 0) ≡ true → int_eq z (pos 0) ≡ true
zero_is z h k = grind (arith, ints)

-- one less than a positive number
pub still_natural : (z : ℤ) → not (int_le z (pos 0)) ≡ true → int_le (pos 0) (z -ℤ pos 1) ≡ true
still_natural z h = grind (arith, ints)

pub still_below : (z greatest : ℤ) → int_le z greatest ≡ true → int_le (z -ℤ pos 1) greatest ≡ true
still_below z greatest h = grind (arith, ints)

pub above_least : (least z : ℤ) (bound : ℕ) → int_le least (neg_ℤ (pos bound)) ≡ true → int_le (pos 0) z ≡ true → int_le least z ≡ true
above_least least z bound h k = grind (arith, ints)

pub less_by_one : (z : ℤ) → int_lt (z -ℤ pos 1) z ≡ true
less_by_one z = grind (arith, ints)
