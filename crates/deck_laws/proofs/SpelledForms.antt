-- The forms and numbers of statements that texts spell.
use Rattle.std.proofs.Common.{◌≡◌, ◌≤◌, ◌<◌, ◌⊎◌, inl, inr, ℕ, zero, suc, ◌+◌, ◌-◌, ◌*◌, ◌^◌, get_or, true, false, List, [], ◌∷◌, ◌++◌, length, flat_map, Option, Some, None, refl, sym, ap, ◌∙◌, subst, rules, arith}
use Rattle.std.specs.Prelude.{◌&&◌, nat_le, nat_lt}
use Rattle.std.specs.List.{list_all}
use Rattle.fort_syntax.specs.Cards.{is_given}
use mathlib.Core.Former.{Count}
use Rattle.formula.specs.Atoms.{without_zeros, is_digit}
use Rattle.formula.proofs.Digits as digits
use Rattle.fort_syntax.specs.TreePatterns.{only, carried, row_of}
use Rattle.fort_syntax.specs.Scopes.{is_given_dims, kept}
use Rattle.fort_syntax.specs.Spelled as spelling
use Rattle.fort_syntax.specs.Spelled.{expression, arguments, more_arguments}
use Rattle.fort_syntax.specs.Grammar as grammar
use Rattle.fort_syntax.specs.Grammar.{form}
use Rattle.fort_syntax.specs.Uses.{parts, parts_of_row, all_parts}
use Rattle.fort_syntax.specs.Units.{items_by, common_items_by}
use Rattle.fort_syntax.specs.NameRules.{typed_by, dimensioned_by, commons_by}
use Rattle.fort_syntax.specs.UseRules.{wants_plain_subscripts}
use Rattle.fort_syntax.specs.WellFormed.{is_block_statement, is_left_side, is_small, is_small_param, is_small_step, has_right_form, has_right_numbers}
use Rattle.fort_syntax.specs.declared.dialect.Dialect.{Dialect}
use Rattle.fort_syntax.specs.declared.dialect.Dialect.TheVariants.{Common as CommonForms, SeventySeven}
use Rattle.fort_syntax.specs.declared.expr.Expr.{Expr, Row_of-Expr, end_of-Expr, more_of-Expr}
use Rattle.fort_syntax.specs.declared.expr.Expr.TheVariants.{Const, Truth, Var, Apply', Paren', Pos', Neg', Power', Bin', Rel', Not', And', Or'}
use Rattle.fort_syntax.specs.declared.stmt.Item.{Item}
use Rattle.fort_syntax.specs.declared.stmt.Dim.{Dim}
use Rattle.fort_syntax.specs.declared.stmt.Param.{Param}
use Rattle.fort_syntax.specs.declared.stmt.Param.TheVariants as parameter
use Rattle.fort_syntax.specs.declared.stmt.Stmt.{Stmt}
use Rattle.fort_syntax.specs.declared.stmt.Stmt.TheVariants.{Declare, Dimension, Assign, Computed, ArithIf, LogicalIf', Do, Call, BlockIf, ElseIf, Else, EndIf}
use Rattle.deck_laws.proofs.Tests.{both_true}
use Rattle.deck_laws.proofs.Lists.{all_joined}
use Rattle.deck_laws.proofs.Members.{IsIn, in_map, in_kept, all_of}
use Rattle.deck_laws.proofs.SpelledNames.{listed_pass}

-- ---- constants

up_to : (figures : List ℕ) → list_all is_digit figures ≡ true → length figures ≤ 18 → (i : ℕ) → i ≤ length figures
    → (n : ℕ) × digits.Spells figures i n
up_to figures all short zero le = (0, record { so_far = refl; small = omega arith })
up_to figures all short (suc i) le =
    let p = up_to figures all short i (omega arith) in
    let m = digits.one_more figures i p.0 all (omega arith) short p.1 in
    let next = p.0 * 10 + (get_or figures i 0 - 48) in
    (next, subst (λ k. digits.Spells figures k next) (let e : i + 1 ≡ suc i = omega arith in e) m.3)

-- digits that are not too many spell a small number
pub small_constant : (n : ℕ) (t : List ℕ) → spelling.constant n t → is_small n ≡ true
small_constant n t h =
    let figures = without_zeros t in
    let short = digits.figures_short t figures refl h.1 in
    let p = up_to figures (digits.figures_all t figures refl h.0) short (length figures) (omega arith) in
    let m = digits.figures_spell t figures p.0 refl short p.1 in
    let less : n < 10 ^ 18 = subst (λ k. k < 10 ^ 18) (m.0 ∙ sym h.2) m.1 in
    is_less n (10 ^ 18) less
  where
    is_less : (a b : ℕ) → a < b → nat_lt a b ≡ true
    is_less a b lt = grind arith

between : (n : ℕ) (t : List ℕ) → spelling.exponent n t → (nat_le 1 n && nat_le n 9) ≡ true
between n t h = let low = h.0 in let high = h.1 in both_true (is_at_most 1 n low) (is_at_most n 9 high)
  where
    is_at_most : (a b : ℕ) → a ≤ b → nat_le a b ≡ true
    is_at_most a b le = grind arith

-- ---- numbers in expressions

abbrev All : List Expr → Type 0
All es = list_all has_right_numbers es ≡ true

two : (es fs : List Expr) → All es → All fs → All (es ++ fs)
two es fs h k = all_joined has_right_numbers es fs h k

mutual
  pub expression_numbers : (e : Expr) (t : List ℕ) → expression e t → list_all has_right_numbers (parts e) ≡ true
  expression_numbers (Const n) t h = both_true (small_constant n t h) refl
  expression_numbers (Truth b) t h = refl
  expression_numbers (Var x) t h = refl
  expression_numbers (Apply' f m args) t h = arguments_numbers args h.4.4.0 h.4.4.3
  expression_numbers (Paren' m (only a)) t h = expression_numbers a h.4.0 h.4.3
  expression_numbers (Pos' m (only a)) t h = expression_numbers a h.1 h.4.1
  expression_numbers (Neg' m (only a)) t h = expression_numbers a h.1 h.4.1
  expression_numbers (Power' m (only a) n) t h = both_true (between n h.4.1 h.4.4) (expression_numbers a h.0 h.3.1)
  expression_numbers (Bin' o m (only a) n (only b)) t h =
      two (parts a) (parts b) (expression_numbers a h.0 h.3.1) (expression_numbers b h.4.1 h.4.4.1)
  expression_numbers (Rel' o m (only a) n (only b)) t h =
      two (parts a) (parts b) (expression_numbers a h.0 h.3.1) (expression_numbers b h.4.1 h.4.4.1)
  expression_numbers (Not' m (only a)) t h = expression_numbers a h.1 h.4.1
  expression_numbers (And' m (only a) n (only b)) t h =
      two (parts a) (parts b) (expression_numbers a h.0 h.3.1) (expression_numbers b h.4.1 h.4.4.1)
  expression_numbers (Or' m (only a) n (only b)) t h =
      two (parts a) (parts b) (expression_numbers a h.0 h.3) (expression_numbers b h.4.1 h.4.4.1)

  pub arguments_numbers : {m : Count} (es : Row_of-Expr m) (t : List ℕ) → arguments es t
      → list_all has_right_numbers (parts_of_row es) ≡ true
  arguments_numbers end_of-Expr t h = refl
  arguments_numbers (more_of-Expr e es) t h =
      two (parts e) (parts_of_row es) (expression_numbers e h.0 h.3) (more_numbers es h.1 h.4)

  more_numbers : {m : Count} (es : Row_of-Expr m) (t : List ℕ) → more_arguments es t
      → list_all has_right_numbers (parts_of_row es) ≡ true
  more_numbers end_of-Expr t h = refl
  more_numbers (more_of-Expr e es) t h =
      two (parts e) (parts_of_row es) (expression_numbers e h.4.0 h.4.3) (more_numbers es h.4.1 h.4.4)

left_numbers : (e : Expr) (t : List ℕ) → grammar.left_side e t → list_all has_right_numbers (parts e) ≡ true
left_numbers (Var x) t h = refl
left_numbers (Apply' f m args) t h = expression_numbers (Apply' f m args) t h
left_numbers (Const n) t h = absurd h
left_numbers (Truth b) t h = absurd h
left_numbers (Paren' m a) t h = absurd h
left_numbers (Pos' m a) t h = absurd h
left_numbers (Neg' m a) t h = absurd h
left_numbers (Power' m a n) t h = absurd h
left_numbers (Bin' o m a n b) t h = absurd h
left_numbers (Rel' o m a n b) t h = absurd h
left_numbers (Not' m a) t h = absurd h
left_numbers (And' m a n b) t h = absurd h
left_numbers (Or' m a n b) t h = absurd h

in_row : (es : List Expr) → flat_map parts es ≡ parts_of_row (row_of es)
in_row [] = refl
in_row (e ∷ es) = ap (λ others. parts e ++ others) (in_row es)

actuals_numbers : (es : List Expr) (t : List ℕ) → grammar.actuals es t
    → list_all has_right_numbers (flat_map parts es) ≡ true
actuals_numbers [] t h = refl
actuals_numbers (e ∷ es) t h =
    ap (list_all has_right_numbers) (in_row (e ∷ es)) ∙ arguments_numbers (row_of (e ∷ es)) h.4.0 h.4.3

condition_numbers : (e : Expr) (t : List ℕ) → grammar.condition e t → list_all has_right_numbers (parts e) ≡ true
condition_numbers e t h = expression_numbers e h.4.0 h.4.3

block_numbers : (d : Dialect) (e : Expr) (head tail t : List ℕ)
    → grammar.with_77 d (spelling.◌⨾◌ (spelling.just head) (spelling.◌⨾◌ (grammar.condition e) (spelling.just tail))) t
    → All (parts e ++ [])
block_numbers CommonForms e head tail t h = absurd h
block_numbers SeventySeven e head tail t h = two (parts e) [] (condition_numbers e h.4.0 h.4.3) refl

-- each number in an executable statement
pub statement_numbers : (d : Dialect) (s : Stmt) (t : List ℕ) → form d s t
    → list_all has_right_numbers (all_parts s) ≡ true
statement_numbers d (Assign left right) t h =
    two (parts left) (parts right ++ []) (left_numbers left h.0 h.3)
    (two (parts right) [] (expression_numbers right h.4.1 h.4.4) refl)
statement_numbers d (ArithIf e l m n) t h = two (parts e) [] (condition_numbers e h.4.0 h.4.3) refl
statement_numbers d (LogicalIf' e m (carried s)) t h =
    two (parts e) (all_parts s) (condition_numbers e h.4.0 h.4.3) (statement_numbers d s h.4.1 h.4.4.1)
statement_numbers d (Call f args) t h = actuals_numbers args h.4.1 h.4.4
statement_numbers d (BlockIf e) t h = block_numbers d e _ _ t h
statement_numbers d (ElseIf e) t h = block_numbers d e _ _ t h
statement_numbers d s t h = refl

-- ---- forms

left_form : (e : Expr) (t : List ℕ) → grammar.left_side e t → is_left_side e ≡ true
left_form (Var x) t h = refl
left_form (Apply' f m args) t h = refl
left_form (Const n) t h = absurd h
left_form (Truth b) t h = absurd h
left_form (Paren' m a) t h = absurd h
left_form (Pos' m a) t h = absurd h
left_form (Neg' m a) t h = absurd h
left_form (Power' m a n) t h = absurd h
left_form (Bin' o m a n b) t h = absurd h
left_form (Rel' o m a n b) t h = absurd h
left_form (Not' m a) t h = absurd h
left_form (And' m a n b) t h = absurd h
left_form (Or' m a n b) t h = absurd h

labels_given : (labels : List ℕ) (t : List ℕ) → grammar.comma_list spelling.label labels t → is_given labels ≡ true
labels_given [] t h = absurd h
labels_given (l ∷ labels) t h = refl

param_form : (p : Param) (t : List ℕ) → grammar.param p t → is_small_param p ≡ true
param_form (parameter.Fixed n) t h = small_constant n t h
param_form (parameter.Named x) t h = refl

step_form : (p : Option Param) (t : List ℕ) → grammar.step p t → is_small_step p ≡ true
step_form None t h = refl
step_form (Some p) t h = param_form p h.1 h.4

pub statement_form : (d : Dialect) (s : Stmt) (t : List ℕ) → form d s t → has_right_form s ≡ true
statement_form d (Assign left right) t h = left_form left h.0 h.3
statement_form d (Computed labels x) t h = labels_given labels h.4.3.4.0 h.4.3.4.3
statement_form d (LogicalIf' e m (carried s)) t h =
    both_true (h.4.4.0) (statement_form d s h.4.1 h.4.4.1)
statement_form d (Do label x first last step) t h =
    let the_first = h.4.4.4.4 in
    let the_last = the_first.4.4 in
    both_true (both_true (param_form first the_first.0 the_first.3) (param_form last the_last.0 the_last.3))
    (step_form step the_last.1 the_last.4)
statement_form d s t h = refl

-- block IFs are spelled under 77 alone
pub no_blocks : (d : Dialect) (s : Stmt) (t : List ℕ) → form d s t → wants_plain_subscripts d ≡ true
    → is_block_statement s ≡ false
no_blocks CommonForms (BlockIf e) t h k = absurd h
no_blocks CommonForms (ElseIf e) t h k = absurd h
no_blocks CommonForms Else t h k = absurd h
no_blocks CommonForms EndIf t h k = absurd h
no_blocks SeventySeven s t h k = search rules
no_blocks d s t h k = refl

-- ---- items

-- each item that a statement declares is typed, dimensioned or put into COMMON
pub item_declared : (d : Dialect) (s : Stmt) (t : List ℕ) → form d s t → (i : Item) → IsIn i (items_by s)
    → IsIn i.name (typed_by s) ⊎ (IsIn i.name (dimensioned_by s) ⊎ IsIn i.name (commons_by s))
item_declared d (Declare sort items) t h i m = inl (in_map (λ j. j.name) items m)
item_declared d (Dimension items) t h i m =
    inr (inl (in_map (λ j. j.name) (kept (λ j. is_given_dims j.dims) items)
    (in_kept (λ j. is_given_dims j.dims) items m
    (all_of (λ j. is_given_dims j.dims) items
    (listed_pass grammar.array (λ j. is_given_dims j.dims) given items h.1 h.4) m))))
  where
    given_dims : (dims : List Dim) (u : List ℕ) → grammar.comma_list grammar.dim dims u → is_given_dims dims ≡ true
    given_dims [] u k = absurd k
    given_dims (e ∷ dims) u k = refl

    given : (j : Item) (u : List ℕ) → grammar.array j u → is_given_dims j.dims ≡ true
    given j u k = given_dims j.dims k.4.4.0 k.4.4.3
item_declared d s t h i m = inr (inr (in_map (λ j. j.name) (common_items_by s) m))
