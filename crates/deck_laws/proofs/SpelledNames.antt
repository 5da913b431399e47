-- The names in statements that texts spell are names.
use Rattle.std.proofs.Common.{◌≡◌, ℕ, Bool, true, false, cond, List, [], ◌∷◌, ◌++◌, map, flat_map, Option, Some, None, refl, ap, ◌∙◌, rules}
use Rattle.std.specs.Prelude.{◌&&◌}
use Rattle.std.specs.List.{list_all}
use mathlib.Core.Former.{Count}
use Rattle.formula.specs.Atoms.{is_name}
use Rattle.fort_syntax.specs.TreePatterns.{only, carried, row_of}
use Rattle.fort_syntax.specs.Spelled as spelling
use Rattle.fort_syntax.specs.Spelled.{Texts, expression, arguments, more_arguments}
use Rattle.fort_syntax.specs.Grammar as grammar
use Rattle.fort_syntax.specs.Grammar.{form}
use Rattle.fort_syntax.specs.Uses.{Use, read, argument_of, actual, Occurrence, uses_in, uses_in_row, uses_on_left, uses_of_param, uses_of_step, uses_of}
use Rattle.fort_syntax.specs.Units.{class_of, is_heading, headed_by, names_in, names_in_item, names_in_dims, names_used, blocks_by, name_of_block, block_of_name, is_called}
use Rattle.fort_syntax.specs.WellFormed.{name_as_block}
use Rattle.fort_syntax.specs.declared.dialect.Dialect.{Dialect}
use Rattle.fort_syntax.specs.declared.dialect.Dialect.TheVariants.{Common as CommonForms, SeventySeven}
use Rattle.fort_syntax.specs.declared.expr.Expr.{Expr, Row_of-Expr, end_of-Expr, more_of-Expr}
use Rattle.fort_syntax.specs.declared.expr.Expr.TheVariants.{Const, Truth, Var, Apply', Paren', Pos', Neg', Power', Bin', Rel', Not', And', Or'}
use Rattle.fort_syntax.specs.declared.name.Name.{Name}
use Rattle.fort_syntax.specs.declared.stmt.BlockName.{BlockName}
use Rattle.fort_syntax.specs.declared.stmt.BlockName.TheVariants as block
use Rattle.fort_syntax.specs.declared.stmt.Dim.{Dim}
use Rattle.fort_syntax.specs.declared.stmt.Dim.TheVariants.{Fixed, Named}
use Rattle.fort_syntax.specs.declared.stmt.Group.{Group}
use Rattle.fort_syntax.specs.declared.stmt.Item.{Item}
use Rattle.fort_syntax.specs.declared.stmt.Param.{Param}
use Rattle.fort_syntax.specs.declared.stmt.Param.TheVariants as parameter
use Rattle.fort_syntax.specs.declared.stmt.Stmt.{Stmt}
use Rattle.fort_syntax.specs.declared.stmt.Stmt.TheVariants.{Subroutine, Function, Declare, Dimension, Common, Assign, Computed, ArithIf, LogicalIf', Do, Call, BlockIf, ElseIf}
use Rattle.deck_laws.proofs.Lists.{all_joined, all_flat}
use Rattle.deck_laws.proofs.Tests.{first_true, second_true, both_true}

-- ---- lists of texts

more_pass : {T : Type 0} (P : T → Texts) (test : T → Bool) → ((x : T) (t : List ℕ) → P x t → test x ≡ true)
    → (xs : List T) (t : List ℕ) → grammar.more_listed P xs t → list_all test xs ≡ true
more_pass P test passes [] t h = refl
more_pass P test passes (x ∷ xs) t h = both_true (passes x h.4.0 h.4.3) (more_pass P test passes xs h.4.1 h.4.4)

-- what is listed passes a test that each of its texts gives
pub listed_pass : {T : Type 0} (P : T → Texts) (test : T → Bool) → ((x : T) (t : List ℕ) → P x t → test x ≡ true)
    → (xs : List T) (t : List ℕ) → grammar.comma_list P xs t → list_all test xs ≡ true
listed_pass P test passes [] t h = absurd h
listed_pass P test passes (x ∷ xs) t h = both_true (passes x h.0 h.3) (more_pass P test passes xs h.1 h.4)

in_brackets_pass : {T : Type 0} (P : T → Texts) (test : T → Bool) → ((x : T) (t : List ℕ) → P x t → test x ≡ true)
    → (xs : List T) (t : List ℕ) → grammar.in_brackets P xs t → list_all test xs ≡ true
in_brackets_pass P test passes [] t h = refl
in_brackets_pass P test passes (x ∷ xs) t h = listed_pass P test passes (x ∷ xs) h.4.0 h.4.3

-- ---- names

pub name_named : (x : Name) (t : List ℕ) → spelling.name x t → is_name x ≡ true
name_named x t h = h.1

-- ---- expressions

abbrev pub is_named : Occurrence → Bool
is_named o = is_name o.name

mutual
  pub expression_named : (how : Use) (e : Expr) (t : List ℕ) → expression e t → list_all is_named (uses_in how e) ≡ true
  expression_named how (Const n) t h = refl
  expression_named how (Truth b) t h = refl
  expression_named how (Var x) t h = both_true (name_named x t h) refl
  expression_named how (Apply' f m args) t h =
      both_true (name_named f h.0 h.3) (arguments_named (argument_of f) args h.4.4.0 h.4.4.3)
  expression_named how (Paren' m (only a)) t h = expression_named read a h.4.0 h.4.3
  expression_named how (Pos' m (only a)) t h = expression_named read a h.1 h.4.1
  expression_named how (Neg' m (only a)) t h = expression_named read a h.1 h.4.1
  expression_named how (Power' m (only a) n) t h = expression_named read a h.0 h.3.1
  expression_named how (Bin' o m (only a) n (only b)) t h =
      all_joined is_named (uses_in read a) (uses_in read b) (expression_named read a h.0 h.3.1)
      (expression_named read b h.4.1 h.4.4.1)
  expression_named how (Rel' o m (only a) n (only b)) t h =
      all_joined is_named (uses_in read a) (uses_in read b) (expression_named read a h.0 h.3.1)
      (expression_named read b h.4.1 h.4.4.1)
  expression_named how (Not' m (only a)) t h = expression_named read a h.1 h.4.1
  expression_named how (And' m (only a) n (only b)) t h =
      all_joined is_named (uses_in read a) (uses_in read b) (expression_named read a h.0 h.3.1)
      (expression_named read b h.4.1 h.4.4.1)
  expression_named how (Or' m (only a) n (only b)) t h =
      all_joined is_named (uses_in read a) (uses_in read b) (expression_named read a h.0 h.3)
      (expression_named read b h.4.1 h.4.4.1)

  pub arguments_named : (how : Use) {m : Count} (es : Row_of-Expr m) (t : List ℕ) → arguments es t
      → list_all is_named (uses_in_row how es) ≡ true
  arguments_named how end_of-Expr t h = refl
  arguments_named how (more_of-Expr e es) t h =
      all_joined is_named (uses_in how e) (uses_in_row how es) (expression_named how e h.0 h.3)
      (more_named how es h.1 h.4)

  more_named : (how : Use) {m : Count} (es : Row_of-Expr m) (t : List ℕ) → more_arguments es t
      → list_all is_named (uses_in_row how es) ≡ true
  more_named how end_of-Expr t h = refl
  more_named how (more_of-Expr e es) t h =
      all_joined is_named (uses_in how e) (uses_in_row how es) (expression_named how e h.4.0 h.4.3)
      (more_named how es h.4.1 h.4.4)

-- ---- executable statements

left_named : (e : Expr) (t : List ℕ) → grammar.left_side e t → list_all is_named (uses_on_left e) ≡ true
left_named (Var x) t h = both_true (name_named x t h) refl
left_named (Apply' f m args) t h = both_true (name_named f h.0 h.3) (arguments_named read args h.4.4.0 h.4.4.3)
left_named (Const n) t h = absurd h
left_named (Truth b) t h = absurd h
left_named (Paren' m a) t h = absurd h
left_named (Pos' m a) t h = absurd h
left_named (Neg' m a) t h = absurd h
left_named (Power' m a n) t h = absurd h
left_named (Bin' o m a n b) t h = absurd h
left_named (Rel' o m a n b) t h = absurd h
left_named (Not' m a) t h = absurd h
left_named (And' m a n b) t h = absurd h
left_named (Or' m a n b) t h = absurd h

param_named : (p : Param) (t : List ℕ) → grammar.param p t → list_all is_named (uses_of_param p) ≡ true
param_named (parameter.Fixed n) t h = refl
param_named (parameter.Named x) t h = both_true (name_named x t h) refl

step_named : (p : Option Param) (t : List ℕ) → grammar.step p t → list_all is_named (uses_of_step p) ≡ true
step_named None t h = refl
step_named (Some p) t h = param_named p h.1 h.4

in_row : (es : List Expr) → flat_map (uses_in actual) es ≡ uses_in_row actual (row_of es)
in_row [] = refl
in_row (e ∷ es) = ap (λ uses. uses_in actual e ++ uses) (in_row es)

actuals_named : (es : List Expr) (t : List ℕ) → grammar.actuals es t
    → list_all is_named (flat_map (uses_in actual) es) ≡ true
actuals_named [] t h = refl
actuals_named (e ∷ es) t h =
    ap (list_all is_named) (in_row (e ∷ es)) ∙ arguments_named actual (row_of (e ∷ es)) h.4.0 h.4.3

condition_named : (e : Expr) (t : List ℕ) → grammar.condition e t → list_all is_named (uses_in read e) ≡ true
condition_named e t h = expression_named read e h.4.0 h.4.3

block_named : (d : Dialect) (e : Expr) (head : List ℕ) (tail : List ℕ) (t : List ℕ)
    → grammar.with_77 d
    (spelling.◌⨾◌ (spelling.just head) (spelling.◌⨾◌ (grammar.condition e) (spelling.just tail))) t
    → list_all is_named (uses_in read e) ≡ true
block_named CommonForms e head tail t h = absurd h
block_named SeventySeven e head tail t h = condition_named e h.4.0 h.4.3

-- each name in an executable statement, the called one too
pub uses_named : (d : Dialect) (s : Stmt) (t : List ℕ) → form d s t → list_all is_named (uses_of s) ≡ true
uses_named d (Assign left right) t h =
    all_joined is_named (uses_on_left left) (uses_in read right) (left_named left h.0 h.3)
    (expression_named read right h.4.1 h.4.4)
uses_named d (Computed labels x) t h = both_true (name_named x h.4.4.1 h.4.4.4) refl
uses_named d (ArithIf e l m n) t h = condition_named e h.4.0 h.4.3
uses_named d (LogicalIf' e m (carried s)) t h =
    all_joined is_named (uses_in read e) (uses_of s) (condition_named e h.4.0 h.4.3) (uses_named d s h.4.1 h.4.4.1)
uses_named d (Do label x first last step) t h =
    let the_name = h.4.4 in
    let the_first = the_name.4.4 in
    let the_last = the_first.4.4 in
    both_true (name_named x the_name.0 the_name.3)
    (all_joined is_named (uses_of_param first ++ uses_of_param last) (uses_of_step step)
    (all_joined is_named (uses_of_param first) (uses_of_param last) (param_named first the_first.0 the_first.3)
    (param_named last the_last.0 the_last.3))
    (step_named step the_last.1 the_last.4))
uses_named d (Call f args) t h = both_true (name_named f h.4.0 h.4.3) (actuals_named args h.4.1 h.4.4)
uses_named d (BlockIf e) t h = block_named d e _ _ t h
uses_named d (ElseIf e) t h = block_named d e _ _ t h
uses_named d s t h = refl

-- ---- declarations

abbrev is_named_dim : Dim → Bool
is_named_dim d = list_all is_name (names_in_dims (d ∷ []))

dim_named : (d : Dim) (t : List ℕ) → grammar.dim d t → is_named_dim d ≡ true
dim_named (Fixed n) t h = refl
dim_named (Named x) t h = both_true (name_named x t h) refl

dims_named : (dims : List Dim) → list_all is_named_dim dims ≡ true → list_all is_name (names_in_dims dims) ≡ true
dims_named [] h = refl
dims_named (Fixed n ∷ dims) h = dims_named dims h
dims_named (Named x ∷ dims) h =
    both_true (first_true (is_name x) true (first_true (is_named_dim (Named x)) (list_all is_named_dim dims) h))
    (dims_named dims (second_true (is_named_dim (Named x)) (list_all is_named_dim dims) h))

abbrev is_named_item : Item → Bool
is_named_item i = list_all is_name (names_in_item i)

item_named : (i : Item) (t : List ℕ) → grammar.item i t → is_named_item i ≡ true
item_named i t h =
    both_true (name_named i.name h.0 h.3)
    (dims_named i.dims (in_brackets_pass grammar.dim is_named_dim dim_named i.dims h.1 h.4))

array_named : (i : Item) (t : List ℕ) → grammar.array i t → is_named_item i ≡ true
array_named i t h =
    both_true (name_named i.name h.0 h.3)
    (dims_named i.dims (listed_pass grammar.dim is_named_dim dim_named i.dims h.4.4.0 h.4.4.3))

abbrev is_named_block : BlockName → Bool
is_named_block b = list_all is_name (name_as_block b)

slashed_named : (b : BlockName) (t : List ℕ) → grammar.slashed b t → is_named_block b ≡ true
slashed_named block.Bare t h = refl
slashed_named block.Slashes t h = refl
slashed_named (block.Named x) t h = both_true (name_named x h.4.0 h.4.3) refl

first_named : (b : BlockName) (t : List ℕ) → grammar.first_block b t → is_named_block b ≡ true
first_named block.Bare t h = refl
first_named block.Slashes t h = refl
first_named (block.Named x) t h = slashed_named (block.Named x) t h

abbrev is_named_group : Group → Bool
is_named_group g = is_named_block g.block && list_all is_named_item g.items

more_groups_named : (gs : List Group) (t : List ℕ) → grammar.more_groups gs t → list_all is_named_group gs ≡ true
more_groups_named [] t h = refl
more_groups_named (g ∷ gs) t h =
    both_true (both_true (slashed_named g.block h.0 h.3)
    (listed_pass grammar.item is_named_item item_named g.items h.4.0 h.4.3))
    (more_groups_named gs h.4.1 h.4.4)

groups_named : (gs : List Group) (t : List ℕ) → grammar.groups gs t → list_all is_named_group gs ≡ true
groups_named [] t h = refl
groups_named (g ∷ gs) t h =
    both_true (both_true (first_named g.block h.0 h.3)
    (listed_pass grammar.item is_named_item item_named g.items h.4.0 h.4.3))
    (more_groups_named gs h.4.1 h.4.4)

items_of_groups : (gs : List Group) → list_all is_named_group gs ≡ true
    → list_all is_named_item (flat_map (λ g. g.items) gs) ≡ true
items_of_groups [] h = refl
items_of_groups (g ∷ gs) h =
    all_joined is_named_item g.items (flat_map (λ g. g.items) gs)
    (second_true (is_named_block g.block) (list_all is_named_item g.items)
    (first_true (is_named_group g) (list_all is_named_group gs) h))
    (items_of_groups gs (second_true (is_named_group g) (list_all is_named_group gs) h))

-- ---- heads and declarations

used_named : (uses : List Occurrence) → list_all is_named uses ≡ true → list_all is_name (names_used uses) ≡ true
used_named [] h = refl
used_named (o ∷ uses) h =
    if_called (is_called o.«use») (first_true (is_named o) (list_all is_named uses) h)
    (used_named uses (second_true (is_named o) (list_all is_named uses) h))
  where
    if_called : (c : Bool) → is_name o.name ≡ true → list_all is_name (names_used uses) ≡ true
        → list_all is_name (cond c [] (o.name ∷ []) ++ names_used uses) ≡ true
    if_called true a b = b
    if_called false a b = both_true a b

-- each name that counts as in a statement
pub all_named : (d : Dialect) (s : Stmt) (t : List ℕ) → form d s t → list_all is_name (names_in s) ≡ true
all_named d (Subroutine f dummies) t h = in_brackets_pass spelling.name is_name name_named dummies h.4.1 h.4.4
all_named d (Function sort f dummies) t h =
    both_true (name_named f h.4.0 h.4.3) (listed_pass spelling.name is_name name_named dummies h.4.4.4.0 h.4.4.4.3)
all_named d (Declare sort items) t h =
    all_flat is_name names_in_item items (listed_pass grammar.item is_named_item item_named items h.1 h.4)
all_named d (Dimension items) t h =
    all_flat is_name names_in_item items (listed_pass grammar.array is_named_item array_named items h.1 h.4)
all_named d (Common groups) t h =
    all_flat is_name names_in_item (flat_map (λ g. g.items) groups)
    (items_of_groups groups (groups_named groups h.1 h.4))
all_named d s t h = used_named (uses_of s) (uses_named d s t h)

-- the name of a unit in its head
pub head_named : (d : Dialect) (s : Stmt) (t : List ℕ) → form d s t → is_heading (class_of s) ≡ true
    → is_name (headed_by s) ≡ true
head_named d (Subroutine f dummies) t h k = name_named f h.4.0 h.4.3
head_named d (Function sort f dummies) t h k = name_named f h.4.0 h.4.3
head_named d _ t h k = search rules

of_block : (b : BlockName) → is_named_block b ≡ true
    → list_all is_name (name_as_block (block_of_name (name_of_block b))) ≡ true
of_block block.Bare h = refl
of_block block.Slashes h = refl
of_block (block.Named []) h = refl
of_block (block.Named (c ∷ cs)) h = h

of_groups : (gs : List Group) → list_all is_named_group gs ≡ true
    → list_all (λ b. list_all is_name (name_as_block (block_of_name b))) (map (λ group. name_of_block group.block) gs)
    ≡ true
of_groups [] h = refl
of_groups (g ∷ gs) h =
    both_true
    (of_block g.block
    (first_true (is_named_block g.block) (list_all is_named_item g.items)
    (first_true (is_named_group g) (list_all is_named_group gs) h)))
    (of_groups gs (second_true (is_named_group g) (list_all is_named_group gs) h))

-- the blocks that a statement declares have names, or none
pub blocks_named : (d : Dialect) (s : Stmt) (t : List ℕ) → form d s t
    → list_all (λ b. list_all is_name (name_as_block (block_of_name b))) (blocks_by s) ≡ true
blocks_named d (Common groups) t h = of_groups groups (groups_named groups h.1 h.4)
blocks_named d _ t h = refl
