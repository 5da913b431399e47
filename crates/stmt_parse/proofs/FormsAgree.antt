-- What is written of a statement agrees with the grammar.
use Rattle.std.proofs.Common.{◌≡◌, ℕ, ◌+◌, ◌≤◌, true, false, Option, Some, None, Result, Ok, Err, List, [], ◌∷◌, ◌++◌, codes, sym, ap, ◌∙◌, subst, arith}
use Rattle.std.specs.Prelude.{nat_le, if◌then◌else◌}
use mathlib.Core.Former.{Count}
use Rattle.std.proofs.lemmas.Option.{none-some, same_Some}
use Rattle.std.proofs.lemmas.Bool.Decides.{nat_tests}
use Rattle.fort_syntax.specs.TreePatterns.{only, carried, row_of}
use Rattle.fort_syntax.specs.declared.dialect.Dialect.{Dialect}
use Rattle.fort_syntax.specs.declared.dialect.Dialect.TheVariants.{Common as CommonForms, SeventySeven}
use Rattle.fort_syntax.specs.declared.expr.Expr.{Expr, Row_of-Expr, end_of-Expr, more_of-Expr}
use Rattle.fort_syntax.specs.declared.expr.Expr.TheVariants.{Const, Truth, Var, Apply', Paren', Pos', Neg', Power', Bin', Rel', Not', And', Or'}
use Rattle.fort_syntax.specs.declared.stmt.Dim.{Dim}
use Rattle.fort_syntax.specs.declared.stmt.Dim.TheVariants as dimension
use Rattle.fort_syntax.specs.declared.stmt.Item.{Item}
use Rattle.fort_syntax.specs.declared.stmt.BlockName.{BlockName}
use Rattle.fort_syntax.specs.declared.stmt.BlockName.TheVariants as block
use Rattle.fort_syntax.specs.declared.stmt.Group.{Group}
use Rattle.fort_syntax.specs.declared.stmt.Param.{Param}
use Rattle.fort_syntax.specs.declared.stmt.Param.TheVariants as parameter
use Rattle.fort_syntax.specs.declared.stmt.Stmt.{Stmt, LogicalIf}
use Rattle.fort_syntax.specs.declared.stmt.Stmt.TheVariants.{Subroutine, Function, Declare, Dimension, Common, Assign, GoTo, Computed, ArithIf, LogicalIf', Do, Continue, Call, Return, End, BlockIf, ElseIf, Else, EndIf}
use Rattle.fort_syntax.specs.Spelled.{Texts, just, ◌⨾◌, name, label, bracketed, bound, binding, tightness, operator, relation, truth, expression, arguments, more_arguments}
use Rattle.fort_syntax.specs.Grammar.{more_listed, comma_list, in_brackets, dim, item, array, slashed, first_block, more_groups, groups, sort, optional_sort, left_side, param, step, actuals, condition, is_carried, with_77, form, is_deep_from, is_deep, Spells}
use Rattle.stmt_parse.specs.Writing.{Writer, put, ◌⊕◌, given, tight, write_name, write_label, write_expression, write_arguments, write_more_arguments, write_more, write_list, in_round, write_brackets, write_dim, write_item, write_array, write_slashed, write_first_block, write_more_groups, write_groups, write_left, write_param, write_step, write_actuals, write_condition, where_77, write_form, text_of}
use Rattle.stmt_parse.specs.declared.lack.Lack.{Lack}
use Rattle.stmt_parse.specs.declared.lack.Lack.TheVariants.{Spelling, Memory}
use Rattle.stmt_parse.specs.Parsing.{Gives}
use Rattle.stmt_parse.specs.Wrote.{Writes}
use Rattle.stmt_parse.proofs.ExecutableSpelled.{logical_tree}
use Rattle.stmt_parse.proofs.ExpressionsAnswers.{first_step, when_refused}
use Rattle.stmt_parse.proofs.TokensRead.{when_false}
use Rattle.stmt_parse.proofs.PartEnds.{step_to}
use Rattle.stmt_parse.proofs.WritersAgree.{deep_by_brackets, Agrees, put_agrees, never_agrees, then_agrees, given_agrees}
use Rattle.stmt_parse.proofs.NumbersAgree.{name_agrees, constant_agrees, label_agrees, exponent_agrees}

round_agrees : {P : Texts} {w : Writer} → Agrees P w → Agrees (bracketed P) (in_round w)
round_agrees p = then_agrees (put_agrees (codes "(")) (then_agrees p (put_agrees (codes ")")))

-- ---- expressions

is_bound : (k n : ℕ) → nat_le k n ≡ true → k ≤ n
is_bound k n h = grind (arith, nat_tests)

shows_bound : (k n : ℕ) → k ≤ n → nat_le k n ≡ true
shows_bound k n h = grind (arith, nat_tests)

tight_agrees : {P : Texts} {w : Writer} (k : ℕ) (e : Expr) → Agrees P w → Agrees (bound k e P) (tight k e w)
tight_agrees k e p = given_agrees (nat_le k (binding e)) (k ≤ binding e) (is_bound k (binding e))
    (shows_bound k (binding e)) p

mutual
  expression_agrees : (e : Expr) → Agrees (expression e) (write_expression e)
  expression_agrees (Const n) = constant_agrees n
  expression_agrees (Truth b) = put_agrees (truth b)
  expression_agrees (Var x) = name_agrees x
  expression_agrees (Apply' x m args) = then_agrees (name_agrees x) (round_agrees (arguments_agree args))
  expression_agrees (Paren' m (only e)) = round_agrees (expression_agrees e)
  expression_agrees (Pos' m (only e)) = then_agrees (put_agrees (codes "+")) (tight_agrees 5 e (expression_agrees e))
  expression_agrees (Neg' m (only e)) = then_agrees (put_agrees (codes "-")) (tight_agrees 5 e (expression_agrees e))
  expression_agrees (Power' m (only e) n) =
      then_agrees (tight_agrees 7 e (expression_agrees e)) (then_agrees (put_agrees (codes "**")) (exponent_agrees n))
  expression_agrees (Bin' o m (only a) n (only b)) =
      then_agrees (tight_agrees (tightness o) a (expression_agrees a))
      (then_agrees (put_agrees (operator o)) (tight_agrees (tightness o + 1) b (expression_agrees b)))
  expression_agrees (Rel' o m (only a) n (only b)) =
      then_agrees (tight_agrees 4 a (expression_agrees a))
      (then_agrees (put_agrees (relation o)) (tight_agrees 4 b (expression_agrees b)))
  expression_agrees (Not' m (only e)) = then_agrees (put_agrees (codes ".NOT."))
      (tight_agrees 3 e (expression_agrees e))
  expression_agrees (And' m (only a) n (only b)) =
      then_agrees (tight_agrees 1 a (expression_agrees a))
      (then_agrees (put_agrees (codes ".AND.")) (tight_agrees 2 b (expression_agrees b)))
  expression_agrees (Or' m (only a) n (only b)) =
      then_agrees (expression_agrees a)
      (then_agrees (put_agrees (codes ".OR.")) (tight_agrees 1 b (expression_agrees b)))

  arguments_agree : {m : Count} (es : Row_of-Expr m) → Agrees (arguments es) (write_arguments es)
  arguments_agree end_of-Expr = never_agrees
  arguments_agree (more_of-Expr e es) = then_agrees (expression_agrees e) (more_arguments_agree es)

  more_arguments_agree : {m : Count} (es : Row_of-Expr m) → Agrees (more_arguments es) (write_more_arguments es)
  more_arguments_agree end_of-Expr = put_agrees []
  more_arguments_agree (more_of-Expr e es) = then_agrees (put_agrees (codes ","))
      (then_agrees (expression_agrees e) (more_arguments_agree es))

-- ---- lists

more_agree : {T : Type 0} (P : T → Texts) (w : T → Writer) → ((x : T) → Agrees (P x) (w x)) → (xs : List T)
    → Agrees (more_listed P xs) (write_more w xs)
more_agree P w each [] = put_agrees []
more_agree P w each (x ∷ xs) = then_agrees (put_agrees (codes ",")) (then_agrees (each x) (more_agree P w each xs))

list_agrees : {T : Type 0} (P : T → Texts) (w : T → Writer) → ((x : T) → Agrees (P x) (w x)) → (xs : List T)
    → Agrees (comma_list P xs) (write_list w xs)
list_agrees P w each [] = never_agrees
list_agrees P w each (x ∷ xs) = then_agrees (each x) (more_agree P w each xs)

brackets_agree : {T : Type 0} (P : T → Texts) (w : T → Writer) → ((x : T) → Agrees (P x) (w x)) → (xs : List T)
    → Agrees (in_brackets P xs) (write_brackets w xs)
brackets_agree P w each [] = put_agrees []
brackets_agree P w each (x ∷ xs) = round_agrees (list_agrees P w each (x ∷ xs))

-- ---- declarations

dim_agrees : (x : Dim) → Agrees (dim x) (write_dim x)
dim_agrees (dimension.Fixed n) = constant_agrees n
dim_agrees (dimension.Named x) = name_agrees x

item_agrees : (i : Item) → Agrees (item i) (write_item i)
item_agrees i = then_agrees (name_agrees i.name) (brackets_agree dim write_dim dim_agrees i.dims)

array_agrees : (i : Item) → Agrees (array i) (write_array i)
array_agrees i = then_agrees (name_agrees i.name) (round_agrees (list_agrees dim write_dim dim_agrees i.dims))

slashed_agrees : (b : BlockName) → Agrees (slashed b) (write_slashed b)
slashed_agrees block.Bare = never_agrees
slashed_agrees block.Slashes = put_agrees (codes "//")
slashed_agrees (block.Named x) = then_agrees (put_agrees (codes "/"))
    (then_agrees (name_agrees x) (put_agrees (codes "/")))

first_agrees : (b : BlockName) → Agrees (first_block b) (write_first_block b)
first_agrees block.Bare = put_agrees []
first_agrees block.Slashes = slashed_agrees block.Slashes
first_agrees (block.Named x) = slashed_agrees (block.Named x)

more_groups_agree : (gs : List Group) → Agrees (more_groups gs) (write_more_groups gs)
more_groups_agree [] = put_agrees []
more_groups_agree (g ∷ gs) = then_agrees (slashed_agrees g.block)
    (then_agrees (list_agrees item write_item item_agrees g.items) (more_groups_agree gs))

groups_agree : (gs : List Group) → Agrees (groups gs) (write_groups gs)
groups_agree [] = never_agrees
groups_agree (g ∷ gs) = then_agrees (first_agrees g.block)
    (then_agrees (list_agrees item write_item item_agrees g.items) (more_groups_agree gs))

-- ---- executable statements

left_agrees : (e : Expr) → Agrees (left_side e) (write_left e)
left_agrees (Var x) = expression_agrees (Var x)
left_agrees (Apply' x m args) = expression_agrees (Apply' x m args)
left_agrees _ = never_agrees

param_agrees : (p : Param) → Agrees (param p) (write_param p)
param_agrees (parameter.Fixed n) = constant_agrees n
param_agrees (parameter.Named x) = name_agrees x

step_agrees : (by : Option Param) → Agrees (step by) (write_step by)
step_agrees None = put_agrees []
step_agrees (Some p) = then_agrees (put_agrees (codes ",")) (param_agrees p)

more_listed_agree : (es : List Expr) → Agrees (more_arguments (row_of es)) (write_more write_expression es)
more_listed_agree [] = put_agrees []
more_listed_agree (e ∷ es) = then_agrees (put_agrees (codes ","))
    (then_agrees (expression_agrees e) (more_listed_agree es))

actuals_agree : (es : List Expr) → Agrees (actuals es) (write_actuals es)
actuals_agree [] = put_agrees []
actuals_agree (e ∷ es) = round_agrees (then_agrees (expression_agrees e) (more_listed_agree es))

condition_agrees : (e : Expr) → Agrees (condition e) (write_condition e)
condition_agrees e = round_agrees (expression_agrees e)

where_agrees : {P : Texts} {w : Writer} (d : Dialect) → Agrees P w → Agrees (with_77 d P) (where_77 d w)
where_agrees CommonForms p = never_agrees
where_agrees SeventySeven p = p

word_then_agrees : {P : Texts} {w : Writer} (s : List ℕ) → Agrees P w → Agrees (just s ⨾ P) (put s ⊕ w)
word_then_agrees s p = then_agrees (put_agrees s) p

form_agrees : (d : Dialect) (s : Stmt) → Agrees (form d s) (write_form d s)
form_agrees d (Subroutine x dummies) = word_then_agrees (codes "SUBROUTINE")
    (then_agrees (name_agrees x) (brackets_agree name write_name name_agrees dummies))
form_agrees d (Function s x dummies) =
    word_then_agrees (optional_sort s ++ codes "FUNCTION")
    (then_agrees (name_agrees x) (round_agrees (list_agrees name write_name name_agrees dummies)))
form_agrees d (Declare s items) = word_then_agrees (sort s) (list_agrees item write_item item_agrees items)
form_agrees d (Dimension items) = word_then_agrees (codes "DIMENSION")
    (list_agrees array write_array array_agrees items)
form_agrees d (Common gs) = word_then_agrees (codes "COMMON") (groups_agree gs)
form_agrees d (Assign left right) = then_agrees (left_agrees left)
    (word_then_agrees (codes "=") (expression_agrees right))
form_agrees d (GoTo l) = word_then_agrees (codes "GOTO") (label_agrees l)
form_agrees d (Computed ls x) =
    word_then_agrees (codes "GOTO")
    (then_agrees (round_agrees (list_agrees label write_label label_agrees ls))
    (word_then_agrees (codes ",") (name_agrees x)))
form_agrees d (ArithIf e l m n) =
    word_then_agrees (codes "IF") (then_agrees (condition_agrees e)
    (then_agrees (label_agrees l) (word_then_agrees (codes ",")
    (then_agrees (label_agrees m) (word_then_agrees (codes ",") (label_agrees n))))))
form_agrees d (LogicalIf' e m (carried s)) =
    word_then_agrees (codes "IF") (then_agrees (condition_agrees e)
    (given_agrees (is_carried s) (is_carried s ≡ true) (λ h. h) (λ h. h) (form_agrees d s)))
form_agrees d (Do l x first last by) =
    word_then_agrees (codes "DO") (then_agrees (label_agrees l) (then_agrees (name_agrees x)
    (word_then_agrees (codes "=") (then_agrees (param_agrees first)
    (word_then_agrees (codes ",") (then_agrees (param_agrees last) (step_agrees by)))))))
form_agrees d Continue = put_agrees (codes "CONTINUE")
form_agrees d (Call x args) = word_then_agrees (codes "CALL") (then_agrees (name_agrees x) (actuals_agree args))
form_agrees d Return = put_agrees (codes "RETURN")
form_agrees d End = put_agrees (codes "END")
form_agrees d (BlockIf e) = where_agrees d
    (word_then_agrees (codes "IF") (then_agrees (condition_agrees e) (put_agrees (codes "THEN"))))
form_agrees d (ElseIf e) = where_agrees d
    (word_then_agrees (codes "ELSEIF") (then_agrees (condition_agrees e) (put_agrees (codes "THEN"))))
form_agrees d Else = where_agrees d (put_agrees (codes "ELSE"))
form_agrees d EndIf = where_agrees d (put_agrees (codes "ENDIF"))

-- ---- whole statements

-- a text that is written spells the statement
pub text_is_spelled : (d : Dialect) (s : Stmt) (t : List ℕ) → text_of d s ≡ Some t → Spells d t s
text_is_spelled d s t h =
    let a = first_step (write_form d s []) (λ t. if is_deep t then None else Some t) t h in
    let p = when_refused (is_deep a.0) (Some a.0) t a.2 in
    let same = same_Some a.0 t p.1 in
    let b = (form_agrees d s).sound [] a.0 a.1 in
    (subst (form d s) (sym b.1 ∙ same) b.2, subst (λ t. is_deep t ≡ false) same p.0)

-- where none is written, no text spells the statement
pub no_text_spells : (d : Dialect) (s : Stmt) → text_of d s ≡ None → (t : List ℕ) → ¬ Spells d t s
no_text_spells d s h t p =
    let b = (form_agrees d s).complete [] t p.0 in
    let flat : is_deep b.0 ≡ false = deep_by_brackets b.0 0 ∙ ap (is_deep_from 0) (sym b.2)
    ∙ sym (deep_by_brackets t 0) ∙ p.1 in
    none-some b.0 (sym h ∙ step_to (write_form d s []) b.0 (λ t. if is_deep t then None
    else Some t) _ b.1 (when_false (is_deep b.0) None (Some b.0) flat))

-- what is answered is a text that spells the statement, or none does
pub gives_writes : (d : Dialect) (s : Stmt) (r : Result (List ℕ) Lack) → Gives (λ l. l) r (text_of d s) → Writes d s r
gives_writes d s (Ok t) h = text_is_spelled d s t h
gives_writes d s (Err Memory) h = tt
gives_writes d s (Err Spelling) h = no_text_spells d s h

-- a logical IF
pub write_logical : (d : Dialect) (e : Expr) (s : Stmt) (t : List ℕ)
    → write_form d (LogicalIf e s) t ≡
    ((put (codes "IF") ⊕ write_condition e) ⊕ given (is_carried s) (write_form d s)) t
write_logical d e s t = ap (λ x. write_form d x t) (logical_tree e s)
