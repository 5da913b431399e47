-- A text of a statement, written behind another text: words and names as they are, numbers without leading zeros.
use Rattle.std.specs.Prelude.{ℕ, zero, suc, ◌+◌, ◌/◌, ◌%◌, ◌^◌, ◌&&◌, nat_le, nat_lt, Bool, if◌then◌else◌, Option, Some, None, List, [], ◌∷◌, ◌++◌, codes}
use Rattle.formula.specs.Atoms.{is_name}
use mathlib.Core.Former.{Count}
use Rattle.fort_syntax.specs.TreePatterns.{only, carried}
use Rattle.fort_syntax.specs.declared.name.Name.{Name}
use Rattle.fort_syntax.specs.declared.dialect.Dialect.{Dialect}
use Rattle.fort_syntax.specs.declared.dialect.Dialect.TheVariants.{Common as CommonForms, SeventySeven}
use Rattle.fort_syntax.specs.declared.expr.Expr.{Expr, Row_of-Expr, end_of-Expr, more_of-Expr}
use Rattle.fort_syntax.specs.declared.expr.Expr.TheVariants.{Const, Truth, Var, Apply', Paren', Pos', Neg', Power', Bin', Rel', Not', And', Or'}
use Rattle.fort_syntax.specs.declared.stmt.Dim.{Dim}
use Rattle.fort_syntax.specs.declared.stmt.Dim.TheVariants as dimension
use Rattle.fort_syntax.specs.declared.stmt.Item.{Item}
use Rattle.fort_syntax.specs.declared.stmt.BlockName.{BlockName}
use Rattle.fort_syntax.specs.declared.stmt.BlockName.TheVariants as block
use Rattle.fort_syntax.specs.declared.stmt.Group.{Group}
use Rattle.fort_syntax.specs.declared.stmt.Param.{Param}
use Rattle.fort_syntax.specs.declared.stmt.Param.TheVariants as parameter
use Rattle.fort_syntax.specs.declared.stmt.Stmt.{Stmt}
use Rattle.fort_syntax.specs.declared.stmt.Stmt.TheVariants.{Subroutine, Function, Declare, Dimension, Common, Assign, GoTo, Computed, ArithIf, LogicalIf', Do, Continue, Call, Return, End, BlockIf, ElseIf, Else, EndIf}
use Rattle.fort_syntax.specs.Spelled.{operator, relation, truth, tightness, binding}
use Rattle.fort_syntax.specs.Grammar.{sort, optional_sort, is_carried, is_deep}
use Rattle.stmt_parse.specs.Tokens.{◌>>=◌}

infixr 1 ◌⊕◌
-- a text with more behind it, or nothing
abbrev pub Writer : Type 0
Writer = List ℕ → Option (List ℕ)

-- nothing can be written
abbrev pub never : Writer
never t = None

abbrev pub put : List ℕ → Writer
put s t = Some (t ++ s)

-- one text, and another behind it
abbrev pub ◌⊕◌ : Writer → Writer → Writer
◌⊕◌ v w t = v t >>= w

-- where a test holds
abbrev pub given : Bool → Writer → Writer
given b w t = if b then w t else None

-- ---- names and numbers

abbrev pub write_name : Name → Writer
write_name x = given (is_name x) (put x)

-- the digits of a number, in at most so many places
unfoldable pub write_digits : ℕ → ℕ → Writer
write_digits zero n t = Some t
write_digits (suc k) n t = (if nat_lt n 10 then Some t else write_digits k (n / 10) t) >>= put ((48 + n % 10) ∷ [])

abbrev pub write_constant : ℕ → Writer
write_constant n = given (nat_lt n (10 ^ 18)) (write_digits 18 n)

abbrev pub write_label : ℕ → Writer
write_label n = given (nat_le 1 n && nat_lt n (10 ^ 5)) (write_digits 5 n)

abbrev pub write_exponent : ℕ → Writer
write_exponent n = given (nat_le 1 n && nat_le n 9) (put ((48 + n) ∷ []))

-- ---- expressions

-- a part that is bound tightly enough
abbrev pub tight : ℕ → Expr → Writer → Writer
tight k e w = given (nat_le k (binding e)) w

abbrev mutual
  pub write_expression : Expr → Writer
  write_expression (Const n) = write_constant n
  write_expression (Truth b) = put (truth b)
  write_expression (Var x) = write_name x
  write_expression (Apply' x _ args) = write_name x ⊕ put (codes "(") ⊕ write_arguments args ⊕ put (codes ")")
  write_expression (Paren' _ (only e)) = put (codes "(") ⊕ write_expression e ⊕ put (codes ")")
  write_expression (Pos' _ (only e)) = put (codes "+") ⊕ tight 5 e (write_expression e)
  write_expression (Neg' _ (only e)) = put (codes "-") ⊕ tight 5 e (write_expression e)
  write_expression (Power' _ (only e) n) = tight 7 e (write_expression e) ⊕ put (codes "**") ⊕ write_exponent n
  write_expression (Bin' o _ (only a) _ (only b)) =
      tight (tightness o) a (write_expression a) ⊕ put (operator o) ⊕ tight (tightness o + 1) b (write_expression b)
  write_expression (Rel' o _ (only a) _ (only b)) =
      tight 4 a (write_expression a) ⊕ put (relation o) ⊕ tight 4 b (write_expression b)
  write_expression (Not' _ (only e)) = put (codes ".NOT.") ⊕ tight 3 e (write_expression e)
  write_expression (And' _ (only a) _ (only b)) =
      tight 1 a (write_expression a) ⊕ put (codes ".AND.") ⊕ tight 2 b (write_expression b)
  write_expression (Or' _ (only a) _ (only b)) =
      write_expression a ⊕ put (codes ".OR.") ⊕ tight 1 b (write_expression b)

  -- one or more expressions, with commas between them
  pub write_arguments : {m : Count} → Row_of-Expr m → Writer
  write_arguments end_of-Expr = never
  write_arguments (more_of-Expr e es) = write_expression e ⊕ write_more_arguments es

  pub write_more_arguments : {m : Count} → Row_of-Expr m → Writer
  write_more_arguments end_of-Expr = put []
  write_more_arguments (more_of-Expr e es) = put (codes ",") ⊕ write_expression e ⊕ write_more_arguments es

-- ---- lists

abbrev pub write_more : {T : Type 0} → (T → Writer) → List T → Writer
write_more w [] = put []
write_more w (x ∷ xs) = put (codes ",") ⊕ w x ⊕ write_more w xs

abbrev pub write_list : {T : Type 0} → (T → Writer) → List T → Writer
write_list w [] = never
write_list w (x ∷ xs) = w x ⊕ write_more w xs

abbrev pub in_round : Writer → Writer
in_round w = put (codes "(") ⊕ w ⊕ put (codes ")")

abbrev pub write_brackets : {T : Type 0} → (T → Writer) → List T → Writer
write_brackets w [] = put []
write_brackets w (x ∷ xs) = in_round (write_list w (x ∷ xs))

-- ---- declarations

abbrev pub write_dim : Dim → Writer
write_dim (dimension.Fixed n) = write_constant n
write_dim (dimension.Named x) = write_name x

abbrev pub write_item : Item → Writer
write_item i = write_name i.name ⊕ write_brackets write_dim i.dims

abbrev pub write_array : Item → Writer
write_array i = write_name i.name ⊕ in_round (write_list write_dim i.dims)

abbrev pub write_slashed : BlockName → Writer
write_slashed block.Bare = never
write_slashed block.Slashes = put (codes "//")
write_slashed (block.Named x) = put (codes "/") ⊕ write_name x ⊕ put (codes "/")

abbrev pub write_first_block : BlockName → Writer
write_first_block block.Bare = put []
write_first_block block.Slashes = write_slashed block.Slashes
write_first_block (block.Named x) = write_slashed (block.Named x)

abbrev pub write_more_groups : List Group → Writer
write_more_groups [] = put []
write_more_groups (g ∷ gs) = write_slashed g.block ⊕ write_list write_item g.items ⊕ write_more_groups gs

abbrev pub write_groups : List Group → Writer
write_groups [] = never
write_groups (g ∷ gs) = write_first_block g.block ⊕ write_list write_item g.items ⊕ write_more_groups gs

-- ---- executable statements

abbrev pub write_left : Expr → Writer
write_left (Var x) = write_expression (Var x)
write_left (Apply' x m args) = write_expression (Apply' x m args)
write_left _ = never

abbrev pub write_param : Param → Writer
write_param (parameter.Fixed n) = write_constant n
write_param (parameter.Named x) = write_name x

abbrev pub write_step : Option Param → Writer
write_step None = put []
write_step (Some p) = put (codes ",") ⊕ write_param p

abbrev pub write_actuals : List Expr → Writer
write_actuals = write_brackets write_expression

abbrev pub write_condition : Expr → Writer
write_condition e = in_round (write_expression e)

abbrev pub where_77 : Dialect → Writer → Writer
where_77 CommonForms w = never
where_77 SeventySeven w = w

-- a statement, however deep its brackets nest
abbrev pub write_form : Dialect → Stmt → Writer
write_form d (Subroutine x dummies) = put (codes "SUBROUTINE") ⊕ write_name x ⊕ write_brackets write_name dummies
write_form d (Function s x dummies) =
    put (optional_sort s ++ codes "FUNCTION") ⊕ write_name x ⊕ in_round (write_list write_name dummies)
write_form d (Declare s items) = put (sort s) ⊕ write_list write_item items
write_form d (Dimension items) = put (codes "DIMENSION") ⊕ write_list write_array items
write_form d (Common gs) = put (codes "COMMON") ⊕ write_groups gs
write_form d (Assign left right) = write_left left ⊕ put (codes "=") ⊕ write_expression right
write_form d (GoTo l) = put (codes "GOTO") ⊕ write_label l
write_form d (Computed ls x) =
    put (codes "GOTO") ⊕ in_round (write_list write_label ls) ⊕ put (codes ",") ⊕ write_name x
write_form d (ArithIf e l m n) =
    put (codes "IF") ⊕ write_condition e ⊕ write_label l ⊕ put (codes ",") ⊕ write_label m ⊕ put (codes ",") ⊕ write_label n
write_form d (LogicalIf' e _ (carried s)) = put (codes "IF") ⊕ write_condition e ⊕ given (is_carried s) (write_form d s)
write_form d (Do l x first last by) =
    put (codes "DO") ⊕ write_label l ⊕ write_name x ⊕ put (codes "=") ⊕ write_param first ⊕ put (codes ",")
    ⊕ write_param last ⊕ write_step by
write_form d Continue = put (codes "CONTINUE")
write_form d (Call x args) = put (codes "CALL") ⊕ write_name x ⊕ write_actuals args
write_form d Return = put (codes "RETURN")
write_form d End = put (codes "END")
write_form d (BlockIf e) = where_77 d (put (codes "IF") ⊕ write_condition e ⊕ put (codes "THEN"))
write_form d (ElseIf e) = where_77 d (put (codes "ELSEIF") ⊕ write_condition e ⊕ put (codes "THEN"))
write_form d Else = where_77 d (put (codes "ELSE"))
write_form d EndIf = where_77 d (put (codes "ENDIF"))

-- a text of a statement, where there is one
abbrev pub text_of : Dialect → Stmt → Option (List ℕ)
text_of d s = write_form d s [] >>= λ t. if is_deep t then None else Some t
