-- The grammar of statements: which texts, without blanks and in upper case, spell a statement.
use Rattle.std.specs.Prelude.{ℕ, ◌+◌, ◌-◌, ◌≡◌, ◌==◌, ◌||◌, nat_le, Bool, true, false, if◌then◌else◌, Option, Some, None, List, [], ◌∷◌, ◌++◌, codes}
use Rattle.fort_syntax.specs.TreePatterns.{row_of}
use Rattle.fort_syntax.specs.declared.dialect.Dialect.{Dialect}
use Rattle.fort_syntax.specs.declared.dialect.Dialect.TheVariants.{Common as CommonForms, SeventySeven}
use Rattle.fort_syntax.specs.declared.dialect.Sort.{Sort}
use Rattle.fort_syntax.specs.declared.dialect.Sort.TheVariants.{Integer, Logical}
use Rattle.fort_syntax.specs.declared.expr.Expr.{Expr}
use Rattle.fort_syntax.specs.declared.expr.Expr.TheVariants.{Var, Apply'}
use Rattle.fort_syntax.specs.declared.stmt.Dim.{Dim}
use Rattle.fort_syntax.specs.declared.stmt.Dim.TheVariants as dimension
use Rattle.fort_syntax.specs.declared.stmt.Item.{Item}
use Rattle.fort_syntax.specs.declared.stmt.BlockName.{BlockName}
use Rattle.fort_syntax.specs.declared.stmt.BlockName.TheVariants as block
use Rattle.fort_syntax.specs.declared.stmt.Group.{Group}
use Rattle.fort_syntax.specs.declared.stmt.Param.{Param}
use Rattle.fort_syntax.specs.declared.stmt.Param.TheVariants as parameter
use Rattle.fort_syntax.specs.declared.stmt.Stmt.{Stmt, end_of-Stmt, more_of-Stmt}
use Rattle.fort_syntax.specs.declared.stmt.Stmt.TheVariants.{Subroutine, Function, Declare, Dimension, Common, Assign, GoTo, Computed, ArithIf, LogicalIf', Do, Continue, Call, Return, End, BlockIf, ElseIf, Else, EndIf}
use Rattle.fort_syntax.specs.Spelled.{Texts, nothing, just, ◌⨾◌, bracketed, name, constant, label, expression, arguments}

-- ---- lists

-- what follows the first of a list: each with a comma before it
abbrev pub more_listed : {T : Type 0} → (T → Texts) → List T → Texts
more_listed P [] = just []
more_listed P (x ∷ xs) = just (codes ",") ⨾ P x ⨾ more_listed P xs

-- one or more, with commas between them
abbrev pub comma_list : {T : Type 0} → (T → Texts) → List T → Texts
comma_list P [] = nothing
comma_list P (x ∷ xs) = P x ⨾ more_listed P xs

-- nothing for an empty list, else brackets with the list in them
abbrev pub in_brackets : {T : Type 0} → (T → Texts) → List T → Texts
in_brackets P [] = just []
in_brackets P (x ∷ xs) = bracketed (comma_list P (x ∷ xs))

-- ---- declarations

abbrev pub dim : Dim → Texts
dim (dimension.Fixed n) = constant n
dim (dimension.Named x) = name x

-- a name, with its dimensions where it has some
abbrev pub item : Item → Texts
item i = name i.name ⨾ in_brackets dim i.dims

-- a name with dimensions
abbrev pub array : Item → Texts
array i = name i.name ⨾ bracketed (comma_list dim i.dims)

-- a block in slashes
abbrev pub slashed : BlockName → Texts
slashed block.Bare = nothing
slashed block.Slashes = just (codes "//")
slashed (block.Named x) = just (codes "/") ⨾ name x ⨾ just (codes "/")

-- the block of the first group, which may be left out
abbrev pub first_block : BlockName → Texts
first_block block.Bare = just []
first_block block.Slashes = slashed block.Slashes
first_block (block.Named x) = slashed (block.Named x)

-- groups follow each other without a comma
abbrev pub more_groups : List Group → Texts
more_groups [] = just []
more_groups (g ∷ gs) = slashed g.block ⨾ comma_list item g.items ⨾ more_groups gs

abbrev pub groups : List Group → Texts
groups [] = nothing
groups (g ∷ gs) = first_block g.block ⨾ comma_list item g.items ⨾ more_groups gs

abbrev pub sort : Sort → List ℕ
sort Integer = codes "INTEGER"
sort Logical = codes "LOGICAL"

abbrev pub optional_sort : Option Sort → List ℕ
optional_sort None = []
optional_sort (Some s) = sort s

-- ---- executable statements

-- the left side of an assignment: a name or an element
abbrev pub left_side : Expr → Texts
left_side (Var x) = expression (Var x)
left_side (Apply' x m args) = expression (Apply' x m args)
left_side _ = nothing

abbrev pub param : Param → Texts
param (parameter.Fixed n) = constant n
param (parameter.Named x) = name x

-- the step of a DO, where it has one
abbrev pub step : Option Param → Texts
step None = just []
step (Some p) = just (codes ",") ⨾ param p

-- the actuals of a CALL, where it has some
abbrev pub actuals : List Expr → Texts
actuals [] = just []
actuals (e ∷ es) = bracketed (arguments (row_of (e ∷ es)))

-- a condition in brackets
abbrev pub condition : Expr → Texts
condition e = bracketed (expression e)

-- what a logical IF may carry
abbrev pub is_carried : Stmt → Bool
is_carried (Assign _ _) = true
is_carried (GoTo _) = true
is_carried (Computed _ _) = true
is_carried (ArithIf _ _ _ _) = true
is_carried (Call _ _) = true
is_carried Continue = true
is_carried Return = true
is_carried _ = false

-- texts that only the second word `77` allows
abbrev pub with_77 : Dialect → Texts → Texts
with_77 CommonForms P = nothing
with_77 SeventySeven P = P

-- the texts of a statement, however deep its brackets nest
abbrev pub form : Dialect → Stmt → Texts
form d (Subroutine x dummies) = just (codes "SUBROUTINE") ⨾ name x ⨾ in_brackets name dummies
form d (Function s x dummies) = just (optional_sort s ++ codes "FUNCTION") ⨾ name x ⨾ bracketed (comma_list name dummies)
form d (Declare s items) = just (sort s) ⨾ comma_list item items
form d (Dimension items) = just (codes "DIMENSION") ⨾ comma_list array items
form d (Common gs) = just (codes "COMMON") ⨾ groups gs
form d (Assign left right) = left_side left ⨾ just (codes "=") ⨾ expression right
form d (GoTo l) = just (codes "GOTO") ⨾ label l
form d (Computed ls x) = just (codes "GOTO") ⨾ bracketed (comma_list label ls) ⨾ just (codes ",") ⨾ name x
form d (ArithIf e l m n) = just (codes "IF") ⨾ condition e ⨾ label l ⨾ just (codes ",") ⨾ label m ⨾ just (codes ",") ⨾ label n
form d (LogicalIf' e _ (more_of-Stmt s end_of-Stmt)) = just (codes "IF") ⨾ condition e ⨾ (λ t. (is_carried s ≡ true) × form d s t)
form d (Do l x first last by) = just (codes "DO") ⨾ label l ⨾ name x ⨾ just (codes "=") ⨾ param first ⨾ just (codes ",") ⨾ param last ⨾ step by
form d Continue = just (codes "CONTINUE")
form d (Call x args) = just (codes "CALL") ⨾ name x ⨾ actuals args
form d Return = just (codes "RETURN")
form d End = just (codes "END")
form d (BlockIf e) = with_77 d (just (codes "IF") ⨾ condition e ⨾ just (codes "THEN"))
form d (ElseIf e) = with_77 d (just (codes "ELSEIF") ⨾ condition e ⨾ just (codes "THEN"))
form d Else = with_77 d (just (codes "ELSE"))
form d EndIf = with_77 d (just (codes "ENDIF"))

-- ---- brackets

-- some bracket is the 65th that is open, where so many are open before the text; a closing bracket without an
-- opening one closes nothing
abbrev pub is_deep_from : ℕ → List ℕ → Bool
is_deep_from opened [] = false
is_deep_from opened (b ∷ rest) =
    if b == 40 then nat_le 64 opened || is_deep_from (opened + 1) rest
    else if b == 41 then is_deep_from (opened - 1) rest
    else is_deep_from opened rest

abbrev pub is_deep : List ℕ → Bool
is_deep = is_deep_from 0

-- the text spells the statement: it is one of the statement's texts, and its brackets nest at most 64 deep
abbrev pub Spells : Dialect → List ℕ → Stmt → Type 0
Spells d t s = form d s t × (is_deep t ≡ false)
