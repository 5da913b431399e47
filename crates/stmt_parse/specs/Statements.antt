-- The statement that a text spells, as it is looked for: an assignment first, and else by the word that begins the text.
use Rattle.std.specs.Prelude.{ℕ, zero, suc, ◌+◌, ◌==◌, ◌&&◌, nat_lt, Bool, true, false, if◌then◌else◌, Option, Some, None, List, [], ◌∷◌, ◌++◌, length, drop, codes}
use Rattle.std.specs.List.{list_all}
use Rattle.formula.specs.Atoms.{is_digit, starts}
use Rattle.fort_syntax.specs.declared.dialect.Dialect.{Dialect}
use Rattle.fort_syntax.specs.declared.dialect.Dialect.TheVariants.{Common as CommonForms, SeventySeven}
use Rattle.fort_syntax.specs.declared.dialect.Sort.{Sort}
use Rattle.fort_syntax.specs.declared.dialect.Sort.TheVariants.{Integer, Logical}
use Rattle.fort_syntax.specs.declared.expr.Expr.{Expr}
use Rattle.fort_syntax.specs.declared.stmt.Dim.{Dim}
use Rattle.fort_syntax.specs.declared.stmt.Dim.TheVariants as dimension
use Rattle.fort_syntax.specs.declared.stmt.Item.{Item}
use Rattle.fort_syntax.specs.declared.stmt.BlockName.{BlockName}
use Rattle.fort_syntax.specs.declared.stmt.BlockName.TheVariants as block
use Rattle.fort_syntax.specs.declared.stmt.Group.{Group}
use Rattle.fort_syntax.specs.declared.stmt.Param.{Param}
use Rattle.fort_syntax.specs.declared.stmt.Param.TheVariants as parameter
use Rattle.fort_syntax.specs.declared.stmt.Stmt.{Stmt, Subroutine, Function, Declare, Dimension, Common, Assign, GoTo, Computed, ArithIf, LogicalIf, Do, Continue, Call, Return, End, BlockIf, ElseIf, Else, EndIf}
use Rattle.fort_syntax.specs.Grammar.{is_deep}
use Rattle.fort_syntax.specs.Misspelled.{begins}
use Rattle.stmt_parse.specs.Tokens.{Reading, ◌>>=◌, after, name_at, constant_at, label_at}
use Rattle.stmt_parse.specs.Parsing.{bracketed_arguments, named, parse}

-- ---- whole texts

abbrev pub is_nothing : List ℕ → Bool
is_nothing [] = true
is_nothing (b ∷ rest) = false

-- what was read is the whole text
abbrev pub whole : {A : Type 0} → A × List ℕ → Option A
whole x = if is_nothing x.1 then Some x.0 else None

-- ---- lists

-- a reader of one thing of a list
abbrev pub Reader : Type 0 → Type 0
Reader A = List ℕ → Reading A

-- further things, each behind a comma
abbrev pub more_of : {A : Type 0} → Reader A → ℕ → List A → List ℕ → Reading (List A)
more_of read zero xs t = None
more_of read (suc n) xs t =
    if begins (codes ",") t then (do
      x ← read (drop 1 t)
      more_of read n (xs ++ x.0 ∷ []) x.1)
    else Some (xs, t)

unfoldable pub list_of : {A : Type 0} → Reader A → ℕ → List ℕ → Reading (List A)
list_of read n t = do
  x ← read t
  more_of read n (x.0 ∷ []) x.1

-- a list in brackets, the first of which was read
unfoldable pub rest_of_brackets : {A : Type 0} → Reader A → ℕ → List ℕ → Reading (List A)
rest_of_brackets read n t = do
  xs ← list_of read n t
  rest ← after (codes ")") xs.1
  Some (xs.0, rest)

-- a list in brackets, or nothing
unfoldable pub brackets_at : {A : Type 0} → Reader A → ℕ → List ℕ → Reading (List A)
brackets_at read n t = if begins (codes "(") t then rest_of_brackets read n (drop 1 t) else Some ([], t)

-- ---- declarations

unfoldable pub dim_at : List ℕ → Reading Dim
dim_at t =
    if starts is_digit t then (do
      c ← constant_at t
      Some (dimension.Fixed c.0, c.1))
    else (do
      x ← name_at t
      Some (dimension.Named x.0, x.1))

unfoldable pub item_at : ℕ → List ℕ → Reading Item
item_at n t = do
  x ← name_at t
  ds ← brackets_at dim_at n x.1
  Some (record { name = x.0; dims = ds.0 }, ds.1)

-- a block in slashes, the first of which was read
unfoldable pub slashed_at : List ℕ → Reading BlockName
slashed_at t =
    if begins (codes "/") t then Some (block.Slashes, drop 1 t)
    else (do
      x ← name_at t
      rest ← after (codes "/") x.1
      Some (block.Named x.0, rest))

unfoldable pub first_block_at : List ℕ → Reading BlockName
first_block_at t = if begins (codes "/") t then slashed_at (drop 1 t) else Some (block.Bare, t)

unfoldable pub group_behind : ℕ → BlockName → List ℕ → Reading Group
group_behind n b t = do
  is ← list_of (item_at n) n t
  Some (record { block = b; items = is.0 }, is.1)

unfoldable pub slashed_group : ℕ → List ℕ → Reading Group
slashed_group n t = do
  b ← slashed_at t
  group_behind n b.0 b.1

abbrev pub more_groups_at : ℕ → ℕ → List Group → List ℕ → Reading (List Group)
more_groups_at n zero gs t = None
more_groups_at n (suc m) gs t =
    if begins (codes "/") t then (do
      g ← slashed_group n (drop 1 t)
      more_groups_at n m (gs ++ g.0 ∷ []) g.1)
    else Some (gs, t)

unfoldable pub groups_at : ℕ → List ℕ → Reading (List Group)
groups_at n t = do
  b ← first_block_at t
  g ← group_behind n b.0 b.1
  more_groups_at n n (g.0 ∷ []) g.1

-- ---- statements

-- the readers of a statement behind its first word: the whole rest must be read

unfoldable pub subroutine : ℕ → List ℕ → Option Stmt
subroutine n t = do
  x ← name_at t
  ds ← brackets_at name_at n x.1
  w ← whole ds
  Some (Subroutine x.0 w)

unfoldable pub function : ℕ → Option Sort → List ℕ → Option Stmt
function n s t = do
  x ← name_at t
  rest ← after (codes "(") x.1
  ds ← rest_of_brackets name_at n rest
  w ← whole ds
  Some (Function s x.0 w)

unfoldable pub declare : ℕ → Sort → List ℕ → Option Stmt
declare n s t = do
  is ← list_of (item_at n) n t
  w ← whole is
  Some (Declare s w)

abbrev pub is_array : Item → Bool
is_array i = nat_lt 0 (length i.dims)

unfoldable pub all_arrays : List Item → Bool
all_arrays = list_all is_array

unfoldable pub dimension_of : ℕ → List ℕ → Option Stmt
dimension_of n t = do
  is ← list_of (item_at n) n t
  w ← whole is
  if all_arrays w then Some (Dimension w) else None

unfoldable pub common : ℕ → List ℕ → Option Stmt
common n t = do
  gs ← groups_at n t
  w ← whole gs
  Some (Common w)

-- the left side of an assignment
unfoldable pub left_at : ℕ → List ℕ → Reading Expr
left_at n t = do
  x ← name_at t
  named (parse n) n x.0 x.1

unfoldable pub assign : ℕ → List ℕ → Option Stmt
assign n t = do
  left ← left_at n t
  rest ← after (codes "=") left.1
  right ← parse n 0 rest
  w ← whole right
  Some (Assign left.0 w)

unfoldable pub go_to : List ℕ → Option Stmt
go_to t = do
  l ← label_at t
  w ← whole l
  Some (GoTo w)

-- behind `GOTO(`
unfoldable pub computed : ℕ → List ℕ → Option Stmt
computed n t = do
  ls ← rest_of_brackets label_at n t
  rest ← after (codes ",") ls.1
  x ← name_at rest
  w ← whole x
  Some (Computed ls.0 w)

unfoldable pub param_at : List ℕ → Reading Param
param_at t =
    if starts is_digit t then (do
      c ← constant_at t
      Some (parameter.Fixed c.0, c.1))
    else (do
      x ← name_at t
      Some (parameter.Named x.0, x.1))

unfoldable pub step_at : List ℕ → Reading (Option Param)
step_at t =
    if begins (codes ",") t then (do
      p ← param_at (drop 1 t)
      Some (Some p.0, p.1))
    else Some (None, t)

unfoldable pub do_of : List ℕ → Option Stmt
do_of t = do
  l ← label_at t
  x ← name_at l.1
  rest ← after (codes "=") x.1
  first ← param_at rest
  rest2 ← after (codes ",") first.1
  last ← param_at rest2
  by ← step_at last.1
  w ← whole by
  Some (Do l.0 x.0 first.0 last.0 w)

unfoldable pub actuals_at : ℕ → List ℕ → Reading (List Expr)
actuals_at n t = if begins (codes "(") t then bracketed_arguments (parse n) n (drop 1 t) else Some ([], t)

unfoldable pub call : ℕ → List ℕ → Option Stmt
call n t = do
  x ← name_at t
  es ← actuals_at n x.1
  w ← whole es
  Some (Call x.0 w)

-- a condition in brackets, the first of which was read
unfoldable pub condition_at : ℕ → List ℕ → Reading Expr
condition_at n t = do
  e ← parse n 0 t
  rest ← after (codes ")") e.1
  Some (e.0, rest)

-- behind a condition: three labels
unfoldable pub arith_if : Expr → List ℕ → Option Stmt
arith_if e t = do
  l ← label_at t
  r1 ← after (codes ",") l.1
  m ← label_at r1
  r2 ← after (codes ",") m.1
  k ← label_at r2
  w ← whole k
  Some (ArithIf e l.0 m.0 w)

-- the whole text is this word
abbrev pub is_word : List ℕ → List ℕ → Bool
is_word word t = begins word t && (length t == length word)

-- GOTO with one label or several
unfoldable pub jump : ℕ → List ℕ → Option Stmt
jump n t = if begins (codes "(") t then computed n (drop 1 t) else go_to t

-- a statement that a logical IF may carry, but an IF
unfoldable pub plain : ℕ → List ℕ → Option Stmt
plain n t =
    if begins (codes "GOTO") t then jump n (drop 4 t)
    else if begins (codes "CALL") t then call n (drop 4 t)
    else if is_word (codes "CONTINUE") t then Some Continue
    else if is_word (codes "RETURN") t then Some Return
    else None

abbrev pub or_other : Option Stmt → Option Stmt → Option Stmt
or_other (Some s) other = Some s
or_other None other = other

-- behind the condition of a carried IF: it has labels
unfoldable pub carried_if : ℕ → List ℕ → Option Stmt
carried_if n t = do
  e ← condition_at n t
  arith_if e.0 e.1

unfoldable pub carried : ℕ → List ℕ → Option Stmt
carried n t = or_other (assign n t) (if begins (codes "IF(") t then carried_if n (drop 3 t) else plain n t)

abbrev pub is_77 : Dialect → Bool
is_77 CommonForms = false
is_77 SeventySeven = true

-- behind the condition of an IF
unfoldable pub behind_condition : Dialect → ℕ → Expr → List ℕ → Option Stmt
behind_condition d n e t =
    if starts is_digit t then arith_if e t
    else if is_77 d && is_word (codes "THEN") t then Some (BlockIf e)
    else (do
      s ← carried n t
      Some (LogicalIf e s))

unfoldable pub if_of : Dialect → ℕ → List ℕ → Option Stmt
if_of d n t = do
  e ← condition_at n t
  behind_condition d n e.0 e.1

-- behind `ELSEIF(`
unfoldable pub else_if : ℕ → List ℕ → Option Stmt
else_if n t = do
  e ← condition_at n t
  if is_word (codes "THEN") e.1 then Some (ElseIf e.0) else None

-- the statements of blocks, but the first
unfoldable pub block_part : ℕ → List ℕ → Option Stmt
block_part n t =
    if is_word (codes "ELSE") t then Some Else
    else if is_word (codes "ENDIF") t then Some EndIf
    else if begins (codes "ELSEIF(") t then else_if n (drop 7 t)
    else None

unfoldable pub logical_head : ℕ → List ℕ → Option Stmt
logical_head n t = if begins (codes "LOGICALFUNCTION") t then function n (Some Logical) (drop 15 t) else None

unfoldable pub typed_head : ℕ → List ℕ → Option Stmt
typed_head n t =
    if begins (codes "INTEGERFUNCTION") t then function n (Some Integer) (drop 15 t) else logical_head n t

unfoldable pub head : ℕ → List ℕ → Option Stmt
head n t =
    if begins (codes "SUBROUTINE") t then subroutine n (drop 10 t)
    else if begins (codes "FUNCTION") t then function n None (drop 8 t)
    else typed_head n t

unfoldable pub untyped_declaration : ℕ → List ℕ → Option Stmt
untyped_declaration n t =
    if begins (codes "DIMENSION") t then dimension_of n (drop 9 t)
    else if begins (codes "COMMON") t then common n (drop 6 t)
    else None

unfoldable pub declaration : ℕ → List ℕ → Option Stmt
declaration n t =
    if begins (codes "INTEGER") t then declare n Integer (drop 7 t)
    else if begins (codes "LOGICAL") t then declare n Logical (drop 7 t)
    else untyped_declaration n t

-- a statement that is no assignment and none that a logical IF may carry
unfoldable pub other : Dialect → ℕ → List ℕ → Option Stmt
other d n t =
    if begins (codes "IF(") t then if_of d n (drop 3 t)
    else if begins (codes "DO") t then do_of (drop 2 t)
    else if is_word (codes "END") t then Some End
    else if is_77 d then block_part n t
    else None

unfoldable pub by_word : Dialect → ℕ → List ℕ → Option Stmt
by_word d n t = or_other (plain n t) (or_other (head n t) (or_other (declaration n t) (other d n t)))

unfoldable pub found : Dialect → ℕ → List ℕ → Option Stmt
found d n t = or_other (assign n t) (by_word d n t)

-- the statement of a text
unfoldable pub statement_of : Dialect → List ℕ → Option Stmt
statement_of d t = if is_deep t then None else found d (length t + 2) t
