-- The ranges of DOs and the blocks of block IFs, and the rules on them.
use Rattle.std.specs.Prelude.{ℕ, suc, ◌-◌, Bool, true, false, not, ◌&&◌, ◌||◌, cond, nat_lt, nat_le, List, [], ◌∷◌, ◌++◌, length, Option, Some, None, slice_get}
use Rattle.std.specs.List.{list_any}
use Rattle.fort_syntax.specs.TreePatterns.{carried}
use Rattle.fort_syntax.specs.declared.name.Name.{Name}
use Rattle.fort_syntax.specs.declared.stmt.Param.{Param}
use Rattle.fort_syntax.specs.declared.stmt.Param.TheVariants.{Fixed, Named}
use Rattle.fort_syntax.specs.declared.stmt.Stmt.{Stmt}
use Rattle.fort_syntax.specs.declared.stmt.Stmt.TheVariants.{GoTo, Computed, ArithIf, LogicalIf', Do, Return, BlockIf, ElseIf, Else, EndIf}
use Rattle.fort_syntax.specs.declared.unit.Line.{Line}
use Rattle.fort_syntax.specs.declared.unit.Unit.{Unit as Routine}
use Rattle.fort_model.specs.Flow.{target, end_if, next_branch}

-- statements from a point to another one, both included; none where the second comes before the first
pub record Range : Type 0 where
  pub first : ℕ
  pub last : ℕ

abbrev pub lies_in : ℕ → Range → Bool
lies_in pc r = nat_le r.first pc && nat_le pc r.last

-- ---- DOs

-- the point of the last statement of a DO at a point: that with its label, where it stands later
abbrev pub last_of_do : Routine → ℕ → ℕ → Option ℕ
last_of_do u pc label = let q = target u.lines label in cond (nat_lt pc q && nat_lt q (length u.lines)) (Some q) None

-- a DO: its point, its range, and its names: the variable, and the parameters that are no constants
pub record DoRange : Type 0 where
  pub head : ℕ
  pub range : Range
  pub names : List Name

abbrev pub param_names : Param → List Name
param_names (Fixed c) = []
param_names (Named x) = x ∷ []

abbrev pub step_names : Option Param → List Name
step_names None = []
step_names (Some m) = param_names m

abbrev pub do_range : ℕ → List Name → Option ℕ → List DoRange
do_range pc names None = []
do_range pc names (Some q) = record { head = pc; range = record { first = suc pc; last = q }; names = names } ∷ []

abbrev pub do_of : Routine → ℕ → Stmt → List DoRange
do_of u pc (Do label x first last step) = do_range pc (x ∷ param_names first ++ param_names last ++ step_names step)
    (last_of_do u pc label)
do_of u pc _ = []

abbrev pub dos_from : Routine → ℕ → List Line → List DoRange
dos_from u pc [] = []
dos_from u pc (line ∷ lines) = do_of u pc line.stmt ++ dos_from u (suc pc) lines

-- the DOs of a unit that have a range
abbrev pub dos : Routine → List DoRange
dos u = dos_from u 0 u.lines

-- ---- blocks

-- a block stands behind a block IF, an ELSE IF or an ELSE, and before the next ELSE IF, ELSE or END IF of it
abbrev pub block_behind : Routine → ℕ → List Range
block_behind u pc = cond (nat_lt (suc pc) (next_branch u pc)) (record { first = suc pc; last = next_branch u pc - 1 } ∷ []) []

abbrev pub block_of : Routine → ℕ → Stmt → List Range
block_of u pc (BlockIf e) = block_behind u pc
block_of u pc (ElseIf e) = block_behind u pc
block_of u pc Else = block_behind u pc
block_of u pc _ = []

abbrev pub blocks_from : Routine → ℕ → List Line → List Range
blocks_from u pc [] = []
blocks_from u pc (line ∷ lines) = block_of u pc line.stmt ++ blocks_from u (suc pc) lines

-- the blocks of a unit that have statements
abbrev pub blocks : Routine → List Range
blocks u = blocks_from u 0 u.lines

-- ---- 26: the last statement of a DO

abbrev pub is_jump : Stmt → Bool
is_jump (GoTo l) = true
is_jump (Computed ls x) = true
is_jump (ArithIf e l m n) = true
is_jump Return = true
is_jump _ = false

-- what may not end a DO
abbrev pub is_bad_last : Stmt → Bool
is_bad_last (Do label x first last step) = true
is_bad_last (BlockIf e) = true
is_bad_last (ElseIf e) = true
is_bad_last Else = true
is_bad_last EndIf = true
is_bad_last (LogicalIf' e _ (carried s)) = is_jump s
is_bad_last s = is_jump s

abbrev pub is_bad_line : Option Line → Bool
is_bad_line None = true
is_bad_line (Some line) = is_bad_last line.stmt

abbrev pub ends_badly : Routine → Option ℕ → Bool
ends_badly u None = true
ends_badly u (Some q) = is_bad_line (slice_get u.lines q)

-- the label of a DO stands on no later statement, or on one that may not end it
abbrev pub has_bad_last : Routine → ℕ → Stmt → Bool
has_bad_last u pc (Do label x first last step) = ends_badly u (last_of_do u pc label)
has_bad_last u pc _ = false

-- ---- 27: ranges that cross

-- a point lies in a range, and another one behind it
abbrev pub leaves : ℕ → ℕ → Range → Bool
leaves pc q r = lies_in pc r && nat_lt r.last q

-- a DO that ends at a point crosses the range of another DO, or a block, in which it begins
abbrev pub do_crosses : Routine → ℕ → Option ℕ → Bool
do_crosses u pc None = false
do_crosses u pc (Some q) = list_any (λ d. leaves pc q d.range) (dos u) || list_any (leaves pc q) (blocks u)

-- a DO, or a block IF, begins in a range and ends behind it
abbrev pub crosses : Routine → ℕ → Stmt → Bool
crosses u pc (Do label x first last step) = do_crosses u pc (last_of_do u pc label)
crosses u pc (BlockIf e) = list_any (λ d. leaves pc (end_if u pc) d.range) (dos u)
crosses u pc _ = false

-- ---- 28: jumps into ranges

-- the labels that a statement names, other than a DO its own
abbrev pub jumps_of : Stmt → List ℕ
jumps_of (GoTo l) = l ∷ []
jumps_of (Computed ls x) = ls
jumps_of (ArithIf e l m n) = l ∷ m ∷ n ∷ []
jumps_of (LogicalIf' e _ (carried s)) = jumps_of s
jumps_of _ = []

-- a jump from one point to another enters a range
abbrev pub enters : ℕ → ℕ → Range → Bool
enters pc q r = lies_in q r && not (lies_in pc r)

abbrev pub is_branch_stmt : Stmt → Bool
is_branch_stmt (ElseIf e) = true
is_branch_stmt Else = true
is_branch_stmt _ = false

abbrev pub is_branch_line : Option Line → Bool
is_branch_line None = false
is_branch_line (Some line) = is_branch_stmt line.stmt

-- a jump goes into a range or a block, or to an ELSE IF or ELSE
abbrev pub is_bad_jump : Routine → ℕ → ℕ → Bool
is_bad_jump u pc q = list_any (λ d. enters pc q d.range) (dos u) || (list_any (enters pc q) (blocks u)
    || is_branch_line (slice_get u.lines q))

abbrev pub jumps_badly : Routine → ℕ → Stmt → Bool
jumps_badly u pc s = list_any (λ l. is_bad_jump u pc (target u.lines l)) (jumps_of s)
