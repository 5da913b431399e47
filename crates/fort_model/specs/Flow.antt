-- Where a statement leads. This is a matter of the text alone: a choice stands for what values
-- decide in a run. The executable statements of a unit are points, counted from 0; the number of
-- statements stands for the end of the unit, which a RETURN reaches. Choices count from 1.
use Rattle.std.specs.Prelude.{ℕ, zero, suc, pred, ◌+◌, ◌==◌, Bool, true, false, cond, nat_lt, List, [], ◌∷◌, map, length, drop, Option, Some, None, slice_get}
use Rattle.fort_syntax.specs.TreePatterns.{carried}
use Rattle.fort_syntax.specs.declared.name.Name.{Name}
use Rattle.fort_syntax.specs.declared.dialect.Dialect.{Dialect}
use Rattle.fort_syntax.specs.declared.dialect.Dialect.TheVariants.{Common, SeventySeven}
use Rattle.fort_syntax.specs.declared.stmt.Param.{Param}
use Rattle.fort_syntax.specs.declared.stmt.Stmt.{Stmt}
use Rattle.fort_syntax.specs.declared.stmt.Stmt.TheVariants.{Assign, GoTo, Computed, ArithIf, LogicalIf', Do, Continue, Call, Return, BlockIf, ElseIf, Else, EndIf}
use Rattle.fort_syntax.specs.declared.unit.Line.{Line}
use Rattle.fort_syntax.specs.declared.unit.Unit.{Unit as Routine}

-- the point of the first statement with a label
abbrev pub target : List Line → ℕ → ℕ
target [] label = 0
target (line ∷ lines) label = cond (line.label == label) 0 (suc (target lines label))

-- ---- block IF

-- what a statement is to the block IFs around it
pub data Part : Type 0 where
  Opens Branches Closes Plain : Part

abbrev pub part_of : Stmt → Part
part_of (BlockIf e) = Opens
part_of (ElseIf e) = Branches
part_of Else = Branches
part_of EndIf = Closes
part_of _ = Plain

abbrev pub part_in : Option Line → Part
part_in None = Plain
part_in (Some line) = part_of line.stmt

-- behind a statement, how many block IFs are open that were not open at the start
abbrev pub level_behind : Part → ℕ → ℕ
level_behind Opens level = suc level
level_behind Closes level = pred level
level_behind _ level = level

-- at level 0 an ELSE IF, ELSE or END IF begins the next branch, and an END IF ends the block
abbrev pub is_branch : Part → ℕ → Bool
is_branch Branches zero = true
is_branch Closes zero = true
is_branch _ level = false

abbrev pub is_close : Part → ℕ → Bool
is_close Closes zero = true
is_close _ level = false

-- how many statements stand before the first that is sought, by its part and level
abbrev pub lines_before : (Part → ℕ → Bool) → List Line → ℕ → ℕ
lines_before sought [] level = 0
lines_before sought (line ∷ lines) level =
    let part = part_of line.stmt in
    cond (sought part level) 0 (suc (lines_before sought lines (level_behind part level)))

-- the next ELSE IF, ELSE or END IF of the block IF whose BlockIf or ELSE IF stands at a point
abbrev pub next_branch : Routine → ℕ → ℕ
next_branch u pc = suc pc + lines_before is_branch (drop (suc pc) u.lines) 0

-- the END IF of the block IF that a statement at a point belongs to
abbrev pub end_if : Routine → ℕ → ℕ
end_if u pc = suc pc + lines_before is_close (drop (suc pc) u.lines) 0

-- the flow goes on from a statement to the next one; from the last of a block to the END IF
abbrev pub next_by : Part → Routine → ℕ → ℕ
next_by Branches u pc = end_if u (suc pc)
next_by _ u pc = suc pc

abbrev pub next_point : Routine → ℕ → ℕ
next_point u pc = next_by (part_in (slice_get u.lines (suc pc))) u pc

-- ---- DO

-- a DO: its point, its variable, its last value, and its step
pub record Loop : Type 0 where
  pub at : ℕ
  pub variable : Name
  pub last : Param
  pub step : Option Param

-- a DO at the point i is put before the DOs that were met before it, where its last statement stands at pc
abbrev pub loop_of : List Line → ℕ → ℕ → Stmt → List Loop → List Loop
loop_of all pc i (Do label x first last step) around =
    cond (target all label == pc) (record { at = i; variable = x; last = last; step = step } ∷ around) around
loop_of all pc i _ around = around

-- the same for some lines, of which the first stands at the point i
abbrev pub loops_from : List Line → ℕ → ℕ → List Line → List Loop → List Loop
loops_from all pc i [] around = around
loops_from all pc i (line ∷ lines) around = loops_from all pc (suc i) lines (loop_of all pc i line.stmt around)

-- the DOs whose last statement stands at a point, the innermost first
abbrev pub loops_at : Routine → ℕ → List Loop
loops_at u pc = loops_from u.lines pc 0 u.lines []

-- the DOs of a list that stand before a point
abbrev pub around : ℕ → List Loop → List Loop
around pc [] = []
around pc (d ∷ ds) =
    let rest = around pc ds in
    cond (nat_lt d.at pc) (d ∷ rest) rest

-- the DOs around the one at pc that have the same last statement
abbrev pub loops_around : Routine → ℕ → ℕ → List Loop
loops_around u last pc = around pc (loops_at u last)

-- ---- where choices lead

-- there is no choice
abbrev pub one_way : ℕ → List ℕ → Option ℕ
one_way q [] = Some q
one_way q (i ∷ cs) = None

-- one choice of several points
abbrev pub chosen : List ℕ → ℕ → Option ℕ
chosen qs zero = None
chosen qs (suc i) = slice_get qs i

abbrev pub one_of : List ℕ → List ℕ → Option ℕ
one_of qs [] = None
one_of qs (i ∷ []) = chosen qs i
one_of qs (i ∷ (j ∷ cs)) = None

-- DOs are tested in turn: 1 goes round again, 2 leaves; with all left the flow goes on at a point
abbrev pub through : ℕ → List Loop → List ℕ → Option ℕ
through q [] cs = one_way q cs
through q (d ∷ ds) [] = None
through q (d ∷ ds) (zero ∷ cs) = None
through q (d ∷ ds) (suc zero ∷ cs) = one_way (suc d.at) cs
through q (d ∷ ds) (suc (suc zero) ∷ cs) = through q ds cs
through q (d ∷ ds) (suc (suc (suc i)) ∷ cs) = None

-- behind a statement the DOs are tested whose last statement it is
abbrev pub behind : Routine → ℕ → List ℕ → Option ℕ
behind u pc cs = through (next_point u pc) (loops_at u pc) cs

-- behind a DO that is not entered the DOs around it are tested that have the same last statement
abbrev pub passed_over : Routine → ℕ → ℕ → List ℕ → Option ℕ
passed_over u last pc cs = through (next_point u last) (loops_around u last pc) cs

-- a DO is entered; under 77 by the choice 1, and by the choice 2 it is not
abbrev pub leads_do : Dialect → Routine → ℕ → ℕ → List ℕ → Option ℕ
leads_do Common u last pc cs = one_way (suc pc) cs
leads_do SeventySeven u last pc [] = None
leads_do SeventySeven u last pc (zero ∷ cs) = None
leads_do SeventySeven u last pc (suc zero ∷ cs) = one_way (suc pc) cs
leads_do SeventySeven u last pc (suc (suc zero) ∷ cs) = passed_over u last pc cs
leads_do SeventySeven u last pc (suc (suc (suc i)) ∷ cs) = None

-- a computed GO TO goes to one of its labels; under 77 the choice behind the last label goes on behind the statement
abbrev pub leads_computed : Dialect → Routine → ℕ → List ℕ → List ℕ → Option ℕ
leads_computed Common u pc qs cs = one_of qs cs
leads_computed SeventySeven u pc qs [] = None
leads_computed SeventySeven u pc qs (i ∷ cs) = cond (i == suc (length qs)) (behind u pc cs) (one_of qs (i ∷ cs))

-- the point that a statement at a point leads to under these choices; None where they are not choices of it
abbrev pub leads : Dialect → Routine → ℕ → Stmt → List ℕ → Option ℕ
leads dialect u pc (Assign left right) cs = behind u pc cs
leads dialect u pc (GoTo label) cs = one_way (target u.lines label) cs
leads dialect u pc (Computed labels x) cs = leads_computed dialect u pc (map (target u.lines) labels) cs
leads dialect u pc (ArithIf e l m n) cs = one_of (map (target u.lines) (l ∷ m ∷ n ∷ [])) cs
leads dialect u pc (LogicalIf' e _ (carried s)) [] = None
leads dialect u pc (LogicalIf' e _ (carried s)) (zero ∷ cs) = None
leads dialect u pc (LogicalIf' e _ (carried s)) (suc zero ∷ cs) = leads dialect u pc s cs
leads dialect u pc (LogicalIf' e _ (carried s)) (suc (suc zero) ∷ cs) = behind u pc cs
leads dialect u pc (LogicalIf' e _ (carried s)) (suc (suc (suc i)) ∷ cs) = None
leads dialect u pc (Do label x first last step) cs = leads_do dialect u (target u.lines label) pc cs
leads dialect u pc Continue cs = behind u pc cs
leads dialect u pc (Call f args) cs = behind u pc cs
leads dialect u pc Return cs = one_way (length u.lines) cs
leads dialect u pc (BlockIf e) cs = one_of (next_point u pc ∷ next_branch u pc ∷ []) cs
leads dialect u pc (ElseIf e) cs = one_of (next_point u pc ∷ next_branch u pc ∷ []) cs
leads dialect u pc Else cs = behind u pc cs
leads dialect u pc EndIf cs = behind u pc cs
leads dialect u pc _ cs = None

abbrev pub leads_by : Dialect → Routine → ℕ → Option Line → List ℕ → Option ℕ
leads_by dialect u pc None cs = None
leads_by dialect u pc (Some line) cs = leads dialect u pc line.stmt cs

-- the point that the statement at a point leads to; None too where no statement stands there
abbrev pub leads_at : Dialect → Routine → ℕ → List ℕ → Option ℕ
leads_at dialect u pc cs = leads_by dialect u pc (slice_get u.lines pc) cs
