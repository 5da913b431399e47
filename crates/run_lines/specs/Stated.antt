-- The instructions of a statement, as they are pushed, and what they stand for.
use Rattle.std.specs.Prelude.{◌≡◌, ℕ, suc, ◌+◌, true, false, ⊤, List, [], ◌∷◌, ◌++◌, map, drop, length, Option, Some, None}
use Rattle.formula.specs.Atoms.{is_among}
use Rattle.fort_syntax.specs.TreePatterns.{carried, row_of}
use Rattle.fort_syntax.specs.Names.{subroutine}
use Rattle.fort_syntax.specs.declared.name.Name.{Name}
use Rattle.fort_syntax.specs.declared.stmt.Param.{Param}
use Rattle.fort_syntax.specs.declared.stmt.Param.TheVariants.{Fixed, Named}
use Rattle.fort_syntax.specs.declared.stmt.Stmt.{Stmt}
use Rattle.fort_syntax.specs.declared.stmt.Stmt.TheVariants as stmt
use Rattle.fort_syntax.specs.declared.unit.Unit.{Unit as Routine}
use Rattle.fort_model.specs.Calls.{sites_in}
use Rattle.fort_model.specs.Flow.{target, next_branch, next_point}
use Rattle.fort_model.specs.Sites.{calls_in}
use Rattle.run_code.specs.Code as code
use Rattle.run_shapes.specs.Coded.{AreSlotsOf}
use Rattle.run_shapes.specs.Seen.{call_at, seen}
use Rattle.run_shapes.specs.declared.instr.Instr.{Instr}
use Rattle.run_shapes.specs.declared.instr.Instr.TheVariants.{Number, One, Load, Refer, Forget, Assigned, Jump, Turn, Signs, Ways, Choose, BeginDo, ResultOf, Stop}
use Rattle.run_shapes.specs.declared.slots.Slots.{Slots}
use Rattle.run_shapes.specs.declared.tests.Test.{Test}
use Rattle.run_shapes.specs.declared.unit_code.CallCode.{CallCode}
use Rattle.run_coding.specs.Meanings.{AreHere, IsHere}
use Rattle.run_coding.specs.Pushed.{actuals_listed, pushed, slot_in}

-- a parameter of a DO, and its step, where it has one
abbrev pub param_pushed : List Name → Param → Instr
param_pushed names (Fixed c) = Number c
param_pushed names (Named x) = Load (slot_in names x)

abbrev pub step_pushed : List Name → Option Param → Instr
step_pushed names None = One
step_pushed names (Some m) = param_pushed names m

-- The instructions of a statement at a point, with k calls before it. An instruction goes on behind it, and another one, if it is
-- a DO, behind its range. Its targets stand from a place of their table on.
abbrev pub stmt_pushed : Routine → List Name → Instr → Instr → ℕ → ℕ → ℕ → Stmt → List Instr
stmt_pushed u names behind over pc place k (stmt.Assign l r) =
    pushed u names true (k + length (sites_in u l)) r ++ (pushed u names false k l ++ (Assigned ∷ behind ∷ []))
stmt_pushed u names behind over pc place k (stmt.GoTo label) = Jump (target u.lines label) ∷ []
stmt_pushed u names behind over pc place k (stmt.Computed labels x) = Load (slot_in names x) ∷ Choose place
    (length labels) ∷ behind ∷ []
stmt_pushed u names behind over pc place k (stmt.ArithIf e l m n) = pushed u names true k e ++ (Signs place ∷ [])
stmt_pushed u names behind over pc place k (stmt.LogicalIf' e _ (carried b)) =
    pushed u names true k e ++ (Turn ∷ behind ∷ stmt_pushed u names behind over pc place (k + length (sites_in u e)) b)
stmt_pushed u names behind over pc place k (stmt.Do label x first last by) =
    param_pushed names first ∷ param_pushed names last ∷ step_pushed names by ∷ BeginDo (slot_in names x) (suc pc) ∷ over ∷ []
stmt_pushed u names behind over pc place k stmt.Continue = behind ∷ []
stmt_pushed u names behind over pc place k (stmt.Call f args) = actuals_listed u names (suc k) args ++
    (Refer k ∷ Forget ∷ behind ∷ [])
stmt_pushed u names behind over pc place k stmt.Return = ResultOf ∷ Jump (length u.lines) ∷ []
stmt_pushed u names behind over pc place k (stmt.BlockIf e) = pushed u names true k e ++
    (Ways (next_point u pc) (next_branch u pc) ∷ [])
stmt_pushed u names behind over pc place k (stmt.ElseIf e) = pushed u names true k e ++
    (Ways (next_point u pc) (next_branch u pc) ∷ [])
stmt_pushed u names behind over pc place k stmt.Else = behind ∷ []
stmt_pushed u names behind over pc place k stmt.EndIf = behind ∷ []
stmt_pushed u names behind over pc place k _ = Stop ∷ []

-- the targets of a statement
abbrev pub aims : Routine → Stmt → List ℕ
aims u (stmt.Computed labels x) = map (target u.lines) labels
aims u (stmt.ArithIf e l m n) = target u.lines l ∷ target u.lines m ∷ target u.lines n ∷ []
aims u (stmt.LogicalIf' e _ (carried b)) = aims u b
aims u _ = []

-- ---- what they stand for

abbrev pub ParamHere : List Name → Param → Type 0
ParamHere names (Fixed c) = ⊤
ParamHere names (Named x) = is_among x names ≡ true

abbrev pub StepHere : List Name → Option Param → Type 0
StepHere names None = ⊤
StepHere names (Some m) = ParamHere names m

-- each name of a statement with k calls before it has a slot, each call stands at its place, and behind the range of a DO the
-- flow goes on as it is to go on
abbrev pub StmtHere : Routine → List Routine → List Name → List CallCode → code.Instr → ℕ → ℕ → Stmt → Type 0
StmtHere u units names calls over pc k (stmt.Assign l r) = IsHere u units names calls k l
    × IsHere u units names calls (k + calls_in u l) r
StmtHere u units names calls over pc k (stmt.Computed labels x) = is_among x names ≡ true
StmtHere u units names calls over pc k (stmt.ArithIf e l m n) = IsHere u units names calls k e
StmtHere u units names calls over pc k (stmt.LogicalIf' e _ (carried b)) =
    IsHere u units names calls k e × StmtHere u units names calls over pc (k + calls_in u e) b
StmtHere u units names calls over pc k (stmt.Do label x first last by) =
    (is_among x names ≡ true) × ParamHere names first × ParamHere names last × StepHere names by
    × (over ≡ code.over_code u (target u.lines label) pc)
StmtHere u units names calls over pc k (stmt.Call f args) =
    (call_at calls k ≡ record { number = suc k; callee = subroutine units f; actuals = code.count (row_of args) })
    × AreHere u units names calls (suc k) (row_of args)
StmtHere u units names calls over pc k (stmt.BlockIf e) = IsHere u units names calls k e
StmtHere u units names calls over pc k (stmt.ElseIf e) = IsHere u units names calls k e
StmtHere u units names calls over pc k _ = ⊤

-- the pushed instructions of a statement stand for its code
abbrev pub StmtPushedIsCode : Type 0
StmtPushedIsCode =
    (u : Routine) (units : List Routine) (slots : Slots) (tests : List Test) (calls : List CallCode) (targets : List ℕ)
    (behind over : Instr) (card pc place k : ℕ) (s : Stmt) (more : List ℕ)
    → AreSlotsOf u slots → seen slots tests calls targets behind ≡ code.behind_code u card pc
    → drop place targets ≡ aims u s ++ more
    → StmtHere u units slots.names calls (seen slots tests calls targets over) pc k s
    → map (seen slots tests calls targets) (stmt_pushed u slots.names behind over pc place k s)
    ≡ code.stmt_code u units card pc k s
