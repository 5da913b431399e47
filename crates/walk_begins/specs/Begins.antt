-- Parts of how DOs begin.
use Rattle.std.specs.Prelude.{ℕ, List, Option}
use Rattle.formula.specs.Tree.{Tree}
use Rattle.formula.specs.declared.function.BuiltIn.TheVariants.{AtMost, Difference, Plus}
use Rattle.fort_syntax.specs.declared.condition.Kind.TheVariants.{LoopCheck}
use Rattle.fort_syntax.specs.declared.dialect.Dialect.{Dialect}
use Rattle.fort_syntax.specs.declared.stmt.Param.{Param}
use Rattle.fort_model.specs.Flow.{target}
use Rattle.fort_model.specs.Seen.{Named, See, ◌>>=◌, ◌>>◌, see}
use Rattle.fort_model.specs.Senses.{make2, natural}
use Rattle.fort_model.specs.WalkCalls.{Sight}
use Rattle.fort_model.specs.WalkExpr.{checked, ranged}
use Rattle.fort_model.specs.WalkStmt.{begin, parameter, step_value}
use Rattle.walk_begins.specs.declared.begins.DoHead.{DoHead}

-- the first value, the last value and the step of a DO
abbrev pub limits_of : Sight Tree → ℕ → Named Tree → Param → Param → Option Param → See Tree (Tree × Tree × Tree)
limits_of w card now first last step =
    parameter w card now first >>= λ m1. parameter w card now last >>= λ m2. step_value w card now step >>= λ m3. see (m1, m2, m3)

-- under 77 the step is checked, and so are the numbers that tell how often a DO is performed
abbrev pub trips_checked : Sight Tree → ℕ → Tree → Tree → Tree → See Tree (Unit {0})
trips_checked w card m1 m2 m3 =
    checked w LoopCheck card (make2 w.sense AtMost (natural w.sense 1) m3)
    >> ranged w card (make2 w.sense Difference m2 m1)
    >> ranged w card (make2 w.sense Plus (make2 w.sense Difference m2 m1) m3)
    >> see tt

-- a DO begins with its first value, its last value and its step
abbrev pub begun : Sight Tree → Dialect → ℕ → ℕ → Named Tree → DoHead → Tree × Tree × Tree → List ℕ → See Tree (Named Tree)
begun w dialect card pc now head m cs = begin w dialect card (target w.unit.lines head.label) pc now head.variable
    (m.0) (m.1) (m.2) cs

-- the same in the dialect of the program
abbrev pub begins_with : Sight Tree → ℕ → ℕ → Named Tree → DoHead → Tree × Tree × Tree → List ℕ → See Tree (Named Tree)
begins_with w card pc now head m cs = begun w w.program.dialect card pc now head m cs

-- a DO begins: its first value, its last value and its step are read
abbrev pub begins : Sight Tree → ℕ → ℕ → Named Tree → DoHead → List ℕ → See Tree (Named Tree)
begins w card pc now head cs =
    parameter w card now head.first >>= λ m1. parameter w card now head.last >>= λ m2.
    step_value w card now head.step >>= λ m3. begins_with w card pc now head (m1, m2, m3) cs
