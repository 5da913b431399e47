-- Parts of how DOs begin and are tested.
use Rattle.std.specs.Prelude.{ℕ, Option}
use Rattle.formula.specs.Tree.{Tree}
use Rattle.formula.specs.declared.function.BuiltIn.TheVariants.{And, AtMost, Plus}
use Rattle.fort_syntax.specs.declared.name.Name.{Name}
use Rattle.fort_syntax.specs.declared.stmt.Param.{Param}
use Rattle.fort_model.specs.Seen.{Named, See, ◌>>=◌}
use Rattle.fort_model.specs.Senses.{make2, make3, natural, of_terms}
use Rattle.fort_model.specs.WalkCalls.{Sight}
use Rattle.fort_model.specs.WalkExpr.{ranged, read}
use Rattle.fort_model.specs.WalkStmt.{step_value}

-- without 77 the first value is at least 1 and at most the last one, and the step at least 1
abbrev pub fits : Tree → Tree → Tree → Tree
fits first last step =
    make3 of_terms And (make2 of_terms AtMost (natural of_terms 1) first) (make2 of_terms AtMost first last)
    (make2 of_terms AtMost (natural of_terms 1) step)

-- the sum of a variable, which is read, and the step, which must be in range
abbrev pub next_sum : Sight Tree → ℕ → Named Tree → Name → Option Param → See Tree Tree
next_sum w card now x step = read w card (now x) >>= λ i. step_value w card now step >>= λ by.
    ranged w card (make2 w.sense Plus i by)
