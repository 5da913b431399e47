-- What statements come to, one by one.
use Rattle.std.specs.Prelude.{ℕ, cond, ◌==◌, List, [], ◌∷◌, length, take, Option}
use Rattle.fort_syntax.specs.Names.{dims_of, subroutine}
use Rattle.fort_syntax.specs.declared.expr.Expr.{Expr}
use Rattle.fort_syntax.specs.declared.name.Name.{Name}
use Rattle.fort_syntax.specs.declared.stmt.Param.{Param}
use Rattle.fort_syntax.specs.declared.stmt.Stmt.{Stmt}
use Rattle.fort_model.specs.Flow.{target}
use Rattle.fort_model.specs.Seen.{Named}
use Rattle.fort_model.specs.WalkCalls.{Sight}
use Rattle.fort_model.specs.WalkStmt.{with_name}
use Rattle.weight_expr.specs.Listed.{operands_listed, values_listed}
use Rattle.weight_tallies.specs.Tallied.{Tally, ◌>>=◌, ◌>>◌, tallied, all_tested, next, both, all}
use Rattle.weight_tallies.specs.Tallies.{assign, begin, behind, called, judged, parameter, performed, read, selected, selector, step_weight, value}

module _ (w : Sight ℕ) (pc : ℕ) (now : Named ℕ) where
  abbrev pub assigned_part : Expr → Expr → List ℕ → Tally (Named ℕ)
  assigned_part left right cs = do
    n ← value w now right
    after ← assign w now left n
    behind w pc after cs

  abbrev pub computed_part : ℕ → Name → List ℕ → Tally (Named ℕ)
  computed_part labels x cs = do
    i ← read (now x)
    selector w.program.dialect i
    selected w pc now labels i cs

  abbrev pub decided_part : Expr → Stmt → List ℕ → Tally (Named ℕ)
  decided_part e s [] = tallied now
  decided_part e s (c ∷ cs) = do
    judged w now e
    cond (c == 1) (performed w pc now s cs) (behind w pc now cs)

  abbrev pub do_part : ℕ → Name → Param → Param → Option Param → List ℕ → Tally (Named ℕ)
  do_part label x first last by cs = do
    m1 ← parameter w now first
    m2 ← parameter w now last
    m3 ← step_weight w now by
    begin w w.program.dialect (target w.unit.lines label) pc now x m1 m2 m3 cs

  abbrev pub call_part : Name → List Expr → List ℕ → Tally (Named ℕ)
  call_part f args cs = do
    xs ← operands_listed w now args
    after ← called w (subroutine w.program.units f) now xs
    behind w pc after cs

-- an element is assigned to
abbrev pub element_part : Sight ℕ → Named ℕ → Name → List Expr → ℕ → Tally (Named ℕ)
element_part w now a args n = do
  is ← values_listed w now args
  all_tested (take (length (dims_of w.unit a)) is)
  tallied (with_name now a (next (both (both (now a) (all is)) n)))
