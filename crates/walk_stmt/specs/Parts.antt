-- Parts of how statements are performed.
use Rattle.std.specs.Prelude.{ℕ, List}
use Rattle.formula.specs.Tree.{Tree}
use Rattle.fort_syntax.specs.Names.{is_function, subroutine}
use Rattle.fort_syntax.specs.TreePatterns.{row_of}
use Rattle.fort_syntax.specs.declared.expr.Expr.{Expr}
use Rattle.fort_syntax.specs.declared.name.Name.{Name}
use Rattle.fort_model.specs.Seen.{Named, See, ◌>>=◌, ◌>>◌, see}
use Rattle.fort_model.specs.Senses.{negated}
use Rattle.fort_model.specs.WalkCalls.{Sight, call}
use Rattle.fort_model.specs.WalkExpr.{operands, value}
use Rattle.fort_model.specs.WalkStmt.{assign, behind, result, taken}

module _ (w : Sight Tree) (card pc : ℕ) (now : Named Tree) where
  abbrev pub of_assignment : Expr → Expr → List ℕ → See Tree (Named Tree)
  of_assignment left right cs = value w card now right >>= λ v. assign w card now left v >>= λ after. behind w card pc after cs

  abbrev pub of_call : Name → List Expr → List ℕ → See Tree (Named Tree)
  of_call f args cs = operands w card now (row_of args) >>= λ xs. call w card (subroutine w.program.units f)
      now xs >>= λ after. behind w card pc (after.0) cs

  abbrev pub of_return : See Tree (Named Tree)
  of_return = result w card now (is_function w.unit) >> see now

  -- a logical IF whose condition is false
  abbrev pub of_passed : Expr → List ℕ → See Tree (Named Tree)
  of_passed e cs = value w card now e >>= λ v. taken w (negated w.sense v) >> behind w card pc now cs
