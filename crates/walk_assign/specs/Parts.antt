-- Parts of assignments to elements.
use Rattle.std.specs.Prelude.{ℕ, List}
use Rattle.formula.specs.Tree.{Tree}
use Rattle.formula.specs.declared.function.BuiltIn.TheVariants.{Put}
use Rattle.fort_syntax.specs.Names.{dims_of}
use Rattle.fort_syntax.specs.TreePatterns.{row_of}
use Rattle.fort_syntax.specs.declared.expr.Expr.{Expr}
use Rattle.fort_syntax.specs.declared.name.Name.{Name}
use Rattle.fort_model.specs.Seen.{Named, See, ◌>>=◌, see}
use Rattle.fort_model.specs.Senses.{make3}
use Rattle.fort_model.specs.WalkCalls.{Sight}
use Rattle.fort_model.specs.WalkExpr.{place_checked, values}
use Rattle.fort_model.specs.WalkStmt.{with_name}

module _ (w : Sight Tree) (card : ℕ) (now : Named Tree) (a : Name) where
  -- an array stands for what it stood for, with a value at the place of checked subscripts
  abbrev pub stored : List Tree → Tree → See Tree (Named Tree)
  stored is v = place_checked w card now (dims_of w.unit a) is >>= λ p. see (with_name now a (make3 w.sense Put (now a) p v))

  -- the same, where the subscripts are evaluated first
  abbrev pub element_assigned : List Expr → Tree → See Tree (Named Tree)
  element_assigned args v = values w card now (row_of args) >>= λ is. stored is v
