-- How the test of a DO comes out.
use Rattle.std.specs.Prelude.{ℕ}
use Rattle.formula.specs.Tree.{Tree}
use Rattle.formula.specs.declared.function.BuiltIn.TheVariants.{AtMost, Less}
use Rattle.fort_model.specs.Seen.{Named, See, ◌>>=◌, ◌>>◌, see}
use Rattle.fort_model.specs.Senses.{make2}
use Rattle.fort_model.specs.WalkCalls.{Sight}
use Rattle.fort_model.specs.WalkStmt.{left_with, parameter, taken, with_name}
use Rattle.walk_flow.specs.declared.loops.DoTest.{DoTest}
use Rattle.walk_loops.specs.Loops.{next_sum}

module _ (w : Sight Tree) (card : ℕ) (now : Named Tree) (d : DoTest) where
  -- the next value of the variable, and the last one
  abbrev pub next_and_last : See Tree (Tree × Tree)
  next_and_last = next_sum w card now d.variable d.step >>= λ sum. parameter w card now d.last >>= λ last. see (sum, last)

  -- a DO goes round again with the next value
  abbrev pub with_next : Tree × Tree → See Tree (Named Tree)
  with_next b = taken w (make2 w.sense AtMost (b.0) (b.1)) >> see (with_name now d.variable (b.0))

  abbrev pub goes_round : See Tree (Named Tree)
  goes_round = next_and_last >>= with_next

  -- a DO is left
  abbrev pub without_next : Tree × Tree → See Tree (Named Tree)
  without_next b = taken w (make2 w.sense Less (b.1) (b.0)) >> see (with_name now d.variable
      (left_with w w.program.dialect (b.0)))

  abbrev pub is_left : See Tree (Named Tree)
  is_left = next_and_last >>= without_next
