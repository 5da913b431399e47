-- The ends of ranges: behind each statement one range of a DO or one block may begin.
use Rattle.std.specs.Prelude.{ℕ, suc, ◌-◌, ◌||◌, Bool, false, List, [], ◌∷◌, Option, Some, None}
use Rattle.fort_syntax.specs.declared.stmt.Stmt.{Stmt}
use Rattle.fort_syntax.specs.declared.stmt.Stmt.TheVariants.{Do, BlockIf, ElseIf, Else}
use Rattle.fort_syntax.specs.declared.unit.Line.{Line}
use Rattle.fort_syntax.specs.declared.unit.Unit.{Unit as Routine}
use Rattle.fort_model.specs.Flow.{next_branch}
use Rattle.fort_model.specs.Ranges.{Range, last_of_do}

abbrev pub end_of : Option ℕ → ℕ
end_of None = 0
end_of (Some q) = q

-- the last point of the range of a DO at a point; 0 where there is none
abbrev pub do_end : Routine → ℕ → Stmt → ℕ
do_end u pc (Do label x first last step) = end_of (last_of_do u pc label)
do_end u pc _ = 0

-- the last point of the block behind a point
abbrev pub block_end : Routine → ℕ → Stmt → ℕ
block_end u pc (BlockIf e) = next_branch u pc - 1
block_end u pc (ElseIf e) = next_branch u pc - 1
block_end u pc Else = next_branch u pc - 1
block_end u pc _ = 0

-- the ends behind some statements, of which the first stands at a point
abbrev pub ends_from : (ℕ → Stmt → ℕ) → ℕ → List Line → List ℕ
ends_from f pc [] = []
ends_from f pc (line ∷ lines) = f pc line.stmt ∷ ends_from f (suc pc) lines

abbrev pub do_ends : Routine → List ℕ
do_ends u = ends_from (do_end u) 0 u.lines

abbrev pub block_ends : Routine → List ℕ
block_ends u = ends_from (block_end u) 0 u.lines

-- the range that begins behind a point
abbrev pub range_behind : ℕ → ℕ → Range
range_behind b end = record { first = suc b; last = end }

-- some range passes a test, where the first of the ends stands at a point
abbrev pub some_range : (Range → Bool) → ℕ → List ℕ → Bool
some_range test b [] = false
some_range test b (end ∷ ends) = test (range_behind b end) || some_range test (suc b) ends
