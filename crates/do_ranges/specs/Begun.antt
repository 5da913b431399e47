-- Statements behind which a range may begin.
use Rattle.std.specs.Prelude.{Bool, true, false}
use Rattle.fort_syntax.specs.declared.stmt.Stmt.{Stmt}
use Rattle.fort_syntax.specs.declared.stmt.Stmt.TheVariants.{Do, BlockIf, ElseIf, Else}

-- the range of a DO, or a block
abbrev pub begins_range : Stmt → Bool
begins_range (Do label x first last step) = true
begins_range (BlockIf e) = true
begins_range (ElseIf e) = true
begins_range Else = true
begins_range _ = false
