-- Small decks with heads, declarations, ENDs and block IFs out of order.
use Rattle.std.specs.Prelude.{true, List, [], ◌∷◌, ◌++◌}
use Rattle.fort_syntax.specs.SmallDecks.{on_cards, plain, IsRefused, IsKept, I, J, P, Q}
use Rattle.fort_syntax.specs.declared.dialect.Dialect.TheVariants.{Common, SeventySeven}
use Rattle.fort_syntax.specs.declared.dialect.Sort.TheVariants.{Integer}
use Rattle.fort_syntax.specs.declared.expr.Expr.TheVariants.{Const, Truth, Var}
use Rattle.fort_syntax.specs.declared.rule.Rule.TheVariants.{StatementOrder, NoHead, NoEnd, BadBlockIf}
use Rattle.fort_syntax.specs.declared.stmt.Stmt.{Stmt}
use Rattle.fort_syntax.specs.declared.stmt.Stmt.TheVariants.{Subroutine, Declare, Assign, Return, End, BlockIf, ElseIf, Else, EndIf}
use Rattle.fort_syntax.specs.declared.unit.Line.{Line}

abbrev pub head : Stmt
head = Subroutine P (I ∷ [])

-- a declaration behind an assignment, and a head inside a unit
abbrev pub StatementsOutOfOrder : Type 0
StatementsOutOfOrder =
    IsRefused Common (on_cards 1 (head ∷ Assign (Var I) (Const 1) ∷ Declare Integer (plain J ∷ []) ∷
    Return ∷ End ∷ [])) StatementOrder 3
    × IsRefused Common (on_cards 1 (head ∷ Subroutine Q [] ∷ Return ∷ End ∷ [])) StatementOrder 2

-- a statement before the first head, an END behind an END, and a deck of nothing
abbrev pub HeadsAreMissed : Type 0
HeadsAreMissed =
    IsRefused Common (on_cards 4 (Assign (Var I) (Const 1) ∷ head ∷ Return ∷ End ∷ [])) NoHead 4
    × IsRefused Common (on_cards 1 (head ∷ Return ∷ End ∷ End ∷ [])) NoHead 4
    × IsRefused Common [] NoHead 1

-- the last statement is no END
abbrev pub EndsAreMissed : Type 0
EndsAreMissed =
    IsRefused Common (on_cards 1 (head ∷ Return ∷ End ∷ head ∷ Return ∷ [])) NoEnd 5
    × IsRefused Common (on_cards 1 (head ∷ [])) NoEnd 1

abbrev pub blocks : List Stmt → List Line
blocks inner = on_cards 1 (head ∷ inner ++ (Return ∷ End ∷ []))

-- an ELSE and an END IF where no block IF is open, two branches behind an ELSE, a block IF without an end
abbrev pub BlocksOutOfOrder : Type 0
BlocksOutOfOrder =
    IsRefused SeventySeven (blocks (Else ∷ [])) BadBlockIf 2
    × IsRefused SeventySeven (blocks (EndIf ∷ [])) BadBlockIf 2
    × IsRefused SeventySeven (blocks (ElseIf (Truth true) ∷ [])) BadBlockIf 2
    × IsRefused SeventySeven (blocks (BlockIf (Truth true) ∷ Else ∷ Else ∷ EndIf ∷ [])) BadBlockIf 4
    × IsRefused SeventySeven (blocks (BlockIf (Truth true) ∷ Else ∷ ElseIf (Truth true) ∷ EndIf ∷ [])) BadBlockIf 4
    × IsRefused SeventySeven (blocks (BlockIf (Truth true) ∷ BlockIf (Truth true) ∷ EndIf ∷ [])) BadBlockIf 2
    × IsKept SeventySeven (blocks (BlockIf (Truth true) ∷ BlockIf (Truth true) ∷ Else ∷ EndIf ∷ ElseIf
    (Truth true) ∷ Else ∷ EndIf ∷ []))
