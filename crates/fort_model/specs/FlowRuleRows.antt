-- Small decks that break the rules on the flow in a unit.
use Rattle.std.specs.Prelude.{◌≡◌, ℕ, List, [], ◌∷◌, None, codes}
use Rattle.fort_syntax.specs.SmallDecks.{rel, if, labelled, I, J, M}
use Rattle.fort_syntax.specs.declared.dialect.RelOp.TheVariants.{Lt, Eq}
use Rattle.fort_syntax.specs.declared.dialect.Dialect.{Dialect}
use Rattle.fort_syntax.specs.declared.dialect.Dialect.TheVariants.{Common, SeventySeven}
use Rattle.fort_syntax.specs.declared.expr.Expr.TheVariants.{Const, Var}
use Rattle.fort_syntax.specs.declared.name.Name.{Name}
use Rattle.fort_syntax.specs.declared.rule.Rule.{Rule}
use Rattle.fort_syntax.specs.declared.rule.Rule.TheVariants.{BadLastOfDo, CrossedDo, JumpIntoDo, DoSmashed, FallsOffEnd, UncutCycle}
use Rattle.fort_syntax.specs.declared.stmt.Param.TheVariants as parameter
use Rattle.fort_syntax.specs.declared.stmt.Stmt.TheVariants.{Assign, GoTo, Computed, Do, Continue, Return, BlockIf, Else, EndIf}
use Rattle.fort_syntax.specs.declared.unit.DataName.{DataName}
use Rattle.fort_syntax.specs.declared.unit.Line.{Line}
use Rattle.fort_syntax.specs.declared.unit.Role.TheVariants.{Local}
use Rattle.fort_model.specs.Decks.{line, scalar, routine}
use Rattle.fort_model.specs.Rules.{cards_breaking, IsBroken}
use Rattle.fort_model.specs.WalkRows.{plain_notes, alone}
use Rattle.fort_model.specs.CheckRows.{twice_program}

-- ---- DOs and blocks

abbrev pub cards_alone : Rule → Dialect → List DataName → List Line → List ℕ
cards_alone rule dialect names lines =
    let u = routine (codes "P") [] names lines in
    cards_breaking (alone dialect u (plain_notes []) (I ∷ J ∷ M ∷ [])) rule 0 u

abbrev pub locals : List DataName
locals = scalar Local I ∷ scalar Local J ∷ scalar Local M ∷ []

abbrev pub counts : ℕ → ℕ → Name → Line
counts card label x = line card (Do label x (parameter.Fixed 1) (parameter.Named M) None)

abbrev pub LastStatementsOfLoops : Type 0
LastStatementsOfLoops =
    (cards_alone BadLastOfDo Common locals (counts 4 10 I ∷ labelled 5 10 (GoTo 10) ∷ []) ≡ 4 ∷ [])
    × (cards_alone BadLastOfDo Common locals (labelled 4 10 Continue ∷ counts 5 10 I ∷ line 6 Return ∷ []) ≡ 5 ∷ [])
    × (cards_alone BadLastOfDo Common locals (counts 4 10 I ∷ labelled 5 10 (if (rel Eq (Var M) (Const 1)) Return) ∷ []) ≡ 4 ∷ [])
    × (cards_alone BadLastOfDo Common locals (counts 4 10 I ∷ labelled 5 10 Continue ∷ line 6 Return ∷ []) ≡ [])

-- an inner DO ends behind the outer one, or with it; a block IF ends behind a DO, or a DO behind a block
abbrev pub RangesNest : Type 0
RangesNest =
    (cards_alone CrossedDo Common locals (counts 4 10 I ∷ counts 5 20 J ∷ labelled 6 10 Continue ∷ labelled
    7 20 Continue ∷ line 8 Return ∷ []) ≡ 5 ∷ [])
    × (cards_alone CrossedDo Common locals (counts 4 10 I ∷ counts 5 10 J ∷ labelled 6 10 Continue ∷ line 8 Return ∷ []) ≡ [])
    × (cards_alone CrossedDo SeventySeven locals
    (counts 4 10 I ∷ line 5 (BlockIf (rel Lt (Var I) (Const 2))) ∷ labelled 6 10 Continue ∷ line 7 EndIf
    ∷ line 8 Return ∷ []) ≡ 5 ∷ [])
    × (cards_alone CrossedDo SeventySeven locals
    (line 4 (BlockIf (rel Lt (Var M) (Const 2))) ∷ counts 5 10 I ∷ line 6 Else ∷ labelled 7 10 Continue
    ∷ line 8 EndIf ∷ line 9 Return ∷ []) ≡ 5 ∷ [])

-- into a DO from outside, out of it, and inside; to an ELSE, and into a block from the other branch
abbrev pub JumpsStayOutside : Type 0
JumpsStayOutside =
    (cards_alone JumpIntoDo Common locals (line 4 (GoTo 20) ∷ counts 5 10 I ∷ labelled 6 20 Continue
    ∷ labelled 7 10 Continue ∷ line 8 Return ∷ []) ≡ 4 ∷ [])
    × (cards_alone JumpIntoDo Common locals (counts 5 10 I ∷ line 6 (GoTo 10) ∷ line 7
    (GoTo 20) ∷ labelled 8 10 Continue ∷ labelled 9 20 Return ∷ []) ≡ [])
    × (cards_alone JumpIntoDo SeventySeven locals
    (line 4 (BlockIf (rel Lt (Var M) (Const 2))) ∷ labelled 5 10 Continue ∷ labelled 6 20 Else ∷ line 7
    (GoTo 10) ∷ line 8 (GoTo 20) ∷ labelled 9 30 EndIf ∷ line 10 (GoTo 30) ∷ [])
    ≡ 7 ∷ 8 ∷ [])

-- the variable or the last value of a DO is set in its range; a DO counts up to its own variable
abbrev pub LoopsKeepTheirNames : Type 0
LoopsKeepTheirNames =
    (cards_alone DoSmashed Common locals
    (counts 4 10 I ∷ line 5 (Assign (Var I) (Const 1)) ∷ line 6 (Assign (Var J) (Const 1)) ∷ labelled 7 10
    (Assign (Var M) (Const 1)) ∷ line 8 (Assign (Var I) (Const 1)) ∷ line 9 Return ∷ [])
    ≡ 5 ∷ 7 ∷ [])
    × (cards_alone DoSmashed Common locals (counts 4 10 M ∷ labelled 5 10 Continue ∷ line 6 Return ∷ []) ≡ 4 ∷ [])
    × (cards_alone DoSmashed Common locals (counts 4 10 I ∷ counts 5 10 I ∷ labelled 6 10 Continue ∷ line 7 Return ∷ []) ≡ 5 ∷ [])

-- a computed GO TO may end a unit only without 77; a unit without statements is at fault at its END
abbrev pub UnitsEnd : Type 0
UnitsEnd =
    (cards_alone FallsOffEnd Common locals (labelled 4 10 Continue ∷ line 5 (Computed (10 ∷ []) M) ∷ []) ≡ [])
    × (cards_alone FallsOffEnd SeventySeven locals (labelled 4 10 Continue ∷ line 5 (Computed (10 ∷ []) M) ∷ []) ≡ 5 ∷ [])
    × (cards_alone FallsOffEnd Common locals (line 4 Continue ∷ []) ≡ 4 ∷ [])
    × (cards_alone FallsOffEnd Common locals [] ≡ 1 ∷ [])

-- ---- a round without an ASSERT

-- under 77 the inner DO at card 5 may be passed over and met again
abbrev pub PassedOverInARound : Type 0
PassedOverInARound = IsBroken (twice_program SeventySeven) UncutCycle 0 5
