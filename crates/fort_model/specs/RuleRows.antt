-- Small decks and the rules that they break.
use Rattle.std.specs.Prelude.{◌≡◌, ℕ, ◌-◌, List, [], ◌∷◌, None, codes}
use Rattle.fort_syntax.specs.SmallDecks.{bin, rel, bracket, applied_to, A, I, J, K}
use Rattle.fort_syntax.specs.declared.dialect.BinOp.TheVariants.{Add}
use Rattle.fort_syntax.specs.declared.dialect.RelOp.TheVariants.{Lt}
use Rattle.fort_syntax.specs.declared.dialect.Dialect.TheVariants.{Common}
use Rattle.fort_syntax.specs.declared.expr.Expr.{Expr}
use Rattle.fort_syntax.specs.declared.expr.Expr.TheVariants.{Const, Var}
use Rattle.fort_syntax.specs.declared.name.Name.{Name}
use Rattle.fort_syntax.specs.declared.rule.Rule.{Rule}
use Rattle.fort_syntax.specs.declared.rule.Rule.TheVariants.{Recursion, BadArguments, SmashedNotName, SmashedTwice, SmashedCommon, BlockMissing}
use Rattle.fort_syntax.specs.declared.stmt.BlockName.TheVariants.{Named as Block}
use Rattle.fort_syntax.specs.declared.stmt.Dim.TheVariants.{Fixed}
use Rattle.fort_syntax.specs.declared.stmt.Group.{Group}
use Rattle.fort_syntax.specs.declared.stmt.Stmt.TheVariants.{Assign, Call, Return}
use Rattle.fort_syntax.specs.declared.unit.DataName.{DataName}
use Rattle.fort_syntax.specs.declared.unit.Line.{Line}
use Rattle.fort_syntax.specs.declared.unit.Role.TheVariants.{Dummy, InCommon, Local}
use Rattle.fort_syntax.specs.declared.unit.Unit.{Unit as Routine}
use Rattle.fort_syntax.specs.Units.{card_of_first}
use Rattle.fort_model.specs.Decks.{card_of_end, line, scalar, array, routine}
use Rattle.fort_model.specs.Program.{Program}
use Rattle.fort_model.specs.Rules.{cards_breaking, IsBroken}
use Rattle.fort_model.specs.VerdictRows.{two_units}
use Rattle.fort_model.specs.WalkRows.{plain_notes, alone}

-- ---- a smashed dummy and another actual

-- J is set at card 4
abbrev pub sets_first : List DataName → Routine
sets_first more = routine (codes "S") (J ∷ K ∷ []) (scalar Dummy J ∷ more)
    (line 4 (Assign (Var J) (Const 1))
    ∷ line 5 Return
    ∷ [])

abbrev pub passes : Expr → Expr → Routine
passes a b = routine (codes "P") (I ∷ A ∷ []) (scalar Dummy I ∷ array Dummy A (Fixed 3 ∷ []) ∷ [])
    (line 10 (Call (codes "S") (a ∷ b ∷ []))
    ∷ line 11 Return
    ∷ [])

-- the names smashed by S, and by P
abbrev pub passing_program : Expr → Expr → List Name → List Name → Program
passing_program a b its names =
    two_units (sets_first (scalar Dummy K ∷ [])) (plain_notes []) (passes a b) (plain_notes []) its names

abbrev pub cards_of_passing : Rule → Expr → Expr → List Name → List ℕ
cards_of_passing rule a b its = cards_breaking (passing_program a b its (I ∷ [])) rule 1 (passes a b)

-- CALL S(I, I), CALL S(I, A(I)), CALL S(I, (I)), CALL S(I, 2); and where S smashes nothing
abbrev pub SmashedActualsStandOnce : Type 0
SmashedActualsStandOnce =
    (cards_of_passing SmashedTwice (Var I) (Var I) (J ∷ []) ≡ 10 ∷ [])
    × (cards_of_passing SmashedTwice (Var I) (applied_to A (Var I ∷ [])) (J ∷ []) ≡ 10 ∷ [])
    × (cards_of_passing SmashedTwice (Var I) (bracket (Var I)) (J ∷ []) ≡ 10 ∷ [])
    × (cards_of_passing SmashedTwice (Var I) (Const 2) (J ∷ []) ≡ [])
    × (cards_of_passing SmashedTwice (Var I) (Var I) [] ≡ [])

-- CALL S(A(1), 2) and CALL S(I, 2)
abbrev pub SmashedActualsAreNames : Type 0
SmashedActualsAreNames =
    (cards_of_passing SmashedNotName (applied_to A (Const 1 ∷ [])) (Const 2) (J ∷ []) ≡ 10 ∷ [])
    × (cards_of_passing SmashedNotName (Var I) (Const 2) (J ∷ []) ≡ [])
    × (cards_of_passing SmashedNotName (applied_to A (Const 1 ∷ [])) (Const 2) [] ≡ [])

-- CALL S(I, 2), CALL S(A, 2) and CALL S(I, I .LT. 2)
abbrev pub ActualsMatchDummies : Type 0
ActualsMatchDummies =
    (cards_of_passing BadArguments (Var I) (Const 2) [] ≡ [])
    × (cards_of_passing BadArguments (Var A) (Const 2) [] ≡ 10 ∷ [])
    × (cards_of_passing BadArguments (Var I) (rel Lt (Var I) (Const 2)) [] ≡ 10 ∷ [])

-- ---- COMMON entities

abbrev pub box : Name → Group
box x = record { block = Block (codes "BOX"); items = record { name = x; dims = [] } ∷ [] }

-- a SUBROUTINE whose COMMON entity is K; the COMMON statement, INPUT and OUTPUT stand behind its head
abbrev pub with_box : Name → List Name → List DataName → List Line → Routine
with_box name dummies names lines =
    record {
      name = name;
      sort = None;
      head = card_of_first lines - 4;
      dummies = dummies;
      names = names;
      functions = [];
      blocks = box K ∷ [];
      lines = lines;
      «end» = card_of_end lines;
    }

-- it sets K at card 5, or its dummy J
abbrev pub sets : Name → Routine
sets x = with_box (codes "S") (J ∷ []) (scalar Dummy J ∷ scalar InCommon K ∷ [])
    (line 5 (Assign (Var x) (Const 2))
    ∷ line 6 Return
    ∷ [])

abbrev pub passes_common : Expr → Routine
passes_common e = with_box (codes "P") [] (scalar InCommon K ∷ scalar Local I ∷ [])
    (line 12 (Call (codes "S") (e ∷ []))
    ∷ line 13 Return
    ∷ [])

abbrev pub cards_of_common : Rule → Name → Routine → List ℕ
cards_of_common rule x u = cards_breaking (two_units (sets x) (plain_notes []) u (plain_notes []) (x ∷ []) (x ∷ [])) rule 1 u

-- CALL S(K) and CALL S(K + 1), where S sets K in COMMON; CALL S(K) where S sets its dummy; and CALL S(I)
abbrev pub CommonIsNotPassedToBeSmashed : Type 0
CommonIsNotPassedToBeSmashed =
    (cards_of_common SmashedCommon K (passes_common (Var K)) ≡ 12 ∷ [])
    × (cards_of_common SmashedCommon K (passes_common (bin Add (Var K) (Const 1))) ≡ 12 ∷ [])
    × (cards_of_common SmashedCommon J (passes_common (Var K)) ≡ 12 ∷ [])
    × (cards_of_common SmashedCommon K (passes_common (Var I)) ≡ [])
    × (cards_of_common SmashedCommon J (passes_common (Var I)) ≡ [])

-- the caller without the block
abbrev pub lacks_box : Routine
lacks_box = routine (codes "P") (I ∷ []) (scalar Dummy I ∷ [])
    (line 11 (Call (codes "S") (Var I ∷ []))
    ∷ line 12 Return
    ∷ [])

abbrev pub CallersDeclareBlocks : Type 0
CallersDeclareBlocks =
    (cards_of_common BlockMissing K lacks_box ≡ 11 ∷ [])
    × (cards_of_common BlockMissing K (passes_common (Var K)) ≡ [])

-- ---- a unit that calls itself

abbrev pub endless : Routine
endless = routine (codes "S") (I ∷ []) (scalar Dummy I ∷ [])
    (line 4 (Call (codes "S") (Var I ∷ []))
    ∷ line 5 Return
    ∷ [])

abbrev pub CallsOfItself : Type 0
CallsOfItself = IsBroken (alone Common endless (plain_notes []) []) Recursion 0 1
