-- Small decks and what becomes of their runs. A run with n steps ends with the steps that are left.
use Rattle.std.specs.Prelude.{◌≡◌, ℕ, ◌==◌, Bool, true, false, ◌&&◌, ◌||◌, [], ◌∷◌, ◌++◌, replicate, None, codes}
use Rattle.formula.specs.Atoms.{same_bytes}
use Rattle.fort_syntax.specs.SmallDecks.{bin, rel, bracket, applied_to, if, labelled, A, F, I, J, K, M, N}
use Rattle.formula.specs.declared.value.Cell.{Cell}
use Rattle.formula.specs.declared.value.Cell.TheVariants.{Undefined}
use Rattle.fort_syntax.specs.declared.name.Name.{Name}
use Rattle.fort_syntax.specs.declared.condition.Kind.TheVariants.{DefinedCheck, RangeCheck, SubscriptCheck, ChoiceCheck, LoopCheck, ResultCheck}
use Rattle.fort_syntax.specs.declared.dialect.BinOp.TheVariants.{Add, Mul, Div}
use Rattle.fort_syntax.specs.declared.dialect.RelOp.TheVariants.{Lt, Eq}
use Rattle.fort_syntax.specs.declared.dialect.Dialect.{Dialect}
use Rattle.fort_syntax.specs.declared.dialect.Dialect.TheVariants.{Common, SeventySeven}
use Rattle.fort_syntax.specs.declared.expr.Expr.TheVariants.{Const, Var}
use Rattle.fort_syntax.specs.declared.stmt.Dim.TheVariants.{Fixed, Named}
use Rattle.fort_syntax.specs.declared.stmt.Param.TheVariants as parameter
use Rattle.fort_syntax.specs.declared.stmt.Stmt.TheVariants.{Assign, Computed, Do, Continue, Call, Return, BlockIf, ElseIf, Else, EndIf}
use Rattle.fort_syntax.specs.declared.unit.Role.TheVariants.{Dummy, InCommon, Local}
use Rattle.fort_syntax.specs.declared.unit.Unit.{Unit as Routine}
use Rattle.fort_model.specs.Decks.{conj, minus, line, scalar, array, routine, function_of, processor, by_reference, by_copy, laid_out, int, negative}
use Rattle.fort_model.specs.Outcome.{Outcome, Ended, Erred, Running}
use Rattle.fort_model.specs.Run.{run}

-- ---- one is added to I at card 4

abbrev pub inc : Routine
inc = routine (codes "INC") (I ∷ []) (scalar Dummy I ∷ [])
    (line 4 (Assign (Var I) (bin Add (Var I) (Const 1)))
    ∷ line 5 Return
    ∷ [])

abbrev pub inc_of_5 : ℕ → Outcome Cell
inc_of_5 n = run (processor Common false by_reference) (inc ∷ []) inc (laid_out (I ∷ []) (1 ∷ [])) (int 5 ∷ []) n

-- two steps are too few, three are enough
abbrev pub IncTakesThreeSteps : Type 0
IncTakesThreeSteps = (inc_of_5 2 ≡ Running (int 6 ∷ [])) × (inc_of_5 3 ≡ Ended Undefined (int 6 ∷ []) 0)

-- ---- quotients and remainders are cut towards zero; 32768 is out of range

abbrev pub quotients : Routine
quotients = routine (codes "Q") (I ∷ J ∷ K ∷ []) (scalar Dummy I ∷ scalar Dummy J ∷ scalar Dummy K ∷ [])
    (line 4 (Assign (Var J) (bin Div (bracket (minus (Const 7))) (Const 2)))
    ∷ line 5 (Assign (Var K) (applied_to (codes "MOD") (minus (Const 7) ∷ Const 2 ∷ [])))
    ∷ line 6 (Assign (Var I) (bin Div (Var I) (bracket (minus (Const 1)))))
    ∷ line 7 Return
    ∷ [])

abbrev pub quotients_of : Cell → Outcome Cell
quotients_of i =
    run (processor Common false by_reference) (quotients ∷ []) quotients (laid_out (I ∷ J ∷ K ∷ [])
    (1 ∷ 1 ∷ 1 ∷ [])) (i ∷ Undefined ∷ Undefined ∷ []) 100

abbrev pub QuotientsAreCut : Type 0
QuotientsAreCut =
    (quotients_of (int 5) ≡ Ended Undefined (negative 5 ∷ negative 3 ∷ negative 1 ∷ []) 95)
    × (quotients_of (negative 32768) ≡ Erred RangeCheck 6 (negative 32768 ∷ negative 3 ∷ negative 1 ∷ []))

-- ---- A(4,1) of A(3,2) is refused, though the array has a fourth place

abbrev pub beyond : Routine
beyond = routine (codes "R") (A ∷ []) (array Dummy A (Fixed 3 ∷ Fixed 2 ∷ []) ∷ [])
    (line 5 (Assign (applied_to A (Const 4 ∷ Const 1 ∷ [])) (Const 7))
    ∷ line 6 Return
    ∷ [])

abbrev pub SubscriptsKeepToTheirDimensions : Type 0
SubscriptsKeepToTheirDimensions =
    run (processor Common true by_copy) (beyond ∷ []) beyond (laid_out (A ∷ []) (6 ∷ [])) (replicate 6 Undefined) 100
    ≡ Erred SubscriptCheck 5 (replicate 6 Undefined)

-- ---- an array whose dimensions are dummies, and one of four dimensions

abbrev pub adjustable : Routine
adjustable = routine (codes "ADJ") (A ∷ M ∷ N ∷ []) (array Dummy A (Named M ∷ Named N ∷ []) ∷ scalar Dummy M ∷ scalar Dummy N ∷ [])
    (line 5 (Assign (applied_to A (Const 1 ∷ Var N ∷ [])) (Const 7))
    ∷ line 6 Return
    ∷ [])

abbrev pub FirstSubscriptVariesFastest : Type 0
FirstSubscriptVariesFastest =
    run (processor Common false by_reference) (adjustable ∷ []) adjustable (laid_out (A ∷ M ∷ N ∷ [])
    (6 ∷ 1 ∷ 1 ∷ [])) (replicate 6 Undefined ++ int 3 ∷ int 2 ∷ []) 100
    ≡ Ended Undefined (replicate 3 Undefined ++ int 7 ∷ Undefined ∷ Undefined ∷ int 3 ∷ int 2 ∷ []) 97

abbrev pub quad : Routine
quad = routine (codes "QUAD") (A ∷ I ∷ []) (array Dummy A (replicate 4 (Fixed 2)) ∷ scalar Dummy I ∷ [])
    (line 5 (Assign (applied_to A (bin Mul (Var I) (Var I) ∷ Const 1 ∷ Const 1 ∷ Const 2 ∷ [])) (Const 5))
    ∷ line 6 Return
    ∷ [])

abbrev pub NinthPlaceOfFourDimensions : Type 0
NinthPlaceOfFourDimensions =
    run (processor SeventySeven false by_reference) (quad ∷ []) quad (laid_out (A ∷ I ∷ []) (16 ∷ 1 ∷ []))
    (replicate 16 Undefined ++ int 1 ∷ []) 100
    ≡ Ended Undefined (replicate 8 Undefined ++ int 5 ∷ replicate 7 Undefined ++ int 1 ∷ []) 97

-- ---- two DOs with one last statement, behind which I is read

abbrev pub twice : Routine
twice = routine (codes "TWICE") (M ∷ []) (scalar Dummy M ∷ scalar Local I ∷ scalar Local J ∷ [])
    (line 4 (Do 10 I (parameter.Fixed 1) (parameter.Fixed 2) None)
    ∷ line 5 (Do 10 J (parameter.Fixed 1) (parameter.Fixed 2) None)
    ∷ labelled 8 10 Continue
    ∷ line 9 (Assign (Var M) (Var I))
    ∷ line 10 Return
    ∷ [])

abbrev pub twice_in : Dialect → ℕ → Outcome Cell
twice_in dialect n = run (processor dialect false by_reference) (twice ∷ []) twice (laid_out (M ∷ []) (1 ∷ [])) (Undefined ∷ []) n

-- the variable of a DO that ended is undefined; under 77 it has the last sum
abbrev pub LoopsThatShareTheirEnd : Type 0
LoopsThatShareTheirEnd =
    (twice_in Common 1000 ≡ Erred DefinedCheck 9 (Undefined ∷ Undefined ∷ Undefined ∷ []))
    × (twice_in SeventySeven 16 ≡ Ended Undefined (int 3 ∷ []) 0)

-- ---- two calls that turn three values around

abbrev pub swap : Routine
swap = routine (codes "SWAP") (I ∷ J ∷ []) (scalar Dummy I ∷ scalar Dummy J ∷ scalar Local K ∷ [])
    (line 4 (Assign (Var K) (Var I))
    ∷ line 5 (Assign (Var I) (Var J))
    ∷ line 6 (Assign (Var J) (Var K))
    ∷ line 7 Return
    ∷ [])

abbrev pub rotate : Routine
rotate = routine (codes "ROT") (I ∷ J ∷ K ∷ []) (scalar Dummy I ∷ scalar Dummy J ∷ scalar Dummy K ∷ [])
    (line 12 (Call (codes "SWAP") (Var I ∷ Var J ∷ []))
    ∷ line 13 (Call (codes "SWAP") (Var J ∷ Var K ∷ []))
    ∷ line 14 Return
    ∷ [])

abbrev pub rotated : Bool → (Name → ℕ → ℕ → Bool) → Outcome Cell
rotated lazy copies =
    run (processor Common lazy copies) (swap ∷ rotate ∷ []) rotate (laid_out (I ∷ J ∷ K ∷ []) (1 ∷ 1 ∷ 1 ∷ []))
    (int 1 ∷ int 2 ∷ int 3 ∷ []) 100

-- the second argument of the first call and the first one of the second
abbrev pub crosswise : Name → ℕ → ℕ → Bool
crosswise unit call argument = same_bytes unit (codes "ROT") && ((call == 1 && argument == 2) || (call == 2 && argument == 1))

abbrev pub RotatedInAnyManner : Type 0
RotatedInAnyManner =
    (rotated false by_reference ≡ Ended Undefined (int 2 ∷ int 3 ∷ int 1 ∷ []) 86)
    × (rotated false by_copy ≡ Ended Undefined (int 2 ∷ int 3 ∷ int 1 ∷ []) 86)
    × (rotated true crosswise ≡ Ended Undefined (int 2 ∷ int 3 ∷ int 1 ∷ []) 86)

-- ---- a COMMON entity as the actual of a callee that sets it: reference and copy differ

abbrev pub set_common : Routine
set_common = routine (codes "S") (J ∷ []) (scalar Dummy J ∷ scalar InCommon K ∷ [])
    (line 5 (Assign (Var K) (Const 2))
    ∷ line 6 Return
    ∷ [])

abbrev pub pass_common : Routine
pass_common = routine (codes "P") [] (scalar InCommon K ∷ [])
    (line 12 (Call (codes "S") (Var K ∷ []))
    ∷ line 13 Return
    ∷ [])

abbrev pub common_passed : (Name → ℕ → ℕ → Bool) → Outcome Cell
common_passed copies = run (processor Common false copies) (set_common ∷ pass_common ∷ []) pass_common
    (laid_out (K ∷ []) (1 ∷ [])) (int 1 ∷ []) 6

abbrev pub CommonByReferenceAndByCopy : Type 0
CommonByReferenceAndByCopy =
    (common_passed by_reference ≡ Ended Undefined (int 2 ∷ []) 0)
    × (common_passed by_copy ≡ Ended Undefined (int 1 ∷ []) 0)

-- ---- an element is passed and set

abbrev pub set_dummy : Routine
set_dummy = routine (codes "S") (J ∷ []) (scalar Dummy J ∷ [])
    (line 4 (Assign (Var J) (Const 7))
    ∷ line 5 Return
    ∷ [])

abbrev pub pass_element : Routine
pass_element = routine (codes "P") (A ∷ []) (array Dummy A (Fixed 3 ∷ []) ∷ [])
    (line 11 (Call (codes "S") (applied_to A (Const 2 ∷ []) ∷ []))
    ∷ line 12 Return
    ∷ [])

abbrev pub element_passed : (Name → ℕ → ℕ → Bool) → Outcome Cell
element_passed copies = run (processor Common false copies) (set_dummy ∷ pass_element ∷ []) pass_element
    (laid_out (A ∷ []) (3 ∷ [])) (replicate 3 Undefined) 6

abbrev pub ElementsAreWrittenBack : Type 0
ElementsAreWrittenBack =
    (element_passed by_reference ≡ Ended Undefined (Undefined ∷ int 7 ∷ Undefined ∷ []) 0)
    × (element_passed by_copy ≡ Ended Undefined (Undefined ∷ int 7 ∷ Undefined ∷ []) 0)

-- ---- a local that the first call sets is undefined in the second

abbrev pub remember : Routine
remember = routine (codes "S") (I ∷ J ∷ []) (scalar Dummy I ∷ scalar Dummy J ∷ scalar Local K ∷ [])
    (line 4 (if (rel Eq (Var I) (Const 2)) (Assign (Var J) (Var K)))
    ∷ line 5 (Assign (Var K) (Const 5))
    ∷ line 6 Return
    ∷ [])

abbrev pub ask_twice : Routine
ask_twice = routine (codes "P") (J ∷ []) (scalar Dummy J ∷ [])
    (line 11 (Call (codes "S") (Const 1 ∷ Var J ∷ []))
    ∷ line 12 (Call (codes "S") (Const 2 ∷ Var J ∷ []))
    ∷ line 13 Return
    ∷ [])

-- the new cells are those of the actual 2 and of the local K
abbrev pub LocalsForget : Type 0
LocalsForget =
    run (processor Common false by_reference) (remember ∷ ask_twice ∷ []) ask_twice (laid_out (J ∷ []) (1 ∷ []))
    (Undefined ∷ []) 100
    ≡ Erred DefinedCheck 4 (Undefined ∷ int 2 ∷ Undefined ∷ [])

-- ---- FUNCTIONs: an actual is evaluated before the call; a RETURN needs the value

abbrev pub successor : Routine
successor = function_of (codes "F") (I ∷ []) (scalar Dummy I ∷ [])
    (line 4 (if (rel Lt (Var I) (Const 0)) Return)
    ∷ line 5 (Assign (Var F) (bin Add (Var I) (Const 1)))
    ∷ line 6 Return
    ∷ [])

abbrev pub add_two : Routine
add_two = routine (codes "P") (I ∷ []) (scalar Dummy I ∷ [])
    (line 11 (Assign (Var I) (applied_to F (applied_to F (Var I ∷ []) ∷ [])))
    ∷ line 12 Return
    ∷ [])

abbrev pub two_added : Cell → Outcome Cell
two_added i = run (processor Common false by_reference) (successor ∷ add_two ∷ []) add_two
    (laid_out (I ∷ []) (1 ∷ [])) (i ∷ []) 11

-- the new cell of the second run is that of the FUNCTION's own value
abbrev pub FunctionsAnswerTheirValue : Type 0
FunctionsAnswerTheirValue =
    (two_added (int 5) ≡ Ended Undefined (int 7 ∷ []) 0)
    × (two_added (negative 5) ≡ Erred ResultCheck 4 (negative 5 ∷ Undefined ∷ []))

-- ---- a lazy processor leaves out a right operand that a strict one reads

abbrev pub guarded : Routine
guarded = routine (codes "P") (I ∷ []) (scalar Dummy I ∷ scalar Local J ∷ [])
    (line 4 (if (conj (rel Lt (Var I) (Const 0)) (rel Lt (Var J) (Const 0))) (Assign (Var I) (Const 0)))
    ∷ line 5 Return
    ∷ [])

abbrev pub guarded_run : Bool → Outcome Cell
guarded_run lazy = run (processor Common lazy by_reference) (guarded ∷ []) guarded (laid_out (I ∷ []) (1 ∷ [])) (int 5 ∷ []) 3

abbrev pub LazyLeavesOut : Type 0
LazyLeavesOut =
    (guarded_run true ≡ Ended Undefined (int 5 ∷ []) 0)
    × (guarded_run false ≡ Erred DefinedCheck 4 (int 5 ∷ Undefined ∷ []))

-- ---- a DO up to N, behind which its variable is read

abbrev pub up_to : Routine
up_to = routine (codes "ZERO") (M ∷ N ∷ []) (scalar Dummy M ∷ scalar Dummy N ∷ scalar Local I ∷ [])
    (line 4 (Do 10 I (parameter.Fixed 1) (parameter.Named N) None)
    ∷ labelled 6 10 Continue
    ∷ line 7 (Assign (Var M) (Var I))
    ∷ line 8 Return
    ∷ [])

abbrev pub up_to_in : Dialect → ℕ → Outcome Cell
up_to_in dialect n = run (processor dialect false by_reference) (up_to ∷ []) up_to
    (laid_out (M ∷ N ∷ []) (1 ∷ 1 ∷ [])) (Undefined ∷ int n ∷ []) 100

abbrev pub LoopsInBothDialects : Type 0
LoopsInBothDialects =
    (up_to_in Common 0 ≡ Erred LoopCheck 4 (Undefined ∷ int 0 ∷ Undefined ∷ []))
    × (up_to_in Common 3 ≡ Erred DefinedCheck 7 (Undefined ∷ int 3 ∷ Undefined ∷ []))
    × (up_to_in SeventySeven 0 ≡ Ended Undefined (int 1 ∷ int 0 ∷ []) 96)
    × (up_to_in SeventySeven 3 ≡ Ended Undefined (int 4 ∷ int 3 ∷ []) 90)

-- ---- a computed GO TO

abbrev pub pick : Routine
pick = routine (codes "PICK") (I ∷ J ∷ []) (scalar Dummy I ∷ scalar Dummy J ∷ [])
    (line 4 (Assign (Var J) (Const 0))
    ∷ line 5 (Computed (10 ∷ 20 ∷ []) I)
    ∷ line 6 Return
    ∷ labelled 7 10 (Assign (Var J) (Const 1))
    ∷ line 8 Return
    ∷ labelled 9 20 (Assign (Var J) (Const 2))
    ∷ line 10 Return
    ∷ [])

abbrev pub picked_in : Dialect → ℕ → Outcome Cell
picked_in dialect i = run (processor dialect false by_reference) (pick ∷ []) pick
    (laid_out (I ∷ J ∷ []) (1 ∷ 1 ∷ [])) (int i ∷ Undefined ∷ []) 100

abbrev pub ChoicesInBothDialects : Type 0
ChoicesInBothDialects =
    (picked_in Common 2 ≡ Ended Undefined (int 2 ∷ int 2 ∷ []) 95)
    × (picked_in Common 3 ≡ Erred ChoiceCheck 5 (int 3 ∷ int 0 ∷ []))
    × (picked_in SeventySeven 2 ≡ Ended Undefined (int 2 ∷ int 2 ∷ []) 95)
    × (picked_in SeventySeven 3 ≡ Ended Undefined (int 3 ∷ int 0 ∷ []) 96)

-- ---- a block IF with three branches

abbrev pub sign : Routine
sign = routine (codes "SGN") (I ∷ J ∷ []) (scalar Dummy I ∷ scalar Dummy J ∷ [])
    (line 4 (BlockIf (rel Lt (Var I) (Const 0)))
    ∷ line 5 (Assign (Var J) (minus (Const 1)))
    ∷ line 6 (ElseIf (rel Eq (Var I) (Const 0)))
    ∷ line 7 (Assign (Var J) (Const 0))
    ∷ line 8 Else
    ∷ line 9 (Assign (Var J) (Const 1))
    ∷ line 10 EndIf
    ∷ line 11 Return
    ∷ [])

abbrev pub sign_of : Cell → Outcome Cell
sign_of i = run (processor SeventySeven true by_copy) (sign ∷ []) sign (laid_out (I ∷ J ∷ []) (1 ∷ 1 ∷ []))
    (i ∷ Undefined ∷ []) 100

abbrev pub OneBranchIsPerformed : Type 0
OneBranchIsPerformed =
    (sign_of (negative 7) ≡ Ended Undefined (negative 7 ∷ negative 1 ∷ []) 95)
    × (sign_of (int 0) ≡ Ended Undefined (int 0 ∷ int 0 ∷ []) 94)
    × (sign_of (int 7) ≡ Ended Undefined (int 7 ∷ int 1 ∷ []) 93)
