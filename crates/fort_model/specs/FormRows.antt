-- Small decks for single forms: powers, intrinsic functions, IFs, DOs, whole arrays, the numbers of calls.
use Rattle.std.specs.Prelude.{◌≡◌, ℕ, ◌==◌, Bool, false, [], ◌∷◌, Some, None, codes}
use Rattle.fort_syntax.specs.SmallDecks.{bin, rel, applied_to, labelled, A, I, J, K, M, N}
use Rattle.formula.specs.declared.value.Cell.{Cell}
use Rattle.formula.specs.declared.value.Cell.TheVariants.{Undefined}
use Rattle.fort_syntax.specs.declared.name.Name.{Name}
use Rattle.fort_syntax.specs.declared.condition.Kind.TheVariants.{RangeCheck, DivisorCheck}
use Rattle.fort_syntax.specs.declared.dialect.BinOp.TheVariants.{Add, Mul}
use Rattle.fort_syntax.specs.declared.dialect.RelOp.TheVariants.{Lt}
use Rattle.fort_syntax.specs.declared.dialect.Dialect.TheVariants.{Common, SeventySeven}
use Rattle.fort_syntax.specs.declared.expr.Expr.{Expr}
use Rattle.fort_syntax.specs.declared.expr.Expr.TheVariants.{Const, Var}
use Rattle.fort_syntax.specs.declared.stmt.Dim.TheVariants.{Fixed}
use Rattle.fort_syntax.specs.declared.stmt.Param.TheVariants as parameter
use Rattle.fort_syntax.specs.declared.stmt.Stmt.TheVariants.{Assign, ArithIf, Do, Continue, Call, Return, BlockIf, Else, EndIf}
use Rattle.fort_syntax.specs.declared.unit.Role.TheVariants.{Dummy, InCommon, Local}
use Rattle.fort_syntax.specs.declared.unit.Unit.{Unit as Routine}
use Rattle.fort_model.specs.Decks.{power, line, scalar, array, routine, function_of, processor, by_reference, by_copy, laid_out, int, negative}
use Rattle.fort_model.specs.Outcome.{Outcome, Ended, Erred}
use Rattle.fort_model.specs.Run.{run}

-- ---- I becomes the value of an expression

abbrev pub assigns : Expr → Routine
assigns e = routine (codes "P") (I ∷ []) (scalar Dummy I ∷ [])
    (line 4 (Assign (Var I) e)
    ∷ line 5 Return
    ∷ [])

abbrev pub assigned : Expr → Cell → Outcome Cell
assigned e i = run (processor Common false by_reference) (assigns e ∷ []) (assigns e) (laid_out (I ∷ []) (1 ∷ [])) (i ∷ []) 3

-- each product of a power must be in range
abbrev pub PowersAreProducts : Type 0
PowersAreProducts =
    (assigned (power (Var I) 3) (negative 5) ≡ Ended Undefined (negative 125 ∷ []) 0)
    × (assigned (power (Var I) 3) (int 40) ≡ Erred RangeCheck 4 (int 40 ∷ []))

abbrev pub mod_of : ℕ → Expr
mod_of n = applied_to (codes "MOD") (Var I ∷ Const n ∷ [])

abbrev pub IntrinsicFunctions : Type 0
IntrinsicFunctions =
    (assigned (applied_to (codes "IABS") (Var I ∷ [])) (negative 5) ≡ Ended Undefined (int 5 ∷ []) 0)
    × (assigned (applied_to (codes "IABS") (Var I ∷ [])) (negative 32768) ≡ Erred RangeCheck 4 (negative 32768 ∷ []))
    × (assigned (mod_of 3) (negative 5) ≡ Ended Undefined (negative 2 ∷ []) 0)
    × (assigned (mod_of 0) (int 5) ≡ Erred DivisorCheck 4 (int 5 ∷ []))
    × (assigned (applied_to (codes "MAX0") (Const 1 ∷ Var I ∷ Const 3 ∷ [])) (int 5) ≡ Ended Undefined (int 5 ∷ []) 0)
    × (assigned (applied_to (codes "MIN0") (Const 7 ∷ Var I ∷ Const 3 ∷ [])) (int 5) ≡ Ended Undefined (int 3 ∷ []) 0)

-- ---- an arithmetic IF

abbrev pub compare : Routine
compare = routine (codes "P") (I ∷ J ∷ []) (scalar Dummy I ∷ scalar Dummy J ∷ [])
    (line 4 (ArithIf (Var I) 10 20 30)
    ∷ labelled 5 10 (Assign (Var J) (Const 1))
    ∷ line 6 Return
    ∷ labelled 7 20 (Assign (Var J) (Const 2))
    ∷ line 8 Return
    ∷ labelled 9 30 (Assign (Var J) (Const 3))
    ∷ line 10 Return
    ∷ [])

abbrev pub compared : Cell → Outcome Cell
compared i = run (processor Common false by_reference) (compare ∷ []) compare (laid_out (I ∷ J ∷ []) (1 ∷ 1 ∷ []))
    (i ∷ Undefined ∷ []) 4

abbrev pub SignsChoose : Type 0
SignsChoose =
    (compared (negative 2) ≡ Ended Undefined (negative 2 ∷ int 1 ∷ []) 0)
    × (compared (int 0) ≡ Ended Undefined (int 0 ∷ int 2 ∷ []) 0)
    × (compared (int 2) ≡ Ended Undefined (int 2 ∷ int 3 ∷ []) 0)

-- ---- a block IF inside another: a false condition goes past the inner ELSE

abbrev pub nested : Routine
nested = routine (codes "P") (I ∷ J ∷ []) (scalar Dummy I ∷ scalar Dummy J ∷ [])
    (line 4 (BlockIf (rel Lt (Var I) (Const 5)))
    ∷ line 5 (BlockIf (rel Lt (Var I) (Const 3)))
    ∷ line 6 (Assign (Var J) (Const 1))
    ∷ line 7 Else
    ∷ line 8 (Assign (Var J) (Const 2))
    ∷ line 9 EndIf
    ∷ line 10 Else
    ∷ line 11 (Assign (Var J) (Const 3))
    ∷ line 12 EndIf
    ∷ line 13 Return
    ∷ [])

abbrev pub nested_of : ℕ → Outcome Cell
nested_of i = run (processor SeventySeven false by_reference) (nested ∷ []) nested
    (laid_out (I ∷ J ∷ []) (1 ∷ 1 ∷ [])) (int i ∷ Undefined ∷ []) 100

abbrev pub BlocksNest : Type 0
BlocksNest =
    (nested_of 1 ≡ Ended Undefined (int 1 ∷ int 1 ∷ []) 93)
    × (nested_of 4 ≡ Ended Undefined (int 4 ∷ int 2 ∷ []) 92)
    × (nested_of 6 ≡ Ended Undefined (int 6 ∷ int 3 ∷ []) 94)

-- ---- a DO that counts by 2

abbrev pub by_twos : Routine
by_twos = routine (codes "P") (J ∷ []) (scalar Dummy J ∷ scalar Local I ∷ [])
    (line 4 (Assign (Var J) (Const 0))
    ∷ line 5 (Do 10 I (parameter.Fixed 1) (parameter.Fixed 6) (Some (parameter.Fixed 2)))
    ∷ labelled 6 10 (Assign (Var J) (bin Add (Var J) (Var I)))
    ∷ line 7 Return
    ∷ [])

abbrev pub LoopsCountBySteps : Type 0
LoopsCountBySteps =
    run (processor Common false by_reference) (by_twos ∷ []) by_twos (laid_out (J ∷ []) (1 ∷ [])) (Undefined ∷ []) 10
    ≡ Ended Undefined (int 9 ∷ []) 0

-- ---- under 77 an inner DO that is not entered goes on with the test of the outer one

abbrev pub passing_over : Routine
passing_over = routine (codes "P") (M ∷ N ∷ []) (scalar Dummy M ∷ scalar Dummy N ∷ scalar Local I ∷ scalar Local J ∷ [])
    (line 4 (Do 10 I (parameter.Fixed 1) (parameter.Fixed 2) None)
    ∷ line 5 (Do 10 J (parameter.Fixed 1) (parameter.Named N) None)
    ∷ labelled 6 10 Continue
    ∷ line 7 (Assign (Var M) (Var I))
    ∷ line 8 Return
    ∷ [])

-- the entry, the outer DO, and twice the inner DO with a test of the outer one
abbrev pub PassedOverLoops : Type 0
PassedOverLoops =
    run (processor SeventySeven false by_reference) (passing_over ∷ []) passing_over
    (laid_out (M ∷ N ∷ []) (1 ∷ 1 ∷ [])) (Undefined ∷ int 0 ∷ []) 8
    ≡ Ended Undefined (int 3 ∷ int 0 ∷ []) 0

-- ---- a whole array is passed

abbrev pub set_second : Routine
set_second = routine (codes "S") (A ∷ []) (array Dummy A (Fixed 3 ∷ []) ∷ [])
    (line 5 (Assign (applied_to A (Const 2 ∷ [])) (Const 7))
    ∷ line 6 Return
    ∷ [])

abbrev pub pass_array : Routine
pass_array = routine (codes "P") (A ∷ []) (array Dummy A (Fixed 3 ∷ []) ∷ [])
    (line 12 (Call (codes "S") (Var A ∷ []))
    ∷ line 13 Return
    ∷ [])

abbrev pub array_passed : (Name → ℕ → ℕ → Bool) → Outcome Cell
array_passed copies = run (processor Common false copies) (set_second ∷ pass_array ∷ []) pass_array
    (laid_out (A ∷ []) (3 ∷ [])) (int 1 ∷ Undefined ∷ int 3 ∷ []) 6

abbrev pub ArraysArePassedWhole : Type 0
ArraysArePassedWhole =
    (array_passed by_reference ≡ Ended Undefined (int 1 ∷ int 7 ∷ int 3 ∷ []) 0)
    × (array_passed by_copy ≡ Ended Undefined (int 1 ∷ int 7 ∷ int 3 ∷ []) 0)

-- ---- the order and the numbers of calls: the functions change K in COMMON, unless a copy of K is written back
-- over it; G multiplies K by 10, H adds 1

abbrev pub changing : Name → Expr → Routine
changing f e = function_of f (J ∷ []) (scalar Dummy J ∷ scalar InCommon K ∷ [])
    (line 4 (Assign (Var K) e)
    ∷ line 5 (Assign (Var f) (Const 1))
    ∷ line 6 Return
    ∷ [])

abbrev pub G : Name
G = codes "G"

abbrev pub H : Name
H = codes "H"

abbrev pub two_calls : Expr → Expr → Routine
two_calls left right = routine (codes "P") [] (scalar InCommon K ∷ scalar Local J ∷ array Local A (Fixed 1 ∷ []) ∷ [])
    (line 14 (Assign left right)
    ∷ line 15 Return
    ∷ [])

abbrev pub called : Expr → Expr → (Name → ℕ → ℕ → Bool) → Outcome Cell
called left right copies =
    run (processor SeventySeven false copies) (changing G (bin Mul (Var K) (Const 10)) ∷ changing H
    (bin Add (Var K) (Const 1)) ∷ two_calls left right ∷ [])
    (two_calls left right) (laid_out (K ∷ []) (1 ∷ [])) (int 1 ∷ []) 11

abbrev pub copied_at : ℕ → Name → ℕ → ℕ → Bool
copied_at k unit call argument = call == k

-- A(G(K)) = H(K): the right side is evaluated first, and the left side has the first call
abbrev pub on_both_sides : (Name → ℕ → ℕ → Bool) → Outcome Cell
on_both_sides copies = called (applied_to A (applied_to G (Var K ∷ []) ∷ [])) (applied_to H (Var K ∷ [])) copies

-- J = H(G(K)): the inner call is made first, and the outer one is the first call
abbrev pub one_in_another : (Name → ℕ → ℕ → Bool) → Outcome Cell
one_in_another copies = called (Var J) (applied_to H (applied_to G (Var K ∷ []) ∷ [])) copies

abbrev pub CallsAreNumberedByTheText : Type 0
CallsAreNumberedByTheText =
    (on_both_sides by_reference ≡ Ended Undefined (int 20 ∷ []) 0)
    × (on_both_sides (copied_at 1) ≡ Ended Undefined (int 2 ∷ []) 0)
    × (on_both_sides (copied_at 2) ≡ Ended Undefined (int 10 ∷ []) 0)
    × (one_in_another (copied_at 1) ≡ Ended Undefined (int 11 ∷ []) 0)
    × (one_in_another (copied_at 2) ≡ Ended Undefined (int 2 ∷ []) 0)
