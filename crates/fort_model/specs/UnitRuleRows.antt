-- Small decks that break the rules on units: their names, their calls and dimensions, and what they smash.
use Rattle.std.specs.Prelude.{◌≡◌, ℕ, List, [], ◌∷◌, None, codes}
use Rattle.fort_syntax.specs.SmallDecks.{bracket, applied_to, labelled, A, F, I, J, K, M, N}
use Rattle.formula.specs.Tree.{Tree}
use Rattle.fort_syntax.specs.declared.dialect.Dialect.TheVariants.{Common}
use Rattle.fort_syntax.specs.declared.expr.Expr.{Expr}
use Rattle.fort_syntax.specs.declared.expr.Expr.TheVariants.{Const, Var}
use Rattle.fort_syntax.specs.declared.name.Name.{Name}
use Rattle.fort_syntax.specs.declared.rule.Rule.{Rule}
use Rattle.fort_syntax.specs.declared.rule.Rule.TheVariants.{DoSmashed, ClockLength, UnitTwice, UnknownUnit, BadArguments, FunctionSmashes, DimensionSmashed}
use Rattle.fort_syntax.specs.declared.stmt.Dim.{Dim}
use Rattle.fort_syntax.specs.declared.stmt.Dim.TheVariants.{Fixed, Named}
use Rattle.fort_syntax.specs.declared.stmt.Param.TheVariants as parameter
use Rattle.fort_syntax.specs.declared.stmt.Stmt.TheVariants.{Assign, Do, Continue, Call, Return}
use Rattle.fort_syntax.specs.declared.unit.Role.TheVariants.{Dummy, Local}
use Rattle.fort_syntax.specs.declared.unit.Unit.{Unit as Routine}
use Rattle.fort_model.specs.Decks.{line, scalar, array, routine, function_of}
use Rattle.fort_model.specs.Rows.{inc}
use Rattle.fort_notes.specs.Assertions.{Assertion}
use Rattle.fort_model.specs.Rules.{cards_breaking}
use Rattle.fort_model.specs.VerdictRows.{two_units}
use Rattle.fort_model.specs.WalkRows.{number, plain_notes, alone}
use Rattle.fort_model.specs.RuleRows.{sets}

-- the cards at which the second of two units breaks a rule, where the first smashes some names
abbrev pub cards_of_second : Rule → Routine → List Name → Routine → List ℕ
cards_of_second rule g its u = cards_breaking (two_units g (plain_notes []) u (plain_notes []) its []) rule 1 u

-- ---- adjustable dimensions

abbrev pub takes_array : Routine
takes_array = routine (codes "S") (A ∷ N ∷ []) (array Dummy A (Named N ∷ []) ∷ scalar Dummy N ∷ []) (line 5 Return ∷ [])

abbrev pub gives_array : Dim → Expr → Routine
gives_array d e = routine (codes "P") (A ∷ K ∷ []) (array Dummy A (d ∷ []) ∷ scalar Dummy K ∷ [])
    (line 10 (Call (codes "S") (Var A ∷ e ∷ []))
    ∷ line 11 Return
    ∷ [])

-- the actual for a dimension is the actual array's own dimension, bare
abbrev pub AdjustableDimensionsAgree : Type 0
AdjustableDimensionsAgree =
    (cards_of_second BadArguments takes_array [] (gives_array (Fixed 3) (Const 3)) ≡ [])
    × (cards_of_second BadArguments takes_array [] (gives_array (Named K) (Var K)) ≡ [])
    × (cards_of_second BadArguments takes_array [] (gives_array (Fixed 3) (Const 2)) ≡ 10 ∷ [])
    × (cards_of_second BadArguments takes_array [] (gives_array (Fixed 3) (bracket (Const 3))) ≡ 10 ∷ [])
    × (cards_of_second BadArguments takes_array [] (gives_array (Fixed 3) (Var K)) ≡ 10 ∷ [])

-- ---- names of units

abbrev pub does_nothing : Name → Routine
does_nothing name = record {
  name = name;
  sort = None;
  head = 8;
  dummies = [];
  names = [];
  functions =
      [];
  blocks = [];
  lines = line 9 Return ∷ [];
  «end» = 10;
}

-- a name that stands already, that of an intrinsic function, that of a block, and another one
abbrev pub NamesOfUnits : Type 0
NamesOfUnits =
    (cards_of_second UnitTwice (sets K) (K ∷ []) (does_nothing (codes "S")) ≡ 8 ∷ [])
    × (cards_of_second UnitTwice (sets K) (K ∷ []) (does_nothing (codes "MOD")) ≡ 8 ∷ [])
    × (cards_of_second UnitTwice (sets K) (K ∷ []) (does_nothing (codes "BOX")) ≡ 8 ∷ [])
    × (cards_of_second UnitTwice (sets K) (K ∷ []) (does_nothing (codes "P")) ≡ [])

-- ---- calls of nobody

abbrev pub calls_and_asks : Name → Name → Routine
calls_and_asks s f = routine (codes "P") (I ∷ []) (scalar Dummy I ∷ [])
    (line 10 (Call s (Var I ∷ []))
    ∷ line 11 (Assign (Var I) (applied_to f (Var I ∷ [])))
    ∷ line 12 Return
    ∷ [])

abbrev pub identity : Routine
identity = function_of F (J ∷ []) (scalar Dummy J ∷ [])
    (line 4 (Assign (Var F) (Var J))
    ∷ line 5 Return
    ∷ [])

-- a CALL is of a SUBROUTINE, and a reference of a FUNCTION
abbrev pub CallsHaveUnits : Type 0
CallsHaveUnits =
    (cards_of_second UnknownUnit identity (F ∷ []) (calls_and_asks F F) ≡ 10 ∷ [])
    × (cards_of_second UnknownUnit inc (I ∷ []) (calls_and_asks (codes "INC") (codes "INC")) ≡ 11 ∷ [])
    × (cards_of_second UnknownUnit inc (I ∷ []) (calls_and_asks (codes "INC") (codes "IABS")) ≡ [])

-- ---- what a unit smashes

-- a FUNCTION smashes its own value alone, or its dummy too
abbrev pub FunctionsSmashNothing : Type 0
FunctionsSmashNothing =
    (cards_breaking (alone Common identity (plain_notes []) (F ∷ [])) FunctionSmashes 0 identity ≡ [])
    × (cards_breaking (alone Common identity (plain_notes []) (F ∷ J ∷ [])) FunctionSmashes 0 identity ≡ 1 ∷ [])

abbrev pub DimensionsStay : Type 0
DimensionsStay =
    (cards_breaking (alone Common takes_array (plain_notes []) (A ∷ [])) DimensionSmashed 0 takes_array ≡ [])
    × (cards_breaking (alone Common takes_array (plain_notes []) (N ∷ [])) DimensionSmashed 0 takes_array ≡ 1 ∷ [])

-- a call in the range of a DO smashes the last value of it
abbrev pub calls_in_range : Routine
calls_in_range = routine (codes "P") (M ∷ []) (scalar Dummy M ∷ scalar Local I ∷ [])
    (line 10 (Do 10 I (parameter.Fixed 1) (parameter.Named M) None)
    ∷ line 11 (Call (codes "INC") (Var M ∷ []))
    ∷ labelled 12 10 Continue
    ∷ line 13 Return
    ∷ [])

abbrev pub CallsInRanges : Type 0
CallsInRanges =
    (cards_of_second DoSmashed inc (I ∷ []) calls_in_range ≡ 11 ∷ [])
    × (cards_of_second DoSmashed inc [] calls_in_range ≡ [])

-- ---- clocks

abbrev pub with_clock : ℕ → List Tree → Assertion
with_clock card clock = record { point = 0; card = card; terms = []; clock = clock }

abbrev pub cards_of_clocks : List Assertion → List ℕ
cards_of_clocks asserts = cards_breaking (alone Common inc (plain_notes asserts) (I ∷ [])) ClockLength 0 inc

abbrev pub one : Tree
one = number 1

-- 1 to 4 parts, and as many as the first has
abbrev pub ClocksHaveOneLength : Type 0
ClocksHaveOneLength =
    (cards_of_clocks (with_clock 4 (one ∷ []) ∷ with_clock 5 (one ∷ one ∷ []) ∷ with_clock 6 (one ∷ []) ∷ []) ≡ 5 ∷ [])
    × (cards_of_clocks (with_clock 4 [] ∷ with_clock 5 (one ∷ []) ∷ []) ≡ 4 ∷ 5 ∷ [])
    × (cards_of_clocks (with_clock 4 (one ∷ one ∷ one ∷ one ∷ one ∷ []) ∷ []) ≡ 4 ∷ [])
    × (cards_of_clocks (with_clock 4 (one ∷ one ∷ one ∷ one ∷ []) ∷ []) ≡ [])
