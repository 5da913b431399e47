-- Small decks whose executable statements break a rule.
use Rattle.std.specs.Prelude.{true, List, [], ◌∷◌, ◌++◌, Some, None, codes}
use Rattle.fort_syntax.specs.SmallDecks.{on_cards, labelled, plain, array, applied_to, bin, rel, bracket, if, IsRefused, IsKept, F, I, J, K, L, N, P, Q}
use Rattle.fort_syntax.specs.NameRows.{common, unit, Refused}
use Rattle.fort_syntax.specs.declared.dialect.BinOp.TheVariants.{Add, Sub, Mul}
use Rattle.fort_syntax.specs.declared.dialect.RelOp.TheVariants.{Eq}
use Rattle.fort_syntax.specs.declared.dialect.Dialect.TheVariants as dialect
use Rattle.fort_syntax.specs.declared.dialect.Sort.TheVariants.{Integer, Logical}
use Rattle.fort_syntax.specs.declared.expr.Expr.TheVariants.{Const, Truth, Var}
use Rattle.fort_syntax.specs.declared.name.Name.{Name}
use Rattle.fort_syntax.specs.declared.rule.Rule.{Rule}
use Rattle.fort_syntax.specs.declared.rule.Rule.TheVariants.{ImplicitReal, StatementOrder, NoEnd, BadUse, BadType, BadSubscript, LabelTwice, NoLabel, BadResult, BadBlockIf}
use Rattle.fort_syntax.specs.declared.stmt.BlockName.TheVariants.{Bare}
use Rattle.fort_syntax.specs.declared.stmt.Param.TheVariants as parameter
use Rattle.fort_syntax.specs.declared.stmt.Stmt.{Stmt}
use Rattle.fort_syntax.specs.declared.stmt.Stmt.TheVariants.{Subroutine, Function, Declare, Assign, GoTo, Computed, ArithIf, Do, Continue, Call, Return, End, Else}
use Rattle.fort_syntax.specs.declared.unit.Line.{Line}

-- K is an array of two elements: what stands behind its declaration is on card 3
abbrev pub Misused : Stmt → Rule → Type 0
Misused s rule = Refused (K ∷ []) (Declare Integer (array K (2 ∷ []) ∷ []) ∷ s ∷ []) rule 3

abbrev pub Allowed : Stmt → Type 0
Allowed s = IsKept dialect.Common (unit (K ∷ []) (Declare Integer (array K (2 ∷ []) ∷ []) ∷ s ∷ []))

abbrev pub MOD : Name
MOD = codes "MOD"

abbrev pub IABS : Name
IABS = codes "IABS"

-- 18: a bare array may only be an actual; as many subscripts as dimensions
abbrev pub ArraysAreMisused : Type 0
ArraysAreMisused =
    Misused (Assign (Var K) (Const 1)) BadUse
    × Misused (Assign (Var I) (Var K)) BadUse
    × Misused (Assign (Var I) (applied_to IABS (Var K ∷ []))) BadUse
    × Misused (Call Q (bracket (Var K) ∷ [])) BadUse
    × Misused (Assign (Var I) (applied_to K (Const 1 ∷ Const 1 ∷ []))) BadUse
    × Misused (Assign (applied_to K (Const 1 ∷ Const 1 ∷ [])) (Const 1)) BadUse
    × Misused (Assign (Var I) (applied_to K (Var K ∷ []))) BadUse
    × Misused (Do 10 K (parameter.Fixed 1) (parameter.Fixed 2) None) BadUse
    × Misused (Do 10 I (parameter.Fixed 1) (parameter.Named K) None) BadUse
    × Misused (Computed (10 ∷ []) K) BadUse
    × Allowed (Call Q (Var K ∷ applied_to K (Const 1 ∷ []) ∷ []))
    × Allowed (Assign (Var I) (applied_to J (Var K ∷ [])))

-- 18: functions, scalars and SUBROUTINEs are kept apart, and intrinsic functions have their own numbers of arguments
abbrev pub NamesAreMisused : Type 0
NamesAreMisused =
    Refused [] (Assign (applied_to J (Const 1 ∷ [])) (Const 2) ∷ []) BadUse 2
    × Refused [] (Assign (Var MOD) (Const 1) ∷ Assign (Var J) (applied_to MOD (Const 3 ∷ Const 2 ∷ [])) ∷ []) BadUse 3
    × Refused [] (Assign (Var J) (applied_to L (Const 1 ∷ [])) ∷ Assign (Var N) (Const 1) ∷ Assign (Var J) (Var L) ∷ []) BadUse 4
    × Refused [] (Assign (Var L) (applied_to L (Const 1 ∷ [])) ∷ []) BadUse 2
    × Refused (I ∷ []) (Assign (Var J) (applied_to I (Const 1 ∷ [])) ∷ []) BadUse 2
    × Refused [] (common Bare (plain K ∷ []) ∷ Assign (Var J) (applied_to K (Const 1 ∷ [])) ∷ []) BadUse 3
    × Refused (I ∷ []) (Call I [] ∷ []) BadUse 2
    × Refused [] (Declare Integer (plain Q ∷ []) ∷ Call Q [] ∷ []) BadUse 3
    × Refused [] (Assign (Var J) (applied_to IABS (Const 1 ∷ Const 2 ∷ [])) ∷ []) BadUse 2
    × Refused [] (Assign (Var J) (applied_to MOD (Const 1 ∷ [])) ∷ []) BadUse 2
    × Refused [] (Assign (Var J) (applied_to (codes "MAX0") (Const 1 ∷ [])) ∷ []) BadUse 2
    × IsRefused dialect.Common (on_cards 1 (Subroutine L [] ∷ Assign (Var J) (Var L) ∷ Return ∷ End ∷ [])) BadUse 2
    × IsRefused dialect.Common (on_cards 1 (Subroutine L [] ∷ Assign (Var J) (applied_to L (Const 1 ∷ []))
    ∷ Return ∷ End ∷ [])) BadUse 2
    × IsKept dialect.Common (on_cards 1 (Subroutine L [] ∷ Call L [] ∷ Return ∷ End ∷ []))
    × IsKept dialect.Common (unit [] (Declare Integer (array MOD (3 ∷ []) ∷ []) ∷ Assign (Var J)
    (applied_to MOD (Const 1 ∷ [])) ∷ []))

-- 20: without 77 subscripts have seven forms
abbrev pub SubscriptsAreBad : Type 0
SubscriptsAreBad =
    Misused (Assign (applied_to K (bin Mul (Var I) (Const 2) ∷ [])) (Const 1)) BadSubscript
    × Misused (Assign (applied_to K (bin Add (Const 1) (Var I) ∷ [])) (Const 1)) BadSubscript
    × Misused (Assign (applied_to K (bracket (Var I) ∷ [])) (Const 1)) BadSubscript
    × Misused (Assign (applied_to K (bin Add (bin Mul (Const 2) (Var I)) (Var J) ∷ [])) (Const 1)) BadSubscript
    × Misused (Assign (Var I) (bin Add (Const 1) (applied_to K (bin Mul (Const 2) (Const 3) ∷ [])))) BadSubscript
    × Allowed (Assign (applied_to K (bin Sub (bin Mul (Const 2) (Var I)) (Const 3) ∷ []))
    (applied_to K (bin Add (Var I) (Const 1) ∷ [])))
    × Allowed (Assign (applied_to K (bin Mul (Const 2) (Var I) ∷ [])) (applied_to K (Var I ∷ [])))
    × IsKept dialect.SeventySeven (unit (K ∷ []) (Declare Integer (array K (2 ∷ []) ∷ []) ∷ Assign
    (applied_to K (bin Mul (Var I) (Var I) ∷ [])) (Const 1) ∷ []))

abbrev pub body : List Line → List Line
body inner = on_cards 1 (Subroutine P (I ∷ []) ∷ []) ++ inner ++ on_cards 8 (Return ∷ End ∷ [])

-- 21: a label stands twice; 22: a label that is named stands on no executable statement
abbrev pub LabelsAreBad : Type 0
LabelsAreBad =
    IsRefused dialect.Common (body (labelled 2 10 Continue ∷ labelled 3 10 Continue ∷ [])) LabelTwice 3
    × IsRefused dialect.Common (body (labelled 2 0 (GoTo 10) ∷ [])) NoLabel 2
    × IsRefused dialect.Common (body (labelled 2 0 (Do 10 J (parameter.Fixed 1) (parameter.Fixed 2) None) ∷ [])) NoLabel 2
    × IsRefused dialect.Common (labelled 1 10 (Subroutine P (I ∷ [])) ∷ on_cards 2
    (if (Truth true) (GoTo 10) ∷ Return ∷ End ∷ [])) NoLabel 2
    × IsRefused dialect.Common (body (labelled 2 0 (ArithIf (Var I) 10 20 10) ∷ labelled 3 10 Continue ∷ [])) NoLabel 2
    × IsKept dialect.Common (body (labelled 2 0 (Computed (10 ∷ 10 ∷ []) I) ∷ labelled 3 10 Continue ∷ []))

-- 23: a DO variable is no left side
abbrev pub ResultsAreMissed : Type 0
ResultsAreMissed =
    IsRefused dialect.Common (on_cards 1 (Function None L (I ∷ []) ∷ Return ∷ End ∷ [])) BadResult 1
    × IsRefused dialect.Common (on_cards 1 (Function None L (I ∷ []) ∷ Do 10 L (parameter.Fixed 1)
    (parameter.Fixed 2) None ∷ []) ++ labelled 3 10 Continue ∷ on_cards 4 (Return ∷ End ∷ [])) BadResult 1
    × IsKept dialect.Common (on_cards 1 (Function None L (I ∷ []) ∷ if (rel Eq (Var I) (Const 1))
    (Assign (Var L) (Const 2)) ∷ Return ∷ End ∷ []))

-- L is logical: what stands behind its declaration is on card 3
abbrev pub Mistyped : Stmt → Type 0
Mistyped s =
    IsRefused dialect.Common (on_cards 1 (Subroutine P (L ∷ []) ∷ Declare Logical (plain L ∷ []) ∷ s ∷ [])
    ++ labelled 4 10 Continue ∷ on_cards 5 (Return ∷ End ∷ [])) BadType 3

-- 19: sides, operands, conditions, variables and parameters of a DO, selectors, and arguments
abbrev pub TypesAreBad : Type 0
TypesAreBad =
    Mistyped (Assign (Var I) (Var L))
    × Mistyped (Assign (Var L) (Const 1))
    × Mistyped (Assign (Var L) (rel Eq (Var L) (Var L)))
    × Mistyped (Assign (Var I) (bin Add (Const 1) (bracket (Var L))))
    × Mistyped (ArithIf (Var L) 10 10 10)
    × Mistyped (if (Var I) (Assign (Var I) (Const 1)))
    × Mistyped (if (Var L) (Assign (Var I) (Var L)))
    × Mistyped (Do 10 L (parameter.Fixed 1) (parameter.Fixed 2) None)
    × Mistyped (Do 10 I (parameter.Fixed 1) (parameter.Fixed 2) (Some (parameter.Named L)))
    × Mistyped (Computed (10 ∷ []) L)
    × Mistyped (Assign (Var I) (applied_to IABS (Var L ∷ [])))
    × IsKept dialect.Common (unit (L ∷ []) (Declare Logical (plain L ∷ []) ∷ Assign (Var L)
    (rel Eq (applied_to I (Var L ∷ [])) (Const 1)) ∷ []))
    × IsRefused dialect.Common (unit (L ∷ []) (Declare Logical (plain L ∷ array K (3 ∷ []) ∷ []) ∷ Assign
    (Var L) (applied_to K (Var L ∷ [])) ∷ [])) BadType 3

-- the stage comes before the card, the card before the number
abbrev pub FirstFaults : Type 0
FirstFaults =
    Refused [] (Assign (Var J) (Var P) ∷ []) ImplicitReal 2
    × Refused (I ∷ []) (Assign (applied_to J (Const 1 ∷ [])) (Const 2) ∷ Assign (Var F) (Const 1) ∷ []) ImplicitReal 3
    × Refused [] (Assign (Var I) (Truth true) ∷ GoTo 10 ∷ []) NoLabel 3
    × Refused [] (GoTo 10 ∷ Assign (applied_to J (Const 1 ∷ [])) (Const 2) ∷ []) NoLabel 2
    × Refused [] (Assign (applied_to J (Const 1 ∷ [])) (Const 2) ∷ GoTo 10 ∷ []) BadUse 2
    × IsRefused dialect.Common (on_cards 1 (Subroutine P (I ∷ I ∷ []) ∷ Return ∷ Declare Integer
    (plain J ∷ []) ∷ End ∷ [])) StatementOrder 3
    × IsRefused dialect.Common (on_cards 1 (Subroutine P [] ∷ Return ∷ Declare Integer (plain J ∷ []) ∷ [])) StatementOrder 3
    × IsRefused dialect.SeventySeven (on_cards 1 (Subroutine P (I ∷ I ∷ []) ∷ Else ∷ Return ∷ End ∷ [])) BadBlockIf 2
    × IsRefused dialect.SeventySeven (on_cards 1 (Subroutine P [] ∷ Else ∷ Return ∷ [])) NoEnd 3
