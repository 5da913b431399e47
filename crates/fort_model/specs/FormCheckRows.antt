-- Checks of single forms: constants, the values of FUNCTIONs, arithmetic IFs, actuals.
use Rattle.std.specs.Prelude.{◌≡◌, ℕ, List, [], ◌∷◌, ◌++◌, codes, drop}
use Rattle.fort_syntax.specs.SmallDecks.{bin, bracket, applied_to, A, F, I, J}
use Rattle.formula.specs.declared.function.BuiltIn.TheVariants as f
use Rattle.fort_syntax.specs.declared.condition.Kind.{Kind}
use Rattle.fort_syntax.specs.declared.condition.Kind.TheVariants.{DefinedCheck, RangeCheck, SubscriptCheck, ResultCheck, InputCheck, OutputCheck}
use Rattle.fort_syntax.specs.declared.dialect.BinOp.TheVariants.{Add}
use Rattle.fort_syntax.specs.declared.dialect.Dialect.TheVariants.{Common}
use Rattle.fort_syntax.specs.declared.expr.Expr.{Expr}
use Rattle.fort_syntax.specs.declared.expr.Expr.TheVariants.{Const, Var}
use Rattle.fort_syntax.specs.declared.stmt.Dim.TheVariants.{Fixed}
use Rattle.fort_syntax.specs.declared.stmt.Stmt.TheVariants.{Call, Return}
use Rattle.fort_syntax.specs.declared.unit.Role.TheVariants.{Dummy}
use Rattle.fort_syntax.specs.declared.unit.Unit.{Unit as Routine}
use Rattle.fort_model.specs.Decks.{power, line, scalar, array, routine}
use Rattle.fort_model.specs.Rows.{successor}
use Rattle.fort_model.specs.FormRows.{assigns, compare}
use Rattle.fort_model.specs.Program.{Program}
use Rattle.fort_model.specs.Conditions.{checks_of, conditions_of}
use Rattle.fort_model.specs.ConditionRows.{goals, hyps_behind, entry, is_defined, is_equal, is_integer, bounds}
use Rattle.fort_model.specs.VerdictRows.{idle, two_units}
use Rattle.fort_model.specs.WalkRows.{term, number, defined, true_term, alone, plain_notes, the_path}

-- ---- I becomes the value of an expression at card 4

abbrev pub checks_of_value : Expr → List (Kind × ℕ)
checks_of_value e = checks_of (alone Common (assigns e) (plain_notes []) (I ∷ [])) 0 (assigns e) (the_path ([] ∷ [] ∷ []))

-- a constant beyond the bound is checked; a power has a check for each product; brackets add nothing
abbrev pub ChecksOfValues : Type 0
ChecksOfValues =
    (checks_of_value (Const 32767) ≡ (OutputCheck, 5) ∷ [])
    × (checks_of_value (Const 32768) ≡ (RangeCheck, 4) ∷ (OutputCheck, 5) ∷ [])
    × (checks_of_value (power (Var I) 3) ≡ (DefinedCheck, 4) ∷ (RangeCheck, 4) ∷ (RangeCheck, 4) ∷ (OutputCheck, 5) ∷ [])
    × (checks_of_value (power (bracket (Var I)) 1) ≡ (DefinedCheck, 4) ∷ (OutputCheck, 5) ∷ [])
    × (checks_of_value (applied_to (codes "MAX0") (Var I ∷ Const 2 ∷ Var I ∷ [])) ≡ (DefinedCheck, 4) ∷ (DefinedCheck, 4) ∷ (OutputCheck, 5) ∷ [])

-- ---- the value of a FUNCTION is checked at each RETURN

abbrev pub successor_program : Program
successor_program = alone Common successor (plain_notes []) (F ∷ [])

abbrev pub ChecksOfResults : Type 0
ChecksOfResults =
    (checks_of successor_program 0 successor (the_path ((1 ∷ []) ∷ [])) ≡ (DefinedCheck, 4) ∷ (ResultCheck, 4) ∷
    (OutputCheck, 4) ∷ [])
    × (checks_of successor_program 0 successor (the_path ((2 ∷ []) ∷ [] ∷ [] ∷ []))
    ≡ (DefinedCheck, 4) ∷ (DefinedCheck, 5) ∷ (RangeCheck, 5) ∷ (ResultCheck, 6) ∷ (OutputCheck, 6) ∷ [])

-- ---- the middle branch of an arithmetic IF

abbrev pub ConditionOfZero : Type 0
ConditionOfZero =
    hyps_behind 1 (conditions_of (alone Common compare (plain_notes []) (J ∷ []))
    ((the_path ((2 ∷ []) ∷ [] ∷ [] ∷ []) ∷ []) ∷ []))
    ≡ (bounds ++ is_integer (entry I) ∷ is_integer (entry J) ∷ true_term ∷ is_defined (entry I) ∷ is_equal
    (entry I) (number 0) ∷ []) ∷ []

-- ---- an element is an actual at card 10: its subscript is read, and it is not

abbrev pub passes_part : Expr → Routine
passes_part e = routine (codes "P") (I ∷ A ∷ []) (scalar Dummy I ∷ array Dummy A (Fixed 3 ∷ []) ∷ [])
    (line 10 (Call (codes "S") (e ∷ []))
    ∷ line 11 Return
    ∷ [])

abbrev pub part_program : Expr → Program
part_program e =
    two_units
    idle (record { input = defined J ∷ []; output = true_term ∷ []; asserts = [] })
    (passes_part e) (plain_notes []) [] []

abbrev pub checks_of_part : Expr → List (Kind × ℕ)
checks_of_part e = checks_of (part_program e) 1 (passes_part e) (the_path ([] ∷ [] ∷ []))

-- A(I), (A(I)), I and I + 1
abbrev pub ChecksOfActuals : Type 0
ChecksOfActuals =
    (checks_of_part (applied_to A (Var I ∷ [])) ≡ (DefinedCheck, 10) ∷ (SubscriptCheck, 10) ∷ (InputCheck, 10) ∷
    (OutputCheck, 11) ∷ [])
    × (checks_of_part (bracket (applied_to A (Var I ∷ []))) ≡ (DefinedCheck, 10) ∷ (SubscriptCheck, 10) ∷
    (DefinedCheck, 10) ∷ (InputCheck, 10) ∷ (OutputCheck, 11) ∷ [])
    × (checks_of_part (Var I) ≡ (InputCheck, 10) ∷ (OutputCheck, 11) ∷ [])
    × (checks_of_part (bin Add (Var I) (Const 1)) ≡ (DefinedCheck, 10) ∷ (RangeCheck, 10) ∷ (InputCheck, 10) ∷
    (OutputCheck, 11) ∷ [])

-- INPUT of the called unit is told by the actual
abbrev pub GoalOfInput : Type 0
GoalOfInput =
    drop 2 (goals (conditions_of (part_program (applied_to A (Var I ∷ []))) ([] ∷ (the_path ([] ∷ [] ∷ []) ∷ []) ∷ [])))
    ≡ is_defined (term f.Element (entry A ∷ entry I ∷ [])) ∷ true_term ∷ []
