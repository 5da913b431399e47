-- What walks along paths of small decks come to for some values.
use Rattle.std.specs.Prelude.{◌≡◌, ℕ, ◌==◌, Bool, cond, ◌&&◌, List, [], ◌∷◌, codes, pos, neg_ℤ, map}
use Rattle.fort_syntax.specs.SmallDecks.{applied_to, F, I, J, K, M}
use Rattle.formula.specs.Atoms.{same_bytes}
use Rattle.formula.specs.declared.function.BuiltIn.TheVariants as f
use Rattle.formula.specs.declared.value.Value.{Value}
use Rattle.formula.specs.declared.value.Value.TheVariants.{Int, Logical, Undefined}
use Rattle.formula.specs.Tree.{Tree, symbol, old}
use Rattle.fort_syntax.specs.declared.dialect.Dialect.TheVariants.{Common}
use Rattle.fort_syntax.specs.declared.expr.Expr.TheVariants.{Const, Var}
use Rattle.fort_syntax.specs.declared.name.Name.{Name}
use Rattle.fort_syntax.specs.declared.stmt.Stmt.TheVariants.{Assign, Call, Return}
use Rattle.fort_syntax.specs.declared.unit.Role.TheVariants.{Dummy, Local}
use Rattle.fort_syntax.specs.declared.unit.Unit.{Unit as Routine}
use Rattle.fort_model.specs.Decks.{line, scalar, routine}
use Rattle.fort_model.specs.Rows.{inc, twice, swap, rotate, successor}
use Rattle.fort_notes.specs.Assertions.{Notes}
use Rattle.fort_model.specs.Program.{Program}
use Rattle.fort_model.specs.Senses.{of_values}
use Rattle.fort_model.specs.Symbols.{Symbol, LeastInteger, GreatestInteger, AtEntry, AtStart, ByCall}
use Rattle.fort_model.specs.Events.{Verdict, Good, Fails, Off, verdict}
use Rattle.fort_model.specs.Walk.{falls}
use Rattle.fort_model.specs.Conditions.{sight, walked_by}
use Rattle.fort_model.specs.WalkRows.{term, defined, inc_program, the_path}
use Rattle.fort_model.specs.CheckRows.{twice_program, from_assert}

-- ---- values of symbols

abbrev pub same_symbol : Symbol → Symbol → Bool
same_symbol LeastInteger LeastInteger = Bool.true
same_symbol GreatestInteger GreatestInteger = Bool.true
same_symbol (AtEntry x) (AtEntry y) = same_bytes x y
same_symbol (AtStart x) (AtStart y) = same_bytes x y
same_symbol (ByCall x k) (ByCall y j) = same_bytes x y && k == j
same_symbol _ _ = Bool.false

abbrev pub some_given : List (Symbol × Value) → Symbol → Value
some_given [] s = Undefined
some_given (e ∷ rest) s = cond (same_symbol e.0 s) e.1 (some_given rest s)

-- the processor has the integers of 16 bits, and some symbols have values
abbrev pub given : List (Symbol × Value) → Symbol → Value
given more = some_given ((LeastInteger, Int (neg_ℤ (pos 32768))) ∷ (GreatestInteger, Int (pos 32767)) ∷ more)

abbrev pub int_value : ℕ → Value
int_value n = Int (pos n)

-- ---- one is added to I, which was below 100

abbrev pub walk_of_inc : Value → Verdict
walk_of_inc i = verdict (walked_by inc_program 0 inc (given ((AtEntry I, i) ∷ [])) (the_path ([] ∷ [] ∷ [])))

abbrev pub WalksOfInc : Type 0
WalksOfInc =
    (walk_of_inc (int_value 5) ≡ Good)
    × (walk_of_inc (int_value 100) ≡ Off 0)
    × (walk_of_inc Undefined ≡ Off 0)

-- without the bounds of the processor it goes off at once
abbrev pub WalksKeepTheBound : Type 0
WalksKeepTheBound =
    verdict (walked_by inc_program 0 inc (some_given ((AtEntry I, int_value 5) ∷ [])) (the_path ([] ∷ [] ∷ []))) ≡ Off 0

-- ---- behind two DOs with one last statement the variable of the outer one is undefined

abbrev pub WalksPastLoops : Type 0
WalksPastLoops =
    verdict (walked_by (twice_program Common) 0 twice (given ((AtStart I, int_value 2) ∷ (AtStart J, int_value 2) ∷ []))
    (from_assert 1 ((2 ∷ 2 ∷ []) ∷ [] ∷ [] ∷ [])))
    ≡ Fails 5

-- ---- clocks

abbrev pub fallen : List ℕ → List ℕ → Value
fallen before now = falls (sight (of_values [] (given [])) inc_program 0 inc) (map int_value now) (map int_value before)

-- the first part that differs decides
abbrev pub ClocksFallByTheirFirstPart : Type 0
ClocksFallByTheirFirstPart =
    (fallen (2 ∷ 1 ∷ []) (1 ∷ 100 ∷ []) ≡ Logical Bool.true)
    × (fallen (1 ∷ 2 ∷ []) (5 ∷ 1 ∷ []) ≡ Logical Bool.false)
    × (fallen (3 ∷ 2 ∷ 7 ∷ []) (3 ∷ 1 ∷ 9 ∷ []) ≡ Logical Bool.true)
    × (fallen (3 ∷ 2 ∷ []) (3 ∷ 2 ∷ []) ≡ Logical Bool.false)

-- ---- a call of a unit that smashes nothing

abbrev pub two_units : Routine → Notes → Routine → Notes → List Name → List Name → Program
two_units g its_notes u notes its_names names =
    record {
      dialect = Common;
      units = g ∷ u ∷ [];
      notes = its_notes ∷ notes ∷ [];
      functions = [];
      bound =
          32767;
      smashes = its_names ∷ names ∷ [];
    }

abbrev pub idle : Routine
idle = routine (codes "S") (J ∷ []) (scalar Dummy J ∷ scalar Local M ∷ [])
    (line 4 (Assign (Var M) (Const 1))
    ∷ line 5 Return
    ∷ [])

abbrev pub calls_idle : Routine
calls_idle = routine (codes "P") (I ∷ []) (scalar Dummy I ∷ [])
    (line 10 (Call (codes "S") (Var I ∷ []))
    ∷ line 11 Return
    ∷ [])

abbrev pub unchanged : Name → Tree
unchanged x = term f.Equal (symbol x ∷ old x ∷ [])

abbrev pub idle_program : Program
idle_program =
    two_units
    idle (record { input = defined J ∷ []; output = unchanged J ∷ []; asserts = [] })
    calls_idle (record { input = term f.Equal (symbol I ∷ symbol I ∷ []) ∷ []; output = unchanged I ∷ []; asserts = [] })
    (M ∷ []) []

abbrev pub walk_of_idle : Value → Verdict
walk_of_idle i =
    verdict (walked_by idle_program 1 calls_idle (given ((AtEntry I, i) ∷ (ByCall I 1, int_value 7) ∷ []))
    (the_path ([] ∷ [] ∷ [])))

-- what is not smashed keeps its value, whatever its symbol after the call has; INPUT is a check
abbrev pub CallsKeepWhatIsNotSmashed : Type 0
CallsKeepWhatIsNotSmashed =
    (walk_of_idle (int_value 5) ≡ Good)
    × (walk_of_idle Undefined ≡ Fails 1)

-- ---- two calls that turn three values around

abbrev pub swap_notes : Notes
swap_notes = record {
  input = defined I ∷ defined J ∷ [];
  output = term f.Equal (symbol I ∷ old J ∷ []) ∷ term f.Equal (symbol J ∷ old I ∷ []) ∷ [];
  asserts = [];
}

abbrev pub rotate_notes : Notes
rotate_notes = record {
  input = defined I ∷ defined J ∷ defined K ∷ [];
  output = term f.Equal (symbol I ∷ old J ∷ []) ∷ term f.Equal (symbol J ∷ old K ∷ []) ∷ term f.Equal
      (symbol K ∷ old I ∷ []) ∷ [];
  asserts = [];
}

abbrev pub rotate_program : Program
rotate_program = two_units swap swap_notes rotate rotate_notes (I ∷ J ∷ K ∷ []) (I ∷ J ∷ K ∷ [])

-- I, J and K are 1, 2 and 3 at the entry; I and J have values after the first call, and J and K after the second
abbrev pub walk_of_rotate : ℕ → ℕ → ℕ → ℕ → Verdict
walk_of_rotate i j j2 k2 =
    verdict (walked_by rotate_program 1 rotate
    (given ((AtEntry I, int_value 1) ∷ (AtEntry J, int_value 2) ∷ (AtEntry K, int_value 3)
    ∷ (ByCall I 1, int_value i) ∷ (ByCall J 1, int_value j) ∷ (ByCall J 2, int_value j2) ∷ (ByCall K 2, int_value k2) ∷ []))
    (the_path ([] ∷ [] ∷ [] ∷ [])))

-- OUTPUT of a called unit is no check: where it is false the walk goes off
abbrev pub CallsTakeOutput : Type 0
CallsTakeOutput =
    (walk_of_rotate 2 1 3 1 ≡ Good)
    × (walk_of_rotate 2 5 3 1 ≡ Off 2)
    × (walk_of_rotate 2 1 3 2 ≡ Off 4)

-- ---- FUNCTIONs in one another: the inner call is the first

abbrev pub adds_two : Routine
adds_two = routine (codes "P") (I ∷ []) (scalar Dummy I ∷ [])
    (line 11 (Assign (Var I) (applied_to F (applied_to F (Var I ∷ []) ∷ [])))
    ∷ line 12 Return
    ∷ [])

abbrev pub function_program : Program
function_program =
    two_units
    successor (record { input = defined I ∷ []; output = term f.Equal (symbol F ∷ symbol I ∷ []) ∷ []; asserts = [] })
    adds_two (record { input = defined I ∷ []; output = unchanged I ∷ []; asserts = [] })
    (F ∷ []) (I ∷ [])

abbrev pub walk_of_functions : Value → Value → Verdict
walk_of_functions first second =
    verdict (walked_by function_program 1 adds_two
    (given ((AtEntry I, int_value 5) ∷ (ByCall F 1, first) ∷ (ByCall F 2, second) ∷ []))
    (the_path ([] ∷ [] ∷ [])))

-- the first value is the actual of the second call; a value that is undefined goes off
abbrev pub FunctionsInOneAnother : Type 0
FunctionsInOneAnother =
    (walk_of_functions (int_value 5) (int_value 5) ≡ Good)
    × (walk_of_functions (int_value 6) (int_value 6) ≡ Off 1)
    × (walk_of_functions (int_value 5) (int_value 6) ≡ Off 2)
    × (walk_of_functions Undefined (int_value 5) ≡ Off 1)
