-- Kinds and cards of the checks along the paths of small decks.
use Rattle.std.specs.Prelude.{◌≡◌, ℕ, zero, suc, List, [], ◌∷◌, ◌++◌, replicate, codes}
use Rattle.fort_syntax.specs.SmallDecks.{bin, rel, if, labelled, A, I, J, K, M, N}
use Rattle.formula.specs.declared.function.BuiltIn.TheVariants as f
use Rattle.formula.specs.Tree.{Tree, symbol}
use Rattle.fort_syntax.specs.declared.condition.Kind.{Kind}
use Rattle.fort_syntax.specs.declared.condition.Kind.TheVariants.{DefinedCheck, RangeCheck, DivisorCheck, SubscriptCheck, ChoiceCheck, LoopCheck, AssertCheck, ClockCheck, FallCheck, OutputCheck}
use Rattle.fort_syntax.specs.declared.dialect.Dialect.{Dialect}
use Rattle.fort_syntax.specs.declared.dialect.Dialect.TheVariants.{Common, SeventySeven}
use Rattle.fort_syntax.specs.declared.dialect.BinOp.TheVariants.{Add, Sub}
use Rattle.fort_syntax.specs.declared.dialect.RelOp.TheVariants.{Lt, Eq}
use Rattle.fort_syntax.specs.declared.expr.Expr.TheVariants.{Const, Var}
use Rattle.fort_syntax.specs.declared.name.Name.{Name}
use Rattle.fort_syntax.specs.declared.stmt.Stmt.TheVariants.{Assign, GoTo, Return}
use Rattle.fort_syntax.specs.declared.unit.Role.TheVariants.{Dummy, Local}
use Rattle.fort_syntax.specs.declared.unit.Unit.{Unit as Routine}
use Rattle.fort_notes.specs.Assertions.{Notes}
use Rattle.fort_model.specs.Program.{Program}
use Rattle.fort_model.specs.Paths.{Path}
use Rattle.fort_model.specs.Conditions.{checks_of}
use Rattle.fort_model.specs.Decks.{line, scalar, routine}
use Rattle.fort_model.specs.Rows.{quotients, beyond, quad, twice, up_to, pick, sign}
use Rattle.fort_model.specs.WalkRows.{term, defined, number, at_most, true_term, alone, plain_notes, the_path}

abbrev pub checks_along : Program → Routine → Path → List (Kind × ℕ)
checks_along p u path = checks_of p 0 u path

abbrev pub from_assert : ℕ → List (List ℕ) → Path
from_assert k way = record { start = k; choices = way }

-- the quotients and remainders at the cards 4 to 6
abbrev pub ChecksOfQuotients : Type 0
ChecksOfQuotients =
    checks_along (alone Common quotients (plain_notes []) (I ∷ J ∷ K ∷ [])) quotients (the_path ([] ∷ [] ∷ [] ∷ [] ∷ []))
    ≡ (RangeCheck, 4) ∷ (DivisorCheck, 4) ∷ (RangeCheck, 4)
    ∷ (RangeCheck, 5) ∷ (DivisorCheck, 5) ∷ (RangeCheck, 5)
    ∷ (DefinedCheck, 6) ∷ (RangeCheck, 6) ∷ (DivisorCheck, 6) ∷ (RangeCheck, 6)
    ∷ (OutputCheck, 7) ∷ []

-- one check for each subscript, in order
abbrev pub ChecksOfSubscripts : Type 0
ChecksOfSubscripts =
    (checks_along (alone Common beyond (plain_notes []) (A ∷ [])) beyond (the_path ([] ∷ [] ∷ []))
    ≡ (SubscriptCheck, 5) ∷ (SubscriptCheck, 5) ∷ (OutputCheck, 6) ∷ [])
    × (checks_along (alone SeventySeven quad (plain_notes []) (A ∷ [])) quad (the_path ([] ∷ [] ∷ []))
    ≡ (DefinedCheck, 5) ∷ (DefinedCheck, 5) ∷ (RangeCheck, 5)
    ∷ (SubscriptCheck, 5) ∷ (SubscriptCheck, 5) ∷ (SubscriptCheck, 5) ∷ (SubscriptCheck, 5)
    ∷ (OutputCheck, 6) ∷ [])

-- ---- a loop by GO TO, with one ASSERT at card 5

abbrev pub less : Tree → Tree → Tree
less a b = term f.Less (a ∷ b ∷ [])

abbrev pub difference : Tree → Tree → Tree
difference a b = term f.Difference (a ∷ b ∷ [])

abbrev pub loop : Routine
loop = routine (codes "LOOP") (N ∷ []) (scalar Dummy N ∷ scalar Local I ∷ [])
    (line 4 (Assign (Var I) (Const 0))
    ∷ labelled 6 10 (Assign (Var I) (bin Add (Var I) (Const 1)))
    ∷ line 7 (if (rel Lt (Var I) (Var N)) (GoTo 10))
    ∷ line 8 Return
    ∷ [])

abbrev pub loop_program : Program
loop_program =
    alone Common loop
    (record {
      input = defined N ∷ at_most (number 1) (symbol N) ∷ [];
      output = true_term ∷ [];
      asserts = record {
        point = 1;
        card = 5;
        terms = defined I ∷ at_most (number 0) (symbol I) ∷ less (symbol I) (symbol N) ∷ [];
        clock = difference (symbol N) (symbol I) ∷ [];
      } ∷ [];
    })
    (I ∷ [])

abbrev pub ChecksOfLoop : Type 0
ChecksOfLoop =
    (checks_along loop_program loop (the_path ([] ∷ []))
    ≡ (AssertCheck, 5) ∷ (AssertCheck, 5) ∷ (AssertCheck, 5) ∷ (ClockCheck, 5) ∷ [])
    × (checks_along loop_program loop (from_assert 1 ([] ∷ (1 ∷ []) ∷ []))
    ≡ (DefinedCheck, 6) ∷ (RangeCheck, 6) ∷ (DefinedCheck, 7) ∷ (DefinedCheck, 7)
    ∷ (AssertCheck, 5) ∷ (AssertCheck, 5) ∷ (AssertCheck, 5) ∷ (ClockCheck, 5) ∷ (FallCheck, 5) ∷ [])
    × (checks_along loop_program loop (from_assert 1 ([] ∷ (2 ∷ []) ∷ [] ∷ []))
    ≡ (DefinedCheck, 6) ∷ (RangeCheck, 6) ∷ (DefinedCheck, 7) ∷ (DefinedCheck, 7) ∷ (OutputCheck, 8) ∷ [])

-- ---- two DOs with one last statement, at which an ASSERT stands

abbrev pub within : ℕ → Name → ℕ → List Tree
within a x b = defined x ∷ at_most (number a) (symbol x) ∷ at_most (symbol x) (number b) ∷ []

abbrev pub twice_notes : Notes
twice_notes = plain_notes
    (record {
      point = 2;
      card = 6;
      terms = within 1 I 2 ++ within 1 J 2;
      clock = difference (number 2) (symbol I) ∷ difference (number 2) (symbol J) ∷ [];
    } ∷ [])

abbrev pub twice_program : Dialect → Program
twice_program dialect = alone dialect twice twice_notes (M ∷ I ∷ J ∷ [])

-- six terms and two parts
abbrev pub arrivals_of_twice : List (Kind × ℕ) → List (Kind × ℕ)
arrivals_of_twice more = replicate 6 (AssertCheck, 6) ++ (ClockCheck, 6) ∷ (ClockCheck, 6) ∷ more

abbrev pub tests_of_twice : ℕ → List (Kind × ℕ) → List (Kind × ℕ)
tests_of_twice zero more = more
tests_of_twice (suc n) more = (DefinedCheck, 8) ∷ (RangeCheck, 8) ∷ tests_of_twice n more

abbrev pub ChecksOfTwice : Type 0
ChecksOfTwice =
    (checks_along (twice_program Common) twice (the_path ([] ∷ [] ∷ []))
    ≡ (LoopCheck, 4) ∷ (LoopCheck, 5) ∷ arrivals_of_twice [])
    × (checks_along (twice_program Common) twice (from_assert 1 ((1 ∷ []) ∷ []))
    ≡ tests_of_twice 1 (arrivals_of_twice ((FallCheck, 6) ∷ [])))
    × (checks_along (twice_program Common) twice (from_assert 1 ((2 ∷ 1 ∷ []) ∷ [] ∷ []))
    ≡ tests_of_twice 2 ((LoopCheck, 5) ∷ arrivals_of_twice ((FallCheck, 6) ∷ [])))
    × (checks_along (twice_program Common) twice (from_assert 1 ((2 ∷ 2 ∷ []) ∷ [] ∷ [] ∷ []))
    ≡ tests_of_twice 2 ((DefinedCheck, 9) ∷ (OutputCheck, 10) ∷ []))

-- ---- two loops by GO TO, one in the other, with one ASSERT at card 6

abbrev pub nest : Routine
nest = routine (codes "NEST") (N ∷ []) (scalar Dummy N ∷ scalar Local I ∷ scalar Local J ∷ [])
    (line 4 (Assign (Var I) (Var N))
    ∷ line 5 (Assign (Var J) (Var N))
    ∷ labelled 8 10 (if (rel Eq (Var J) (Const 1)) (GoTo 20))
    ∷ line 9 (Assign (Var J) (bin Sub (Var J) (Const 1)))
    ∷ line 10 (GoTo 10)
    ∷ labelled 11 20 (if (rel Eq (Var I) (Const 1)) Return)
    ∷ line 12 (Assign (Var I) (bin Sub (Var I) (Const 1)))
    ∷ line 13 (Assign (Var J) (Var N))
    ∷ line 14 (GoTo 10)
    ∷ [])

abbrev pub nest_program : Program
nest_program =
    alone Common nest
    (record {
      input = within 1 N 100;
      output = true_term ∷ [];
      asserts = record { point = 2; card = 6; terms = within 1 I 100 ++ within 1 J 100; clock = symbol I ∷ symbol J ∷ [] } ∷ [];
    })
    (I ∷ J ∷ [])

-- an ASSERT adds six terms and two parts
abbrev pub ChecksOfNest : Type 0
ChecksOfNest =
    (checks_along nest_program nest (the_path ([] ∷ [] ∷ []))
    ≡ (DefinedCheck, 4) ∷ (DefinedCheck, 5) ∷ replicate 6 (AssertCheck, 6) ++ (ClockCheck, 6) ∷ (ClockCheck, 6) ∷ [])
    × (checks_along nest_program nest (from_assert 1 ((1 ∷ []) ∷ (1 ∷ []) ∷ []))
    ≡ (DefinedCheck, 8) ∷ (DefinedCheck, 11) ∷ (OutputCheck, 11) ∷ [])
    × (checks_along nest_program nest (from_assert 1 ((1 ∷ []) ∷ (2 ∷ []) ∷ [] ∷ [] ∷ [] ∷ []))
    ≡ (DefinedCheck, 8) ∷ (DefinedCheck, 11) ∷ (DefinedCheck, 12) ∷ (RangeCheck, 12) ∷ (DefinedCheck, 13)
    ∷ replicate 6 (AssertCheck, 6) ++ (ClockCheck, 6) ∷ (ClockCheck, 6) ∷ (FallCheck, 6) ∷ [])
    × (checks_along nest_program nest (from_assert 1 ((2 ∷ []) ∷ [] ∷ [] ∷ []))
    ≡ (DefinedCheck, 8) ∷ (DefinedCheck, 9) ∷ (RangeCheck, 9)
    ∷ replicate 6 (AssertCheck, 6) ++ (ClockCheck, 6) ∷ (ClockCheck, 6) ∷ (FallCheck, 6) ∷ [])

-- ---- a block IF with three branches, and a computed GO TO in both dialects

abbrev pub ChecksOfSign : Type 0
ChecksOfSign =
    (checks_along (alone SeventySeven sign (plain_notes []) (J ∷ [])) sign (the_path ((1 ∷ []) ∷ [] ∷ [] ∷ [] ∷ []))
    ≡ (DefinedCheck, 4) ∷ (RangeCheck, 5) ∷ (OutputCheck, 11) ∷ [])
    × (checks_along (alone SeventySeven sign (plain_notes []) (J ∷ [])) sign (the_path ((2 ∷ []) ∷ (1 ∷ []) ∷ [] ∷ [] ∷ [] ∷ []))
    ≡ (DefinedCheck, 4) ∷ (DefinedCheck, 6) ∷ (OutputCheck, 11) ∷ [])
    × (checks_along (alone SeventySeven sign (plain_notes []) (J ∷ [])) sign
    (the_path ((2 ∷ []) ∷ (2 ∷ []) ∷ [] ∷ [] ∷ [] ∷ [] ∷ []))
    ≡ (DefinedCheck, 4) ∷ (DefinedCheck, 6) ∷ (OutputCheck, 11) ∷ [])

abbrev pub pick_program : Dialect → Program
pick_program dialect = alone dialect pick (plain_notes []) (J ∷ [])

abbrev pub ChecksOfPick : Type 0
ChecksOfPick =
    (checks_along (pick_program Common) pick (the_path ([] ∷ (2 ∷ []) ∷ [] ∷ [] ∷ []))
    ≡ (DefinedCheck, 5) ∷ (ChoiceCheck, 5) ∷ (OutputCheck, 10) ∷ [])
    × (checks_along (pick_program SeventySeven) pick (the_path ([] ∷ (2 ∷ []) ∷ [] ∷ [] ∷ []))
    ≡ (DefinedCheck, 5) ∷ (OutputCheck, 10) ∷ [])
    × (checks_along (pick_program SeventySeven) pick (the_path ([] ∷ (3 ∷ []) ∷ [] ∷ []))
    ≡ (DefinedCheck, 5) ∷ (OutputCheck, 6) ∷ [])

-- ---- a DO up to N under 77, with an ASSERT at its last statement

abbrev pub up_to_program : Program
up_to_program =
    alone SeventySeven up_to
    (plain_notes
    (record {
      point = 1;
      card = 5;
      terms = defined I ∷ true_term ∷ true_term ∷ [];
      clock = difference
          (symbol N) (symbol I) ∷ [];
    } ∷ []))
    (M ∷ I ∷ [])

-- N is read; then the step and the two numbers that tell how often the range is performed
abbrev pub begins_up_to : List (Kind × ℕ) → List (Kind × ℕ)
begins_up_to more = (DefinedCheck, 4) ∷ (LoopCheck, 4) ∷ (RangeCheck, 4) ∷ (RangeCheck, 4) ∷ more

abbrev pub ChecksOfUpTo : Type 0
ChecksOfUpTo =
    (checks_along up_to_program up_to (the_path ((1 ∷ []) ∷ []))
    ≡ begins_up_to (replicate 3 (AssertCheck, 5) ++ (ClockCheck, 5) ∷ []))
    × (checks_along up_to_program up_to (the_path ((2 ∷ []) ∷ [] ∷ [] ∷ []))
    ≡ begins_up_to ((DefinedCheck, 7) ∷ (OutputCheck, 8) ∷ []))
    × (checks_along up_to_program up_to (from_assert 1 ((1 ∷ []) ∷ []))
    ≡ (DefinedCheck, 6) ∷ (RangeCheck, 6) ∷ (DefinedCheck, 6) ∷ replicate 3 (AssertCheck, 5) ++ (ClockCheck, 5) ∷
    (FallCheck, 5) ∷ [])
    × (checks_along up_to_program up_to (from_assert 1 ((2 ∷ []) ∷ [] ∷ [] ∷ []))
    ≡ (DefinedCheck, 6) ∷ (RangeCheck, 6) ∷ (DefinedCheck, 6) ∷ (DefinedCheck, 7) ∷ (OutputCheck, 8) ∷ [])
