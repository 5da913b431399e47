-- Conditions of small decks.
use Rattle.std.specs.Prelude.{◌≡◌, ℕ, List, [], ◌∷◌, ◌++◌, pos, neg_ℤ, map, drop}
use Rattle.fort_syntax.specs.SmallDecks.{A, I, J, K, M, N}
use Rattle.fort_syntax.specs.Conditions.{ConditionTree}
use Rattle.formula.specs.declared.function.BuiltIn.TheVariants as f
use Rattle.formula.specs.Tree.{Tree, num, symbol, old}
use Rattle.fort_syntax.specs.declared.dialect.Dialect.TheVariants.{Common}
use Rattle.fort_syntax.specs.declared.name.Name.{Name}
use Rattle.fort_model.specs.Rows.{beyond, adjustable}
use Rattle.fort_model.specs.Program.{Program}
use Rattle.fort_model.specs.Symbols.{Symbol, AtEntry, AtStart, ByCall, word_of}
use Rattle.fort_model.specs.Conditions.{conditions_of}
use Rattle.fort_model.specs.WalkRows.{term, number, at_most, true_term, LEAST, GREATEST, alone, plain_notes, the_path}
use Rattle.fort_model.specs.CheckRows.{less, difference, from_assert, loop_program, twice_program}
use Rattle.fort_model.specs.VerdictRows.{rotate_program}

abbrev pub goals : List ConditionTree → List Tree
goals cs = map (λ c. c.goal) cs

-- the hypotheses of the condition behind the first n
abbrev pub hyps_behind : ℕ → List ConditionTree → List (List Tree)
hyps_behind n cs = map (λ c. c.hyps) (drop n cs)

abbrev pub symbol_of : Symbol → Tree
symbol_of s = symbol (word_of s)

abbrev pub entry : Name → Tree
entry x = symbol_of (AtEntry x)

abbrev pub start : Name → Tree
start x = symbol_of (AtStart x)

abbrev pub after : Name → ℕ → Tree
after x k = symbol_of (ByCall x k)

abbrev pub is_defined : Tree → Tree
is_defined t = term f.Defined (t ∷ [])

abbrev pub is_equal : Tree → Tree → Tree
is_equal a b = term f.Equal (a ∷ b ∷ [])

abbrev pub is_integer : Tree → Tree
is_integer t = term f.IntegerCell (t ∷ LEAST ∷ GREATEST ∷ [])

abbrev pub plus : Tree → Tree → Tree
plus a b = term f.Plus (a ∷ b ∷ [])

abbrev pub times : Tree → Tree → Tree
times a b = term f.Times (a ∷ b ∷ [])

abbrev pub bounds : List Tree
bounds = at_most LEAST (num (neg_ℤ (pos 32767))) ∷ at_most (number 32767) GREATEST ∷ []

-- ---- A(4,1) of A(3,2)

abbrev pub lies : Tree → Tree → Tree
lies i d = term f.And (at_most (number 1) i ∷ at_most i d ∷ [])

abbrev pub GoalsOfSubscripts : Type 0
GoalsOfSubscripts =
    goals (conditions_of (alone Common beyond (plain_notes []) (A ∷ [])) ((the_path ([] ∷ [] ∷ []) ∷ []) ∷ []))
    ≡ lies (number 4) (number 3) ∷ lies (number 1) (number 2) ∷ true_term ∷ []

-- ---- A(1,N) = 7, where A has the dimensions M and N

abbrev pub adjustable_program : Program
adjustable_program =
    alone Common adjustable
    (record {
      input = true_term ∷ [];
      output = is_equal (term f.Element (symbol A ∷ number 4 ∷ []))
          (term f.Size (old A ∷ [])) ∷ [];
      asserts = [];
    })
    (A ∷ [])

abbrev pub adjustable_conditions : List ConditionTree
adjustable_conditions = conditions_of adjustable_program ((the_path ([] ∷ [] ∷ []) ∷ []) ∷ [])

-- the sorts of A, M and N; the dimensions; and INPUT
abbrev pub adjustable_start : List Tree
adjustable_start =
    bounds ++ term f.IntegerCells (entry A ∷ times (entry M) (entry N) ∷ LEAST ∷ GREATEST ∷ []) ∷ is_integer
    (entry M) ∷ is_integer (entry N)
    ∷ is_defined (entry M) ∷ at_most (number 1) (entry M) ∷ is_defined (entry N) ∷ at_most (number 1) (entry N)
    ∷ true_term ∷ []

abbrev pub adjustable_goals : List Tree
adjustable_goals = is_defined (entry N) ∷ lies (number 1) (entry M) ∷ lies (entry N) (entry N) ∷ []

-- the element that was set, at 1 + M * (N - 1), in the array at RETURN
abbrev pub ConditionsOfAdjustable : Type 0
ConditionsOfAdjustable =
    (goals adjustable_conditions
    ≡ adjustable_goals
    ++ is_equal
    (term f.Element (term f.Put (entry A ∷ plus (number 1) (times (entry M) (difference (entry N) (number 1)))
    ∷ number 7 ∷ []) ∷ number 4 ∷ []))
    (term f.Size (entry A ∷ []))
    ∷ [])
    × (hyps_behind 3 adjustable_conditions ≡ (adjustable_start ++ adjustable_goals) ∷ [])

-- ---- a round of the loop: from its ASSERT to its ASSERT

abbrev pub loop_round : List ConditionTree
loop_round = conditions_of loop_program ((from_assert 1 ([] ∷ (1 ∷ []) ∷ []) ∷ []) ∷ [])

abbrev pub next_i : Tree
next_i = plus (start I) (number 1)

-- the start, the first sum, and the condition of the IF
abbrev pub round_start : List Tree
round_start =
    bounds ++ is_integer (entry N) ∷ is_defined (entry N) ∷ at_most (number 1) (entry N)
    ∷ is_integer (start I)
    ∷ is_defined (start I) ∷ at_most (number 0) (start I) ∷ less (start I) (entry N)
    ∷ at_most (number 0) (difference (entry N) (start I))
    ∷ []

abbrev pub round_goals : List Tree
round_goals =
    is_defined (start I) ∷ term f.And (at_most LEAST next_i ∷ at_most next_i GREATEST ∷ []) ∷ is_defined
    next_i ∷ is_defined (entry N) ∷ []

abbrev pub arrival_goals : List Tree
arrival_goals =
    is_defined next_i ∷ at_most (number 0) next_i ∷ less next_i (entry N) ∷ at_most (number 0) (difference (entry N) next_i) ∷ []

abbrev pub ConditionsOfRound : Type 0
ConditionsOfRound =
    (goals loop_round ≡ round_goals ++ arrival_goals ++ less (difference (entry N) next_i) (difference (entry N) (start I)) ∷ [])
    × (hyps_behind 8 loop_round ≡ (round_start ++ round_goals ++ less next_i (entry N) ∷ arrival_goals) ∷ [])

-- ---- behind two DOs with one last statement

abbrev pub GoalsPastLoops : Type 0
GoalsPastLoops =
    drop 4 (goals (conditions_of (twice_program Common) ((from_assert 1 ((2 ∷ 2 ∷ []) ∷ [] ∷ [] ∷ []) ∷ []) ∷ [])))
    ≡ is_defined (term f.Undefined []) ∷ true_term ∷ []

-- ---- two calls that turn three values around

abbrev pub rotate_conditions : List ConditionTree
rotate_conditions = conditions_of rotate_program ([] ∷ (the_path ([] ∷ [] ∷ [] ∷ []) ∷ []) ∷ [])

abbrev pub rotate_start : List Tree
rotate_start =
    bounds ++ is_integer (entry I) ∷ is_integer (entry J) ∷ is_integer (entry K)
    ∷ is_defined (entry I) ∷ is_defined (entry J) ∷ is_defined (entry K) ∷ []

abbrev pub first_call : List Tree
first_call =
    is_defined (entry I) ∷ is_defined (entry J)
    ∷ is_integer (after I 1) ∷ is_integer (after J 1) ∷ is_equal (after I 1) (entry J) ∷ is_equal (after J 1) (entry I) ∷ []

abbrev pub second_call : List Tree
second_call =
    is_defined (after J 1) ∷ is_defined (entry K)
    ∷ is_integer (after J 2) ∷ is_integer (after K 2) ∷ is_equal (after J 2) (entry K) ∷ is_equal (after K 2) (after J 1) ∷ []

abbrev pub ConditionsOfRotate : Type 0
ConditionsOfRotate =
    (goals rotate_conditions
    ≡ is_defined (entry I) ∷ is_defined (entry J) ∷ is_defined (after J 1) ∷ is_defined (entry K)
    ∷ is_equal (after I 1) (entry J) ∷ is_equal (after J 2) (entry K) ∷ is_equal (after K 2) (entry I) ∷ [])
    × (hyps_behind 6 rotate_conditions
    ≡ (rotate_start ++ first_call ++ second_call ++ is_equal (after I 1) (entry J) ∷ is_equal (after J 2) (entry K) ∷ []) ∷ [])
