-- What provers answer, and how often they were asked.
use Rattle.std.specs.Prelude.{◌≡◌, ◌≢◌, ◌↔◌, ◌⊎◌, ℕ, ◌+◌, ◌-◌, ◌^◌, ◌≤◌, ◌&&◌, min, max, nat_le, if◌then◌else◌, Bool, List, [], ◌∷◌, ◌++◌, Option, Some, None, IsTrue, ⊤}
use Rattle.formula.specs.declared.definition.Definition.{Definition}
use Rattle.formula.specs.declared.node.Node.{Node}
use Rattle.formula.specs.Worth.{Function, IsValid}
use Rattle.fort_syntax.specs.Conditions.{ConditionTree}
use Rattle.fort_syntax.specs.declared.condition.Condition.{Condition}
use Rattle.prover_box.specs.Tests.{IsValidIn, PassesTest}

-- A prover as a caller sees it: its letter, the number of its test where it tells one, and how often it was asked.
pub record Seen : Type 0 where
  pub letter : ℕ
  pub test : Option ℕ
  pub asked : ℕ

-- a count that goes up by one, but not over its last value
abbrev pub one_more : ℕ → ℕ
one_more n = max n (min (n + 1) (2 ^ 64 - 1))

-- a prover that was asked once more
abbrev pub once_more : Seen → Seen
once_more s = record { letter = s.letter; test = s.test; asked = one_more s.asked }

-- a letter from A to Z is shown as it is, and any other as X
abbrev pub shown : ℕ → ℕ
shown letter = if nat_le 65 letter && nat_le letter 90 then letter else 88

-- the mark of a condition that no prover closed: `-`
abbrev pub unclosed : ℕ
unclosed = 45

-- ---- one condition

module _ (pool : List Node) (ds : List Definition) (c : Condition) where
  -- a prover that tells its test says yes just where the condition passes it
  abbrev pub IsTold : Option ℕ → Bool → Type 0
  IsTold None closed = ⊤
  IsTold (Some n) closed = IsTrue closed ↔ PassesTest pool ds n c

  -- an answer of a prover: a yes is right, and it is as the test tells
  pub record IsAnswer (test : Option ℕ) (closed : Bool) : Type 0 where
    pub sound : IsTrue closed → IsValidIn pool ds c
    pub told : IsTold test closed

  -- Provers were asked in turn, up to one that said yes. The mark is the letter of that one; where all said no, it is `-`.
  abbrev pub AreAskedOnce : List Seen → List Seen → ℕ → Type 0
  AreAskedOnce [] [] mark = mark ≡ unclosed
  AreAskedOnce [] (n ∷ ns) mark = ⊥
  AreAskedOnce (o ∷ os) [] mark = ⊥
  AreAskedOnce (o ∷ os) (n ∷ ns) mark =
      (n ≡ once_more o)
      × ((IsAnswer o.test Bool.true × (ns ≡ os) × (mark ≡ shown o.letter)) ⊎ (IsAnswer o.test Bool.false
      × AreAskedOnce os ns mark))

-- ---- all conditions

-- provers were asked for conditions, one after another, with these marks
pub data AreAsked (pool : List Node) (ds : List Definition) (before : List Seen) : List Condition → List Seen
    → List ℕ → Type 0 where
  nothing : AreAsked pool ds before [] before []
  next : {cs : List Condition} {now : List Seen} {marks : List ℕ} (c : Condition) (later : List Seen) (mark : ℕ)
      → AreAsked pool ds before cs now marks → AreAskedOnce pool ds c now later mark
      → AreAsked pool ds before (cs ++ c ∷ []) later (marks ++ mark ∷ [])

-- what is told of provers: the letter that is shown, and the count
abbrev pub told : Seen → ℕ × ℕ
told s = (shown s.letter, s.asked)

-- a prover kept its letter and its test, and its count did not fall
pub record IsKept (before now : Seen) : Type 0 where
  pub letter : now.letter ≡ before.letter
  pub test : now.test ≡ before.test
  pub asked : before.asked ≤ now.asked

abbrev pub AreKept : List Seen → List Seen → Type 0
AreKept [] [] = ⊤
AreKept [] (n ∷ ns) = ⊥
AreKept (o ∷ os) [] = ⊥
AreKept (o ∷ os) (n ∷ ns) = IsKept o n × AreKept os ns

-- there is a mark for each condition, and a condition with a letter is valid
abbrev pub AreMarked : List Function → List ℕ → List ConditionTree → Type 0
AreMarked fs [] [] = ⊤
AreMarked fs [] (c ∷ cs) = ⊥
AreMarked fs (mark ∷ marks) [] = ⊥
AreMarked fs (mark ∷ marks) (c ∷ cs) = (mark ≢ unclosed → IsValid fs c.hyps c.goal) × AreMarked fs marks cs
