-- Laws of marks and counts.
use Rattle.std.specs.Prelude.{ℕ, ◌+◌, ◌-◌, ◌^◌, ◌≤◌, ◌==◌, ◌≡◌, ◌⊎◌, min, max, if◌then◌else◌, Option, Some, None, List, [], ◌∷◌, length, ⊤}
use Rattle.formula.specs.declared.definition.Definition.{Definition}
use Rattle.formula.specs.declared.node.Node.{Node}
use Rattle.formula.specs.Worth.{Function, IsValid}
use Rattle.fort_syntax.specs.declared.condition.Condition.{Condition}
use Rattle.fort_syntax.specs.Conditions.{ConditionTree}
use Rattle.fort_model.specs.Conditions.{AreValid}
use Rattle.prover_box.specs.Answers.{Seen, AreAsked, AreMarked, shown, unclosed}
use Rattle.prover_box.specs.Tests.{PassesTest}

-- ---- what marks are good for

-- the conditions whose mark is `-` are valid
abbrev pub AreUnclosedValid : List Function → List ℕ → List ConditionTree → Type 0
AreUnclosedValid fs [] cs = ⊤
AreUnclosedValid fs (mark ∷ marks) [] = ⊤
AreUnclosedValid fs (mark ∷ marks) (c ∷ cs) = (mark ≡ unclosed → IsValid fs c.hyps c.goal) × AreUnclosedValid fs marks cs

-- where conditions have the marks that provers gave, and those with `-` are valid, all are valid
abbrev pub UnclosedAreEnough : Type 0
UnclosedAreEnough =
    (fs : List Function) (marks : List ℕ) (cs : List ConditionTree) → AreMarked fs marks cs
    → AreUnclosedValid fs marks cs → AreValid fs cs

-- ---- counts

-- a count that went up by some number, but not over its last value
abbrev pub raised : ℕ → ℕ → ℕ
raised more n = max n (min (n + more) (2 ^ 64 - 1))

-- the first of some provers was asked so many times more
abbrev pub FirstRose : ℕ → List Seen → List Seen → Type 0
FirstRose more [] now = ⊤
FirstRose more (b ∷ bs) [] = ⊥
FirstRose more (b ∷ bs) (n ∷ ns) = n.asked ≡ raised more b.asked

-- each of some provers was asked at least so many times more
abbrev pub EachRose : ℕ → List Seen → List Seen → Type 0
EachRose more [] [] = ⊤
EachRose more [] (n ∷ ns) = ⊥
EachRose more (b ∷ bs) [] = ⊥
EachRose more (b ∷ bs) (n ∷ ns) = (raised more b.asked ≤ n.asked) × EachRose more bs ns

-- the number of marks `-`
abbrev pub unclosed_count : List ℕ → ℕ
unclosed_count [] = 0
unclosed_count (mark ∷ marks) = (if mark == unclosed then 1 else 0) + unclosed_count marks

-- the first prover is asked for each condition, and each prover at least for those that end with the mark `-`
abbrev pub CountsRise : Type 0
CountsRise =
    (pool : List Node) (ds : List Definition) (before : List Seen) (cs : List Condition) (now : List Seen)
    (marks : List ℕ) → AreAsked pool ds before cs now marks
    → FirstRose (length cs) before now × EachRose (unclosed_count marks) before now

-- ---- marks by tests

-- a prover tells the number of its test
abbrev pub DoesTell : Option ℕ → Type 0
DoesTell None = ⊥
DoesTell (Some n) = ⊤

-- all provers do
abbrev pub AllTell : List Seen → Type 0
AllTell [] = ⊤
AllTell (s ∷ ss) = DoesTell s.test × AllTell ss

module _ (pool : List Node) (ds : List Definition) where
  -- a condition passes a test that is told
  abbrev pub PassesTold : Option ℕ → Condition → Type 0
  PassesTold None c = ⊥
  PassesTold (Some n) c = PassesTest pool ds n c

  -- the letter of the first prover whose test a condition passes; `-` where it passes none
  abbrev pub IsMarkByTests : List Seen → ℕ → Condition → Type 0
  IsMarkByTests [] mark c = mark ≡ unclosed
  IsMarkByTests (s ∷ ss) mark c = (PassesTold s.test c × (mark ≡ shown s.letter))
      ⊎ ((PassesTold s.test c → ⊥) × IsMarkByTests ss mark c)

  -- each condition has the mark that tests give it
  abbrev pub AreMarksByTests : List Seen → List ℕ → List Condition → Type 0
  AreMarksByTests ss [] [] = ⊤
  AreMarksByTests ss [] (c ∷ cs) = ⊥
  AreMarksByTests ss (mark ∷ marks) [] = ⊥
  AreMarksByTests ss (mark ∷ marks) (c ∷ cs) = IsMarkByTests ss mark c × AreMarksByTests ss marks cs

-- where all provers tell their tests, each mark is that of the first whose test the condition passes
abbrev pub TestsMark : Type 0
TestsMark =
    (pool : List Node) (ds : List Definition) (before : List Seen) (cs : List Condition) (now : List Seen)
    (marks : List ℕ) → AllTell before → AreAsked pool ds before cs now marks
    → AreMarksByTests pool ds before marks cs
