-- The marks of conditions, and what they and the counts of provers tell.
use Rattle.std.specs.Prelude.{ℕ, ◌≡◌, ◌<◌, ◌⊎◌, ◌^◌, Option, Some, None, List, [], ◌∷◌, length, map, replicate, ⊤}
use Rattle.std.specs.List.{All}
use Rattle.formula.specs.declared.definition.Definition.{Definition}
use Rattle.formula.specs.declared.node.Node.{Node}
use Rattle.formula.specs.Worth.{Function, functions_of}
use Rattle.fort_syntax.specs.Conditions.{ConditionTree}
use Rattle.fort_syntax.specs.declared.condition.Condition.{Condition}
use Rattle.event_text.specs.Conditions.{condition_tree}
use Rattle.event_text.specs.declared.marks.Marks.{Marks}
use Rattle.prover_box.specs.Answers.{Seen, AreAsked, AreKept, AreMarked, shown, told, unclosed}
use Rattle.prover_box.specs.Laws.{AllTell, EachRose, FirstRose, raised, unclosed_count}
use Rattle.prover_box.specs.Tests.{passes_test}
use Rattle.readable_laws.specs.Laws.{MayMark}

-- ---- marks

-- the counts that are told have 64 bits at most
abbrev pub AreSmall : List (ℕ × ℕ) → Type 0
AreSmall asked = All (λ a. a.1 < 2 ^ 64) asked

-- ---- marks by tests

-- a condition passes a test that is told
abbrev pub PassesToldBy : List Function → Option ℕ → ConditionTree → Type 0
PassesToldBy fs None c = ⊥
PassesToldBy fs (Some n) c = passes_test fs n c.hyps c.goal

-- the letter of the first prover whose test a condition passes; `-` where it passes none
abbrev pub IsMarkBy : List Function → List Seen → ℕ → ConditionTree → Type 0
IsMarkBy fs [] mark c = mark ≡ unclosed
IsMarkBy fs (s ∷ ss) mark c = (PassesToldBy fs s.test c × (mark ≡ shown s.letter))
    ⊎ ((PassesToldBy fs s.test c → ⊥) × IsMarkBy fs ss mark c)

-- each condition has the mark that tests give it
abbrev pub AreMarksBy : List Function → List Seen → List ℕ → List ConditionTree → Type 0
AreMarksBy fs ss [] [] = ⊤
AreMarksBy fs ss [] (c ∷ cs) = ⊥
AreMarksBy fs ss (mark ∷ marks) [] = ⊥
AreMarksBy fs ss (mark ∷ marks) (c ∷ cs) = IsMarkBy fs ss mark c × AreMarksBy fs ss marks cs

-- ---- counts by tests

-- those of some conditions that don't pass a test that is told, in order
abbrev pub IsRest : List Function → Option ℕ → List ConditionTree → List ConditionTree → Type 0
IsRest fs test [] rest = rest ≡ []
IsRest fs test (c ∷ cs) rest =
    (PassesToldBy fs test c × IsRest fs test cs rest) ⊎ ((PassesToldBy fs test c → ⊥)
    × ((later : List ConditionTree) × (rest ≡ c ∷ later) × IsRest fs test cs later))

-- the first prover was asked for each of some conditions, and the next ones likewise for those that don't pass its test
abbrev pub AreAskedForRest : List Function → List Seen → List Seen → List ConditionTree → Type 0
AreAskedForRest fs [] [] cs = ⊤
AreAskedForRest fs [] (n ∷ ns) cs = ⊥
AreAskedForRest fs (b ∷ bs) [] cs = ⊥
AreAskedForRest fs (b ∷ bs) (n ∷ ns) cs =
    (n.asked ≡ raised (length cs) b.asked) × ((rest : List ConditionTree) × IsRest fs b.test cs rest
    × AreAskedForRest fs bs ns rest)

-- ---- what the provers of a call give

-- Provers were asked for some conditions, one after another, as far as one said yes; these stand for the conditions in some pool.
pub record WereAsked (fs : List Function) (cs : List ConditionTree) (before now : List Seen) (letters : List ℕ) : Type 0 where
  pub pool : List Node
  pub definitions : List Definition
  pub conditions : List Condition
  pub functions : functions_of pool definitions ≡ fs
  pub trees : map (condition_tree pool) conditions ≡ cs
  pub asked : AreAsked pool definitions before conditions now letters

-- Marks of conditions are what provers gave. So each condition has a mark, and where it is a letter, the
-- condition is valid; the letters and the counts that are told are those that the provers have now; they kept
-- their letters and tests; the first was asked for each condition, and each at least for those with the mark
-- `-`. Where all tell their tests, each mark is that of the tests, and each prover was asked for the conditions
-- that none before it closed. Where there is no prover, each mark is `-` and nothing is told. The marks may
-- stand behind the conditions: their text can be read back.
pub record AreMarksFor (fs : List Function) (cs : List ConditionTree) (before now : List Seen) (marks : Marks) : Type 0 where
  pub asked : WereAsked fs cs before now marks.letters
  pub valid : AreMarked fs marks.letters cs
  pub may_stand : MayMark cs marks
  pub counts : marks.asked ≡ map told now
  pub kept : AreKept before now
  pub first : FirstRose (length cs) before now
  pub each : EachRose (unclosed_count marks.letters) before now
  pub by_tests : AllTell before → AreMarksBy fs before marks.letters cs
  pub rest : AllTell before → AreAskedForRest fs before now cs
  pub alone : before ≡ [] → (marks.letters ≡ replicate (length cs) unclosed) × (marks.asked ≡ [])
