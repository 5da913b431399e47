-- Conditions with their terms as trees, and the words for their kinds.
use Rattle.std.specs.Prelude.{ℕ, List, codes}
use Rattle.formula.specs.Tree.{Tree}
use Rattle.fort_syntax.specs.declared.condition.Kind.{Kind}
use Rattle.fort_syntax.specs.declared.condition.Kind.TheVariants.{DefinedCheck, RangeCheck, DivisorCheck, SubscriptCheck, ChoiceCheck, LoopCheck, ResultCheck, InputCheck, AssertCheck, ClockCheck, FallCheck, OutputCheck}

-- the word for a kind, in ASCII
abbrev pub kind_word : Kind → List ℕ
kind_word DefinedCheck = codes "DEFINED"
kind_word RangeCheck = codes "RANGE"
kind_word DivisorCheck = codes "DIVISOR"
kind_word SubscriptCheck = codes "SUBSCRIPT"
kind_word ChoiceCheck = codes "CHOICE"
kind_word LoopCheck = codes "LOOP"
kind_word ResultCheck = codes "RESULT"
kind_word InputCheck = codes "INPUT"
kind_word AssertCheck = codes "ASSERT"
kind_word ClockCheck = codes "CLOCK"
kind_word FallCheck = codes "FALL"
kind_word OutputCheck = codes "OUTPUT"

-- A condition of a path: the hypotheses have the goal as consequence. Paths of a unit and checks of a path count from 1.
pub record ConditionTree : Type 0 where
  pub unit : List ℕ
  pub path : ℕ
  pub check : ℕ
  pub kind : Kind
  pub card : ℕ
  pub hyps : List Tree
  pub goal : Tree
