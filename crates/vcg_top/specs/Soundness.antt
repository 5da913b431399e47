-- What a text of conditions is good for.
use Rattle.std.specs.Prelude.{ℕ, ◌≡◌, List}
use Rattle.formula.specs.Worth.{Function}
use Rattle.fort_syntax.specs.Conditions.{ConditionTree}
use Rattle.fort_syntax.specs.declared.deck.Deck.{Deck}
use Rattle.fort_syntax.specs.declared.dialect.Dialect.{Dialect}
use Rattle.fort_notes.specs.Remarks.{Remarks}
use Rattle.fort_model.specs.Conditions.{AreValid, IsExact, conditions_of}
use Rattle.fort_model.specs.Correct.{IsTotallyCorrect}
use Rattle.fort_model.specs.Paths.{Path}
use Rattle.fort_model.specs.Program.{Program}
use Rattle.event_text.specs.EventText.{event_text}
use Rattle.event_text.specs.Readable.{AreAlike, IsReadable}
use Rattle.event_text.specs.declared.marks.Marks.{Marks}
use Rattle.judging.specs.Judgement.{IsAcceptedIn}
use Rattle.prover_box.specs.Answers.{Seen}
use Rattle.prover_box.specs.Laws.{AreUnclosedValid}
use Rattle.vcg_top.specs.Marked.{AreMarksFor}

-- A text spells the conditions of a program, that of a deck that these bytes are and that keeps all rules. The
-- conditions are exact: one for each check of each path of each unit, in order, and each is false just where
-- the walk along its path fails at its check. And where all of them are valid, the program is totally correct:
-- each call of each of its units, on each processor of the dialect that meets the bound, from each storage that
-- fits and meets INPUT, ends without error and meets OUTPUT. The marks are what the provers lent gave: a
-- condition whose mark is a letter is valid, so it is enough that those marked `-` are. The text can be read
-- back: whatever definitions, conditions and marks it also spells, and can be read back, they are these
-- conditions and marks, and definitions that stand for the same.
pub record IsSoundText (d : Dialect) (bytes : List ℕ) (before now : List Seen) (text : List ℕ) : Type 0 where
  pub deck : Deck
  pub r : Remarks
  pub p : Program
  pub paths : List (List Path)
  pub marks : Marks
  pub accepted : IsAcceptedIn d bytes deck r p paths
  pub spelled : text ≡ event_text p.functions (conditions_of p paths) marks
  pub exact : IsExact p (conditions_of p paths)
  pub correct : AreValid p.functions (conditions_of p paths) → IsTotallyCorrect p
  pub marked : AreMarksFor p.functions (conditions_of p paths) before now marks
  pub readable : IsReadable p.functions (conditions_of p paths) marks
  pub alike :
      (es : List Function) (cs : List ConditionTree) (others : Marks) → IsReadable es cs others
      → text ≡ event_text es cs others → AreAlike p.functions es (conditions_of p paths) cs marks others
  pub enough : AreUnclosedValid p.functions marks.letters (conditions_of p paths) → IsTotallyCorrect p
