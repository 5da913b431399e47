-- What is written of what is found of a deck.
use Rattle.std.specs.Prelude.{ℕ, ◌≡◌, List, length, map}
use Rattle.formula.specs.Worth.{functions_of}
use Rattle.event_text.specs.Conditions.{condition_tree}
use Rattle.event_text.specs.EventText.{event_text}
use Rattle.event_text.specs.declared.marks.Marks.{Marks}
use Rattle.prover_box.specs.Answers.{Seen, AreAsked, told}
use Rattle.reply_lines.specs.Lines.{accepted_line, made_line}
use Rattle.reply_lines.specs.declared.lines.Sizes.{Sizes}
use Rattle.deck_judging.specs.declared.found.Judged.{Judged}
use Rattle.run_texts.specs.Runs.{run_text}
use Rattle.try_lines.specs.Tries.{try_text}
use Rattle.vcg_top.specs.Answers.{count_of_marked}
use Rattle.vcg_top.specs.Marked.{AreSmall}
use Rattle.vcg_top.specs.declared.command.Command.{Command}
use Rattle.vcg_top.specs.declared.command.Command.TheVariants.{Deck, Made}
use Rattle.vcg_top.specs.declared.command.Task.TheVariants.{Vc, Check, Run, Try}

-- marks that provers gave, and what they tell of themselves
pub record AreMarksOf (j : Judged) (before now : List Seen) (marks : Marks) : Type 0 where
  pub asked : AreAsked j.pool j.definitions before j.conditions now marks.letters
  pub counts : marks.asked ≡ map told now
  pub small : AreSmall marks.asked

-- the text of its definitions and conditions, with the marks that provers gave
pub record IsTextOf (j : Judged) (before now : List Seen) (text : List ℕ) : Type 0 where
  pub marks : Marks
  pub given : AreMarksOf j before now marks
  pub is : text ≡ event_text (functions_of j.pool j.definitions) (map (condition_tree j.pool) j.conditions) marks

-- how many units, paths and conditions it has
abbrev pub sizes_found : Judged → Sizes
sizes_found j = record { units = j.units; paths = j.paths; conditions = length j.conditions }

-- the line of the made deck of n units, with the number of letters among the marks that provers gave
pub record IsMadeOf (n : ℕ) (j : Judged) (before now : List Seen) (text : List ℕ) : Type 0 where
  pub marks : Marks
  pub given : AreMarksOf j before now marks
  pub is : text ≡ made_line n (sizes_found j) (count_of_marked marks.letters)

-- what a command writes of it
abbrev pub IsReplyOf : Command → Judged → List Seen → List Seen → List ℕ → Type 0
IsReplyOf (Deck Vc d) j before now text = IsTextOf j before now text
IsReplyOf (Deck Check d) j before now text = text ≡ accepted_line (sizes_found j)
IsReplyOf (Deck Run d) j before now text = text ≡ run_text d j.deck.units j.bound 1 j.runs
IsReplyOf (Deck Try d) j before now text = text ≡ try_text (functions_of j.pool j.definitions)
    (map (condition_tree j.pool) j.conditions) 1 j.tries
IsReplyOf (Made n) j before now text = IsMadeOf n j before now text
