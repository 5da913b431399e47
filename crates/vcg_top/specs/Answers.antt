-- What the top call writes.
use Rattle.std.specs.Prelude.{ℕ, ◌≡◌, ◌⊎◌, ◌==◌, not, filter, Option, List, length}
use Rattle.std.specs.Io.KnownBytes.{Appends}
use Rattle.fort_syntax.specs.FaultLine.{fault_line}
use Rattle.fort_syntax.specs.declared.deck.Deck.{Deck}
use Rattle.fort_syntax.specs.declared.dialect.Dialect.{Dialect}
use Rattle.fort_syntax.specs.declared.dialect.Dialect.TheVariants.{Common}
use Rattle.fort_syntax.specs.declared.refusal.Fault.{Fault}
use Rattle.fort_notes.specs.Remarks.{Remarks}
use Rattle.event_text.specs.EventText.{event_text}
use Rattle.event_text.specs.Sending.{AppendsPart}
use Rattle.event_text.specs.declared.marks.Marks.{Marks}
use Rattle.fort_model.specs.Conditions.{conditions_of}
use Rattle.fort_model.specs.Paths.{Path}
use Rattle.fort_model.specs.Program.{Program}
use Rattle.judging.specs.Judgement.{IsAcceptedIn, IsFirstFaultIn}
use Rattle.prover_box.specs.Answers.{Seen, unclosed}
use Rattle.reply_lines.specs.Lines.{accepted_line, made_line}
use Rattle.reply_lines.specs.declared.lines.Sizes.{Sizes}
use Rattle.deck_judging.specs.Judged.{count_of_paths}
use Rattle.run_texts.specs.Runs.{run_text}
use Rattle.try_lines.specs.Tries.{try_text}
use Rattle.vcg_top.specs.Commands.{dialect_of}
use Rattle.vcg_top.specs.Marked.{AreMarksFor}
use Rattle.vcg_top.specs.declared.command.Command.{Command}
use Rattle.vcg_top.specs.declared.command.Command.TheVariants.{Deck as OfDeck, Made}
use Rattle.vcg_top.specs.declared.command.Task.TheVariants.{Vc, Check, Run, Try}

-- ---- texts

-- The text for bytes that are accepted: the definitions of their program, and its conditions along all its paths, with the
-- marks that the provers lent gave them; these are as they were before, and as they are now.
pub record IsDoneText (d : Dialect) (bytes : List ℕ) (before now : List Seen) (text : List ℕ) : Type 0 where
  pub deck : Deck
  pub r : Remarks
  pub p : Program
  pub paths : List (List Path)
  pub marks : Marks
  pub accepted : IsAcceptedIn d bytes deck r p paths
  pub marked : AreMarksFor p.functions (conditions_of p paths) before now marks
  pub is : text ≡ event_text p.functions (conditions_of p paths) marks

-- how many units, paths and conditions a program has, where these are the paths of its units
abbrev pub sizes_of : Program → List (List Path) → Sizes
sizes_of p paths = record { units = length p.units; paths = count_of_paths paths; conditions = length (conditions_of p paths) }

-- the line of `check` for bytes that are accepted: how many units, paths and conditions their program has
pub record IsCheckText (d : Dialect) (bytes text : List ℕ) : Type 0 where
  pub deck : Deck
  pub r : Remarks
  pub p : Program
  pub paths : List (List Path)
  pub accepted : IsAcceptedIn d bytes deck r p paths
  pub is : text ≡ accepted_line (sizes_of p paths)

-- The lines of `run` for bytes that are accepted: for each RUN card, what the run of its unit comes to in the
-- model of the language, from the start that the card gives, on the card's processor and with its steps; or why
-- it is not run.
pub record IsRunText (d : Dialect) (bytes text : List ℕ) : Type 0 where
  pub deck : Deck
  pub r : Remarks
  pub p : Program
  pub paths : List (List Path)
  pub accepted : IsAcceptedIn d bytes deck r p paths
  pub is : text ≡ run_text d p.units p.bound 1 r.runs

-- the lines of `try` for bytes that are accepted: for each TRY card, what the condition that it names comes to by its assignment
pub record IsTryText (d : Dialect) (bytes text : List ℕ) : Type 0 where
  pub deck : Deck
  pub r : Remarks
  pub p : Program
  pub paths : List (List Path)
  pub accepted : IsAcceptedIn d bytes deck r p paths
  pub is : text ≡ try_text p.functions (conditions_of p paths) 1 r.tries

-- how many marks are letters
abbrev pub count_of_marked : List ℕ → ℕ
count_of_marked marks = length (filter (λ mark. not (mark == unclosed)) marks)

-- the line of `made` for the bytes of a made deck: the sizes of their program, and how many of its conditions
-- the provers lent marked with a letter
pub record IsMadeText (n : ℕ) (bytes : List ℕ) (before now : List Seen) (text : List ℕ) : Type 0 where
  pub deck : Deck
  pub r : Remarks
  pub p : Program
  pub paths : List (List Path)
  pub marks : Marks
  pub accepted : IsAcceptedIn Common bytes deck r p paths
  pub marked : AreMarksFor p.functions (conditions_of p paths) before now marks
  pub is : text ≡ made_line n (sizes_of p paths) (count_of_marked marks.letters)

-- the text for other bytes: the line of their first fault
pub record IsRefusedText (d : Dialect) (bytes text : List ℕ) : Type 0 where
  pub fault : Fault
  pub first : IsFirstFaultIn d bytes fault
  pub is : text ≡ fault_line fault

-- what a command writes for bytes that are accepted
abbrev pub IsReply : Command → List ℕ → List Seen → List Seen → List ℕ → Type 0
IsReply (OfDeck Vc d) bytes before now text = IsDoneText d bytes before now text
IsReply (OfDeck Check d) bytes before now text = IsCheckText d bytes text
IsReply (OfDeck Run d) bytes before now text = IsRunText d bytes text
IsReply (OfDeck Try d) bytes before now text = IsTryText d bytes text
IsReply (Made n) bytes before now text = IsMadeText n bytes before now text

-- ---- what is appended

-- a text of this kind was appended
abbrev pub AppendsOf : (List ℕ → Type 0) → Option (List ℕ) → Option (List ℕ) → Type 0
AppendsOf P before now = (text : List ℕ) × P text × Appends before now text

-- a front part of a text of this kind was appended
abbrev pub AppendsPartOf : (List ℕ → Type 0) → Option (List ℕ) → Option (List ℕ) → Type 0
AppendsPartOf P before now = (text : List ℕ) × P text × AppendsPart before now text

-- what a command writes for bytes, whether they are accepted or refused
abbrev pub IsEither : Command → List ℕ → List Seen → List Seen → List ℕ → Type 0
IsEither c bytes before now text = IsReply c bytes before now text ⊎ IsRefusedText (dialect_of c) bytes text
