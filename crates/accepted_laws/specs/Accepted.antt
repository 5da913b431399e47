-- Decks that are accepted.
use Rattle.std.specs.Prelude.{◌≡◌, List, Ok}
use Rattle.fort_syntax.specs.WellFormed.{IsWellFormed}
use Rattle.fort_syntax.specs.declared.deck.Deck.{Deck}
use Rattle.fort_syntax.specs.declared.dialect.Dialect.{Dialect}
use Rattle.fort_notes.specs.Remarks.{Remarks, remarks_of}
use Rattle.fort_model.specs.Conditions.{AreAllPaths}
use Rattle.fort_model.specs.Paths.{Path}
use Rattle.fort_model.specs.Program.{Program}
use Rattle.fort_model.specs.Programs.{program_of}
use Rattle.fort_model.specs.Rules.{KeepsRules}
use Rattle.fort_model.specs.SmashTables.{IsSmashTable}

-- A program is that of a well-formed deck in a dialect, whose notes say these remarks: it has the units of the deck, what the
-- remarks say, and the table of smashed names.
pub record IsProgramOf (dialect : Dialect) (deck : Deck) (r : Remarks) (p : Program) : Type 0 where
  pub well_formed : IsWellFormed dialect deck
  pub remarks : remarks_of deck ≡ Ok r
  pub program : p ≡ program_of dialect deck r p.smashes
  pub table : IsSmashTable p

-- A deck is accepted in a dialect as a program that keeps all rules, with all paths of its units.
pub record IsAcceptedAs (dialect : Dialect) (deck : Deck) (r : Remarks) (p : Program) (paths : List (List Path)) : Type 0 where
  pub is_program : IsProgramOf dialect deck r p
  pub kept : KeepsRules p
  pub all_paths : AreAllPaths p paths
