-- Which rules of a stage one unit breaks.
use Rattle.std.specs.Prelude.{◌≡◌, ℕ, List}
use Rattle.fort_syntax.specs.declared.rule.Rule.{Rule}
use Rattle.fort_syntax.specs.declared.unit.Unit.{Unit as Routine}
use Rattle.fort_model.specs.Lists.{IsAmong}
use Rattle.fort_model.specs.Program.{Program}
use Rattle.fort_model.specs.Rules.{Breaks}

-- a rule of these is broken at a card by the unit of number i of a program
pub record BreaksOneOf (p : Program) (rules : List Rule) (i : ℕ) (u : Routine) (rule : Rule) (card : ℕ) : Type 0 where
  pub among : IsAmong rule rules
  pub breaks : Breaks p rule i u card

-- one rule is broken at the cards of a list
abbrev pub IsBrokenAt : Rule → List ℕ → Rule → ℕ → Type 0
IsBrokenAt one cards rule card = (rule ≡ one) × IsAmong card cards
