-- Faults of decks that are well formed: among notes, and in the stages in which programs are judged.
use Rattle.std.specs.Prelude.{◌≡◌, ◌⊎◌, List, [], ◌∷◌, Ok, Err}
use Rattle.fort_syntax.specs.declared.deck.Deck.{Deck}
use Rattle.fort_syntax.specs.declared.dialect.Dialect.{Dialect}
use Rattle.fort_syntax.specs.declared.refusal.Fault.{Fault}
use Rattle.fort_syntax.specs.declared.rule.Rule.{Rule}
use Rattle.fort_notes.specs.Remarks.{Remarks, remarks_of}
use Rattle.fort_model.specs.Program.{Program}
use Rattle.fort_model.specs.Programs.{program_of}
use Rattle.fort_model.specs.Stages.{rules_of_calls, rules_of_smashing, rules_of_ranges, rules_of_flow, KeepsAll, IsFirstBroken}
use Rattle.accepted_laws.specs.Accepted.{IsProgramOf}

-- the first fault of the first of some stages in which a rule is broken
abbrev pub IsFirstIn : Program → List (List Rule) → Fault → Type 0
IsFirstIn p [] f = ⊥
IsFirstIn p (rules ∷ stages) f = IsFirstBroken p rules f ⊎ (KeepsAll p rules × IsFirstIn p stages f)

-- a fault in the calls of a deck, which units alone decide: no table of smashed names is looked at
abbrev pub IsCallFault : Dialect → Deck → Fault → Type 0
IsCallFault dialect deck f = (r : Remarks) × (remarks_of deck ≡ Ok r) × IsFirstBroken
    (program_of dialect deck r []) rules_of_calls f

-- the stages behind that of calls: what calls smash, the ranges of DOs and the clocks, and the flow
abbrev pub later_stages : List (List Rule)
later_stages = rules_of_smashing ∷ rules_of_ranges ∷ rules_of_flow ∷ []

-- a fault in a later stage
abbrev pub IsLaterFault : Dialect → Deck → Fault → Type 0
IsLaterFault dialect deck f =
    (r : Remarks) × (p : Program) × IsProgramOf dialect deck r p × KeepsAll p rules_of_calls × IsFirstIn p later_stages f

-- the first fault of a well-formed deck: among its notes, in its calls, or in a later stage
abbrev pub IsModelFault : Dialect → Deck → Fault → Type 0
IsModelFault dialect deck f = (remarks_of deck ≡ Err f) ⊎ (IsCallFault dialect deck f ⊎ IsLaterFault dialect deck f)
