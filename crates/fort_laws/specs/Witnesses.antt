-- Programs that meet all that soundness wants of a program.
use Rattle.std.specs.Prelude.{◌≡◌, List, [], ◌∷◌, length, codes}
use Rattle.fort_syntax.specs.SmallDecks.{bin, rel, if, labelled, N}
use Rattle.formula.specs.Tree.{symbol}
use Rattle.fort_syntax.specs.WellFormed.{IsWellFormed}
use Rattle.fort_syntax.specs.declared.deck.Deck.{Deck}
use Rattle.fort_syntax.specs.declared.dialect.BinOp.TheVariants.{Sub}
use Rattle.fort_syntax.specs.declared.dialect.Dialect.TheVariants.{Common}
use Rattle.fort_syntax.specs.declared.dialect.RelOp.TheVariants.{Le}
use Rattle.fort_syntax.specs.declared.expr.Expr.TheVariants.{Const, Var}
use Rattle.fort_syntax.specs.declared.stmt.Stmt.TheVariants.{Assign, GoTo, Return}
use Rattle.fort_syntax.specs.declared.unit.Role.TheVariants.{Dummy}
use Rattle.fort_syntax.specs.declared.unit.Unit.{Unit as Routine}
use Rattle.fort_model.specs.ConditionRows.{is_equal}
use Rattle.fort_model.specs.Conditions.{AreAllPaths, AreValid, IsExact, conditions_of}
use Rattle.fort_model.specs.Decks.{line, scalar, routine}
use Rattle.fort_model.specs.Fitting.{HasFittingNotes}
use Rattle.fort_model.specs.Paths.{Path}
use Rattle.fort_model.specs.Program.{Program}
use Rattle.fort_model.specs.Rules.{KeepsRules}
use Rattle.fort_model.specs.Smashes.{HoldsSmashed}
use Rattle.fort_model.specs.VerdictRows.{rotate_program}
use Rattle.fort_model.specs.WalkRows.{defined, number, at_most, alone}

-- All that soundness wants of a program: its units are those of a well-formed deck; its notes fit; it keeps the rules; its
-- table holds the smashed names; and along all its paths there is an exact list of conditions, which are valid.
pub record MeetsPremises (program : Program) : Type 0 where
  pub deck : Deck
  pub same_units : deck.units ≡ program.units
  pub well_formed : IsWellFormed program.dialect deck
  pub notes : HasFittingNotes program
  pub rules : KeepsRules program
  pub smashed : HoldsSmashed program
  pub paths : List (List Path)
  pub all_paths : AreAllPaths program paths
  pub exact : IsExact program (conditions_of program paths)
  pub valid : AreValid program.functions (conditions_of program paths)

-- ---- N is counted down to 0, by a loop with an ASSERT at card 4

abbrev pub down : Routine
down = routine (codes "DOWN") (N ∷ []) (scalar Dummy N ∷ [])
    (labelled 5 10 (if (rel Le (Var N) (Const 0)) Return)
    ∷ line 6 (Assign (Var N) (bin Sub (Var N) (Const 1)))
    ∷ line 7 (GoTo 10)
    ∷ [])

abbrev pub down_program : Program
down_program =
    alone Common down
    (record {
      input = defined N ∷ at_most (number 0) (symbol N) ∷ [];
      output = is_equal (symbol N) (number 0) ∷ [];
      asserts = record { point = 0; card = 4; terms = defined N ∷ []; clock = symbol N ∷ [] } ∷ [];
    })
    (N ∷ [])

-- there are ten conditions
abbrev pub LoopMeetsPremises : Type 0
LoopMeetsPremises = (m : MeetsPremises down_program) × (length (conditions_of down_program m.paths) ≡ 10)

-- ---- two calls that turn three values around

-- there are twelve conditions
abbrev pub RotMeetsPremises : Type 0
RotMeetsPremises = (m : MeetsPremises rotate_program) × (length (conditions_of rotate_program m.paths) ≡ 12)
