-- What is met along the steps of a way.
use Rattle.std.specs.Prelude.{ℕ, zero, suc, List, [], ◌∷◌, ◌++◌, map, Option, Some, None, slice_get}
use Rattle.fort_syntax.specs.declared.unit.Line.{Line}
use Rattle.fort_model.specs.Events.{Event, takes}
use Rattle.fort_model.specs.Paths.{cut_at}
use Rattle.fort_model.specs.Seen.{Answers, Named, symbols_of_calls}
use Rattle.fort_model.specs.Senses.{note}
use Rattle.fort_model.specs.Walk.{arrive, at_entry, at_start, entry_facts, notes_here, start_facts}
use Rattle.fort_model.specs.WalkCalls.{Sight}
use Rattle.fort_model.specs.WalkStmt.{performed}
use Rattle.fort_notes.specs.Assertions.{Assertion}
use Rattle.path_cut.specs.Ways.{Way}
use Rattle.path_cut.specs.declared.step.Step.{Step}
use Rattle.path_cut.specs.declared.step.Step.TheVariants.{At, Choice}
use Rattle.way_laws.specs.PathsOf.{turns}

-- the statements of steps, each with its point and its choices
abbrev pub stops : List Step → List (ℕ × List ℕ)
stops [] = []
stops (At pc ∷ steps) = (pc, turns steps) ∷ stops steps
stops (Choice k c ∷ steps) = stops steps

-- behind some statements: the card of the last one, what names stand for, what was met, and the answers that are left
pub record Gone (V : Type 0) : Type 0 where
  pub card : ℕ
  pub now : Named V
  pub events : List (Event V)
  pub rest : Answers V

module _ {V : Type 0} (w : Sight V) where
  -- the statement at a point, and what follows; nothing where there is none
  abbrev pub gone_on : Option Line → ℕ → List ℕ → ℕ → Named V → Answers V → (ℕ → Named V → Answers V → Gone V) → Gone V
  gone_on None pc cs card now answers on = record { card = card; now = now; events = []; rest = answers }
  gone_on (Some line) pc cs card now answers on =
      let done = performed w line.card pc now line.stmt cs answers in
      let later = on line.card done.value done.rest in
      record { card = later.card; now = later.now; events = done.events ++ later.events; rest = later.rest }

  -- the statements at some points, one behind another
  abbrev pub gone : List (ℕ × List ℕ) → ℕ → Named V → Answers V → Gone V
  gone [] card now answers = record { card = card; now = now; events = []; rest = answers }
  gone (stop ∷ more) card now answers =
      gone_on (slice_get w.unit.lines stop.0) stop.0 stop.1 card now answers (λ c later left. gone more c later left)

  -- and then the path arrives at a point
  abbrev pub arrives_behind : Option (List V) → ℕ → Gone V → List (Event V)
  arrives_behind clock end g = g.events ++ arrive w clock g.card (cut_at w.unit (notes_here w) end) g.now []

  abbrev pub along_from_assert : Option Assertion → List Step → ℕ → List (Event V)
  along_from_assert None steps end = []
  along_from_assert (Some a) steps end =
      takes (entry_facts w) ++ takes (start_facts w a)
      ++ arrives_behind (Some (map (note w.sense (at_entry w) (at_start w)) a.clock)) end
      (gone (stops steps) 0 (at_start w) (symbols_of_calls w.sense))

  -- what is met along a way
  abbrev pub along : ℕ → List Step → ℕ → List (Event V)
  along zero steps end = takes (entry_facts w) ++ arrives_behind None end (gone (stops steps) 0 (at_entry w)
      (symbols_of_calls w.sense))
  along (suc k) steps end = along_from_assert (slice_get (notes_here w).asserts k) steps end
