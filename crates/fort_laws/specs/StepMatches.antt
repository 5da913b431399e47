-- What it means that a statement of a walk and of a strict run match.
use Rattle.std.specs.Prelude.{ℕ, ◌+◌, ◌≡◌, List, Option, Some}
use Rattle.formula.specs.declared.value.Value.{Value}
use Rattle.fort_syntax.specs.declared.condition.Kind.{Kind}
use Rattle.fort_model.specs.Outcome.{Ended, Act}
use Rattle.fort_model.specs.Seen.{Named, Answers, See}
use Rattle.fort_model.specs.Storage.{Storage}
use Rattle.fort_laws.specs.Matches.{AllTrue, FirstFails, Errs}

-- A statement of a walk, which knows its choices, and of a run from some storage, which makes them. There are choices that lead
-- on, such that: all events are true, whatever the answers of later calls, and the run makes these choices, and what names then
-- stand for and the storage belong together; or the first false event is a check, and the run errs with it.
pub data StepMatches {C : Type 0} (list : C → List ℕ) (leads : List ℕ → Option ℕ)
    (part : C → See Value (Named Value)) (act : Act (List ℕ)) (Q : Named Value → Storage → Type 0)
    (st : Storage) : Type 0 where
  goes : (c : C) (q : ℕ) → leads (list c) ≡ Some q → (pre : Answers Value → Answers Value) (now : Named Value)
      (after : Storage) (cost : ℕ)
      → ((answers : Answers Value) → AllTrue (part c (pre answers)).events) → ((answers : Answers Value)
      → (part c (pre answers)).value ≡ now)
      → ((answers : Answers Value) → (part c (pre answers)).rest ≡ answers)
      → ((n : ℕ) → act st (cost + n) ≡ Ended (list c) after n) → Q now after
      → StepMatches list leads part act Q st
  stops : (c : C) (q : ℕ) → leads (list c) ≡ Some q → (pre : Answers Value → Answers Value) (kind : Kind) (card : ℕ)
      → ((answers : Answers Value) → FirstFails kind card (part c (pre answers)).events) → Errs kind card act st
      → StepMatches list leads part act Q st
