-- What it means that a part of a walk, in the sense of values, and a part of a strict run match: where they go on alike,
-- and where the first event that is false is a check and the run errs with it.
use Rattle.std.specs.Prelude.{ℕ, ◌+◌, ◌≡◌, ◌⊎◌, true, false, List, [], ◌∷◌}
use Rattle.formula.specs.declared.value.Value.{Value}
use Rattle.formula.specs.Values.{holds}
use Rattle.fort_syntax.specs.declared.condition.Kind.{Kind}
use Rattle.fort_syntax.specs.declared.condition.Kind.TheVariants.{InputCheck}
use Rattle.fort_model.specs.Events.{Event, Check, Take}
use Rattle.fort_model.specs.Outcome.{Ended, Erred, Act}
use Rattle.fort_model.specs.Seen.{Answers, See}
use Rattle.fort_model.specs.Storage.{Storage}

-- all events are true
abbrev pub AllTrue : List (Event Value) → Type 0
AllTrue [] = Unit {0}
AllTrue (Check kind card v ∷ es) = (holds v ≡ true) × AllTrue es
AllTrue (Take v ∷ es) = (holds v ≡ true) × AllTrue es

-- the first event that is false is a check of this kind and card
abbrev pub FirstFails : Kind → ℕ → List (Event Value) → Type 0
FirstFails kind card [] = ⊥
FirstFails kind card (Check k c v ∷ es) = ((holds v ≡ true) × FirstFails kind card es)
    ⊎ ((holds v ≡ false) × (k ≡ kind) × (c ≡ card))
FirstFails kind card (Take v ∷ es) = (holds v ≡ true) × FirstFails kind card es

-- a part of a run errs at some cost, with every stock that is enough; nothing is claimed where a callee's INPUT fails
pub data Errs {B : Type 0} (kind : Kind) (card : ℕ) (act : Act B) (st : Storage) : Type 0 where
  of_callee : kind ≡ InputCheck → Errs kind card act st
  errs : (after : Storage) (cost : ℕ) → ((n : ℕ) → act st (cost + n) ≡ Erred kind card after) → Errs kind card act st

-- Parts of a walk and of a run from some storage. Either all events are true, whatever the answers of later calls, and
-- both come to things that belong together; or the first false event is a check, and the run errs with it. The part may
-- need some answers of calls, which are put in front.
pub data Matches {A B : Type 0} (Q : A → B → Storage → Type 0) (part : See Value A) (act : Act B) (st : Storage) : Type 0 where
  moves : (pre : Answers Value → Answers Value) (a : A) (b : B) (after : Storage) (cost : ℕ)
      → ((answers : Answers Value) → AllTrue (part (pre answers)).events) → ((answers : Answers Value)
      → (part (pre answers)).value ≡ a)
      → ((answers : Answers Value) → (part (pre answers)).rest ≡ answers)
      → ((n : ℕ) → act st (cost + n) ≡ Ended b after n) → Q a b after
      → Matches Q part act st
  fails : (pre : Answers Value → Answers Value) (kind : Kind) (card : ℕ) → ((answers : Answers Value)
      → FirstFails kind card (part (pre answers)).events) → Errs kind card act st
      → Matches Q part act st

-- the storage stays, and things belong together
abbrev pub Same : {A B : Type 0} → Storage → (A → B → Type 0) → A → B → Storage → Type 0
Same st R a b after = (after ≡ st) × R a b
