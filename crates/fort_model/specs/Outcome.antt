-- What a part of a run comes to, and how one part follows another.
use Rattle.std.specs.Prelude.{ℕ, zero, suc, Bool, true, false}
use Rattle.fort_syntax.specs.declared.condition.Kind.{Kind}
use Rattle.fort_model.specs.Storage.{Storage}

infixr 1 ◌>>=◌ ◌>>◌
-- A part of a run ends with an answer, the storage and the steps that are left of its stock; or it errs,
-- with a kind and a card; or it would need one step more than its stock had. The last two tell the
-- storage held then, with all cells that were made.
pub data Outcome (A : Type 0) : Type 0 where
  Ended : A → Storage → ℕ → Outcome A
  Erred : Kind → ℕ → Storage → Outcome A
  Running : Storage → Outcome A

-- what follows is done where the first part ends
abbrev pub and_then : {A B : Type 0} → Outcome A → (A → Storage → ℕ → Outcome B) → Outcome B
and_then (Ended a st n) next = next a st n
and_then (Erred kind card st) next = Erred kind card st
and_then (Running st) next = Running st

-- a part of a run: what it comes to, by the storage and the stock of steps at its start
abbrev pub Act : Type 0 → Type 0
Act A = Storage → ℕ → Outcome A

abbrev pub ◌>>=◌ : {A B : Type 0} → Act A → (A → Act B) → Act B
◌>>=◌ act next st n = and_then (act st n) next

abbrev pub ◌>>◌ : {A B : Type 0} → Act A → Act B → Act B
◌>>◌ act next st n = and_then (act st n) (λ _. next)

-- an answer, with nothing done
abbrev pub give : {A : Type 0} → A → Act A
give a st n = Ended a st n

abbrev pub fail : {A : Type 0} → Kind → ℕ → Act A
fail kind card st n = Erred kind card st

-- a check errs where it does not hold
abbrev pub check : Kind → ℕ → Bool → Act (Unit {0})
check kind card true = give tt
check kind card false = fail kind card

-- one step is taken from the stock
abbrev pub step : Act (Unit {0})
step st zero = Running st
step st (suc n) = Ended tt st n

-- what no run of a deck that keeps the rules comes to: it never ends
abbrev pub stuck : {A : Type 0} → Act A
stuck st n = Running st

-- the storage, and other storage in its place
abbrev pub held : Act Storage
held st n = Ended st st n

abbrev pub put : Storage → Act (Unit {0})
put new st n = Ended tt new n
