-- What a part of a walk answers, and the symbols of calls.
use Rattle.std.specs.Prelude.{ℕ, suc, List, [], ◌++◌}
use Rattle.fort_syntax.specs.declared.name.Name.{Name}
use Rattle.fort_model.specs.Events.{Event}
use Rattle.fort_model.specs.Senses.{Sense}
use Rattle.fort_model.specs.Symbols.{ByCall}

-- what names stand for
abbrev pub Named : Type 0 → Type 0
Named V = Name → V

-- the answers of the calls to come, the next one first: what names of the caller stand for after a CALL, or what the
-- name of a function stands for that is referred to
abbrev pub Answers : Type 0 → Type 0
Answers V = ℕ → Named V

abbrev pub later : {V : Type 0} → Answers V → Answers V
later answers i = answers (suc i)

-- the answers are the symbols of the calls, of which the first has the number 1
abbrev pub symbols_of_calls : {V : Type 0} → Sense V → Answers V
symbols_of_calls s i x = s.named (ByCall x (suc i))

-- what a part comes to, what it meets in order, and the answers that it leaves
pub record Seen (V A : Type 0) : Type 0 where
  pub value : A
  pub events : List (Event V)
  pub rest : Answers V

abbrev pub See : Type 0 → Type 0 → Type 0
See V A = Answers V → Seen V A

infixr 1 ◌>>=◌ ◌>>◌
-- one part follows another: what it meets comes behind, and it uses the answers that are left
abbrev pub ◌>>=◌ : {V A B : Type 0} → See V A → (A → See V B) → See V B
◌>>=◌ part next answers =
    let a = part answers in
    let b = next a.value a.rest in
    record { value = b.value; events = a.events ++ b.events; rest = b.rest }

abbrev pub ◌>>◌ : {V A B : Type 0} → See V A → See V B → See V B
◌>>◌ part next = part >>= λ _. next

-- a value, with nothing met
abbrev pub see : {V A : Type 0} → A → See V A
see a answers = record { value = a; events = []; rest = answers }

-- events are met
abbrev pub meet : {V : Type 0} → List (Event V) → See V (Unit {0})
meet events answers = record { value = tt; events = events; rest = answers }

-- the next call has its answer
abbrev pub next_answer : {V : Type 0} → See V (Named V)
next_answer answers = record { value = answers 0; events = []; rest = later answers }
