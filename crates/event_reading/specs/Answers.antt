-- What readers answer.
use Rattle.std.specs.Prelude.{◌≡◌, Option, Some, None, Result, Ok, Err}
use Rattle.event_reading.specs.declared.lack.Lack.{Lack}
use Rattle.event_reading.specs.declared.lack.Lack.TheVariants.{Spelling, Memory}

-- an error is that nothing is read, unless memory ran out
abbrev pub Fails : {Y : Type 0} → Lack → Option Y → Type 0
Fails Memory read = Unit {0}
Fails Spelling read = read ≡ None

-- an answer, seen by view, is what is read
abbrev pub Gives : {X Y : Type 0} → (X → Y) → Result X Lack → Option Y → Type 0
Gives view (Ok x) read = read ≡ Some (view x)
Gives view (Err e) read = Fails e read
