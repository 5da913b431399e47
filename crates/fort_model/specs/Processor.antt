-- Processors.
use Rattle.std.specs.Prelude.{ℕ, ℤ, pos, ◌≤ℤ◌, neg_ℤ, Bool}
use Rattle.fort_syntax.specs.declared.dialect.Dialect.{Dialect}
use Rattle.fort_syntax.specs.declared.name.Name.{Name}

-- the integers from least to greatest have all those from -bound to bound
abbrev pub Reaches : ℤ → ℤ → ℕ → Type 0
Reaches least greatest bound = (least ≤ℤ neg_ℤ (pos bound)) × (pos bound ≤ℤ greatest)

-- A processor runs one of the dialects and has the integers from least to greatest. A lazy one
-- leaves out the right operand of .AND. and .OR. where the left one decides; a strict one leaves out
-- nothing. An argument passes by copy where `copies` says so of the calling unit, the number of the
-- call in it and the number of the argument in the call, both counted from 1; else by reference.
pub record Processor : Type 0 where
  pub dialect : Dialect
  pub least : ℤ
  pub greatest : ℤ
  pub lazy : Bool
  pub copies : Name → ℕ → ℕ → Bool

-- it has at least the integers from -bound to bound
abbrev pub MeetsBound : Processor → ℕ → Type 0
MeetsBound p bound = Reaches p.least p.greatest bound
