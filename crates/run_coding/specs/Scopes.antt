-- The unit of a scope, and calls of it that are listed.
use Rattle.std.specs.Prelude.{ℕ, suc, List, ◌++◌, length, Option}
use Rattle.fort_syntax.specs.declared.unit.Unit.{Unit as Routine}
use Rattle.fort_model.specs.Calls.{CallSite}
use Rattle.run_shapes.specs.Coded.{calls_coded}
use Rattle.run_shapes.specs.declared.unit_code.CallCode.{CallCode}
use Rattle.run_coding.specs.declared.scope.Scope.{Scope}

abbrev pub unit_of : Scope → Routine
unit_of s = s.book.now.unit.now

-- a list of calls with more, whose numbers go on
abbrev pub with_calls : Scope → List CallSite → List CallCode → List CallCode
with_calls s sites calls = calls ++ calls_coded s.units.now (suc (length calls)) sites

-- the call behind those that are listed
abbrev pub next_call : List CallCode → Option ℕ → ℕ → CallCode
next_call calls callee actuals = record { number = suc (length calls); callee = callee; actuals = actuals }
