use Rattle.std.proofs.Common.{◌≡◌, ◌++◌, map, drop}
use Rattle.fort_syntax.specs.Names.{own_in}
use Rattle.run_slots.proofs.names.push_own.Given as goal

abbrev pub invariant-loop-data : goal.invariant-loop-data
invariant-loop-data l = l.all.items ++ map (λ d. d.name) (own_in (drop l.data-index l.names)) ≡ l.fn.all.items ++ map (λ d. d.name) (own_in l.names)
