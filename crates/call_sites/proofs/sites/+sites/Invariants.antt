use Rattle.std.proofs.Common.{◌≡◌, ◌++◌, drop}
use Rattle.std.specs.Prelude.{flat_map}
use Rattle.fort_model.specs.Calls.{sites_in}
use Rattle.call_sites.proofs.sites.+sites.Given as goal

abbrev pub invariant-push_args-loop-e : goal.invariant-push_args-loop-e
invariant-push_args-loop-e l = (l.all.items ++ flat_map (sites_in l.book.unit.now) (drop l.e-index l.args)) ≡ (l.initial.all.items ++ flat_map (sites_in l.book.unit.now) l.args)
