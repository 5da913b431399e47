use Rattle.std.proofs.Common.{◌≡◌, ◌++◌, drop}
use Rattle.std.specs.Prelude.{flat_map}
use Rattle.fort_syntax.specs.Uses.{uses_in}
use Rattle.stmt_names.specs.Usings.{use_by}
use Rattle.stmt_names.proofs.uses.+uses.Given as goal

abbrev pub invariant-push_args-loop-e : goal.invariant-push_args-loop-e
invariant-push_args-loop-e l = (l.all.items ++ flat_map (uses_in (use_by l.how)) (drop l.e-index l.args)) ≡ (l.initial.all.items ++ flat_map (uses_in (use_by l.how)) l.args)
