use Rattle.std.proofs.Common.{◌≡◌, ◌++◌, drop, length}
use Rattle.std.specs.Prelude.{flat_map}
use Rattle.fort_model.specs.Calls.{sites_in}
use Rattle.run_coding.specs.Pushed.{actuals_listed, values_listed}
use Rattle.run_coding.specs.Scopes.{unit_of, with_calls}
use Rattle.run_coding.proofs.coding.+coding.Given as goal

abbrev pub invariant-code_actuals-loop-e : goal.invariant-code_actuals-loop-e
invariant-code_actuals-loop-e l =
    (with_calls l.scope (flat_map (sites_in (unit_of l.scope)) (drop l.e-index l.args)) l.calls.items
    ≡ with_calls l.scope (flat_map (sites_in (unit_of l.scope)) l.args) l.fn.calls.items)
    × (l.out.items ++ actuals_listed (unit_of l.scope) l.scope.names.now (length l.calls.items) (drop l.e-index l.args)
    ≡ l.fn.out.items ++ actuals_listed (unit_of l.scope) l.scope.names.now (length l.fn.calls.items) l.args)

abbrev pub invariant-code_values-loop-e : goal.invariant-code_values-loop-e
invariant-code_values-loop-e l =
    (with_calls l.scope (flat_map (sites_in (unit_of l.scope)) (drop l.e-index l.args)) l.calls.items
    ≡ with_calls l.scope (flat_map (sites_in (unit_of l.scope)) l.args) l.fn.calls.items)
    × (l.out.items ++ values_listed (unit_of l.scope) l.scope.names.now (length l.calls.items) (drop l.e-index l.args)
    ≡ l.fn.out.items ++ values_listed (unit_of l.scope) l.scope.names.now (length l.fn.calls.items) l.args)
