use Rattle.std.proofs.Common.{◌≡◌, ◌≤◌, drop}
use Rattle.decl_faults.specs.Sizes.{passes}
use Rattle.decl_faults.proofs.dims.passes.Given as goal

abbrev pub invariant-loop-dim : goal.invariant-loop-dim
invariant-loop-dim l = record {
  small : l.size ≤ 1000000;
  rest : passes l.size (drop l.dim-index l.dims) ≡ passes 1 l.dims;
}
