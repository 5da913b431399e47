use Rattle.std.proofs.Common.{◌≡◌, All, map, take}
use Rattle.formula.specs.Pool.{Grows}
use Rattle.formula.specs.Substitution.{IsImage, changed}
use Rattle.formula.proofs.replacement.replaced.Given as goal

abbrev pub invariant-loop-here : goal.invariant-loop-here
invariant-loop-here l = record {
  so_far : map (λ m. m.id) l.images.items ≡ take l.here-index l.ids;
  grows : Grows l.fn.pool l.pool;
  right : All (IsImage l.pool (changed l.fn.pool l.by) l.fn.pool) l.images.items;
}
