use Rattle.std.proofs.Common.{◌≡◌, drop}
use Rattle.std.specs.Prelude.{◌&&◌}
use Rattle.std.specs.List.{list_any}
use Rattle.formula.specs.Atoms.{is_among}
use Rattle.smash_heads.proofs.dims.some_in_both.Given as goal

abbrev pub invariant-loop-entry : goal.invariant-loop-entry
invariant-loop-entry l =
    list_any (λ d. is_among d.name l.a && is_among d.name l.b) (drop l.entry-index l.names) ≡ list_any (λ d. is_among d.name l.a && is_among d.name l.b) l.names
