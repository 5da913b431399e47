use Rattle.std.proofs.Common.{◌≡◌, drop}
use Rattle.std.specs.Prelude.{◌&&◌, not}
use Rattle.std.specs.List.{list_any}
use Rattle.formula.specs.Atoms.{is_among}
use Rattle.fort_syntax.specs.Names.{is_own}
use Rattle.smash_heads.proofs.functions.some_seen.Given as goal

abbrev pub invariant-loop-entry : goal.invariant-loop-entry
invariant-loop-entry l =
    list_any (λ d. not (is_own d.role) && is_among d.name l.smashed) (drop l.entry-index l.names) ≡ list_any (λ d. not (is_own d.role) && is_among d.name l.smashed) l.names
