use Rattle.std.proofs.Common.{ap, ◌∙◌, arith}
use Rattle.fort_syntax.specs.Units.{names_in_dims}
use Rattle.name_tables.specs.Sets.{with_names}
use Rattle.smash_heads.proofs.Dimensioned.{given_more}
use Rattle.smash_heads.proofs.dims.dim_names.Goals as goal

pub loop-entry-preserved : goal.loop-entry-preserved
loop-entry-preserved c =
    given_more (λ d. names_in_dims d.dims) c.loop-entry.set c.add_dims.new.set _ c.args.names.now c.loop-entry.entry-index c.entry-item.result (omega arith) c.entry-item.is
    (c.in_ok-add_dims.ensures ∙ ap (λ ds. with_names c.loop-entry.set (names_in_dims ds)) c.as_slice.ensures) c.loop-entry.invariant
