use Rattle.std.proofs.Common.{[], List, ap, ◌∙◌}
use Rattle.std.specs.Prelude.{◌&&◌, flat_map}
use Rattle.std.specs.List.{list_any}
use Rattle.formula.specs.Atoms.{is_among}
use Rattle.fort_syntax.specs.Units.{names_in_dims}
use Rattle.fort_syntax.specs.declared.name.Name.{Name}
use Rattle.fort_syntax.specs.declared.unit.DataName.{DataName}
use Rattle.name_tables.specs.Sets.{with_names}
use Rattle.smash_heads.proofs.Dimensioned.{dims_told}
use Rattle.smash_heads.proofs.dims.dim_smashed.Goals as goal

pub returns : goal.returns
returns c =
    c.some_in_both.ensures
    ∙ (ap (λ (names : List DataName). list_any (λ (d : DataName). is_among d.name c.in_ok-dims.dims && is_among d.name c.args.smashed.now) names) c.as_slice-names.ensures
    ∙ (ap (λ (dims : List Name). list_any (λ (d : DataName). is_among d.name dims && is_among d.name c.args.smashed.now) c.args.unit.now.names)
    (c.in_ok-dims.ensures ∙ ap (λ (names : List DataName). with_names [] (flat_map (λ d. names_in_dims d.dims) names)) c.as_slice-names.ensures)
    ∙ dims_told c.args.unit.now c.args.smashed.now c.args.unit.now.names))
