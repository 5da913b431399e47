use Rattle.std.proofs.Common.{Some, sym, ap, ◌∙◌, option_copied}
use Rattle.fort_syntax.specs.Names.{data_name, dims_of_data}
use Rattle.run_start.specs.Shapes.{sized_from}
use Rattle.run_start.specs.Starts.{fits_cells}
use Rattle.run_start.proofs.Shaped.{bad_shape, good_shape}
use Rattle.run_start.proofs.entries.Entries.shape.Goals as goal

pub returns-in_default : goal.returns-in_default
returns-in_default c =
    bad_shape c.args.self.now.unit.now c.args.self.now.given.now c.args.name.now
    (ap (λ o. sized_from c.args.self.now.given.now (Some 1) (dims_of_data o)) (sym c.data-known.ensures) ∙ sym c.in_default.ensures)

pub returns : goal.returns
returns c =
    c.when.ensures
    ∙ good_shape c.args.self.now.unit.now c.args.self.now.given.now c.args.name.now c.in-Some.size c.fits.result
    (ap (λ o. sized_from c.args.self.now.given.now (Some 1) (dims_of_data o)) (sym c.data-known.ensures) ∙ sym c.in-Some.ensures)
    (λ n e. c.fits.ensures n e ∙ (ap (λ d. fits_cells d n (option_copied c.find.result)) c.data-known.ensures ∙ ap (fits_cells (data_name c.args.self.now.unit.now c.args.name.now) n) c.find.ensures))
