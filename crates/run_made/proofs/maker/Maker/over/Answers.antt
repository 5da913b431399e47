use Rattle.std.proofs.Common.{◌≡◌, slice_get, sym, ap, ◌∙◌}
use Rattle.fort_model.specs.Flow.{target}
use Rattle.fort_model.specs.Perform.{card_in}
use Rattle.run_shapes.specs.declared.instr.Instr.TheVariants.{Tests}
use Rattle.run_made.specs.Made.{over_at, unit_in}
use Rattle.run_made.proofs.maker.Maker.over.Goals as goal

pub returns-in-Do : goal.returns-in-Do
returns-in-Do c =
    let u = unit_in c.args.self.now in
    let last : c.point-last.result ≡ target u.lines c.in-Do.label = c.point-last.ensures.point ∙ (λ i. target (c.lines.ensures i) c.in-Do.label) in
    (λ i. Tests ((c.card_at.ensures ∙ (λ j. card_in (slice_get (c.lines-in-Do.ensures j) (last j)))) i) (c.place_over.ensures i))
    ∙ sym (ap (over_at u c.args.self.now.table.now c.args.point) c.in-Do.is)
