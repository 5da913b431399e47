use Rattle.std.proofs.Common.{◌≡◌, ◌||◌, Bool, false, refl, sym, ap, ◌∙◌}
use Rattle.formula.specs.Atoms.{is_among}
use Rattle.fort_model.specs.Walk.{is_dim}
use Rattle.fort_syntax.specs.declared.stmt.Dim.{Dim}
use Rattle.start_lists.proofs.Kept.{among_with, or_false}
use Rattle.start_lists.proofs.dims.add_dim.Goals as goal

pub returns-in-Fixed : goal.returns-in-Fixed
returns-in-Fixed c x = sym (ap (λ (d : Dim). is_among x c.args.set.now || is_dim x d) c.in-Fixed.is ∙ or_false (is_among x c.args.set.now))

pub returns-in-Ok : goal.returns-in-Ok
returns-in-Ok c x =
    among_with x c.in-Named.name c.args.set.now c.add.new.self c.in-Ok.ensures.after
    ∙ sym (ap (λ (d : Dim). is_among x c.args.set.now || is_dim x d) c.in-Named.is)
