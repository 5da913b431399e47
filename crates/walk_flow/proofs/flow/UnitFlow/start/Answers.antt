use Rattle.std.proofs.Common.{List, ap, slice_get, sym, ◌∙◌}
use Rattle.fort_model.specs.declared.graph.Target.{Target}
use Rattle.walk_flow.proofs.Stands.{start_is, start_there}
use Rattle.walk_flow.proofs.flow.UnitFlow.start.Goals as goal

pub returns-in-Some : goal.returns-in-Some
returns-in-Some c line here =
    let flow = c.args.self.now in
    let u = flow.setting.now.book.now.unit.now in
    start_is flow.setting.now.scene.now.dialect u flow.graph.now.forks c.args.point u.lines flow.graph.now.starts line c.in-Some.target (c.requires.graph.1).starts here
    (sym (ap (λ (ts : List Target). slice_get ts c.args.point) c.as_slice.ensures) ∙ sym c.target_at.ensures ∙ c.in-Some.is)

pub returns-in-None : goal.returns-in-None
returns-in-None c line here =
    let flow = c.args.self.now in
    let u = flow.setting.now.book.now.unit.now in
    absurd (start_there flow.setting.now.scene.now.dialect u flow.graph.now.forks 0 c.args.point u.lines flow.graph.now.starts line (c.requires.graph.1).starts here
    (sym (ap (λ (ts : List Target). slice_get ts c.args.point) c.as_slice.ensures) ∙ sym c.target_at.ensures ∙ c.in-None.is))
