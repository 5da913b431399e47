use Rattle.std.proofs.Common.{◌≡◌, ◌<◌, length, Some, slice_get, sym, ap, ◌∙◌, subst}
use Rattle.std.proofs.lemmas.Option.{slice_get-get_or}
use Rattle.fort_syntax.specs.declared.unit.Line.{Line}
use Rattle.flow_cycles.proofs.Firsts.{uncut_tells}
use Rattle.flow_cycles.proofs.graphs.uncut.Goals as goal

pub returns : goal.returns
returns c =
    let u = c.args.unit.now in
    let line = c.index-as_slice-point.result in
    let inside : c.args.point < length c.as_slice.result.now = subst (λ xs. c.args.point < length xs) (sym c.as_slice.ensures) c.requires.inside in
    let here : slice_get u.lines c.args.point ≡ Some line =
    ap (λ xs. slice_get xs c.args.point) (sym c.as_slice.ensures) ∙ slice_get-get_or c.as_slice.result.now c.args.point c.index-as_slice-point.result inside
    ∙ ap (λ (x : Line). Some x) (sym c.index-as_slice-point.is) in
    uncut_tells c.args.dialect u c.requires.cards c.args.cuts.now c.args.point line here c.requires.first
