use Rattle.std.proofs.Common.{rules, ◌≡◌, ◌∙◌, ◌<◌, not, ap}
use Rattle.note_places.specs.Places.{has_other}
use Rattle.note_places.proofs.assert_places.AssertPlaces.is_alone_at.Goals as goal

pub returns : goal.returns
returns c =
    let line : c.args.line < 4294967296 = search rules in
    ap not (c.has_other.ensures ∙ ap (has_other c.args.card) (c.marks.ensures ∙ c.requires c.args.unit c.args.line line))
