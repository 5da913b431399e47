use Rattle.std.proofs.Common.{rules, ◌≡◌, ◌∙◌, ◌<◌, cond, Some, ap}
use Rattle.std.specs.Prelude.{nat_eq, Option}
use Rattle.note_places.specs.Places.{Marks, more_marks, told, key}
use Rattle.note_places.proofs.Marks.{put_at}
use Rattle.note_places.proofs.assert_places.AssertPlaces.add_at.Goals as goal

pub returns : goal.returns
returns c =
    let line : c.args.line < 4294967296 = search rules in
    λ u l low.
    put_at c.args.self.now c.put.new.self c.args.unit c.args.line c.args.card u l c.more_marks-marks.result line low
    (c.more_marks-marks.ensures ∙ ap (λ (k : Option Marks). more_marks k c.args.card) c.marks-known.ensures)
    (λ k. c.in_ok-put.ensures k ∙ ap (λ p. cond (nat_eq p k) (Some c.more_marks-marks.result) (told c.args.self.now k)) c.key-place.ensures)
