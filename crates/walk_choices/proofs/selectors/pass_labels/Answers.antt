use Rattle.std.proofs.Common.{[], ◌∷◌, ◌++◌, length, None, sym, ◌∙◌}
use Rattle.std.proofs.lemmas.Option.{none-some, same_Some}
use Rattle.std.proofs.lemmas.Result.{on_ok_weaker}
use Rattle.formula.specs.Pool.{tree_of}
use Rattle.fort_model.specs.Graphs.{points_of_labels}
use Rattle.walk_choices.proofs.Passing.{behind_there, on_there, passes}
use Rattle.walk_choices.proofs.selectors.pass_labels.Goals as goal

pub returns-in_default-clause-did : goal.returns-in_default-clause-did
returns-in_default-clause-did c =
    let u = c.args.at.now.flow.now.setting.now.book.now.unit.now in
    let labels = c.args.labels.now in
    let on = c.requires.target.0 in
    absurd (none-some on (sym c.in_default.is ∙ c.turn.ensures None (points_of_labels u labels ++ on ∷ []) c.requires.target.1 ∙ on_there u labels on))

pub behind-requires-clause-target : goal.behind-requires-clause-target
behind-requires-clause-target c =
    let at = c.args.at.now in
    let u = at.flow.now.setting.now.book.now.unit.now in
    let labels = c.args.labels.now in
    let on = c.requires.target.0 in
    let same = same_Some c.in-Some.target on (sym c.in-Some.is ∙ c.turn.ensures None (points_of_labels u labels ++ on ∷ []) c.requires.target.1 ∙ on_there u labels on) in
    behind_there at.flow.now c.to.result.flow.now at.point c.to.result.point on c.to.result.target c.to.ensures.flow c.to.ensures.point (c.to.ensures.target ∙ same) c.requires.target.2

pub returns-clause-did : goal.returns-clause-did
returns-clause-did c =
    let at = c.args.at.now in
    let to = c.to.result in
    let w0 = c.args.walk.now in
    let w1 = c.take_no_label.new.walk in
    on_ok_weaker c.behind.result
    (λ h. passes at.flow.now to.flow.now at.card to.card at.point to.point (length c.args.labels.now) (tree_of w0.pool c.args.number) c.args.choices.now w0 w1 c.behind.new.walk c.to.ensures.flow c.to.ensures.card c.to.ensures.point
    c.take_no_label.ensures.on.grows c.in_ok-take_no_label.ensures.did h)
    c.behind.ensures.did
