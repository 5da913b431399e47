use Rattle.std.proofs.Common.{suc, [], ◌∷◌, None, sym, ◌∙◌, subst}
use Rattle.std.proofs.lemmas.Option.{none-some, same_Some}
use Rattle.std.proofs.lemmas.Result.{on_ok_weaker}
use Rattle.fort_model.specs.Flow.{loops_around, next_point, target}
use Rattle.fort_model.specs.Graphs.{AreTests}
use Rattle.fort_model.specs.declared.graph.Target.{Target}
use Rattle.fort_model.specs.declared.graph.Target.TheVariants.{Point}
use Rattle.walk_flow.proofs.Stands.{loops_around_stand}
use Rattle.walk_state.specs.Moments.{moment}
use Rattle.walk_begins.proofs.Parts.{passes_over}
use Rattle.walk_begins.proofs.entering.pass_over.Goals as goal

pub returns-in_default-clause-did : goal.returns-in_default-clause-did
returns-in_default-clause-did c =
    let at = c.args.at.now in
    let over = c.requires.target.0 in
    absurd (none-some over (sym c.in_default.is ∙ c.turn.ensures None (Point (suc at.point) ∷ over ∷ []) c.requires.target.1))

pub returns-clause-did : goal.returns-clause-did
returns-clause-did c =
    let at = c.args.at.now in
    let s = at.flow.now.setting.now in
    let forks = at.flow.now.graph.now.forks in
    let u = s.book.now.unit.now in
    let last = target u.lines c.args.label in
    let over = c.requires.target.0 in
    let same = same_Some c.in-Some.target over (sym c.in-Some.is ∙ c.turn.ensures None (Point (suc at.point) ∷ over ∷ []) c.requires.target.1) in
    on_ok_weaker c.tests_from.result
    (λ h. passes_over s c.args.label at.point c.card_of_label.result c.args.choices.now c.args.walk.now (moment c.tests_from.new.walk) c.card_of_label.ensures
    (h (next_point u last) (loops_around u last at.point) (subst (λ (t : Target). AreTests forks (next_point u last) (loops_around u last at.point) t) (sym same) c.requires.target.2) (loops_around_stand u last at.point)))
    c.tests_from.ensures.did
