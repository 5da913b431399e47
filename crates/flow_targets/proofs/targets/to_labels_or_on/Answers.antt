use Rattle.std.proofs.Common.{[], ◌∷◌, ◌++◌, None, length, sym, ap, ◌∙◌, subst}
use Rattle.fort_model.specs.Graphs.{IsForkTo, points_of_labels}
use Rattle.flow_tests.specs.Growing.{AreWithin}
use Rattle.flow_targets.proofs.Knowing.{points_within, push_within, behind_kept}
use Rattle.flow_targets.proofs.targets.to_labels_or_on.Goals as goal

pub to_any-requires-clause-within : goal.to_any-requires-clause-within
to_any-requires-clause-within c =
    let u = c.args.known.now.unit.now in
    let on = c.on_behind-on.result in
    subst (AreWithin (length u.lines) (length c.args.forks.now.items)) (sym (c.from_vec.ensures ∙ c.in-Ok.ensures.items ∙ ap (λ xs. xs ++ on ∷ []) c.in_ok-targets.ensures))
    (push_within (length u.lines) (length c.args.forks.now.items) (points_of_labels u c.args.labels.now) on (points_within u (length c.args.forks.now.items) c.args.labels.now) c.on_behind-on.ensures.one.within)

pub returns-clause-fork : goal.returns-clause-fork
returns-clause-fork c =
    let u = c.args.known.now.unit.now in
    let on = c.on_behind-on.result in (
      on,
      subst (λ ts. IsForkTo c.to_any.new.forks.items c.in-Ok-to_any.target None ts) (c.from_vec.ensures ∙ c.in-Ok.ensures.items ∙ ap (λ xs. xs ++ on ∷ []) c.in_ok-targets.ensures) c.in-Ok-to_any.ensures.fork,
      behind_kept c.args.forks.now.items c.to_any.new.forks.items c.in-Ok-to_any.ensures.grown.extends u c.args.at on c.on_behind-on.ensures.behind,
    )
