use Rattle.std.proofs.Common.{rules, ◌++◌, ◌∷◌, [], map, subst, sym}
use Rattle.std.specs.List.{All}
use Rattle.formula.proofs.Grown.{Grows-trans}
use Rattle.event_text.specs.Conditions.{condition_tree, IsConditionIn}
use Rattle.event_reading.specs.Fronts.{AreConditions}
use Rattle.event_reading.proofs.Growing.{all_last, conditions_end, conditions_go, inside_grows}
use Rattle.event_reading.proofs.reading.conditions_at.Goals as goal

pub loop-one-smaller : goal.loop-one-smaller
loop-one-smaller c =
    (conditions_go c.loop-one.pool c.condition_at.new.pool c.args.headings.now c.loop-one.conditions.items c.loop-one.letters.items c.args.text.now c.loop-one.rest.now c.in-Ok.behind.now
    c.in-Ok.one.0 c.in-Ok.one.1 c.condition_at.ensures.grows c.loop-one.invariant.inside c.loop-one.invariant.lines c.in-Ok.ensures.value).less

pub loop-one-preserved : goal.loop-one-preserved
loop-one-preserved c =
    let pool = c.condition_at.new.pool in
    record {
      lines = subst (λ l. AreConditions c.args.headings.now c.args.text.now (map (condition_tree pool) c.push_marked.new.conditions.items) l c.in-Ok.behind.now) (sym c.in-Ok-push_marked.ensures.letters)
          (subst (λ l. AreConditions c.args.headings.now c.args.text.now (map (condition_tree pool) l) (c.loop-one.letters.items ++ c.in-Ok.one.1 ∷ []) c.in-Ok.behind.now) (sym c.in-Ok-push_marked.ensures.conditions)
          (conditions_go c.loop-one.pool pool c.args.headings.now c.loop-one.conditions.items c.loop-one.letters.items c.args.text.now c.loop-one.rest.now c.in-Ok.behind.now
          c.in-Ok.one.0 c.in-Ok.one.1 c.condition_at.ensures.grows c.loop-one.invariant.inside c.loop-one.invariant.lines c.in-Ok.ensures.value).lines);
      inside = subst (All (IsConditionIn pool)) (sym c.in-Ok-push_marked.ensures.conditions)
          (all_last (IsConditionIn pool) c.loop-one.conditions.items c.in-Ok.one.0 (inside_grows c.loop-one.pool pool c.loop-one.conditions.items c.condition_at.ensures.grows c.loop-one.invariant.inside) c.in-Ok.ensures.inside);
      grows = Grows-trans c.args.pool.now c.loop-one.pool pool c.loop-one.invariant.grows c.condition_at.ensures.grows;
    }

pub returns-in-Err-Spelling-clause-ok : goal.returns-in-Err-Spelling-clause-ok
returns-in-Err-Spelling-clause-ok c =
    conditions_end c.loop-one.pool c.condition_at.new.pool c.args.headings.now c.loop-one.conditions.items c.from_vec.result c.loop-one.letters.items c.from_vec-in-Err-Spelling.result c.args.text.now
    c.loop-one.rest.now c.condition_at.ensures.grows c.loop-one.invariant.inside c.loop-one.invariant.lines c.from_vec.ensures c.from_vec-in-Err-Spelling.ensures (search rules)
