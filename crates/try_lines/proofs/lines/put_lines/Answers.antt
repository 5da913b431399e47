use Rattle.std.proofs.Common.{◌<◌, ◌≤◌, map, length, refl, arith, ◌∙◌}
use Rattle.event_text.specs.Conditions.{condition_tree}
use Rattle.formula.proofs.Grown.{Grows-refl, Grows-trans}
use Rattle.formula.specs.Worth.{functions_of}
use Rattle.try_lines.specs.Tries.{named, tried}
use Rattle.try_lines.proofs.Growth.{added_grows, conditions_in, functions_same, trees_same}
use Rattle.try_lines.proofs.LinesPut.{last_line, next_line}
use Rattle.try_lines.proofs.lines.put_lines.Goals as goal

pub loop-done-init : goal.loop-done-init
loop-done-init c = record { grows = Grows-refl c.args.pool.now; lines = refl }

pub tried-requires-clause-conditions : goal.tried-requires-clause-conditions
tried-requires-clause-conditions c = conditions_in c.args.pool.now c.loop-done.pool c.loop-done.invariant.grows c.args.desk.now.conditions.now c.requires.conditions

pub tried-requires-clause-added : goal.tried-requires-clause-added
tried-requires-clause-added c = added_grows c.args.pool.now c.loop-done.pool c.loop-done.invariant.grows c.args.desk.now.definitions.now c.requires.added

pub loop-done-preserved : goal.loop-done-preserved
loop-done-preserved c =
    let ds = c.args.desk.now.definitions.now in
    let conditions = c.args.desk.now.conditions.now in
    let old = c.args.pool.now in
    let now = c.loop-done.pool in
    let g = c.loop-done.invariant.grows in
    let card = c.index-tries-done.result in
    let less : c.loop-done.done < length c.args.tries.now = omega arith in
    record {
      grows = Grows-trans old now c.tried.new.pool g c.in-Ok.ensures.grows;
      lines = next_line (functions_of old ds) (map (condition_tree old) conditions) c.args.tries.now c.loop-done.text.items c.put_line.new.text.items _ c.loop-done.done card c.in-Ok.verdict less c.index-tries-done.is
          (c.in-Ok.ensures.tried ∙ (λ i. tried (functions_same old now g ds c.requires.added i) (named card.lemma (trees_same old now g conditions c.requires.conditions i)) card.sheet))
          c.in-Ok-put_line.ensures c.loop-done.invariant.lines;
    }

pub returns : goal.returns
returns c =
    let past : length c.args.tries.now ≤ c.loop-done.done = omega arith in
    last_line (functions_of c.args.pool.now c.args.desk.now.definitions.now) (map (condition_tree c.args.pool.now) c.args.desk.now.conditions.now) c.args.tries.now c.loop-done.text.items _ c.loop-done.done past c.loop-done.invariant.lines
