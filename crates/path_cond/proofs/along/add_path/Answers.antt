use Rattle.std.proofs.Common.{◌++◌, [], ◌∙◌}
use Rattle.met_conditions.specs.Numbered.{conditions_at}
use Rattle.path_cond.proofs.Added.{adds_met}
use Rattle.path_cond.proofs.Few.{few_met}
use Rattle.path_cond.specs.Found.{drafts_of}
use Rattle.path_cut.specs.Cursor.{way_seen}
use Rattle.path_starts.specs.Starts.{unit_of}
use Rattle.walk_setting.specs.Settings.{seen_from}
use Rattle.way_walks.specs.Along.{along}
use Rattle.path_cond.proofs.along.add_path.Goals as goal

pub add_conditions-requires : goal.add_conditions-requires
add_conditions-requires c =
    let plan = c.args.plan.now in
    let way = way_seen c.args.path.now in
    let p = c.requires.ready.0 in
    let r = c.requires.ready.1 in
    let walk = c.in-Ok.front.walk in
    record {
      few =
          few_met walk.pool c.deref.result.now walk.met.items (along (seen_from plan.setting.now p) way.start way.steps way.end) c.deref.ensures.value
          (c.in-Ok.ensures.along p r (c.requires.start p r)) (c.requires.few p r);
    }

pub returns-clause-adds : goal.returns-clause-adds
returns-clause-adds c =
    let plan = c.args.plan.now in
    let way = way_seen c.args.path.now in
    let name = (unit_of plan).name in
    let before = c.args.walked in
    let walk = c.in-Ok.front.walk in
    adds_met plan.setting.now.scene.now (drafts_of before) (record { alloc = before.alloc; pool = walk.pool; conditions = c.add_conditions.new.conditions }) name c.args.number
    walk.met.items (λ p. along (seen_from plan.setting.now p) way.start way.steps way.end) c.requires.drafts c.in-Ok.ensures.grows c.in-Ok.ensures.front.well.met
    (c.in-Ok-add_conditions.ensures ∙ (λ i. before.conditions.items ++ conditions_at name c.args.number 0 [] (c.deref.ensures.value i)))
    (λ p r. c.in-Ok.ensures.along p r (c.requires.start p r))
