use Rattle.std.proofs.Common.{◌≡◌, ◌++◌, ◌∙◌}
use Rattle.formula.specs.Atoms.{is_among}
use Rattle.call_hits.specs.Hits.{actual_hits, group_hits}
use Rattle.call_hits.proofs.Smashed.{hits_are}
use Rattle.call_hits.proofs.hits.call_hits.Goals as goal

pub returns : goal.returns
returns c =
    let u = c.args.caller.now.unit.now in
    let g = c.args.callee.now.unit.now in
    let actuals : c.push_actuals.new.all.items ≡ actual_hits (λ x. is_among x c.args.smashed.now) g.dummies c.args.bare.now =
    c.in-Ok.ensures ∙ (λ k. c.new-all.ensures.items k ++ actual_hits (λ x. is_among x c.args.smashed.now) (c.as_slice-dummies.ensures k) c.args.bare.now) in
    let whole : c.from_vec.result
    ≡ actual_hits (λ x. is_among x c.args.smashed.now) g.dummies c.args.bare.now ++ group_hits (λ x. is_among x c.args.smashed.now) g u.blocks =
    c.from_vec.ensures ∙ c.in-Ok-push_commons.ensures
    ∙ (λ k. actuals k ++ group_hits (λ x. is_among x c.args.smashed.now) g (c.as_slice.ensures k)) in
    hits_are u g c.args.smashed.now c.args.bare.now c.from_vec.result whole
