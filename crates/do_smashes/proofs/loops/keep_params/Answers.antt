use Rattle.std.proofs.lemmas.Result.{on_ok_weaker}
use Rattle.fort_model.specs.Ranges.{param_names, step_names}
use Rattle.do_smashes.proofs.Keeping.{keeps_three}
use Rattle.do_smashes.proofs.loops.keep_params.Goals as goal

pub returns : goal.returns
returns c =
    on_ok_weaker c.keep_step.result
    (keeps_three c.args.guards.now c.keep_param.new.self c.keep_param-2.new.self c.keep_step.new.self
    (param_names c.args.named.now.first.now) (param_names c.args.named.now.last.now) (step_names c.args.named.now.step.now) c.args.end c.in-Ok.ensures c.in-Ok-keep_param.ensures)
    c.keep_step.ensures
