use Rattle.std.proofs.Common.{◌++◌}
use Rattle.std.proofs.lemmas.Result.{on_ok_weaker}
use Rattle.fort_model.specs.Ranges.{param_names, step_names}
use Rattle.do_smashes.proofs.Keeping.{keeps_first}
use Rattle.do_smashes.proofs.loops.keep_names.Goals as goal

pub returns : goal.returns
returns c =
    on_ok_weaker c.keep_params.result
    (keeps_first c.args.guards.now c.keep.new.self c.keep_params.new.guards c.args.named.now.variable.now
    (param_names c.args.named.now.first.now ++ param_names c.args.named.now.last.now ++ step_names c.args.named.now.step.now) c.args.end c.in-Ok.ensures)
    c.keep_params.ensures
