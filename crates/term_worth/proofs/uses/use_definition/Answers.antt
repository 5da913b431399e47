use Rattle.std.proofs.Common.{ap, sym, ◌∙◌, arith}
use Rattle.term_worth.specs.Machine.{params_of}
use Rattle.term_worth.proofs.Bodies.{used_none, used_some}
use Rattle.term_worth.proofs.uses.use_definition.Goals as goal

pub returns-in_ok-replace_newest-in-None-clause-ok : goal.returns-in_ok-replace_newest-in-None-clause-ok
returns-in_ok-replace_newest-in-None-clause-ok c = λ pool sheet bodies whole.
    used_none pool c.args.definitions.now sheet c.args.machine.now c.replace_newest.new.machine c.args.k c.args.count (omega (arith, c.if-machine-eq0.false)) whole
    c.in-None.ensures c.in_ok-replace_newest-in-None.ensures

pub returns-in_ok-enter-in-Some-clause-ok : goal.returns-in_ok-enter-in-Some-clause-ok
returns-in_ok-enter-in-Some-clause-ok c = λ pool sheet bodies whole.
    let d = c.in-Some.definition.now in
    used_some pool c.args.definitions.now sheet c.args.machine.now c.enter.new.machine c.args.k c.args.count (omega (arith, c.if-machine-eq0.false)) whole
    d c.in_ok-params-in-Some.params c.in-Some.ensures
    (c.in_ok-params-in-Some.ensures c.args.definitions.now (ap params_of c.in-Some.ensures ∙ sym c.as_slice.ensures) ∙ c.as_slice.ensures) bodies c.in_ok-enter-in-Some.ensures
