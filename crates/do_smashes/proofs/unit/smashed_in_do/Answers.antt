use Rattle.std.proofs.Common.{◌∙◌}
use Rattle.fort_syntax.specs.declared.rule.Rule.TheVariants.{DoSmashed}
use Rattle.do_smashes.proofs.Passing.{by_table}
use Rattle.do_smashes.proofs.WithoutDo.{kept_without}
use Rattle.do_smashes.proofs.unit.smashed_in_do.Goals as goal

pub returns : goal.returns
returns c = λ p e f. c.in-Ok.ensures ∙ by_table DoSmashed c.args.caller.now.unit.now c.args.deck.now.units.now c.args.rows.now p e f

pub returns-then-not-has_do : goal.returns-then-not-has_do
returns-then-not-has_do c = λ p e f.
    kept_without DoSmashed p c.args.caller.now.unit.now c.as_slice-lines.result.now c.has_do.result c.as_slice-lines.ensures c.has_do.ensures c.if-not-has_do.true
