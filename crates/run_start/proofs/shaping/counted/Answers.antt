use Rattle.std.proofs.Common.{sym, ap, ◌∙◌, rules}
use Rattle.run_start.proofs.Begun.{begun_first}
use Rattle.run_start.proofs.Wanted.{greatest_many, sum_many, wanted_few, wanted_many}
use Rattle.run_start.specs.Counting.{is_small}
use Rattle.run_start.proofs.shaping.counted.Goals as goal

pub returns-in_default : goal.returns-in_default
returns-in_default c =
    sum_many c.args.deck.now c.args.case.now.unit c.args.case.now.entries.now.unit.now c.args.case.now.entries.now.given.now c.args.sizes.now c.requires.unit c.requires.sizes (sym c.in_default.ensures)

pub returns-in_default-greatest : goal.returns-in_default-greatest
returns-in_default-greatest c =
    greatest_many c.args.deck.now c.args.case.now.unit c.args.case.now.entries.now.unit.now c.args.case.now.entries.now.given.now c.args.sizes.now c.requires.unit c.requires.sizes
    c.in-Some.sum (sym c.in-Some.ensures) (sym c.in_default-greatest.ensures)

pub returns-then-not-is_small : goal.returns-then-not-is_small
returns-then-not-is_small c =
    wanted_many c.args.deck.now c.args.case.now.unit c.args.case.now.entries.now.unit.now c.args.case.now.entries.now.given.now c.args.sizes.now c.requires.unit c.requires.sizes
    c.in-Some.sum (sym c.in-Some.ensures) c.in-Some-greatest.most (sym c.in-Some-greatest.ensures) (ap is_small (sym c.wanted.ensures) ∙ (sym c.is_small.ensures ∙ (search rules)))

pub returns : goal.returns
returns c = (
  wanted_few c.args.deck.now c.args.case.now.unit c.args.case.now.entries.now.unit.now c.args.case.now.entries.now.given.now c.args.sizes.now c.requires.unit c.requires.sizes
      c.in-Some.sum (sym c.in-Some.ensures) c.in-Some-greatest.most (sym c.in-Some-greatest.ensures) (ap is_small (sym c.wanted.ensures) ∙ (sym c.is_small.ensures ∙ (search rules))),
  begun_first c.args.deck.now c.args.setting.now c.args.case.now.unit c.args.case.now.entries.now.unit.now c.args.case.now.entries.now.given.now c.args.sizes.now c.in-Some.sum c.in-Some-greatest.most c.in-Ok.state
      c.requires.unit c.requires.sizes (sym c.in-Some.ensures) (sym c.in-Some-greatest.ensures) c.in-Ok.ensures.small c.in-Ok.ensures,
)
