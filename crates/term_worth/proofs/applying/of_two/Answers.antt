use Rattle.std.proofs.Common.{sym, subst, ◌∷◌, []}
use Rattle.term_worth.specs.Machine.{value_of, Answers}
use Rattle.formula.specs.Values.{applied}
use Rattle.term_worth.proofs.Applied.{numbers_answers}
use Rattle.term_worth.proofs.Bodies.{num_held}
use Rattle.term_worth.proofs.applying.of_two.Goals as goal

pub returns-in_default : goal.returns-in_default
returns-in_default c =
    let sheet = c.args.entries.now in
    let made = c.args.made.now in
    let n = c.in_default in
    subst (Answers sheet made (applied c.args.f (value_of sheet made c.args.a ∷ value_of sheet made c.args.b ∷ []))) (sym c.of_numbers.ensures)
    (numbers_answers sheet made (value_of sheet made c.args.a) (value_of sheet made c.args.b) _ _ (num_held sheet made c.args.a) (num_held sheet made c.args.b)
    c.args.f c.requires.not_and c.requires.not_or n.not-Implies n.not-Equal n.not-Less n.not-AtMost n.not-Element n.not-LogicalCells)
