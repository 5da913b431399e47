use Rattle.std.proofs.Common.{ap, sym, ◌∙◌}
use Rattle.fort_model.specs.Arguments.{sort_of_expr}
use Rattle.call_sites.proofs.Booked.{sort_paren, sort_pos, sort_neg, sort_not, sort_power, sort_bin, sort_rel, sort_and, sort_or}
use Rattle.call_sites.proofs.book.Book.+sort_of.Goals as goal

pub returns-in-Paren : goal.returns-in-Paren
returns-in-Paren t c =
    let u = c.args.self.now.unit.now in
    c.sort_of.ensures ∙ ap (sort_of_expr u) c.get.ensures ∙ sym (ap (sort_of_expr u) c.in-Paren.is ∙ sort_paren u c.in-Paren.a)

pub returns-in-Pos : goal.returns-in-Pos
returns-in-Pos t c = let u = c.args.self.now.unit.now in sym (ap (sort_of_expr u) c.in-Pos.is ∙ sort_pos u c.in-Pos.field-0)

pub returns-in-Neg : goal.returns-in-Neg
returns-in-Neg t c = let u = c.args.self.now.unit.now in sym (ap (sort_of_expr u) c.in-Neg.is ∙ sort_neg u c.in-Neg.field-0)

pub returns-in-Not : goal.returns-in-Not
returns-in-Not t c = let u = c.args.self.now.unit.now in sym (ap (sort_of_expr u) c.in-Not.is ∙ sort_not u c.in-Not.field-0)

pub returns-in-Power : goal.returns-in-Power
returns-in-Power t c = let u = c.args.self.now.unit.now in sym (ap (sort_of_expr u) c.in-Power.is ∙ sort_power u c.in-Power.field-0 c.in-Power.field-1)

pub returns-in-Bin : goal.returns-in-Bin
returns-in-Bin t c = let u = c.args.self.now.unit.now in sym (ap (sort_of_expr u) c.in-Bin.is ∙ sort_bin u c.in-Bin.field-0 c.in-Bin.field-1 c.in-Bin.field-2)

pub returns-in-Rel : goal.returns-in-Rel
returns-in-Rel t c = let u = c.args.self.now.unit.now in sym (ap (sort_of_expr u) c.in-Rel.is ∙ sort_rel u c.in-Rel.field-0 c.in-Rel.field-1 c.in-Rel.field-2)

pub returns-in-And : goal.returns-in-And
returns-in-And t c = let u = c.args.self.now.unit.now in sym (ap (sort_of_expr u) c.in-And.is ∙ sort_and u c.in-And.field-0 c.in-And.field-1)

pub returns-in-Or : goal.returns-in-Or
returns-in-Or t c = let u = c.args.self.now.unit.now in sym (ap (sort_of_expr u) c.in-Or.is ∙ sort_or u c.in-Or.field-0 c.in-Or.field-1)
