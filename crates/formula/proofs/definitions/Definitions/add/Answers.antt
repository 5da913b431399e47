use Rattle.std.proofs.Common.{◌≡◌, ◌∙◌, ap, sym, None}
use Rattle.formula.specs.Adding.{adding_fault}
use Rattle.formula.specs.Headings.{headings_of}
use Rattle.formula.specs.Worth.{body_of}
use Rattle.formula.proofs.Added.{added_on, new_name}
use Rattle.formula.proofs.definitions.Definitions.add.Goals as goal

pub put-requires : goal.put-requires
put-requires c =
    let earlier = headings_of c.args.self.now in
    let body = body_of c.args.pool.now c.args.body in
    let none : adding_fault earlier c.args.name c.args.params body ≡ None =
    ap (λ params. adding_fault earlier c.args.name params body) (sym c.as_slice.ensures) ∙ sym c.in-Ok-None.ensures ∙ c.in-Ok-None.field-0-is in
    new_name earlier c.args.name c.args.params body none

pub returns-in-Ok-None-clause-added : goal.returns-in-Ok-None-clause-added
returns-in-Ok-None-clause-added c =
    let earlier = headings_of c.args.self.now in
    let body = body_of c.args.pool.now c.args.body in
    let none : adding_fault earlier c.args.name c.args.params body ≡ None =
    ap (λ params. adding_fault earlier c.args.name params body) (sym c.as_slice.ensures) ∙ sym c.in-Ok-None.ensures ∙ c.in-Ok-None.field-0-is in
    added_on c.put.result c.args.pool.now c.args.self.now c.put.new.self (record { name = c.args.name; params = c.args.params; body = c.args.body }) c.put.ensures.ok c.requires none
