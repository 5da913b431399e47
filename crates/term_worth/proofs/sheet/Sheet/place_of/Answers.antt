use Rattle.std.proofs.Common.{◌≡◌, ◌∙◌, ap, nat_eq, subst, Some, IfSome, IfNone, slice_get}
use Rattle.std.specs.Cmp.Lexicographic.{pointwise}
use Rattle.std.specs.List.{list_any, position}
use Rattle.formula.specs.declared.value.Value.TheVariants.{Undefined}
use Rattle.term_worth.specs.Sheets.{is_set}
use Rattle.formula.specs.Worth.{assigned}
use Rattle.term_worth.proofs.Assigned.{is_set_keys, entry_found, none_found}
use Rattle.term_worth.proofs.sheet.Sheet.place_of.Goals as goal

pub returns-clause-entry : goal.returns-clause-entry
returns-clause-entry c =
    subst (λ es. IfSome c.get_index_of.result (λ k. slice_get es k ≡ Some (c.args.symbol, assigned es c.args.symbol))) c.self.view_is
    (entry_found c.self.inside.entries.items c.args.symbol c.get_index_of.result
    (c.get_index_of.ensures.index ∙ ap (position (pointwise nat_eq c.args.symbol)) c.self.invariant.0))

pub returns-clause-absent : goal.returns-clause-absent
returns-clause-absent c =
    subst (λ es. IfNone c.get_index_of.result (assigned es c.args.symbol ≡ Undefined)) c.self.view_is
    (none_found c.self.inside.entries.items c.args.symbol c.get_index_of.result
    (c.get_index_of.ensures.index ∙ ap (position (pointwise nat_eq c.args.symbol)) c.self.invariant.0))

pub returns-clause-found : goal.returns-clause-found
returns-clause-found c =
    c.get_index_of.ensures.found ∙ ap (list_any (pointwise nat_eq c.args.symbol)) c.self.invariant.0 ∙ is_set_keys c.self.inside.entries.items c.args.symbol
    ∙ ap (λ es. is_set es c.args.symbol) c.self.view_is
