use Rattle.std.proofs.Common.{◌≡◌, ap, ◌∙◌, sym, subst}
use Rattle.term_worth.specs.Machine.{value_of, argument_of, params_in, IsHeld}
use Rattle.term_worth.proofs.SymbolValues.{value_in_use, held_in_use}
use Rattle.term_worth.proofs.scopes.value_in.Goals as goal

pub returns-in-Sheet-clause-held : goal.returns-in-Sheet-clause-held
returns-in-Sheet-clause-held c = λ n whole. c.on_sheet.ensures.held n

pub returns-in-Arguments-clause-value : goal.returns-in-Arguments-clause-value
returns-in-Arguments-clause-value c = λ made.
    let ds = c.args.definitions.now in
    let found : c.parameter.result ≡ argument_of (params_in ds c.in-Arguments.params) c.in-Arguments.args c.args.name =
    c.parameter.ensures ∙ (λ i. argument_of (params_in ds c.in-Arguments.params) (c.as_slice.ensures i) c.args.name) in
    ap (value_of c.args.sheet.now made) found ∙ value_in_use ds c.args.sheet.now made c.args.scope.now c.in-Arguments.params c.in-Arguments.args c.args.name c.in-Arguments.is

pub returns-in-Arguments-clause-held : goal.returns-in-Arguments-clause-held
returns-in-Arguments-clause-held c = λ n whole.
    let ds = c.args.definitions.now in
    let found : c.parameter.result ≡ argument_of (params_in ds c.in-Arguments.params) c.in-Arguments.args c.args.name =
    c.parameter.ensures ∙ (λ i. argument_of (params_in ds c.in-Arguments.params) (c.as_slice.ensures i) c.args.name) in
    subst (IsHeld n) (sym found) (held_in_use ds c.args.scope.now c.in-Arguments.params c.in-Arguments.args c.args.name n c.in-Arguments.is whole)
