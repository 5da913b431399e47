use Rattle.std.proofs.Common.{ap, ◌∙◌, sym, subst}
use Rattle.term_worth.specs.Machine.{value_of, held_at, entry_at, IsHeld}
use Rattle.term_worth.proofs.SymbolValues.{value_entry, entry_is_held}
use Rattle.term_worth.proofs.scopes.on_sheet.Goals as goal

pub returns-in-Some-clause-value : goal.returns-in-Some-clause-value
returns-in-Some-clause-value c = λ made.
    ap (value_of c.args.sheet.now made) (c.entry_held.ensures ∙ ap (λ es. held_at (entry_at es c.in-Some.place) c.in-Some.place) c.entries.ensures.entries)
    ∙ value_entry c.args.sheet.now made c.in-Some.place c.args.name _ c.in-Some.ensures.entry

pub returns-in-Some-clause-held : goal.returns-in-Some-clause-held
returns-in-Some-clause-held c = λ n. subst (IsHeld n) (sym c.entry_held.ensures) (entry_is_held n c.in-Some.place _)
